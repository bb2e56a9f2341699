-- `past_version` meets its contract. Assumes nothing.
use native.Mathlib.Omega.{arith}
use Rattle.read_field.proofs.Fields.{count_third}
use Rattle.read_pdu.proofs.Pdus.{passed_there, passed_not, version_none, version_short, version_first, version_room, version_second, version_good}
use Rattle.read_pdu.proofs.past_version.Goals.{then-n-eq1-via-then-n-eq1, then-n-eq1-via-else-n-eq1+then-m-at-ne7, then-n-eq1-via-else-n-eq1+else-m-at-ne7+then-m-at}
use Rattle.read_pdu.proofs.past_version.Goals as goal

pub returns-in_default : goal.returns-in_default
returns-in_default c = let i = c.in_default.ensures in (search (passed_there, version_none, c.bad_field.ensures.0), c.bad_field.ensures.1)

pub returns-then-n-eq1 : goal.returns-then-n-eq1
returns-then-n-eq1 c =
    let (i, t) = c.in-Some.ensures in elim c.then-n-eq1.branch [
      | then-n-eq1-via-then-n-eq1 w ↦ (search (passed_there, version_short), omega arith)
      | then-n-eq1-via-else-n-eq1+then-m-at-ne7 w ↦ (search (passed_there, version_first), omega arith)
      | then-n-eq1-via-else-n-eq1+else-m-at-ne7+then-m-at w ↦ (search (passed_there, version_second), omega arith)
    ]

pub bounds-m-at : goal.bounds-m-at
bounds-m-at c = let (i, t) = c.in-Some.ensures in search count_third

pub bounds-m-at-else-m-at-ne7 : goal.bounds-m-at-else-m-at-ne7
bounds-m-at-else-m-at-ne7 c = let (i, t) = c.in-Some.ensures in search version_room

pub returns-then-stands : goal.returns-then-stands
returns-then-stands c = let (i, t) = c.in-Some.ensures in (search (passed_there, version_good), omega arith)

pub returns : goal.returns
returns c = (search passed_not, omega arith)

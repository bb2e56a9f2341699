-- `small_at` meets its contract. Assumes nothing.
use native.Mathlib.Omega.{arith}
use Rattle.read_field.proofs.Fields.{small_none, small_good, small_bad, count_third}
use Rattle.read_field.proofs.small_at.Goals as goal

pub returns-in_default : goal.returns-in_default
returns-in_default c = let i = c.in_default.ensures in (search (small_none, c.bad_field.ensures.0), c.bad_field.ensures.1)

pub bounds-m-at : goal.bounds-m-at
bounds-m-at c = let (i, t) = c.in-Some.ensures in search count_third

pub returns-then-m-at : goal.returns-then-m-at
returns-then-m-at c = let (i, t) = c.in-Some.ensures in (search small_good, omega arith)

pub returns : goal.returns
returns c = let (i, t) = c.in-Some.ensures in (search small_bad, omega arith)

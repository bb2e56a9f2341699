-- `read_octets` meets its contract. Assumes nothing.
use mathlib.Core.Path.{◌≡◌, ap}
use lib.ListN.{length}
use native.Mathlib.Omega.{arith}
use Rattle.read.proofs.Outcomes.{left_blamed, refused, accepted}
use Rattle.read.proofs.read_octets.Goals as goal

pub refusal_of-requires : goal.refusal_of-requires
refusal_of-requires c =
    let long : length c.args.out.now ≡ 428 = ap length c.requires in
    let read = c.in-Err.ensures in
    record { in_bounds = (omega (arith, long), read.answers.1); answers = (read.answers.0, left_blamed _ _ read.answers.0 _ _ read.left) }

pub returns-in-Err : goal.returns-in-Err
returns-in-Err c = let both = refused _ _ c.in-Err.ensures.answers.0 c.in-Err.ensures.answers.1 _ c.refusal_of.ensures _ in record { value = both.0; held = both.1 }

pub returns : goal.returns
returns c =
    let read = c.in_default.ensures in
    let both = accepted _ _ read.answers.0 read.answers.1 _ _ c.requires read.left in record { value = both.0; held = both.1 }

-- `left_at` meets its contract. Assumes nothing.
use native.Mathlib.Omega.{arith}
use Rattle.read_place.proofs.Fronts.{behind_near, wrong_is_far, leave_ended, leave_wrong}
use Rattle.read_place.proofs.left_at.Goals as goal

pub returns-then-ended : goal.returns-then-ended
returns-then-ended c = (search leave_ended, omega (arith, c.behind.ensures, behind_near c.args.at c.args.stop (omega arith)))

pub returns : goal.returns
returns c = (search leave_wrong, omega (arith, c.wrong_at.ensures, wrong_is_far c.args.m.now c.args.at c.args.stop 851968 (omega arith)))

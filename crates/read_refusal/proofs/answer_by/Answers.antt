-- `answer_by` meets its contract. Assumes nothing.
use native.Mathlib.Omega.{arith}
use mathlib.Core.Path.{◌≡◌}
use lib.ListN.{get_or}
use Rattle.read_refusal.proofs.Refusals.{by_portion, by_dialogue, by_component}
use Rattle.read_refusal.proofs.answer_by.Goals as goal

pub returns-in-0 : goal.returns-in-0
returns-in-0 c = search by_portion

pub returns-in-1 : goal.returns-in-1
returns-in-1 c = let other : get_or c.args.out.now 0 0 ≡ 0 → ⊥ = omega arith in search by_dialogue

pub overflow_cast-result : goal.overflow_cast-result
overflow_cast-result c = omega (arith, c.shared_slice_known-1.given 1)

pub returns-in_default : goal.returns-in_default
returns-in_default c = search by_component

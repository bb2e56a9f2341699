-- `components_at` meets its contract. Assumes nothing.
use Rattle.read_place.specs.declared.FaultAt.{FaultAt}
use mathlib.Core.Path.{ap}
use native.Mathlib.Omega.{arith}
use borrow.Author.Rules.{rules}
use Rattle.read_place.proofs.Optional.{entry_inside, entry_from, entry_to}
use Rattle.read_message.proofs.Portions.{components_fault, components_done}
use Rattle.read_message.proofs.components_at.Goals as goal

pub returns-in-Err : goal.returns-in-Err
returns-in-Err c = let both = components_fault _ _ _ _ (omega arith) (omega arith) c.in-Err.ensures.0 _ _ c.in-Err.ensures.1 (omega arith) _ (ap (λ (f : FaultAt). f.0) c.portion_fault.ensures.value) c.portion_fault.ensures.out_after in record { reads = (both.0, omega (arith, (ap (λ (f : FaultAt). f.0) c.portion_fault.ensures.value), c.in-Err.ensures.1)); leaves = both.1 }

pub returns : goal.returns
returns c = let both = components_done _ _ _ _ (omega arith) (omega arith) c.in-Ok.ensures.0 _ _ (omega arith) c.in-Ok.ensures.1 _ c.start_of.ensures _ (c.rows_at.ensures.finishes.0, c.rows_at.ensures.leaves_all) in record { reads = (both.0, c.rows_at.ensures.finishes.1); leaves = both.1 }

pub start_of-requires : goal.start_of-requires
start_of-requires c = search (rules, entry_inside, c.in-Ok.ensures.0, c.in-Ok.ensures.1)

pub rows_at-requires : goal.rows_at-requires
rows_at-requires c = search (rules, entry_from, entry_to, c.in-Ok.ensures.0, c.in-Ok.ensures.1)

-- `transaction_id_into` meets its contract. Assumes nothing.
use Rattle.read_place.specs.declared.FaultAt.{FaultAt}
use mathlib.Core.Path.{ap}
use native.Mathlib.Omega.{arith}
use lib.ListN.{length-set}
use borrow.Author.Rules.{rules}
use Rattle.read_message.proofs.Fields.{id_fault, id_laid, id_room}
use Rattle.read_message.proofs.transaction_id_into.Goals as goal

pub returns-in-Err : goal.returns-in-Err
returns-in-Err c = let both = id_fault _ _ _ _ _ c.in-Err.ensures.0 c.in-Err.ensures.1 _ _ _ _ (omega arith) _ (ap (λ (f : FaultAt). f.0) c.portion_fault.ensures.value) c.portion_fault.ensures.out_after in record { reads = (both.0, omega (arith, (ap (λ (f : FaultAt). f.0) c.portion_fault.ensures.value), c.in-Err.ensures.1)); leaves = both.1 }

pub overflow_sub-r : goal.overflow_sub-r
overflow_sub-r c = omega (arith, id_room _ c.args.m.now _ _ _ c.in-Ok.ensures.0 (search rules) c.in-Ok.ensures.1)

pub overflow_sub-r-2 : goal.overflow_sub-r-2
overflow_sub-r-2 c = omega (arith, id_room _ c.args.m.now _ _ _ c.in-Ok.ensures.0 (search rules) c.in-Ok.ensures.1)

pub put_text-requires : goal.put_text-requires
put_text-requires c = simp length-set (omega arith)

pub returns : goal.returns
returns c = let both = id_laid _ _ _ _ _ c.in-Ok.ensures.0 (search rules) c.in-Ok.ensures.1 (omega arith) _ _ _ _ c.put_text.ensures in record { reads = (both.0, c.in-Ok.ensures.1); leaves = both.1 }

-- `parameter_at` meets its contract. Assumes nothing.
use Rattle.read_place.specs.Places.{Finishes}
use Rattle.read_part.specs.Parts.{parameter_body}
use Rattle.read_place.proofs.Fronts.{behind_near}
use Rattle.std.proofs.lemmas.Result.{err_from_is_err_and}
use borrow.Author.Rules.{rules}
use native.Mathlib.Omega.{arith}
use Prim.Native.Nat.{◌+◌}
use mathlib.Core.Path.{◌∙◌}
use lib.ListN.{length-set}
use Rattle.read_place.proofs.Walks.{walked_near}
use Rattle.read_part.proofs.FieldsLeft.{fault_all, walk_from, parameter_missing, no_parameter, no_parameter_left, parameter_cut, parameter_far, parameter_near, parameter_left, stored}
use Rattle.read_part.proofs.parameter_at.Goals as goal

pub returns-then-must : goal.returns-then-must
returns-then-must c = let both = fault_all _ _ _ _ c.args.stop (720896 + c.args.at) _ _ (search parameter_missing) (omega arith) in record { finishes = (both.0, omega arith); leaves_all = both.1 }

pub returns-then-unfinished : goal.returns-then-unfinished
returns-then-unfinished c = let both = fault_all _ _ _ _ c.args.stop (131072 + c.args.at) _ _ (search parameter_cut) (omega arith) in record { finishes = (both.0, omega arith); leaves_all = both.1 }

pub returns-in_err-r-clause-finishes : goal.returns-in_err-r-clause-finishes
returns-in_err-r-clause-finishes c = let p = err_from_is_err_and c.from_residual.result c.from_residual.ensures.1 in rw (p.1, p.2) (search (parameter_far, c.in_err-r.ensures.0, c.in_err-r.ensures.1), c.in_err-r.ensures.1)

pub returns-in_err-r-clause-leaves_all : goal.returns-in_err-r-clause-leaves_all
returns-in_err-r-clause-leaves_all c =
    let f : Finishes (parameter_body c.args.must c.args.left) c.args.m.now c.args.at c.args.stop c.in_err-r.field-0.0.0 = search (parameter_far, c.in_err-r.ensures.0, c.in_err-r.ensures.1) in
    (fault_all _ _ _ _ _ _ _ _ f c.in_err-r.ensures.1).1

pub returns-else-must-clause-finishes : goal.returns-else-must-clause-finishes
returns-else-must-clause-finishes c = (search (no_parameter, no_parameter_left), omega (arith, c.behind.ensures, behind_near c.args.at c.args.stop (omega arith)))

pub returns-else-must-clause-leaves_all : goal.returns-else-must-clause-leaves_all
returns-else-must-clause-leaves_all c = search (no_parameter, no_parameter_left)

pub overflow_sub-r : goal.overflow_sub-r
overflow_sub-r c = search (walk_from, c.in_ok-r.ensures.0, c.in_ok-r.ensures.1)

pub put_text-requires : goal.put_text-requires
put_text-requires c = simp length-set (omega arith)

pub leave-requires : goal.leave-requires
leave-requires c = search (rules, walked_near, c.in_ok-r.ensures.0, c.in_ok-r.ensures.1)

pub returns-clause-finishes : goal.returns-clause-finishes
returns-clause-finishes c = (search (rules, parameter_near, parameter_left, c.in_ok-r.ensures.0, c.in_ok-r.ensures.1, c.leave.ensures.0), c.leave.ensures.1)

pub returns-clause-leaves_all : goal.returns-clause-leaves_all
returns-clause-leaves_all c = search (rules, parameter_near, parameter_left, c.in_ok-r.ensures.0, c.in_ok-r.ensures.1, c.leave.ensures.0)

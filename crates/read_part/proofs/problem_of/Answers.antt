-- `problem_of` meets its contract. Assumes nothing.
use native.Mathlib.Omega.{arith}
use Rattle.std.proofs.lemmas.Result.{err_from_is_err_and}
use borrow.Author.Rules.{rules}
use Rattle.read_part.proofs.FieldsLeft.{fault_one, small_inside, small_left}
use Rattle.read_part.proofs.problem_of.Goals as goal

pub returns-clause-reads : goal.returns-clause-reads
returns-clause-reads c = (c.in_ok-r.ensures.0, c.in_ok-r.ensures.1)

pub returns-clause-leaves : goal.returns-clause-leaves
returns-clause-leaves c = small_left _ _ _ _ (search rules) _ _ c.requires.1 c.in_ok-r.ensures.0 c.in_ok-r.ensures.1 _

pub returns-in_err-r : goal.returns-in_err-r
returns-in_err-r c = let p = err_from_is_err_and c.from_residual.result c.from_residual.ensures.1 in rw (p.1, p.2) (let both = fault_one _ _ _ _ _ _ _ _ c.in_err-r.ensures.0 c.in_err-r.ensures.1 in record { reads = (both.0, c.in_err-r.ensures.1); leaves = both.1 })

pub bounds-m-at : goal.bounds-m-at
bounds-m-at c = small_inside _ _ _ _ (search rules) _ _ c.requires.1 c.in_ok-r.ensures.0 c.in_ok-r.ensures.1

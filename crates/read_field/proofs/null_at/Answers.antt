-- `null_at` meets its contract. Assumes nothing.
use native.Mathlib.Omega.{arith}
use Rattle.std.proofs.lemmas.Result.{err_from_is_err_and}
use Rattle.read_field.proofs.Choices.{null_far, null_good, null_bad}
use Rattle.read_field.proofs.null_at.Goals as goal

pub returns-in_err-r : goal.returns-in_err-r
returns-in_err-r c = let p = err_from_is_err_and c.from_residual.result c.from_residual.ensures.1 in rw (p.1, p.2) (search (null_far, c.in_err-r.ensures.0, c.in_err-r.ensures.1), c.in_err-r.ensures.1)

pub returns-then-r-at : goal.returns-then-r-at
returns-then-r-at c = (search (null_good, c.in_ok-r.ensures.0, c.in_ok-r.ensures.1), c.in_ok-r.ensures.1)

pub returns : goal.returns
returns c = (search (null_bad, c.in_ok-r.ensures.0, c.in_ok-r.ensures.1), omega arith)

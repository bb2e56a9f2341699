-- No parameter, and a problem. Assumes nothing.
use borrow.Author.Tests.{eq-eqb, ne_eqb}
use Rattle.write_check_rows.proofs.reject_judged.Goals as goal

pub returns-then-part-ne0 : goal.returns-then-part-ne0
returns-then-part-ne0 c = rw (ne_eqb _ _ c.if-part-ne0.true)

pub returns : goal.returns
returns c = rw (eq-eqb _ _ c.if-part-ne0.false) c.problem_judged.ensures

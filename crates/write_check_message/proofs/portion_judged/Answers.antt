-- `portion_judged` meets its contract. Assumes nothing.
use borrow.Author.Tests.{eq-eqb, ne_eqb}
use Rattle.write_check_message.proofs.portion_judged.Goals as goal

pub returns : goal.returns
returns c = rw (ne_eqb _ _ c.if-count-eq0.false) c.around.ensures

pub returns-then-count-eq0 : goal.returns-then-count-eq0
returns-then-count-eq0 c = rw (eq-eqb _ _ c.if-count-eq0.true)

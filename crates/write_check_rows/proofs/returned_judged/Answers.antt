-- Neither, or both. Assumes nothing.
use native.Mathlib.Omega.{arith}
use Rattle.std.proofs.lemmas.Bool.Decides.{nat_tests}
use mathlib.Core.Bool.{and-true}
use borrow.Author.Tests.{ne_eqb}
use Rattle.element.specs.Form.{shortest}
use Rattle.layout.specs.Layout.{is_returned, returned_in}
use Rattle.write_check_row.specs.Judged.{rank_of, judged}
use Rattle.tcap.specs.Verdict.{returned_ranges, returned_lies, returned_shaped}
use Rattle.write_check_row.specs.Forms.{returned_form}
use Rattle.write_check_row.proofs.Joining.{then_size, around_size, exact_size}
use Rattle.write_check_row.proofs.Listed.{listed_then, listed_wrap}
use Rattle.write_check_rows.proofs.returned_judged.Goals as goal

pub returns-in-0-eq0 : goal.returns-in-0-eq0
unfolding rank_of judged is_returned returned_in returned_ranges returned_lies returned_shaped returned_form shortest
returns-in-0-eq0 c = rw (c.in-0-eq0.is-0, c.in-0-eq0.is-1)

pub returns-in-1-to-255-eq1 : goal.returns-in-1-to-255-eq1
unfolding is_returned returned_in returned_ranges returned_lies returned_shaped returned_form
returns-in-1-to-255-eq1 c = rw (ne_eqb _ _ c.in-1-to-255-eq1.is-0.1, c.in-1-to-255-eq1.is-1, and-true, c.around.ensures, c.both.ensures, c.code_judged-code.ensures, c.element_judged.ensures, c.span_at-parameter.ensures, listed_then, listed_wrap, around_size, then_size, exact_size) (simp and-true)

pub returns-in_default : goal.returns-in_default
unfolding is_returned
returns-in_default c = rw (c.in_default.is-0, ne_eqb _ _ c.in_default.is-1.1)

pub returns-in_default-2 : goal.returns-in_default-2
unfolding is_returned
returns-in_default-2 c = grind (arith, nat_tests)

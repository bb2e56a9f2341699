-- By the flag. Assumes nothing.
use borrow.Author.Tests.{eq-eqb, ne_eqb}
use Rattle.base.proofs.Backs.{back_none}
use Rattle.element.specs.Form.{shortest}
use Rattle.tcap.specs.Verdict.{option_lies}
use Rattle.write_check_row.specs.Forms.{parameter_form}
use Rattle.layout.specs.Layout.{optional_in}
use Rattle.write_row.proofs.back_parameter.Goals as goal

pub returns-then-part-eq0 : goal.returns-then-part-eq0
unfolding parameter_form optional_in shortest
returns-then-part-eq0 c = rw (eq-eqb _ _ c.if-part-eq0.true) (back_none _ _ c.requires.room.within)

pub back_span-requires-clause-string_within : goal.back_span-requires-clause-string_within
unfolding option_lies parameter_form optional_in shortest
back_span-requires-clause-string_within c = rw c.span_at-string.ensures (rw (ne_eqb _ _ c.if-part-eq0.false) at c.requires.parameter_within)

pub back_span-requires-clause-room : goal.back_span-requires-clause-room
unfolding option_lies parameter_form optional_in shortest
back_span-requires-clause-room c = rw c.span_at-string.ensures (rw (ne_eqb _ _ c.if-part-eq0.false) at c.requires.room)

pub returns : goal.returns
unfolding parameter_form optional_in shortest
returns c = rw (ne_eqb _ _ c.if-part-eq0.false, ← c.span_at-string.ensures) c.back_span.ensures

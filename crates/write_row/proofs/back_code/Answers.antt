-- By the tag. Assumes nothing.
use borrow.Author.Tests.{eq-eqb, ne_eqb}
use mir.Syntax.{w32}
use mir.Facts.{to_z-of_z}
use Rattle.base.specs.Number.{top_of}
use Rattle.tcap.specs.Verdict.{code_lies}
use Rattle.write_check_row.specs.Forms.{code_form}
use Rattle.layout.specs.Layout.{span_at, code_in}
use Rattle.write_row.proofs.back_code.Goals as goal

pub back_integer-requires : goal.back_integer-requires
unfolding code_form code_in span_at top_of
back_integer-requires c = rw (to_z-of_z {w = w32} (record { sfits = c.signed-value.type_inv }), c.signed-value.ensures, c.number_at.ensures) (rw (eq-eqb _ _ c.if-part-eq2.true) at c.requires.room)

pub returns-then-part-eq2 : goal.returns-then-part-eq2
unfolding code_form code_in span_at top_of
returns-then-part-eq2 c = rw (eq-eqb _ _ c.if-part-eq2.true) (rw (to_z-of_z {w = w32} (record { sfits = c.signed-value.type_inv }), c.signed-value.ensures, c.number_at.ensures) at c.back_integer.ensures)

pub back_string-requires-clause-string_within : goal.back_string-requires-clause-string_within
unfolding code_lies code_form code_in
back_string-requires-clause-string_within c = rw c.span_at-string.ensures (rw (ne_eqb _ _ c.if-part-eq2.false) at c.requires.code_within)

pub back_string-requires-clause-room : goal.back_string-requires-clause-room
unfolding code_lies code_form code_in
back_string-requires-clause-room c = rw c.span_at-string.ensures (rw (ne_eqb _ _ c.if-part-eq2.false) at c.requires.room)

pub returns : goal.returns
unfolding code_form code_in
returns c = rw (ne_eqb _ _ c.if-part-eq2.false, ← c.span_at-string.ensures) c.back_string.ensures

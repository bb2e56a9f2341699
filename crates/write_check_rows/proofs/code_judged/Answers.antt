-- By the tag. Assumes nothing.
use mir.Syntax.{w32}
use mir.Facts.{to_z-of_z}
use Rattle.base.specs.Number.{top_of}
use Rattle.layout.specs.Layout.{span_at, code_in}
use Rattle.write_check_row.specs.Judged.{rank_of, judged, wrapped}
use Rattle.tcap.specs.Verdict.{code_ranges, code_lies, code_shaped}
use Rattle.write_check_row.specs.Forms.{code_form}
use Rattle.write_check_row.proofs.Joining.{wrap, leaf_size}
use Rattle.write_check_rows.proofs.code_judged.Goals as goal

pub returns-in-2 : goal.returns-in-2
unfolding rank_of judged wrapped code_ranges code_lies code_shaped code_form code_in span_at top_of
returns-in-2 c = rw (c.in-2.is, c.around.ensures, c.integer_size.ensures, to_z-of_z {w = w32} (record { sfits = c.signed.type_inv }), c.signed.ensures, c.number_at.ensures, leaf_size)

pub returns-in-6 : goal.returns-in-6
unfolding code_ranges code_lies code_shaped code_form code_in
returns-in-6 c = rw (c.in-6.is, ← c.span_at.ensures, leaf_size, c.around-in-6.ensures, c.name_judged.ensures) (wrap _ _)

-- By the flag. Assumes nothing.
use Rattle.element.specs.Form.{shortest}
use Rattle.layout.specs.Layout.{optional_in}
use Rattle.write_check_row.specs.Judged.{rank_of, judged}
use Rattle.tcap.specs.Verdict.{option_lies, parameter_shaped}
use Rattle.write_check_row.specs.Forms.{parameter_form}
use Rattle.write_check_rows.proofs.parameter_judged.Goals as goal

pub returns-in-0 : goal.returns-in-0
unfolding rank_of judged option_lies parameter_shaped parameter_form shortest optional_in
returns-in-0 c = rw c.in-0.is

pub returns-in-1 : goal.returns-in-1
unfolding option_lies parameter_shaped parameter_form shortest optional_in
returns-in-1 c = rw (c.in-1.is, ← c.span_at.ensures) c.element_judged.ensures

-- `outside_octets_judged` meets its contract. Assumes nothing.
use mathlib.Core.Bool.{and-true}
use Rattle.tcap.specs.Verdict.{dialogue_ranges, dialogue_lies, dialogue_shaped}
use Rattle.write_check_row.specs.Forms.{dialogue_form}
use Rattle.write_check_row.proofs.Joining.{join, wrap, then_size, around_size, leaf_size}
use Rattle.write_check.proofs.outside_octets_judged.Goals as goal

pub returns : goal.returns
unfolding dialogue_ranges dialogue_lies dialogue_shaped dialogue_form
returns c = rw (c.external_judged.ensures, c.outside_judged.ensures, c.around-held.ensures, c.octets_judged.ensures) (simp (join, wrap, around_size, then_size, leaf_size, and-true))

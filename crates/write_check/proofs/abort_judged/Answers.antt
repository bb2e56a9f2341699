-- `abort_judged` meets its contract. Assumes nothing.
use mathlib.Core.Bool.{and-true}
use Rattle.tcap.specs.Verdict.{dialogue_ranges, dialogue_lies, dialogue_shaped}
use Rattle.write_check_row.specs.Forms.{dialogue_form}
use Rattle.write_check_row.proofs.Joining.{join, wrap, then_size, around_size, leaf_size}
use Rattle.write_check.proofs.Dialogues.{seven, three}
use Rattle.write_check.proofs.abort_judged.Goals as goal

pub returns : goal.returns
unfolding dialogue_ranges dialogue_lies dialogue_shaped dialogue_form
returns c = rw (c.pdu_judged.ensures, c.both.ensures, c.octet_judged.ensures, c.info_judged.ensures, seven) (simp (join, wrap, around_size, then_size, leaf_size, and-true, three))

-- `response_judged` meets its contract. Assumes nothing.
use native.Mathlib.Nat.{zero-add}
use mathlib.Core.Bool.{and-true}
use Rattle.tcap.specs.Verdict.{dialogue_ranges, dialogue_lies, dialogue_shaped}
use Rattle.write_check_row.specs.Forms.{dialogue_form}
use Rattle.write_check_row.proofs.Joining.{join, wrap, then_size, around_size, leaf_size}
use Rattle.write_check.proofs.Dialogues.{seven, perhaps_size}
use Rattle.write_check.proofs.response_judged.Goals as goal

pub returns : goal.returns
unfolding dialogue_ranges dialogue_lies dialogue_shaped dialogue_form
returns c = rw (c.pdu_judged.ensures, c.both.ensures, c.context_judged.ensures, c.answer_judged-answer.ensures, seven) (simp (join, wrap, around_size, then_size, leaf_size, perhaps_size, zero-add, and-true))

-- `dialogue_judged` meets its contract. Assumes nothing.
use mathlib.Core.Path.{ap, ◌∙◌}
use mathlib.Core.Logic.{inl, inr}
use Rattle.element.specs.Form.{shortest}
use Rattle.write_check_row.specs.Judged.{rank_of, judged}
use Rattle.tcap.specs.Verdict.{dialogue_ranges, dialogue_lies, dialogue_shaped}
use Rattle.write_check_row.specs.Forms.{dialogue_form}
use Rattle.write_check_row.proofs.Leaves.{octet_size}
use Rattle.write_check.proofs.Dialogues.{named_alike}
use Rattle.write_check.proofs.dialogue_judged.Goals as goal

pub returns-in-NoDialogue : goal.returns-in-NoDialogue
unfolding rank_of judged dialogue_ranges dialogue_lies dialogue_shaped dialogue_form shortest
returns-in-NoDialogue c = rw c.in-NoDialogue.is

pub returns-in-Cause : goal.returns-in-Cause
unfolding dialogue_ranges dialogue_lies dialogue_shaped dialogue_form
returns-in-Cause c = rw (c.in-Cause.is, octet_size) c.octet_judged.ensures

pub returns-in-Response : goal.returns-in-Response
returns-in-Response c = rw c.in-Response.is c.response_judged.ensures

pub returns-in-DialogueAbort : goal.returns-in-DialogueAbort
returns-in-DialogueAbort c = rw c.in-DialogueAbort.is c.abort_judged.ensures

pub returns-in-OutsideElement : goal.returns-in-OutsideElement
returns-in-OutsideElement c = rw c.in-OutsideElement.is c.outside_element_judged.ensures

pub returns-in-OutsideOctets : goal.returns-in-OutsideOctets
returns-in-OutsideOctets c = rw c.in-OutsideOctets.is c.outside_octets_judged.ensures

pub returns-in-Request : goal.returns-in-Request
unfolding dialogue_ranges dialogue_lies dialogue_shaped dialogue_form
returns-in-Request c = elim c.in-Request.is [ inl h ↦ rw h c.request_judged.ensures | inr h ↦ rw h (c.request_judged.ensures ∙ ap (judged _) (named_alike _)) ]

-- By the kind of PDU. Assumes nothing.
use native.Mathlib.Omega.{arith}
use Rattle.base.proofs.Backs.{back_none}
use Rattle.element.specs.Form.{shortest}
use Rattle.tcap.specs.Verdict.{dialogue_lies}
use Rattle.write_check_row.specs.Forms.{dialogue_form}
use Rattle.write_head.proofs.Lengths.{octet_octets}
use Rattle.write_portion.proofs.Around.{named_lie, outside_lie}
use Rattle.write_portion.proofs.back_dialogue.Goals as goal

pub back_octets-requires : goal.back_octets-requires
unfolding dialogue_form
back_octets-requires c = (omega arith, rw octet_octets at (rw c.in-Cause.is at c.requires.room))

pub back_asked-requires : goal.back_asked-requires
unfolding dialogue_lies dialogue_form
back_asked-requires c =
    let h = named_lie _ _ _ (rw c.in-Request.is at c.requires.dialogue_within) in
    record { name_within = h.0; info_within = h.1; room = rw c.in-Request.is at c.requires.room }

pub back_response-requires-clause-info_within : goal.back_response-requires-clause-info_within
back_response-requires-clause-info_within c = rw c.in-Response.is at c.requires.dialogue_within

pub back_response-requires-clause-room : goal.back_response-requires-clause-room
back_response-requires-clause-room c = rw c.in-Response.is at c.requires.room

pub back_abort-requires-clause-info_within : goal.back_abort-requires-clause-info_within
back_abort-requires-clause-info_within c = rw c.in-DialogueAbort.is at c.requires.dialogue_within

pub back_abort-requires-clause-room : goal.back_abort-requires-clause-room
back_abort-requires-clause-room c = rw c.in-DialogueAbort.is at c.requires.room

pub back_asked-requires-in-Unidialogue : goal.back_asked-requires-in-Unidialogue
unfolding dialogue_lies dialogue_form
back_asked-requires-in-Unidialogue c =
    let h = named_lie _ _ _ (rw c.in-Unidialogue.is at c.requires.dialogue_within) in
    record { name_within = h.0; info_within = h.1; room = rw c.in-Unidialogue.is at c.requires.room }

pub back_outside-requires : goal.back_outside-requires
unfolding dialogue_lies dialogue_form shortest
back_outside-requires c =
    let h = outside_lie _ _ _ (rw c.in-OutsideElement.is at c.requires.dialogue_within) in
    record { name_within = h.0; string_within = h.1; room = rw c.in-OutsideElement.is at c.requires.room }

pub back_outside-requires-in-OutsideOctets : goal.back_outside-requires-in-OutsideOctets
unfolding dialogue_lies dialogue_form shortest
back_outside-requires-in-OutsideOctets c =
    let h = outside_lie _ _ _ (rw c.in-OutsideOctets.is at c.requires.dialogue_within) in
    record { name_within = h.0; string_within = h.1; room = rw c.in-OutsideOctets.is at c.requires.room }

pub returns-in-NoDialogue : goal.returns-in-NoDialogue
unfolding dialogue_form shortest
returns-in-NoDialogue c = rw c.in-NoDialogue.is (back_none _ _ c.requires.room.within)

pub returns-in-Cause : goal.returns-in-Cause
unfolding dialogue_form
returns-in-Cause c = rw (c.in-Cause.is, octet_octets) c.back_octets.ensures

pub returns-in-Request : goal.returns-in-Request
unfolding dialogue_form
returns-in-Request c = rw c.in-Request.is c.back_asked.ensures

pub returns-in-Unidialogue : goal.returns-in-Unidialogue
unfolding dialogue_form
returns-in-Unidialogue c = rw c.in-Unidialogue.is c.back_asked-in-Unidialogue.ensures

pub returns-in-OutsideElement : goal.returns-in-OutsideElement
unfolding dialogue_form shortest
returns-in-OutsideElement c = rw c.in-OutsideElement.is c.back_outside.ensures

pub returns-in-OutsideOctets : goal.returns-in-OutsideOctets
unfolding dialogue_form
returns-in-OutsideOctets c = rw c.in-OutsideOctets.is c.back_outside-in-OutsideOctets.ensures

-- The fields, and what opens them. Assumes nothing.
use mathlib.Core.List.{◌++◌}
use Rattle.base.proofs.Backs.{room_last, room_next, back_then}
use Rattle.element.specs.Form.{around, then, shortest}
use Rattle.tcap.specs.Meaning.{octet, structured, context_form, source_form}
use Rattle.tcap.specs.Verdict.{dialogue_lies, string_octets}
use Rattle.write_check_row.specs.Forms.{info_form, dialogue_form, octets_of}
use Rattle.write_portion.proofs.Around.{named_lie, room_fields}
use Rattle.write_portion.proofs.back_response.Goals as goal

pub back_result-a-requires-clause-info_within : goal.back_result-a-requires-clause-info_within
unfolding dialogue_lies dialogue_form shortest
back_result-a-requires-clause-info_within c = (named_lie _ _ _ c.requires.info_within).1

pub back_result-a-requires-clause-room : goal.back_result-a-requires-clause-room
unfolding dialogue_lies dialogue_form shortest
back_result-a-requires-clause-room c = room_last (octets_of (context_form (string_octets c.args.material.now c.args.name))) (room_fields structured 0x61 (octets_of (context_form (string_octets c.args.material.now c.args.name)) ++ octets_of (then (around 0xA2 (octet 0x02 c.args.res)) (then (around 0xA3 (source_form c.args.diagnostic)) (info_form c.args.material.now c.args.info)))) c.requires.room)

pub back_context-b-requires-clause-name_within : goal.back_context-b-requires-clause-name_within
unfolding dialogue_lies dialogue_form shortest
back_context-b-requires-clause-name_within c = (named_lie _ _ _ c.requires.info_within).0

pub back_context-b-requires-clause-room : goal.back_context-b-requires-clause-room
unfolding dialogue_lies dialogue_form shortest
back_context-b-requires-clause-room c = room_next c.back_result-a.ensures _ (room_fields structured 0x61 (octets_of (context_form (string_octets c.args.material.now c.args.name)) ++ octets_of (then (around 0xA2 (octet 0x02 c.args.res)) (then (around 0xA3 (source_form c.args.diagnostic)) (info_form c.args.material.now c.args.info)))) c.requires.room)

pub back_opening-requires : goal.back_opening-requires
unfolding dialogue_form shortest
back_opening-requires c = (c.args.out.now, _, back_then c.back_result-a.ensures c.back_context-b.ensures, c.requires.room)

pub returns : goal.returns
unfolding dialogue_form shortest
returns c = c.back_opening.ensures _ _ (back_then c.back_result-a.ensures c.back_context-b.ensures)

-- The fields, and what opens them. Assumes nothing.
use mathlib.Core.List.{◌++◌}
use Rattle.base.proofs.Backs.{room_last, room_next, back_then}
use Rattle.element.specs.Form.{shortest}
use Rattle.tcap.specs.Meaning.{context_form}
use Rattle.tcap.specs.Verdict.{string_octets}
use Rattle.write_check_row.specs.Forms.{info_form, octets_of}
use Rattle.write_portion.proofs.Around.{room_fields}
use Rattle.write_portion.proofs.back_asked.Goals as goal

pub back_info-a-requires-clause-info_within : goal.back_info-a-requires-clause-info_within
unfolding shortest
back_info-a-requires-clause-info_within c = c.requires.info_within

pub back_info-a-requires-clause-room : goal.back_info-a-requires-clause-room
unfolding shortest
back_info-a-requires-clause-room c = room_last (octets_of (context_form (string_octets c.args.material.now c.args.name))) (room_fields c.args.known.now 0x60 (octets_of (context_form (string_octets c.args.material.now c.args.name)) ++ octets_of (info_form c.args.material.now c.args.info)) c.requires.room)

pub back_context-b-requires-clause-name_within : goal.back_context-b-requires-clause-name_within
unfolding shortest
back_context-b-requires-clause-name_within c = c.requires.name_within

pub back_context-b-requires-clause-room : goal.back_context-b-requires-clause-room
unfolding shortest
back_context-b-requires-clause-room c = room_next c.back_info-a.ensures _ (room_fields c.args.known.now 0x60 (octets_of (context_form (string_octets c.args.material.now c.args.name)) ++ octets_of (info_form c.args.material.now c.args.info)) c.requires.room)

pub back_opening-requires : goal.back_opening-requires
unfolding shortest
back_opening-requires c = (c.args.out.now, _, back_then c.back_info-a.ensures c.back_context-b.ensures, c.requires.room)

pub returns : goal.returns
unfolding shortest
returns c = c.back_opening.ensures _ _ (back_then c.back_info-a.ensures c.back_context-b.ensures)

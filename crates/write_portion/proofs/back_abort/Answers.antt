-- The fields, and what opens them. Assumes nothing.
use native.Mathlib.Omega.{arith}
use mathlib.Core.List.{◌++◌}
use Rattle.base.proofs.Backs.{room_last, room_next, back_then}
use Rattle.element.specs.Form.{shortest}
use Rattle.tcap.specs.Meaning.{octet, structured}
use Rattle.tcap.specs.Verdict.{dialogue_lies}
use Rattle.write_check_row.specs.Forms.{info_form, dialogue_form, octets_of}
use Rattle.write_head.proofs.Lengths.{octet_octets}
use Rattle.write_portion.proofs.Around.{octet_parts, room_fields}
use Rattle.write_portion.proofs.back_abort.Goals as goal

pub back_info-a-requires-clause-info_within : goal.back_info-a-requires-clause-info_within
unfolding dialogue_lies dialogue_form shortest
back_info-a-requires-clause-info_within c = c.requires.info_within

pub back_info-a-requires-clause-room : goal.back_info-a-requires-clause-room
unfolding dialogue_lies dialogue_form shortest
back_info-a-requires-clause-room c = room_last (octets_of (octet 0x80 c.args.source)) (room_fields structured 0x64 (octets_of (octet 0x80 c.args.source) ++ octets_of (info_form c.args.material.now c.args.info)) c.requires.room)

pub back_octets-b-requires : goal.back_octets-b-requires
unfolding dialogue_form shortest
back_octets-b-requires c = (omega arith, room_next c.back_info-a.ensures _ (rw octet_parts at (room_fields structured 0x64 (octets_of (octet 0x80 c.args.source) ++ octets_of (info_form c.args.material.now c.args.info)) c.requires.room)))

pub back_opening-requires : goal.back_opening-requires
unfolding dialogue_form shortest
back_opening-requires c = (c.args.out.now, _, back_then c.back_info-a.ensures (rw (← (octet_octets 0x80 c.args.source)) at c.back_octets-b.ensures), c.requires.room)

pub returns : goal.returns
unfolding dialogue_form shortest
returns c = c.back_opening.ensures _ _ (back_then c.back_info-a.ensures (rw (← (octet_octets 0x80 c.args.source)) at c.back_octets-b.ensures))

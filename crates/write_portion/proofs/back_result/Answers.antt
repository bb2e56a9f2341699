-- One before the other. Assumes nothing.
use native.Mathlib.Omega.{arith}
use Rattle.base.proofs.Backs.{room_last, room_next, back_then}
use Rattle.element.specs.Form.{around, shortest}
use Rattle.tcap.specs.Meaning.{octet, source_form}
use Rattle.write_check_row.specs.Forms.{octets_of}
use Rattle.write_portion.proofs.Around.{result_parts}
use Rattle.write_portion.proofs.back_result.Goals as goal

pub back_info-a-requires-clause-info_within : goal.back_info-a-requires-clause-info_within
unfolding shortest
back_info-a-requires-clause-info_within c = c.requires.info_within

pub back_info-a-requires-clause-room : goal.back_info-a-requires-clause-room
unfolding shortest
back_info-a-requires-clause-room c = room_last (octets_of (around 0xA3 (source_form c.args.diagnostic))) (room_last (octets_of (around 0xA2 (octet 0x02 c.args.res))) c.requires.room)

pub back_diagnostic-b-requires : goal.back_diagnostic-b-requires
unfolding shortest
back_diagnostic-b-requires c = room_next c.back_info-a.ensures _ (room_last (octets_of (around 0xA2 (octet 0x02 c.args.res))) c.requires.room)

pub back_octets-requires : goal.back_octets-requires
unfolding shortest
back_octets-requires c = (omega arith, room_next (back_then c.back_info-a.ensures c.back_diagnostic-b.ensures) _ (rw result_parts at c.requires.room))

pub returns : goal.returns
unfolding shortest
returns c = rw result_parts (back_then (back_then c.back_info-a.ensures c.back_diagnostic-b.ensures) c.back_octets.ensures)

-- The head has the length of what it stands before. Assumes nothing.
use Rattle.element.specs.Form.{leaf, shortest}
use Rattle.tcap.specs.Verdict.{string_octets}
use Rattle.write_check_row.specs.Forms.{octets_of}
use Rattle.write_head.proofs.Heads.{room_inside, room_head, back_around}
use Rattle.write_portion.proofs.back_context.Goals as goal

pub back_string-next-requires-clause-string_within : goal.back_string-next-requires-clause-string_within
unfolding shortest
back_string-next-requires-clause-string_within c = c.requires.name_within

pub back_string-next-requires-clause-room : goal.back_string-next-requires-clause-room
unfolding shortest
back_string-next-requires-clause-room c = room_inside 0xA1 (octets_of (leaf 0x06 (string_octets c.args.material.now c.args.name))) c.requires.room

pub back_head-requires : goal.back_head-requires
unfolding shortest
back_head-requires c = let both = room_head c.back_string-next.ensures _ c.requires.room in record { room = both.0; n_bound = both.1 }

pub returns : goal.returns
unfolding shortest
returns c = back_around c.back_string-next.ensures _ c.back_head.ensures

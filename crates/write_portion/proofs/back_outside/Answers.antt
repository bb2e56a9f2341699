-- The name before what it names. Assumes nothing.
use Rattle.base.proofs.Backs.{room_last}
use Rattle.element.specs.Form.{leaf, shortest}
use Rattle.tcap.specs.Verdict.{string_octets}
use Rattle.write_check_row.specs.Forms.{octets_of}
use Rattle.write_portion.proofs.Around.{room_named}
use Rattle.write_portion.proofs.back_outside.Goals as goal

pub back_string-next-requires-clause-string_within : goal.back_string-next-requires-clause-string_within
unfolding shortest
back_string-next-requires-clause-string_within c = c.requires.string_within

pub back_string-next-requires-clause-room : goal.back_string-next-requires-clause-room
unfolding shortest
back_string-next-requires-clause-room c = room_last (octets_of (leaf 0x06 (string_octets c.args.material.now c.args.name))) (room_named (string_octets c.args.material.now c.args.name) (octets_of (leaf c.args.tag (string_octets c.args.material.now c.args.string))) c.requires.room)

pub back_naming-requires : goal.back_naming-requires
unfolding shortest
back_naming-requires c = rw c.octets_of-octets.ensures (c.args.out.now, _, c.back_string-next.ensures, c.requires.room)

pub returns : goal.returns
unfolding shortest
returns c = (rw c.octets_of-octets.ensures at c.back_naming.ensures) _ _ c.back_string-next.ensures

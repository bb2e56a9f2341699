-- The head has the tag of the row, and the length of what it stands before. Assumes nothing.
use Rattle.base.proofs.Backs.{room_last, room_next, back_then}
use Rattle.element.specs.Form.{shortest}
use Rattle.write_check_row.specs.Forms.{id_form, row_form, octets_of}
use Rattle.layout.specs.Layout.{row_in}
use Rattle.write_head.proofs.Heads.{room_head, back_around}
use Rattle.write_row.proofs.Fields.{contents_parts, row_inside}
use Rattle.write_row.proofs.Tags.{row_kind, row_tag_lem}
use Rattle.write_row.proofs.back_row.Goals as goal

pub back_rest-next-requires-clause-kind_listed : goal.back_rest-next-requires-clause-kind_listed
unfolding row_in
back_rest-next-requires-clause-kind_listed c = row_kind _ c.requires.row_listed

pub back_rest-next-requires-clause-within : goal.back_rest-next-requires-clause-within
unfolding row_in
back_rest-next-requires-clause-within c = c.requires.within

pub back_rest-next-requires-clause-room : goal.back_rest-next-requires-clause-room
unfolding row_in
back_rest-next-requires-clause-room c = room_last (octets_of (id_form (row_in c.args.part.now).id)) (row_inside c.args.material.now (row_in c.args.part.now) c.requires.room)

pub back_id-start-requires : goal.back_id-start-requires
unfolding row_in
back_id-start-requires c = room_next c.back_rest-next.ensures _ (row_inside c.args.material.now (row_in c.args.part.now) c.requires.room)

pub back_head-requires : goal.back_head-requires
unfolding row_in row_form shortest
back_head-requires c = let both = room_head (back_then c.back_rest-next.ensures c.back_id-start.ensures) _ (rw (contents_parts, row_tag_lem _ c.requires.row_listed) at c.requires.room) in record { room = both.0; n_bound = both.1 }

pub returns : goal.returns
unfolding row_in row_form shortest
returns c = rw (contents_parts, row_tag_lem _ c.requires.row_listed) (back_around (back_then c.back_rest-next.ensures c.back_id-start.ensures) _ c.back_head.ensures)

-- One part before the other, and the head has the length of what it stands before. Assumes nothing.
use lib.ListN.{drop}
use Rattle.base.specs.inner.Back.{Room}
use Rattle.base.proofs.Backs.{room_last, room_next, back_then}
use Rattle.element.specs.Form.{shortest}
use Rattle.tcap.specs.Record.{message_tag}
use Rattle.write_check_row.specs.Forms.{orig_form, dest_form, dialogue_form, inside_form, parts_form, octets_of}
use Rattle.layout.specs.Layout.{rows_in}
use Rattle.write_head.proofs.Heads.{room_inside, room_head, back_around}
use Rattle.write_put.proofs.put_message.Goals as goal

pub back_components-a-requires : goal.back_components-a-requires
unfolding inside_form shortest parts_form
back_components-a-requires c =
    let inside : Room c.args.out.now c.args.at (octets_of (inside_form c.args.material.now c.args.orig c.args.dest c.args.dialogue (rows_in c.args.count (drop 44 c.args.octets.now)))) = room_inside (message_tag c.args.kind) (octets_of (inside_form c.args.material.now c.args.orig c.args.dest c.args.dialogue (rows_in c.args.count (drop 44 c.args.octets.now)))) c.requires.room in
    let m = c.args.material.now in
    let last = room_last (octets_of (dialogue_form m c.args.dialogue)) (room_last (octets_of (dest_form m c.args.dest)) (room_last (octets_of (orig_form m c.args.orig)) inside)) in
    record { in_bounds = c.requires.in_bounds; rows_listed = c.requires.rows_listed; rows_within = c.requires.rows_within; room = last }

pub back_dialogue-b-requires : goal.back_dialogue-b-requires
unfolding inside_form shortest parts_form
back_dialogue-b-requires c =
    let inside : Room c.args.out.now c.args.at (octets_of (inside_form c.args.material.now c.args.orig c.args.dest c.args.dialogue (rows_in c.args.count (drop 44 c.args.octets.now)))) = room_inside (message_tag c.args.kind) (octets_of (inside_form c.args.material.now c.args.orig c.args.dest c.args.dialogue (rows_in c.args.count (drop 44 c.args.octets.now)))) c.requires.room in
    let m = c.args.material.now in
    let room = room_last (octets_of (dest_form m c.args.dest)) (room_last (octets_of (orig_form m c.args.orig)) inside) in
    record { dialogue_within = c.requires.dialogue_within; room = room_next c.back_components-a.ensures _ room }

pub back_dest-c-requires : goal.back_dest-c-requires
unfolding inside_form shortest parts_form
back_dest-c-requires c =
    let inside : Room c.args.out.now c.args.at (octets_of (inside_form c.args.material.now c.args.orig c.args.dest c.args.dialogue (rows_in c.args.count (drop 44 c.args.octets.now)))) = room_inside (message_tag c.args.kind) (octets_of (inside_form c.args.material.now c.args.orig c.args.dest c.args.dialogue (rows_in c.args.count (drop 44 c.args.octets.now)))) c.requires.room in
    let put = back_then c.back_components-a.ensures c.back_dialogue-b.ensures in
    record { dest_within = c.requires.dest_within; room = room_next put _ (room_last (octets_of (orig_form c.args.material.now c.args.orig)) inside) }

pub back_orig-next-requires : goal.back_orig-next-requires
unfolding inside_form shortest parts_form
back_orig-next-requires c =
    let inside : Room c.args.out.now c.args.at (octets_of (inside_form c.args.material.now c.args.orig c.args.dest c.args.dialogue (rows_in c.args.count (drop 44 c.args.octets.now)))) = room_inside (message_tag c.args.kind) (octets_of (inside_form c.args.material.now c.args.orig c.args.dest c.args.dialogue (rows_in c.args.count (drop 44 c.args.octets.now)))) c.requires.room in
    let put = back_then (back_then c.back_components-a.ensures c.back_dialogue-b.ensures) c.back_dest-c.ensures in
    record { orig_within = c.requires.orig_within; room = room_next put _ inside }

pub back_head-requires : goal.back_head-requires
unfolding inside_form parts_form shortest
back_head-requires c =
    let put = back_then (back_then (back_then c.back_components-a.ensures c.back_dialogue-b.ensures) c.back_dest-c.ensures) c.back_orig-next.ensures in
    let both = room_head put _ c.requires.room in
    record { room = rw c.message_tag.ensures both.0; n_bound = both.1 }

pub returns : goal.returns
unfolding inside_form parts_form shortest
returns c =
    let put = back_then (back_then (back_then c.back_components-a.ensures c.back_dialogue-b.ensures) c.back_dest-c.ensures) c.back_orig-next.ensures in
    back_around put _ (rw c.message_tag.ensures at c.back_head.ensures)

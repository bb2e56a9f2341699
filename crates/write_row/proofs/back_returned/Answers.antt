-- Both or neither; the head has the length of what it stands before. Assumes nothing.
use borrow.Author.Tests.{eq-eqb, ne_eqb}
use Rattle.base.proofs.Backs.{room_last, room_next, back_then, back_none}
use Rattle.element.specs.Form.{shortest}
use Rattle.write_check_row.specs.Forms.{code_form, returned_form, octets_of}
use Rattle.layout.specs.Layout.{code_at, returned_in}
use Rattle.write_head.proofs.Heads.{room_head, back_around}
use Rattle.write_row.proofs.Fields.{both_lie, both_inside}
use Rattle.write_row.proofs.back_returned.Goals as goal

pub returns-then-part-eq0 : goal.returns-then-part-eq0
unfolding returned_in returned_form shortest
returns-then-part-eq0 c = rw (eq-eqb _ _ c.if-part-eq0.true) (back_none _ _ c.requires.room.within)

pub back_span-next-requires-clause-string_within : goal.back_span-next-requires-clause-string_within
unfolding returned_in
back_span-next-requires-clause-string_within c =
    let lie = rw (ne_eqb _ _ c.if-part-eq0.false) at c.requires.within in
    rw c.span_at-string.ensures (both_lie _ _ _ lie).1

pub back_span-next-requires-clause-room : goal.back_span-next-requires-clause-room
unfolding returned_in
back_span-next-requires-clause-room c =
    let room = rw (ne_eqb _ _ c.if-part-eq0.false) at c.requires.room in
    rw c.span_at-string.ensures (room_last (octets_of (code_form c.args.material.now (code_at c.args.part.now))) (both_inside _ _ _ room))

pub back_code-start-requires-clause-code_within : goal.back_code-start-requires-clause-code_within
unfolding returned_in
back_code-start-requires-clause-code_within c =
    let lie = rw (ne_eqb _ _ c.if-part-eq0.false) at c.requires.within in
    (both_lie _ _ _ lie).0

pub back_code-start-requires-clause-room : goal.back_code-start-requires-clause-room
unfolding returned_in
back_code-start-requires-clause-room c =
    let room = rw (ne_eqb _ _ c.if-part-eq0.false) at c.requires.room in
    room_next (rw c.span_at-string.ensures at c.back_span-next.ensures) _ (both_inside _ _ _ room)

pub back_head-requires : goal.back_head-requires
unfolding returned_in returned_form shortest
back_head-requires c = let both = room_head (back_then (rw c.span_at-string.ensures at c.back_span-next.ensures) c.back_code-start.ensures) _ (rw (ne_eqb _ _ c.if-part-eq0.false) at c.requires.room) in record { room = both.0; n_bound = both.1 }

pub returns : goal.returns
unfolding returned_in returned_form shortest
returns c = rw (ne_eqb _ _ c.if-part-eq0.false) (back_around (back_then (rw c.span_at-string.ensures at c.back_span-next.ensures) c.back_code-start.ensures) _ c.back_head.ensures)

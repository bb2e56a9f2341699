-- The room is known first; of what is accepted the record's octets are copied to its front. Assumes nothing.
use Rattle.tcap.specs.Reading.{outcome_of}
use Rattle.std.specs.Prelude.{Ok}
use native.Mathlib.Omega.{arith}
use mathlib.Core.Path.{◌≡◌, sym, ◌∙◌}
use lib.ListN.{length}
use lib.Seq.{length-take-le}
use borrow.Author.Tests.{lt-ltb, le-ltb}
use Rattle.base.proofs.Puts.{put_front}
use Rattle.tcap.specs.Reading.{reading}
use Rattle.read.proofs.Octets.{held_few, held_record}
use Rattle.c_answer.specs.Answer.{outcome_bits}
use Rattle.c_read.specs.Read.{read_answer, read_room}
use Rattle.c_read.proofs.RoomAfter.{laid_most, room_of, room_left}
use Rattle.c_read.proofs.read_answer.Goals as goal

pub returns-then-room-lt428-clause-value : goal.returns-then-room-lt428-clause-value
unfolding read_answer read_room
returns-then-room-lt428-clause-value c = rw (lt-ltb (length c.args.room.now) 428 (omega arith))

pub returns-then-room-lt428-clause-room_after : goal.returns-then-room-lt428-clause-room_after
unfolding read_answer read_room
returns-then-room-lt428-clause-room_after c = rw (lt-ltb (length c.args.room.now) 428 (omega arith))

pub overflow_cast-count : goal.overflow_cast-count
overflow_cast-count c = omega (arith, held_few _ _ (sym c.read_octets.ensures.value ∙ c.in-Ok.is) c.read_octets.ensures.held)

pub overflow_mul-octets : goal.overflow_mul-octets
overflow_mul-octets c = omega (arith, held_few _ _ (sym c.read_octets.ensures.value ∙ c.in-Ok.is) c.read_octets.ensures.held)

pub overflow_add-octets : goal.overflow_add-octets
overflow_add-octets c = omega (arith, held_few _ _ (sym c.read_octets.ensures.value ∙ c.in-Ok.is) c.read_octets.ensures.held)

pub slice_bounds-octets-end : goal.slice_bounds-octets-end
slice_bounds-octets-end c = omega (arith, held_few _ _ (sym c.read_octets.ensures.value ∙ c.in-Ok.is) c.read_octets.ensures.held)

pub slice_bounds-put_part-end : goal.slice_bounds-put_part-end
slice_bounds-put_part-end c = sym (length-take-le _ _ (omega (arith, held_few _ _ (sym c.read_octets.ensures.value ∙ c.in-Ok.is) c.read_octets.ensures.held)))

pub returns-in-Ok-clause-value : goal.returns-in-Ok-clause-value
unfolding read_answer outcome_bits
returns-in-Ok-clause-value c =
    let a : outcome_of (reading c.args.message.now) ≡ Ok tt = sym c.read_octets.ensures.value ∙ c.in-Ok.is in
    rw (le-ltb (length c.args.room.now) 428 (omega arith), a)

pub returns-in-Ok-clause-room_after : goal.returns-in-Ok-clause-room_after
unfolding read_room
returns-in-Ok-clause-room_after c =
    let m = c.args.message.now in
    let e = c.read_octets.ensures in
    let a : outcome_of (reading m) ≡ Ok tt = sym e.value ∙ c.in-Ok.is in
    let p = rw (held_record m _ a e.held) at c.put_part.ensures in
    rw (le-ltb (length c.args.room.now) 428 (omega arith), room_of _ _ a) (put_front p (omega (arith, laid_most m a)))

pub returns-in-Err-clause-value : goal.returns-in-Err-clause-value
unfolding read_answer outcome_bits
returns-in-Err-clause-value c = rw (le-ltb (length c.args.room.now) 428 (omega arith), sym c.read_octets.ensures.value ∙ c.in-Err.is) c.refusal_bits.ensures

pub returns-in-Err-clause-room_after : goal.returns-in-Err-clause-room_after
unfolding read_room
returns-in-Err-clause-room_after c = rw (le-ltb (length c.args.room.now) 428 (omega arith), room_left _ _ _ (sym c.read_octets.ensures.value ∙ c.in-Err.is))

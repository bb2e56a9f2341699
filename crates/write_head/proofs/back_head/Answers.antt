-- By the size of the contents. Assumes nothing.
use native.Mathlib.Omega.{arith}
use mathlib.Core.List.{[], ◌∷◌}
use Rattle.write_head.proofs.Lengths.{short_length, long_length, wide_length}
use Rattle.base.proofs.Backs.{room_last, room_next, back_then}
use Rattle.write_head.proofs.back_head.Goals as goal

pub returns-then-n-lt256 : goal.returns-then-n-lt256
returns-then-n-lt256 c = rw (long_length _ c.if-n-lt128.false c.if-n-lt256.true) c.back_octets-then-n-lt256.ensures

pub back_octets-next-requires : goal.back_octets-next-requires
back_octets-next-requires c = (omega arith, room_last (c.args.tag ∷ 0x82 ∷ []) (rw (wide_length _ c.if-n-lt256.false c.requires.n_bound) at c.requires.room))

pub back_octets-requires-2 : goal.back_octets-requires-2
back_octets-requires-2 c = (omega arith, room_next c.back_octets-next.ensures _ (rw (wide_length _ c.if-n-lt256.false c.requires.n_bound) at c.requires.room))

pub returns : goal.returns
returns c = rw (wide_length _ c.if-n-lt256.false c.requires.n_bound) (back_then c.back_octets-next.ensures c.back_octets-2.ensures)

pub back_octets-requires : goal.back_octets-requires
back_octets-requires c = (omega arith, rw (short_length _ c.if-n-lt128.true) at c.requires.room)

pub returns-then-n-lt128 : goal.returns-then-n-lt128
returns-then-n-lt128 c = rw (short_length _ c.if-n-lt128.true) c.back_octets.ensures

pub back_octets-requires-then-n-lt256 : goal.back_octets-requires-then-n-lt256
back_octets-requires-then-n-lt256 c = (omega arith, rw (long_length _ c.if-n-lt128.false c.if-n-lt256.true) at c.requires.room)

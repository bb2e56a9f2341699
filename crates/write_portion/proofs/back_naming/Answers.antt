-- Each head has the length of what it stands before. Assumes nothing.
use Rattle.base.proofs.Backs.{room_next, back_then}
use Rattle.element.specs.Form.{shortest}
use Rattle.write_head.proofs.Heads.{room_head, back_around}
use Rattle.write_portion.proofs.Around.{room_external, room_named}
use native.Mathlib.Omega.{arith}
use Rattle.write_portion.proofs.back_naming.Goals as goal

pub back_head-b-requires : goal.back_head-b-requires
back_head-b-requires c = let both = room_head (back_then c.requires.2 c.back_leaf-a.ensures) 0x28 (room_external c.args.name.now _ c.requires.3) in record { room = both.0; n_bound = both.1 }

pub overflow_sub-at-2 : goal.overflow_sub-at-2
overflow_sub-at-2 c = omega (arith, c.requires.2.begins, c.back_leaf-a.ensures.begins, c.back_head-b.ensures.begins)

pub back_head-requires : goal.back_head-requires
unfolding shortest
back_head-requires c = let both = room_head (back_around (back_then c.requires.2 c.back_leaf-a.ensures) 0x28 c.back_head-b.ensures) 0x6B c.requires.3 in record { room = both.0; n_bound = both.1 }

pub returns : goal.returns
unfolding shortest
returns c = λ old held p. back_around (back_around (back_then p c.back_leaf-a.ensures) 0x28 c.back_head-b.ensures) 0x6B c.back_head.ensures

pub back_leaf-a-requires : goal.back_leaf-a-requires
back_leaf-a-requires c = room_next c.requires.2 _ (room_named c.args.name.now _ c.requires.3)

pub overflow_sub-at : goal.overflow_sub-at
overflow_sub-at c = omega (arith, c.requires.2.begins, c.back_leaf-a.ensures.begins)

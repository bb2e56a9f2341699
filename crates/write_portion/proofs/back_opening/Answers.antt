-- Each head has the length of what it stands before. Assumes nothing.
use Rattle.element.specs.Form.{shortest}
use Rattle.write_head.proofs.Heads.{room_head, back_around}
use Rattle.write_portion.proofs.Around.{room_pdu, room_tagged}
use native.Mathlib.Omega.{arith}
use Rattle.write_portion.proofs.back_opening.Goals as goal

pub back_head-a-requires : goal.back_head-a-requires
back_head-a-requires c = let both = room_head c.requires.2 _ (room_tagged c.args.name.now c.args.tag _ c.requires.3) in record { room = both.0; n_bound = both.1 }

pub back_head-b-requires : goal.back_head-b-requires
back_head-b-requires c = let both = room_head (back_around c.requires.2 _ c.back_head-a.ensures) 0xA0 (room_pdu c.args.name.now c.args.tag _ c.requires.3) in record { room = both.0; n_bound = both.1 }

pub back_naming-requires : goal.back_naming-requires
unfolding shortest
back_naming-requires c = (c.requires.0, _, back_around (back_around c.requires.2 _ c.back_head-a.ensures) 0xA0 c.back_head-b.ensures, c.requires.3)

pub returns : goal.returns
unfolding shortest
returns c = λ old held p. c.back_naming.ensures old _ (back_around (back_around p _ c.back_head-a.ensures) 0xA0 c.back_head-b.ensures)

pub overflow_sub-at : goal.overflow_sub-at
overflow_sub-at c = omega (arith, c.requires.2.begins)

pub overflow_sub-at-2 : goal.overflow_sub-at-2
overflow_sub-at-2 c = omega (arith, c.requires.2.begins, c.back_head-a.ensures.begins)

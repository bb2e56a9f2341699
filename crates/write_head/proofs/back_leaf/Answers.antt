-- The head has the length of the contents. Assumes nothing.
use Rattle.base.proofs.Backs.{room_last, room_next, back_then}
use mathlib.Core.List.{◌∷◌}
use lib.ListN.{length}
use Rattle.element.specs.Form.{shortest, length_octets}
use native.Mathlib.Omega.{arith}
use Rattle.write_head.proofs.back_leaf.Goals as goal

pub back_part-next-requires : goal.back_part-next-requires
unfolding shortest
back_part-next-requires c = room_last (c.args.tag ∷ length_octets (length c.args.contents.now)) c.requires

pub back_head-requires-clause-room : goal.back_head-requires-clause-room
unfolding shortest
back_head-requires-clause-room c = room_next c.back_part-next.ensures _ c.requires

pub back_head-requires-clause-n_bound : goal.back_head-requires-clause-n_bound
unfolding shortest
back_head-requires-clause-n_bound c = omega (arith, c.back_part-next.ensures.begins, c.requires.low)

pub returns : goal.returns
unfolding shortest
returns c = back_then c.back_part-next.ensures c.back_head.ensures

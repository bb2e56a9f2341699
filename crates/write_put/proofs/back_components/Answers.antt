-- The head has the length of what it stands before. Assumes nothing.
use native.Mathlib.Omega.{arith}
use lib.ListN.{drop}
use Rattle.base.proofs.Backs.{back_none}
use Rattle.element.specs.Form.{series_form, shortest}
use Rattle.write_check_row.specs.Forms.{row_form, octets_of}
use Rattle.layout.specs.Layout.{rows_in}
use Rattle.write_head.proofs.Heads.{room_inside, room_head, back_around}
use Rattle.write_put.proofs.Parts.{no_rows, some_rows}
use Rattle.write_put.proofs.back_components.Goals as goal

pub returns-then-count-eq0 : goal.returns-then-count-eq0
unfolding shortest
returns-then-count-eq0 c = rw (no_rows c.args.material.now c.args.count (drop 44 c.args.octets.now) (omega arith)) (back_none _ _ c.requires.room.within)

pub back_rows-next-requires-clause-room : goal.back_rows-next-requires-clause-room
unfolding shortest
back_rows-next-requires-clause-room c = room_inside 0x6C (octets_of (series_form (row_form c.args.material.now) (rows_in c.args.count (drop 44 c.args.octets.now)))) (rw (some_rows c.args.material.now c.args.count (drop 44 c.args.octets.now) (omega arith)) at c.requires.room)

pub back_head-requires : goal.back_head-requires
unfolding shortest
back_head-requires c = let both = room_head c.back_rows-next.ensures 0x6C (rw (some_rows c.args.material.now c.args.count (drop 44 c.args.octets.now) (omega arith)) at c.requires.room) in record { room = both.0; n_bound = both.1 }

pub returns : goal.returns
unfolding shortest
returns c = rw (some_rows c.args.material.now c.args.count (drop 44 c.args.octets.now) (omega arith)) (back_around c.back_rows-next.ensures 0x6C c.back_head.ensures)

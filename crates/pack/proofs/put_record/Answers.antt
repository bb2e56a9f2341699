-- The head, and the rows that count. Assumes nothing.
use native.Mathlib.Omega.{arith}
use lib.ListN.{take, length-take}
use lib.Seq.{take_all}
use Rattle.base.specs.Number.{top_of}
use Rattle.base.proofs.Puts.{put_none, put_then}
use Rattle.layout.specs.Fits.{RecordFits}
use Rattle.layout.specs.Layout.{rows_octets, record_octets}
use Rattle.layout.proofs.RoundTrip.{head_length}
use Rattle.layout.proofs.Typed.{record_typed}
use Rattle.pack.specs.LaidOut.{laid_out}
use Rattle.pack.proofs.Rows.{rows_step, row_room, looked_all}
use Rattle.pack.proofs.put_record.Goals as goal

pub loop-row-init : goal.loop-row-init
unfolding rows_octets
loop-row-init c = put_none _ _ (omega arith) (omega arith)

pub put_row-o-requires : goal.put_row-o-requires
put_row-o-requires c = row_room _ _ c.put_head-o.ensures (head_length _ _ _ _ _) c.requires (omega (arith, c.loop-row-test.true, length-take c.min.result c.args.held.rows)) c.loop-row.invariant

pub loop-row-preserved : goal.loop-row-preserved
loop-row-preserved c = rows_step _ c.loop-row.row-index _ c.loop-row-test.true c.loop-row.invariant c.put_row-o.ensures.0

pub returns : goal.returns
unfolding record_octets laid_out top_of
returns c =
    let fits : RecordFits (laid_out c.args.held) = record_typed c.args.held _ c.well_formed.1.0 _ (omega arith) in
    let all = take_all c.loop-row.row-index (take c.min.result c.args.held.rows) c.loop-row-test.false in
    (rw (← (looked_all _ _ _ fits.sixteen c.min.ensures), ← c.min-count.ensures, ← all) (put_then c.put_head-o.ensures c.loop-row.invariant), fits)

-- A row more. Assumes nothing.
use Rattle.std.proofs.Common.{◌<◌, ◌/◌, length, length-take, arith}
use Rattle.layout.specs.Layout.{rows_in, rows_held}
use Rattle.unpack.proofs.Rows.{rows_step}
use Rattle.unpack.proofs.row.rows_in.Goals as goal

pub loop-i-init : goal.loop-i-init
unfolding rows_held rows_in
loop-i-init c = rw c.blank_row-rows.ensures

pub loop-i-preserved : goal.loop-i-preserved
loop-i-preserved c =
    let chunks = length c.args.octets.now / 24 in
    let h : (c.loop-i.i < c.args.count) × (c.loop-i.i < chunks) = omega (arith, c.loop-i-test.true, length-take c.args.count c.as_chunks.result.0.now, c.as_chunks.ensures.front_len) in
    rw (c.loop-i.invariant, c.row_in.ensures, c.as_chunks.ensures.front) (rows_step chunks c.args.octets.now c.args.count c.loop-i.i (omega (arith, c.requires)) h.0 h.1)

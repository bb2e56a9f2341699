-- The rows passed, of those that count. Assumes nothing.
use native.Mathlib.Omega.{arith}
use mathlib.Core.Path.{◌≡◌, ◌∙◌}
use Prim.Native.Nat.{◌<◌}
use lib.ListN.{drop, length-take, length-drop}
use lib.Seq.{take_all}
use Rattle.tcap.specs.Record.{blank_row}
use Rattle.layout.specs.Layout.{are_rows, rows_in}
use Rattle.unpack.proofs.Rows.{rows_length, row_at}
use Rattle.write_check_row.proofs.Rows.{rows_none}
use Rattle.write_check_row.proofs.Chunks.{part_row, part_is_row}
use Rattle.write_check_row.proofs.Listed.{listed_step}
use Rattle.write_check_rows.proofs.rows_judged.Goals as goal

pub loop-row-init : goal.loop-row-init
unfolding are_rows
loop-row-init c = rows_none _

pub loop-row-preserved : goal.loop-row-preserved
loop-row-preserved c =
    let o = c.args.octets.now in
    let n = c.args.count in
    let i = c.loop-row.row-index in
    let h : i < n = omega (arith, length-take n c.as_chunks.result.0.now, c.loop-row-test.true) in
    rw (c.both-all.ensures, c.loop-row.invariant, c.row_judged.ensures, part_row o n i c.requires.0 c.requires.1 h _ c.as_chunks.ensures.front, part_is_row o n i c.requires.0 c.requires.1 h _ c.as_chunks.ensures.front, row_at o n i blank_row h)
    (listed_step _ o (rows_in n (drop 44 o)) i blank_row (omega (arith, rows_length n (drop 44 o), h)))

pub returns : goal.returns
returns c =
    let o = c.args.octets.now in
    let n = c.args.count in
    let e : c.loop-row.row-index ≡ n = omega (arith, length-take n c.as_chunks.result.0.now, c.as_chunks.ensures.front_len, length-drop 44 o, c.loop-row.auto.row-index-end, c.loop-row-test.false, c.requires) in
    c.loop-row.invariant ∙ rw (e, take_all n (rows_in n (drop 44 o)) (omega (arith, rows_length n (drop 44 o))))

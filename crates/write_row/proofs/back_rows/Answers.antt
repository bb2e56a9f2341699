-- The rows put are those from a row on. Assumes nothing.
use Prim.Native.Nat.{◌<◌, suc}
use native.Mathlib.Omega.{arith}
use mathlib.Core.Path.{◌≡◌, refl, sym, ap, ◌∙◌}
use mathlib.Core.List.{[], ◌∷◌, ◌++◌}
use lib.ListN.{length, take, drop, get_or, drop_of_length-le, length-take, length-drop}
use lib.Seq.{take-length}
use Rattle.base.specs.inner.Back.{PutBack}
use Rattle.base.proofs.Backs.{back_none, back_length}
use Rattle.element.specs.Form.{shortest, series_form}
use Rattle.tcap.specs.Record.{blank_row}
use Rattle.tcap.specs.Verdict.{row_lies}
use Rattle.layout.specs.Layout.{is_row, row_in, rows_in}
use Rattle.unpack.proofs.Rows.{rows_length, row_at}
use Rattle.write_check_row.proofs.Chunks.{chunks, part_row, part_is_row}
use Rattle.write_row.proofs.Rows.{every_at, row_is, rows_octets, room_row, back_row, one_more, fewer_left, last_row, last_there}
use Rattle.write_row.proofs.back_rows.Goals as goal

pub loop-row-init : goal.loop-row-init
unfolding series_form shortest
loop-row-init c =
    let l = c.args.octets.now in
    let n = c.args.count in
    let rows = rows_in n (drop 44 l) in
    let e : c.into_iter-row-iterator.result.iter.rest.now ≡ take n c.as_chunks.result.0.now = cc in
    let k : length (take n c.as_chunks.result.0.now) ≡ n = omega (arith, length-take n c.as_chunks.result.0.now, c.as_chunks.ensures.front_len, length-drop 44 l, c.requires.in_bounds) in
    record {
      left = rw (e, ← c.as_chunks.ensures.front) (sym (take-length (take n c.as_chunks.result.0.now)));
      put = rw (e, k, drop_of_length-le rows {i = n} (omega (arith, rows_length n (drop 44 l)))) (back_none _ _ c.requires.room.within);
    }

pub back_row-o-requires : goal.back_row-o-requires
back_row-o-requires c =
    let l = c.args.octets.now in
    let n = c.args.count in
    let m = c.args.material.now in
    let rows = rows_in n (drop 44 l) in
    let rest = c.loop-row.row-iterator.iter.rest.now in
    let fewer = c.next.new.self.iter.rest.now in
    let i = length fewer in
    let s : rest ≡ fewer ++ (c.in-Some.row.now ∷ []) = c.in-Some.ensures.steps in
    let b : i < n = omega (arith, last_there (take n (chunks l)) rest fewer c.in-Some.row.now s c.loop-row.invariant.left, length-take n (chunks l)) in
    let h : i < length rows = omega (arith, rows_length n (drop 44 l)) in
    let p : PutBack c.args.out.now c.args.at (rows_octets m (drop (suc i) rows)) c.loop-row.o c.loop-row.out = rw (one_more (take n (chunks l)) rest fewer c.in-Some.row.now s c.loop-row.invariant.left) at c.loop-row.invariant.put in
    let last = last_row (take n (chunks l)) rest fewer c.in-Some.row.now s c.loop-row.invariant.left in
    let here : row_in c.in-Some.row.now ≡ get_or rows i blank_row = ap row_in last ∙ part_row l n i c.requires.in_bounds.0 c.requires.in_bounds.1 b (chunks l) refl ∙ row_at l n i blank_row b in
    record {
      row_listed = ap is_row last ∙ part_is_row l n i c.requires.in_bounds.0 c.requires.in_bounds.1 b (chunks l) refl ∙ row_is l n i b c.requires.rows_listed;
      within = rw here (every_at (λ w. row_lies (length m) w.kind) rows i blank_row h c.requires.rows_within);
      room = rw here (room_row m rows i blank_row h p c.requires.room);
    }

pub loop-row-preserved : goal.loop-row-preserved
loop-row-preserved c =
    let l = c.args.octets.now in
    let n = c.args.count in
    let m = c.args.material.now in
    let rows = rows_in n (drop 44 l) in
    let rest = c.loop-row.row-iterator.iter.rest.now in
    let fewer = c.next.new.self.iter.rest.now in
    let i = length fewer in
    let s : rest ≡ fewer ++ (c.in-Some.row.now ∷ []) = c.in-Some.ensures.steps in
    let b : i < n = omega (arith, last_there (take n (chunks l)) rest fewer c.in-Some.row.now s c.loop-row.invariant.left, length-take n (chunks l)) in
    let h : i < length rows = omega (arith, rows_length n (drop 44 l)) in
    let p : PutBack c.args.out.now c.args.at (rows_octets m (drop (suc i) rows)) c.loop-row.o c.loop-row.out = rw (one_more (take n (chunks l)) rest fewer c.in-Some.row.now s c.loop-row.invariant.left) at c.loop-row.invariant.put in
    let last = last_row (take n (chunks l)) rest fewer c.in-Some.row.now s c.loop-row.invariant.left in
    let here : row_in c.in-Some.row.now ≡ get_or rows i blank_row = ap row_in last ∙ part_row l n i c.requires.in_bounds.0 c.requires.in_bounds.1 b (chunks l) refl ∙ row_at l n i blank_row b in
    record {
      left = fewer_left (take n (chunks l)) rest fewer c.in-Some.row.now s c.loop-row.invariant.left;
      put = back_row m rows i blank_row h p (rw here at c.back_row-o.ensures);
    }

pub returns : goal.returns
returns c = rw c.in-None.ensures.steps.0 at c.loop-row.invariant.put

pub shape_of-out : goal.shape_of-out
shape_of-out c = back_length c.loop-row.invariant.put

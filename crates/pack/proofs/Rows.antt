-- Rows behind the head, one more at each turn. Assumes nothing.
use Prim.Native.Nat.{ℕ, suc, ◌+◌, ◌≤◌, ◌<◌, min}
use native.Mathlib.Omega.{arith}
use native.Mathlib.Numerals.{add-one}
use mathlib.Core.Path.{◌≡◌, refl, sym, ◌∙◌}
use mathlib.Core.Bool.{Bool, true, false}
use mathlib.Core.List.{List, [], ◌∷◌, ◌++◌, append-nil, append_assoc}
use lib.ListN.{length, take, get_or, length-take}
use lib.Seq.{take-suc, take_all}
use lib.Dec.{leb}
use borrow.Author.Tests.{leb-true, leb-false}
use Rattle.base.specs.inner.Put.{Put}
use Rattle.base.proofs.Puts.{put_then, put_length}
use Rattle.tcap.specs.declared.{Row.Row}
use Rattle.layout.specs.Layout.{head_size, row_size, most_rows, record_size, row_octets, rows_octets}
use Rattle.layout.proofs.RoundTrip.{rows_length}
use Rattle.pack.proofs.Rooms.{put_room}

rows_more : (rs : List Row) (r : Row) → rows_octets (rs ++ (r ∷ [])) ≡ rows_octets rs ++ row_octets r
unfolding rows_octets
rows_more [] r = append-nil (row_octets r)
rows_more (w ∷ rs) r = rw (rows_more rs r) (sym (append_assoc (row_octets w) (rows_octets rs) (row_octets r)))

module _ (rows : List Row) (k : ℕ) where
  -- a turn of the loop
  pub rows_step : (d : Row) {old : List ℕ} {at : ℕ} {o : ℕ} {e : List ℕ} {q : ℕ} {f : List ℕ} → k < length rows → Put old at (rows_octets (take k rows)) o e → Put e o (row_octets (get_or rows k d)) q f → Put old at (rows_octets (take (k + 1) rows)) q f
  rows_step d h p n = rw (add-one k, take-suc rows k d h, rows_more (take k rows) (get_or rows k d)) (put_then p n)

  -- behind the head there is room for the next of sixteen
  pub row_room : {d s : List ℕ} {o : ℕ} {e : List ℕ} {q : ℕ} {f : List ℕ} → Put d 0 s o e → length s ≡ head_size → record_size ≤ length d → k < most_rows → Put e o (rows_octets (take k rows)) q f → q + row_size ≤ length f
  row_room p l h i n = put_room n row_size (omega (arith, p.ends, put_length p, rows_length (take k rows), length-take k rows))

-- sixteen or more are all
pub looked_all : (rows : List Row) (n k : ℕ) → length rows ≡ most_rows → k ≡ min n most_rows → take k rows ≡ take (min n (suc most_rows)) rows
looked_all rows n k h e = by (leb n most_rows) refl
  where
    by : (b : Bool) → leb n most_rows ≡ b → take k rows ≡ take (min n (suc most_rows)) rows
    by true f =
        let l = leb-true n most_rows f in
        let z : k ≡ min n (suc most_rows) = omega arith in
        rw z
    by false f =
        let l = leb-false n most_rows f in
        take_all k rows (omega arith) ∙ sym (take_all (min n (suc most_rows)) rows (omega arith))

-- One row more of those that are looked at or held, and each row by its number. Assumes nothing.
use Prim.Native.Nat.{ℕ, zero, suc, ◌+◌, ◌-◌, ◌*◌, ◌≤◌, ◌<◌}
use native.Mathlib.Omega.{arith}
use native.Mathlib.Numerals.{add-one}
use mathlib.Core.Path.{◌≡◌, refl, sym, ap, ◌∙◌}
use mathlib.Core.Bool.{true, false}
use mathlib.Core.List.{List, [], ◌∷◌, ◌++◌}
use lib.ListN.{length, take, drop, get_or, set, replicate, length-drop}
use lib.Seq.{set_at, append_snoc, drop-drop}
use Rattle.std.specs.Simd.{first_chunks}
use Rattle.std.proofs.lemmas.List.{get_or-take}
use Rattle.tcap.specs.declared.{Row.Row}
use Rattle.tcap.specs.Record.{blank_row}
use Rattle.layout.specs.Layout.{head_size, row_size, most_rows, record_size, is_row, row_in, are_rows, rows_in, rows_held}
use Rattle.unpack.proofs.Chunks.{chunk_at, row_kept}

module _ (l : List ℕ) where
  -- from row i on
  abbrev pub rows_from : ℕ → List ℕ
  rows_from i = drop (head_size + i * row_size) l

  -- a row below sixteen is there whole
  pub row_room : (i : ℕ) → record_size ≤ length l → i < most_rows → row_size ≤ length (rows_from i)
  row_room i h k = rw (length-drop (head_size + i * row_size) l) (omega arith)

  next_row : (i : ℕ) → drop row_size (rows_from i) ≡ rows_from (i + 1)
  next_row i = let e : head_size + i * row_size + row_size ≡ head_size + (i + 1) * row_size = omega arith in drop-drop row_size (head_size + i * row_size) l ∙ ap (λ (k : ℕ). drop k l) e

  module _ (n i : ℕ) where
    one_less : i < n → n - i ≡ suc (n - (i + 1))
    one_less h = omega arith

    pub are_step : i < n → is_row (rows_from i) ≡ true → are_rows (n - i) (rows_from i) ≡ are_rows (n - (i + 1)) (rows_from (i + 1))
    unfolding are_rows
    are_step h t = rw (one_less h, t, next_row i)

    pub are_stop : i < n → is_row (rows_from i) ≡ false → are_rows (n - i) (rows_from i) ≡ false
    unfolding are_rows
    are_stop h t = rw (one_less h, t)

    pub are_end : n ≤ i → are_rows (n - i) (rows_from i) ≡ true
    unfolding are_rows
    are_end h = let e : n - i ≡ 0 = omega arith in rw e

pub rows_length : (i : ℕ) (m : List ℕ) → length (rows_in i m) ≡ i
unfolding rows_in
rows_length zero m = refl
rows_length (suc i) m = ap suc (rows_length i (drop row_size m))

rows_nth : (n i : ℕ) (m : List ℕ) (d : Row) → i < n → get_or (rows_in n m) i d ≡ row_in (drop (i * row_size) m)
unfolding rows_in
rows_nth zero i m d h = absurd (omega arith)
rows_nth (suc n) zero m d h = refl
rows_nth (suc n) (suc i) m d h = let e : row_size + i * row_size ≡ suc i * row_size = omega arith in rows_nth n i (drop row_size m) d (omega arith) ∙ ap row_in (drop-drop (i * row_size) row_size m ∙ ap (λ (k : ℕ). drop k m) e)

-- row i, of n
pub row_at : (l : List ℕ) (n i : ℕ) (d : Row) → i < n → row_in (rows_from l i) ≡ get_or (rows_in n (drop head_size l)) i d
row_at l n i d h = sym (rows_nth n i (drop head_size l) d h ∙ ap row_in (drop-drop (i * row_size) head_size l))

-- A row more, taken from the octets

rows_more : (i : ℕ) (m : List ℕ) → rows_in (suc i) m ≡ rows_in i m ++ (row_in (drop (i * row_size) m) ∷ [])
unfolding rows_in
rows_more zero m = refl
rows_more (suc i) m = let e : row_size + i * row_size ≡ suc i * row_size = omega arith in ap (λ (t : List Row). row_in m ∷ t) (rows_more i (drop row_size m) ∙ ap (λ (t : List ℕ). rows_in i (drop row_size m) ++ (row_in t ∷ [])) (drop-drop (i * row_size) row_size m ∙ ap (λ (k : ℕ). drop k m) e))

-- stored where the first blank row was
pub rows_step : (k : ℕ) (l : List ℕ) (c i : ℕ) → i < most_rows → i < c → i < k → set (rows_held i l) i (row_in (get_or (take c (first_chunks row_size k l)) i [])) ≡ rows_held (i + 1) l
unfolding rows_held
rows_step k l c i h below there =
    let e : most_rows - i ≡ suc (most_rows - (i + 1)) = omega arith in
    let w : row_in (get_or (take c (first_chunks row_size k l)) i []) ≡ row_in (drop (i * row_size) l) = rw (get_or-take c (first_chunks row_size k l) i [] below, chunk_at k i l there) (row_kept (drop (i * row_size) l)) in
    rw (w, e, add-one i, rows_more i l, append_snoc)
    (set_at (rows_in i l) blank_row (replicate (most_rows - suc i) blank_row) (row_in (drop (i * row_size) l)) i (rows_length i l))

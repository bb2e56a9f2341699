-- A loop over rows from the last to the first: what each turn asks and adds. Assumes nothing.
use Prim.Native.Nat.{ℕ, zero, suc, ◌+◌, ◌*◌, ◌≤◌, ◌<◌}
use native.Mathlib.Omega.{arith}
use mathlib.Core.Path.{◌≡◌, refl, sym, ap, ◌∙◌}
use mathlib.Core.Bool.{Bool, true, and-eq-true_iff}
use mathlib.Core.List.{List, [], ◌∷◌, ◌++◌}
use lib.ListN.{length, take, drop, get_or, length-append, length-take}
use lib.Seq.{drop-cons, drop-drop, take_at, take-take, get_or-append_seam}
use Rattle.std.proofs.lemmas.List.{get_or-take}
use Rattle.base.specs.inner.Back.{Room, PutBack}
use Rattle.base.proofs.Backs.{room_next, back_then}
use Rattle.element.specs.Form.{shortest, series_form}
use Rattle.tcap.specs.declared.Row.{Row}
use Rattle.tcap.specs.Verdict.{every}
use Rattle.write_check_row.specs.Forms.{row_form, octets_of}
use Rattle.layout.specs.Layout.{head_size, row_size, is_row, are_rows}
use Rattle.unpack.proofs.Rows.{rows_from}

pub every_at : (f : Row → Bool) (rows : List Row) (i : ℕ) (d : Row) → i < length rows → every f rows ≡ true → f (get_or rows i d) ≡ true
unfolding every
every_at f [] i d l e = absurd (omega arith)
every_at f (r ∷ rows) zero d l e = ((and-eq-true_iff (f r) (every f rows)).0 e).0
every_at f (r ∷ rows) (suc i) d l e = every_at f rows i d (omega arith) ((and-eq-true_iff (f r) (every f rows)).0 e).1

rows_are_lem : (n i : ℕ) (m : List ℕ) → i < n → are_rows n m ≡ true → is_row (drop (i * row_size) m) ≡ true
unfolding are_rows
rows_are_lem zero i m h e = absurd (omega arith)
rows_are_lem (suc n) zero m h e = ((and-eq-true_iff (is_row m) (are_rows n (drop row_size m))).0 e).0
rows_are_lem (suc n) (suc i) m h e =
    let k : row_size + i * row_size ≡ suc i * row_size = omega arith in
    sym (ap is_row (drop-drop (i * row_size) row_size m ∙ ap (λ (j : ℕ). drop j m) k)) ∙ rows_are_lem n i (drop row_size m) (omega arith) ((and-eq-true_iff (is_row m) (are_rows n (drop row_size m))).0 e).1

pub row_is : (l : List ℕ) (n i : ℕ) → i < n → are_rows n (drop head_size l) ≡ true → is_row (rows_from l i) ≡ true
row_is l n i h e = sym (ap is_row (drop-drop (i * row_size) head_size l)) ∙ rows_are_lem n i (drop head_size l) h e

module _ (m : List ℕ) where
  abbrev pub rows_octets : List Row → List ℕ
  rows_octets rows = octets_of (series_form (row_form m) rows)

  rows_drop : (rows : List Row) (k : ℕ) → length (rows_octets (drop k rows)) ≤ length (rows_octets rows)
  unfolding series_form shortest
  rows_drop rows zero = omega arith
  rows_drop [] (suc k) = omega arith
  rows_drop (r ∷ rows) (suc k) = omega (arith, rows_drop rows k, length-append (octets_of (row_form m r)) (rows_octets rows))

  -- the rows behind row k are there
  module _ (rows : List Row) (k : ℕ) (b : Row) (h : k < length rows) {old : List ℕ} {at : ℕ} {o : ℕ} {e : List ℕ} (p : PutBack old at (rows_octets (drop (suc k) rows)) o e) where
    rows_cons : rows_octets (drop k rows) ≡ octets_of (row_form m (get_or rows k b)) ++ rows_octets (drop (suc k) rows)
    unfolding series_form shortest
    rows_cons = rw (drop-cons rows k b h)

    pub room_row : Room old at (rows_octets rows) → Room e o (octets_of (row_form m (get_or rows k b)))
    room_row r =
        let from : Room old at (rows_octets (drop k rows)) = record { fits = omega (arith, rows_drop rows k, r.fits); within = r.within; low = r.low } in
        room_next p _ (rw rows_cons at from)

    pub back_row : {q : ℕ} {f : List ℕ} → PutBack e o (octets_of (row_form m (get_or rows k b))) q f → PutBack old at (rows_octets (drop k rows)) q f
    back_row n = rw rows_cons (back_then p n)

-- The last of the rows that are left

module _ (parts rest fewer : List (List ℕ)) (row : List ℕ) (e : rest ≡ fewer ++ (row ∷ [])) (h : rest ≡ take (length rest) parts) where
  pub one_more : length rest ≡ suc (length fewer)
  one_more = omega (arith, ap length e, length-append fewer (row ∷ []))

  whole : rest ≡ take (suc (length fewer)) parts
  whole = h ∙ ap (λ (k : ℕ). take k parts) one_more

  pub fewer_left : fewer ≡ take (length fewer) parts
  fewer_left = sym (take_at fewer (row ∷ []) (length fewer) refl) ∙ ap (take (length fewer)) (sym e ∙ whole) ∙ take-take (length fewer) (suc (length fewer)) parts (omega arith)

  pub last_row : row ≡ get_or parts (length fewer) []
  last_row = sym (get_or-append_seam fewer row [] []) ∙ ap (λ (l : List (List ℕ)). get_or l (length fewer) []) (sym e ∙ whole) ∙ get_or-take (suc (length fewer)) parts (length fewer) [] (omega arith)

  pub last_there : length fewer < length parts
  last_there = omega (arith, one_more, ap length whole, length-take (suc (length fewer)) parts)

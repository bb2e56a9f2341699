-- A row's line after those before it. Assumes nothing.
use Prim.Native.Nat.{ℕ, suc, ◌+◌, ◌<◌}
use native.Mathlib.Omega.{arith}
use native.Mathlib.Numerals.{add-one}
use native.Mathlib.Nat.{add-zero, zero-add, add-suc, suc-add}
use mathlib.Core.Path.{◌≡◌, sym, ap, ◌∙◌}
use mathlib.Core.List.{List, [], ◌∷◌, ◌++◌, append_assoc, append-nil}
use lib.ListN.{length, take, get_or}
use lib.Seq.{take-suc, length-take-le}
use Rattle.base.specs.inner.Put.{Put}
use Rattle.base.proofs.Puts.{put_then}
use Rattle.tcap.specs.declared.Row.{Row}
use Rattle.listing_lines.specs.Lines.{row_text, rows_text}

module _ (m : List ℕ) where
  rows_append : (i : ℕ) (a b : List Row) → rows_text m i (a ++ b) ≡ rows_text m i a ++ rows_text m (i + length a) b
  unfolding rows_text
  rows_append i [] b = ap (λ (k : ℕ). rows_text m k b) (sym (add-zero i))
  rows_append i (r ∷ a) b = rw (add-suc, ← suc-add, append_assoc) (ap (λ (t : List ℕ). row_text m i r ++ t) (rows_append (suc i) a b))

  -- a turn of the loop
  pub rows_step : (rows : List Row) (i : ℕ) (d : Row) {old : List ℕ} {at : ℕ} {o : ℕ} {e : List ℕ} {q : ℕ} {f : List ℕ} → i < length rows → Put old at (rows_text m 0 (take i rows)) o e → Put e o (row_text m i (get_or rows i d)) q f → Put old at (rows_text m 0 (take (i + 1) rows)) q f
  unfolding rows_text
  rows_step rows i d h p n =
      let k : 0 + length (take i rows) ≡ i = zero-add (length (take i rows)) ∙ length-take-le i rows (omega arith) in
      rw (add-one i, take-suc rows i d h, rows_append 0 (take i rows) (get_or rows i d ∷ []), k, append-nil) (put_then p n)

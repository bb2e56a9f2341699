-- One row more: each test of every row, and the size of them all. Assumes nothing.
use Rattle.std.specs.Prelude.{Ok}
use Prim.Native.Nat.{ℕ, ◌+◌, ◌<◌}
use native.Mathlib.Nat.{zero-add, add-zero, add_assoc}
use native.Mathlib.Numerals.{add-one}
use mathlib.Core.Path.{◌≡◌, refl, sym, ap, ◌∙◌}
use mathlib.Core.Bool.{Bool, ◌&&◌, and-true, and_assoc}
use mathlib.Core.List.{List, [], ◌∷◌, ◌++◌}
use lib.ListN.{length, take, get_or}
use lib.Seq.{take-suc}
use Rattle.element.specs.Form.{Form, shortest, series_form}
use Rattle.tcap.specs.declared.Row.{Row}
use Rattle.tcap.specs.Verdict.{every, row_parts_fit, row_ranges, row_lies, row_shaped}
use Rattle.write_check_row.specs.Forms.{row_form}
use Rattle.write_check_row.specs.Judged.{rank_of, judged, joined, size_of, rows_rank, row_judged, rows_judged}
use Rattle.write_check_row.proofs.Joining.{join, then_size, exact_size}

every_more : (f : Row → Bool) (rs : List Row) (r : Row) → every f (rs ++ (r ∷ [])) ≡ every f rs && f r
unfolding every
every_more f [] r = and-true (f r)
every_more f (w ∷ rs) r = rw (every_more f rs r) (sym (and_assoc (f w) (every f rs) (f r)))

series_more : (f : Row → Form) (rs : List Row) (r : Row) → size_of (series_form f (rs ++ (r ∷ []))) ≡ size_of (series_form f rs) + size_of (f r)
unfolding series_form
series_more f [] r = rw (then_size, exact_size, add-zero, zero-add)
series_more f (w ∷ rs) r = rw (then_size, then_size, series_more f rs r) (sym (add_assoc (size_of (f w)) (size_of (series_form f rs)) (size_of (f r))))

module _ (m : List ℕ) where
  pub rows_none : Ok 0 ≡ rows_judged m []
  unfolding rows_rank every series_form shortest rank_of judged
  rows_none = refl

  rows_more : (rs : List Row) (r : Row) → joined (rows_judged m rs) (row_judged m r) ≡ rows_judged m (rs ++ (r ∷ []))
  unfolding rows_rank
  rows_more rs r =
      rw (join, every_more (λ w. row_parts_fit w.id w.kind) rs r, every_more (λ w. row_ranges w.kind) rs r, every_more (λ w. row_lies (length m) w.kind) rs r, every_more (λ w. row_shaped m w.kind) rs r, series_more (row_form m) rs r)

  -- a turn of the loop
  pub rows_step : (rows : List Row) (i : ℕ) (d : Row) → i < length rows → joined (rows_judged m (take i rows)) (row_judged m (get_or rows i d)) ≡ rows_judged m (take (i + 1) rows)
  rows_step rows i d h = rows_more (take i rows) (get_or rows i d) ∙ ap (rows_judged m) (sym (take-suc rows i d h) ∙ ap (λ (n : ℕ). take n rows) (sym (add-one i)))

-- A row from its 24 octets, which are a chunk of those of the rows. Assumes nothing.
use Prim.Native.Nat.{ℕ, zero, suc, ◌+◌, ◌*◌, ◌≤◌, ◌<◌}
use native.Mathlib.Omega.{arith}
use mathlib.Core.Path.{◌≡◌, refl, ap, ◌∙◌}
use mathlib.Core.List.{List, []}
use lib.ListN.{take, drop, get_or}
use lib.Seq.{drop-drop}
use Rattle.std.specs.Simd.{first_chunks}
use Rattle.std.proofs.lemmas.List.{get_or-take}
use Rattle.element.proofs.Local.{take_inner}
use Rattle.layout.specs.Layout.{row_size, number_at, span_at, code_in, returned_in, kind_in, row_in}

-- chunk i, of k that are as long as a row
pub chunk_at : (k i : ℕ) (m : List ℕ) → i < k → get_or (first_chunks row_size k m) i [] ≡ take row_size (drop (i * row_size) m)
chunk_at zero i m h = absurd (omega arith)
chunk_at (suc k) zero m h = refl
chunk_at (suc k) (suc i) m h = let e : row_size + i * row_size ≡ suc i * row_size = omega arith in chunk_at k i (drop row_size m) (omega arith) ∙ ap (take row_size) (drop-drop (i * row_size) row_size m ∙ ap (λ (j : ℕ). drop j m) e)

-- the octets of a row tell it
module _ (m : List ℕ) where
  pub octet_kept : (k : ℕ) → k < row_size → get_or (take row_size m) k 0 ≡ get_or m k 0
  octet_kept k h = get_or-take row_size m k 0 h

  number_kept : (k : ℕ) → k + 4 ≤ row_size → take 4 (drop k (take row_size m)) ≡ take 4 (drop k m)
  number_kept k h = take_inner k 4 row_size m h

  pub row_kept : row_in (take row_size m) ≡ row_in m
  unfolding row_in kind_in returned_in code_in span_at number_at
  row_kept = simp (octet_kept 0 (omega arith), octet_kept 1 (omega arith), octet_kept 2 (omega arith), octet_kept 3 (omega arith), octet_kept 4 (omega arith), octet_kept 5 (omega arith), octet_kept 6 (omega arith), octet_kept 7 (omega arith), number_kept 8 (omega arith), number_kept 12 (omega arith), number_kept 16 (omega arith), number_kept 20 (omega arith))

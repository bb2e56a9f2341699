-- A row from its 24 octets, which are a chunk of those of a record. Assumes nothing.
use Prim.Native.Nat.{ℕ, ◌-◌, ◌*◌, ◌/◌, ◌≤◌, ◌<◌}
use native.Mathlib.Omega.{arith}
use mathlib.Core.Path.{◌≡◌, ap, ◌∙◌}
use mathlib.Core.List.{List, []}
use lib.ListN.{length, take, drop, get_or, length-drop}
use lib.Seq.{drop-drop, take_all}
use Rattle.std.specs.Simd.{first_chunks}
use Rattle.std.proofs.lemmas.List.{get_or-take}
use Rattle.layout.specs.Layout.{head_size, row_size, record_size, is_coded, is_returned, is_unlinked, is_kind, is_row, row_in}
use Rattle.unpack.proofs.Rows.{rows_from}
use Rattle.unpack.proofs.Chunks.{chunk_at, octet_kept, row_kept}

-- its 24 octets tell a row
is_kept : (m : List ℕ) → is_row (take row_size m) ≡ is_row m
unfolding is_row is_kind is_unlinked is_returned is_coded
is_kept m = simp (octet_kept m 0 (omega arith), octet_kept m 1 (omega arith), octet_kept m 3 (omega arith), octet_kept m 5 (omega arith), octet_kept m 6 (omega arith))

-- behind the head of a record
abbrev behind : List ℕ → List ℕ
behind o = take (length o - head_size) (drop head_size o)

abbrev pub chunks : List ℕ → List (List ℕ)
chunks o = first_chunks row_size (length (behind o) / row_size) (behind o)

-- row i of a record, of those that are looked at
module _ (o : List ℕ) (n i : ℕ) (long : record_size ≤ length o) (most : n ≤ 16) (h : i < n) (rows : List (List ℕ)) (e : rows ≡ chunks o) where
  part_is : get_or (take n rows) i [] ≡ take row_size (rows_from o i)
  part_is =
      let all : behind o ≡ drop head_size o = take_all (length o - head_size) (drop head_size o) (omega (arith, length-drop head_size o)) in
      let k : i < length (drop head_size o) / row_size = omega (arith, length-drop head_size o) in
      get_or-take n rows i [] h ∙ ap (λ (l : List (List ℕ)). get_or l i []) (e ∙ ap (λ (l : List ℕ). first_chunks row_size (length l / row_size) l) all) ∙ chunk_at (length (drop head_size o) / row_size) i (drop head_size o) k ∙ ap (take row_size) (drop-drop (i * row_size) head_size o)

  pub part_row : row_in (get_or (take n rows) i []) ≡ row_in (rows_from o i)
  part_row = ap row_in part_is ∙ row_kept (rows_from o i)

  pub part_is_row : is_row (get_or (take n rows) i []) ≡ is_row (rows_from o i)
  part_is_row = ap is_row part_is ∙ is_kept (rows_from o i)

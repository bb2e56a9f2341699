-- What a walk over the entries finds. Assumes nothing.
use Rattle.std.specs.Prelude.{Some}
use Prim.Native.Nat.{ℕ, zero, suc, ◌+◌, ◌*◌, ◌<◌, ◌≤◌}
use native.Mathlib.Omega.{arith}
use native.Mathlib.Nat.{add-zero}
use mathlib.Core.Path.{◌≡◌, refl, sym, ap, ◌∙◌}
use mathlib.Core.Bool.{Bool, true, false}
use mathlib.Core.List.{List}
use lib.ListN.{length, drop}
use lib.Seq.{drop-drop}
use Rattle.open_transactions.specs.Table.{holds, find_from}
use Rattle.entry_octets.proofs.Putting.{Octet}
use Rattle.entry_octets.specs.inner.Words.{word_of, held_in, passed_in}
use Rattle.table_layout.specs.Octets.{entry_of, entries_in}
use Rattle.table_layout.proofs.Entries.{at_here, at_next, held_holds, dropped}

module _ (l id : List ℕ) (h : Octet l) (k : Octet id) where
  abbrev passed : ℕ → ℕ → ℕ
  passed i n = passed_in (drop (i * 12) l) (word_of id) (length id) n

  held : (i : ℕ) {b : Bool} → held_in (drop (i * 12) l) (word_of id) (length id) ≡ b → holds id (entry_of (drop (i * 12) l)) ≡ b
  held i e = sym (held_holds (drop (i * 12) l) id (dropped l (i * 12) h) k) ∙ e

  further : (i n : ℕ) → held_in (drop (i * 12) l) (word_of id) (length id) ≡ false → passed i (suc n) ≡ suc (passed (i + 1) n)
  unfolding passed_in
  further i n e =
      let q : i * 12 + 12 ≡ (i + 1) * 12 = omega arith in
      let z : drop 12 (drop (i * 12) l) ≡ drop ((i + 1) * 12) l = drop-drop 12 (i * 12) l ∙ rw q in
      rw (e, z)

  walk_here : (n i : ℕ) → i + n ≤ 64 → passed i n < n → find_from (holds id) i (drop i (entries_in l)) ≡ Some (i + passed i n)
  unfolding passed_in
  walk_here zero i s t = absurd (omega (arith, t))
  walk_here (suc n) i s t = by_held (held_in (drop (i * 12) l) (word_of id) (length id)) refl (walk_here n (i + 1))
    where
      by_held : (b : Bool) → held_in (drop (i * 12) l) (word_of id) (length id) ≡ b → (i + 1 + n ≤ 64 → passed (i + 1) n < n → find_from (holds id) (i + 1) (drop (i + 1) (entries_in l)) ≡ Some (i + 1 + passed (i + 1) n)) → find_from (holds id) i (drop i (entries_in l)) ≡ Some (i + passed i (suc n))
      by_held true e r = rw (e, add-zero) (at_here (holds id) l i (omega (arith, s)) (held i e))
      by_held false e r =
          let q = further i n e in
          let z : i + 1 + passed (i + 1) n ≡ i + passed i (suc n) = omega (arith, q) in
          at_next (holds id) l i (omega (arith, s)) (held i e) ∙ r (omega (arith, s)) (omega (arith, t, q)) ∙ ap Some z

  walk_past : (n i : ℕ) → i + n ≤ 64 → n ≤ passed i n → find_from (holds id) i (drop i (entries_in l)) ≡ find_from (holds id) (i + n) (drop (i + n) (entries_in l))
  unfolding passed_in
  walk_past zero i s t = rw add-zero
  walk_past (suc n) i s t = by_held (held_in (drop (i * 12) l) (word_of id) (length id)) refl (walk_past n (i + 1))
    where
      by_held : (b : Bool) → held_in (drop (i * 12) l) (word_of id) (length id) ≡ b → (i + 1 + n ≤ 64 → n ≤ passed (i + 1) n → find_from (holds id) (i + 1) (drop (i + 1) (entries_in l)) ≡ find_from (holds id) (i + 1 + n) (drop (i + 1 + n) (entries_in l))) → find_from (holds id) i (drop i (entries_in l)) ≡ find_from (holds id) (i + suc n) (drop (i + suc n) (entries_in l))
      by_held true e r = let g : suc n ≤ 0 = rw e at t in absurd (omega (arith, g))
      by_held false e r =
          let q = further i n e in
          let z : i + 1 + n ≡ i + suc n = omega arith in
          at_next (holds id) l i (omega (arith, s)) (held i e) ∙ r (omega (arith, s)) (omega (arith, t, q)) ∙ rw z

-- the same of what the code has: eight entries from one on
module _ (l id : List ℕ) (i : ℕ) {w r : ℕ} {part : List ℕ} (h : Octet l) (k : Octet id) (s : i + 8 ≤ 64) (q : w ≡ word_of id) (e : part ≡ drop (i * 12) l) (p : r ≡ passed_in part w (length id) 8) where
  told : r ≡ passed_in (drop (i * 12) l) (word_of id) (length id) 8
  told = p ∙ rw (q, e)

  pub walk_found : r < 8 → find_from (holds id) i (drop i (entries_in l)) ≡ Some (i + r)
  walk_found t = rw told (walk_here l id h k 8 i s (omega (arith, t, told)))

  pub walk_on : 8 ≤ r → find_from (holds id) i (drop i (entries_in l)) ≡ find_from (holds id) (i + 8) (drop (i + 8) (entries_in l))
  walk_on t = walk_past l id h k 8 i s (omega (arith, t, told))

-- The entries that stand before the first under an ID. Assumes nothing.
use Prim.Native.Nat.{ℕ, zero, suc, ◌+◌, ◌*◌, ◌<◌, ◌≤◌}
use native.Mathlib.Omega.{arith}
use mathlib.Core.Path.{◌≡◌, refl, ap, ◌∙◌}
use mathlib.Core.Bool.{Bool, true, false}
use mathlib.Core.List.{List}
use lib.ListN.{drop}
use lib.Seq.{drop-drop}
use Rattle.entry_octets.specs.inner.Words.{held_in, passed_in}

module _ (w n : ℕ) where
  abbrev pub held : List ℕ → ℕ → Bool
  held c i = held_in (drop (i * 12) c) w n

  further : (c : List ℕ) (j : ℕ) → held (drop 12 c) j ≡ held c (suc j)
  further c j = let q : 12 + j * 12 ≡ suc j * 12 = omega arith in rw (drop-drop (j * 12) 12 c, q)

  pub passed_at : (c : List ℕ) (m i : ℕ) → i < m → ((j : ℕ) → j < i → held c j ≡ false) → held c i ≡ true → passed_in c w n m ≡ i
  unfolding passed_in
  passed_at c zero i l h e = absurd (omega arith)
  passed_at c (suc m) zero l h e = rw e
  passed_at c (suc m) (suc i) l h e = rw (h 0 (omega arith)) (ap suc (passed_at (drop 12 c) m i (omega arith) (λ j k. further c j ∙ h (suc j) (omega (arith, k))) (further c i ∙ e)))

  pub passed_all : (c : List ℕ) (m : ℕ) → ((j : ℕ) → j < m → held c j ≡ false) → passed_in c w n m ≡ m
  unfolding passed_in
  passed_all c zero h = refl
  passed_all c (suc m) h = rw (h 0 (omega arith)) (ap suc (passed_all (drop 12 c) m (λ j k. further c j ∙ h (suc j) (omega (arith, k)))))

  pub passed_most : (c : List ℕ) (m : ℕ) → passed_in c w n m ≤ m
  unfolding passed_in
  passed_most c zero = omega arith
  passed_most c (suc m) = by_held (held_in c w n) refl (passed_most (drop 12 c) m)
    where
      by_held : (b : Bool) → held_in c w n ≡ b → passed_in (drop 12 c) w n m ≤ m → passed_in c w n (suc m) ≤ suc m
      by_held true e h = rw e (omega arith)
      by_held false e h = rw e (omega (arith, h))

-- The two names by their octets, of which all but the sixth are the same. Assumes nothing.
use Prim.Native.Nat.{ℕ}
use mathlib.Core.Path.{◌≡◌, refl, sym, ap, ◌∙◌}
use mathlib.Core.Bool.{Bool, true, false, ◌&&◌, false≢true}
use mathlib.Core.List.{List, [], ◌∷◌}
use native.Mathlib.Omega.{arith}
use lib.ListN.{length, get_or}
use lib.Dec.{eqb}
use borrow.Author.Tests.{eq-eqb, ne_eqb, eqb-true}
use Rattle.base.specs.Value.{same}
use Rattle.base.proofs.Values.{same_equal}
use Rattle.tcap.specs.Meaning.{structured, unstructured}
use Rattle.tcap.specs.inner.Names.{common, kind_of, name_kind}

pub other_length : (s c : List ℕ) → (length c ≡ length s → ⊥) → same s c ≡ false
other_length s c h = by_test (same s c) refl
  where
    by_test : (b : Bool) → same s c ≡ b → b ≡ false
    by_test true e = absurd (h (ap length (same_equal s c e)))
    by_test false e = refl

pub eqb_turned : (a b : ℕ) (t : Bool) → eqb a b ≡ t → eqb b a ≡ t
eqb_turned a b true e = eq-eqb b a (sym (eqb-true a b e))
eqb_turned a b false e = ne_eqb b a (λ q. false≢true (sym e ∙ eq-eqb a b (sym q)))

-- The two names

reorder : (a b c d e f g : Bool) → (a && (b && (c && (d && (e && (f && (g && true))))))) ≡ ((a && (b && (c && (d && (e && g))))) && f)
reorder false b c d e f g = refl
reorder true false c d e f g = refl
reorder true true false d e f g = refl
reorder true true true false e f g = refl
reorder true true true true false f g = refl
reorder true true true true true false false = refl
reorder true true true true true false true = refl
reorder true true true true true true false = refl
reorder true true true true true true true = refl

-- names that differ in their sixth octet
pub seven : (x : ℕ) (c : List ℕ) → length c ≡ 7 → same (0x00 ∷ 0x11 ∷ 0x86 ∷ 0x05 ∷ 0x01 ∷ x ∷ 0x01 ∷ []) c ≡ (common c && eqb (get_or c 5 0) x)
unfolding same common
seven x [] h = let z : ◌≡◌ {A = ℕ} 0 7 = h in absurd (omega arith)
seven x (a ∷ []) h = let z : ◌≡◌ {A = ℕ} 1 7 = h in absurd (omega arith)
seven x (a ∷ b ∷ []) h = let z : ◌≡◌ {A = ℕ} 2 7 = h in absurd (omega arith)
seven x (a ∷ b ∷ c ∷ []) h = let z : ◌≡◌ {A = ℕ} 3 7 = h in absurd (omega arith)
seven x (a ∷ b ∷ c ∷ d ∷ []) h = let z : ◌≡◌ {A = ℕ} 4 7 = h in absurd (omega arith)
seven x (a ∷ b ∷ c ∷ d ∷ e ∷ []) h = let z : ◌≡◌ {A = ℕ} 5 7 = h in absurd (omega arith)
seven x (a ∷ b ∷ c ∷ d ∷ e ∷ f ∷ []) h = let z : ◌≡◌ {A = ℕ} 6 7 = h in absurd (omega arith)
seven x (a ∷ b ∷ c ∷ d ∷ e ∷ f ∷ g ∷ []) h =
    rw (eqb_turned a 0x00 _ refl, eqb_turned b 0x11 _ refl, eqb_turned c 0x86 _ refl, eqb_turned d 0x05 _ refl, eqb_turned e 0x01 _ refl, eqb_turned f x _ refl, eqb_turned g 0x01 _ refl)
    (reorder (eqb a 0x00) (eqb b 0x11) (eqb c 0x86) (eqb d 0x05) (eqb e 0x01) (eqb f x) (eqb g 0x01))
seven x (a ∷ b ∷ c ∷ d ∷ e ∷ f ∷ g ∷ i ∷ r) h = absurd (omega (arith, h))

module _ (c : List ℕ) where
  pub kind_short : (length c ≡ 7 → ⊥) → 0 ≡ name_kind c
  unfolding kind_of
  kind_short h = rw (other_length structured c h, other_length unstructured c h)

  module _ (h : length c ≡ 7) (b : Bool) (is_b : b ≡ common c) where
    pub kind_other : b ≡ false → 0 ≡ name_kind c
    unfolding kind_of
    kind_other e = rw (seven 0x01 c h, seven 0x02 c h, ← is_b, e)

    module _ (e : b ≡ true) where
      pub kind_structured : get_or c 5 0 ≡ 1 → 1 ≡ name_kind c
      unfolding kind_of
      kind_structured f = rw (seven 0x01 c h, ← is_b, e, eq-eqb (get_or c 5 0) 0x01 f)

      pub kind_unstructured : (get_or c 5 0 ≡ 1 → ⊥) → get_or c 5 0 ≡ 2 → 2 ≡ name_kind c
      unfolding kind_of
      kind_unstructured f g = rw (seven 0x01 c h, seven 0x02 c h, ← is_b, e, ne_eqb (get_or c 5 0) 0x01 f, eq-eqb (get_or c 5 0) 0x02 g)

      pub kind_outside : (get_or c 5 0 ≡ 1 → ⊥) → (get_or c 5 0 ≡ 2 → ⊥) → 0 ≡ name_kind c
      unfolding kind_of
      kind_outside f g = rw (seven 0x01 c h, seven 0x02 c h, ← is_b, e, ne_eqb (get_or c 5 0) 0x01 f, ne_eqb (get_or c 5 0) 0x02 g)

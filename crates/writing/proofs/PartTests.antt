-- The four tests of a part, and that each fails exactly if something is wrong with it. Assumes nothing.
use Prim.Native.Nat.{ℕ, ◌+◌, ◌<◌}
use native.Mathlib.Omega.{arith}
use mathlib.Core.Path.{◌≡◌, refl, sym, ◌∙◌}
use mathlib.Core.Logic.Iff
use mathlib.Core.Logic.{◌↔◌, ◌⊎◌, inl, inr, ⊎_elim}
use mathlib.Core.Bool.{Bool, true, false, not, ◌&&◌, and_assoc, false≢true}
use mathlib.Core.List.{List, [], ◌∷◌, ◌++◌}
use lib.ListN.{length}
use lib.Dec.{leb}
use borrow.Author.Tests.{leb-true, leb-false, not-true, not-false}
use Rattle.base.specs.Number.{holds}
use Rattle.base.specs.Value.{same}
use Rattle.primitive.specs.Primitive.{identifier_ok, most_identifier_octets}
use Rattle.tcap.specs.Meaning.{structured, unstructured}
use Rattle.tcap.specs.WellFormed.{most_transaction_id_octets, the93, left_at}
use Rattle.tcap.specs.Verdict.{ranges, lies, is_element, is_series, string_octets}
use Rattle.writing.specs.Reasons.{must, may, never, Wanted, transaction, identifier, outside, series, anything, element, Part, there, number, signed, string, Misfit, LengthOff, RangeOff, Shaped, EndOff, ShapeOff, Any}
use Rattle.writing.proofs.Testing.{element_is, series_is}

-- A test that fails just if something is wrong

pub record Tells (t : Bool) (Wrong : Type 0) : Type 0 where
  pub wrong : t ≡ false → Wrong
  pub right : t ≡ true → Wrong → ⊥

abbrev pub never_wrong : Tells true ⊥
never_wrong = record { wrong = λ e. absurd (false≢true (sym e)); right = λ e w. w }

pub tells_exactly : {t : Bool} {W : Type 0} → Tells t W → (t ≡ false) ↔ W
tells_exactly {t} {W} x = (x.wrong, λ w. by_test t refl w)
  where
    by_test : (b : Bool) → t ≡ b → W → t ≡ false
    by_test true e w = absurd (x.right e w)
    by_test false e w = e

pub both : {A B : Type 0} (a b : Bool) → Tells a A → Tells b B → Tells (a && b) (A ⊎ B)
both true b x y = record { wrong = λ e. inr (y.wrong e); right = λ e w. ⊎_elim (x.right refl) (y.right e) w }
both false b x y = record { wrong = λ e. inl (x.wrong refl); right = λ e w. absurd (false≢true e) }

-- of every part of a list
unfoldable pub whole : (Part → Bool) → List Part → Bool
whole f [] = true
whole f (p ∷ ps) = f p && whole f ps

pub whole_append : (f : Part → Bool) (ps qs : List Part) → whole f (ps ++ qs) ≡ (whole f ps && whole f qs)
unfolding whole
whole_append f [] qs = refl
whole_append f (p ∷ ps) qs = rw (whole_append f ps qs) (sym (and_assoc (f p) (whole f ps) (whole f qs)))

pub tells_any : {P : Part → Type 0} (f : Part → Bool) → ((p : Part) → Tells (f p) (P p)) → (ps : List Part) → Tells (whole f ps) (Any P ps)
unfolding whole Any
tells_any f h [] = never_wrong
tells_any f h (p ∷ ps) = both (f p) (whole f ps) (h p) (tells_any f h ps)

-- The four tests of a part

unfoldable pub fits : Part → Bool
fits (there must b) = b
fits (there may b) = true
fits (there never b) = not b
fits (number n most) = true
fits (signed k z) = true
fits (string w s) = true

unfoldable pub length_in : Wanted → ℕ → Bool
length_in transaction n = ranges 1 most_transaction_id_octets n
length_in identifier n = ranges 1 most_identifier_octets n
length_in outside n = ranges 1 most_identifier_octets n
length_in (element l) n = true
length_in series n = true
length_in anything n = true

unfoldable pub in_range : Part → Bool
in_range (there n b) = true
in_range (number n most) = leb n most
in_range (signed k z) = holds k z
in_range (string w s) = length_in w s.len

unfoldable pub shaped_as : Wanted → List ℕ → Bool
shaped_as transaction c = true
shaped_as identifier c = identifier_ok c
shaped_as outside c = identifier_ok c && (not (same structured c) && not (same unstructured c))
shaped_as (element l) c = is_element (left_at the93 l) c
shaped_as series c = is_series (left_at the93 7) c
shaped_as anything c = true

module _ (m : List ℕ) where
  unfoldable pub within : Part → Bool
  within (there n b) = true
  within (number n most) = true
  within (signed k z) = true
  within (string w s) = lies (length m) s

  unfoldable pub shaped : Part → Bool
  shaped (there n b) = true
  shaped (number n most) = true
  shaped (signed k z) = true
  shaped (string w s) = shaped_as w (string_octets m s)

-- Each tells what it is to tell

pub tells_not : {A : Type 0} (t : Bool) → A ↔ (t ≡ true) → Tells t (A → ⊥)
tells_not t x = record { wrong = λ e a. false≢true (sym e ∙ x.0 a); right = λ e n. n (x.1 e) }

pub fits_tells : (p : Part) → Tells (fits p) (Misfit p)
unfolding fits Misfit
fits_tells (there must b) = record { wrong = λ e. e; right = λ e w. false≢true (sym w ∙ e) }
fits_tells (there may b) = never_wrong
fits_tells (there never b) = record { wrong = not-false b; right = λ e w. false≢true (sym (not-true b e) ∙ w) }
fits_tells (number n most) = never_wrong
fits_tells (signed k z) = never_wrong
fits_tells (string w s) = never_wrong

pub most_tells : (n most : ℕ) → Tells (leb n most) (most < n)
most_tells n most = record { wrong = leb-false n most; right = λ e w. absurd (omega (arith, leb-true n most e)) }

pub between_tells : (a b n : ℕ) → Tells (ranges a b n) ((n < a) ⊎ (b < n))
unfolding ranges
between_tells a b n = both (leb a n) (leb n b) (most_tells a n) (most_tells n b)

pub length_tells : (w : Wanted) (n : ℕ) → Tells (length_in w n) (LengthOff w n)
unfolding length_in LengthOff
length_tells transaction n = between_tells 1 _ n
length_tells identifier n = between_tells 1 _ n
length_tells outside n = between_tells 1 _ n
length_tells (element l) n = never_wrong
length_tells series n = never_wrong
length_tells anything n = never_wrong

pub range_tells : (p : Part) → Tells (in_range p) (RangeOff p)
unfolding in_range RangeOff
range_tells (there n b) = never_wrong
range_tells (number n most) = most_tells n most
range_tells (signed k z) = record { wrong = λ e. e; right = λ e w. false≢true (sym w ∙ e) }
range_tells (string w s) = length_tells w s.len

pub outside_shape : (a b c : Bool) → ((a ≡ true) × (b ≡ false) × (c ≡ false)) ↔ ((a && (not b && not c)) ≡ true)
outside_shape true false false = (λ h. refl, λ e. (refl, refl, refl))
outside_shape true false true = (λ h. sym h.2, λ e. absurd (false≢true e))
outside_shape true true c = (λ h. sym h.1, λ e. absurd (false≢true e))
outside_shape false b c = (λ h. h.0, λ e. absurd (false≢true e))

pub shape_tells : (w : Wanted) (c : List ℕ) → Tells (shaped_as w c) (Shaped w c → ⊥)
unfolding shaped_as Shaped
shape_tells transaction c = tells_not true (λ u. refl, λ e. tt)
shape_tells identifier c = tells_not (identifier_ok c) Iff.rfl
shape_tells outside c = tells_not _ (outside_shape (identifier_ok c) (same structured c) (same unstructured c))
shape_tells (element l) c = tells_not _ (element_is (left_at the93 l) c)
shape_tells series c = tells_not _ (series_is (left_at the93 7) c)
shape_tells anything c = tells_not true (λ u. refl, λ e. tt)

module _ (m : List ℕ) where
  pub end_tells : (p : Part) → Tells (within m p) (EndOff m p)
  unfolding within EndOff lies
  end_tells (there n b) = never_wrong
  end_tells (number n most) = never_wrong
  end_tells (signed k z) = never_wrong
  end_tells (string w s) = most_tells (s.place + s.len) (length m)

  pub shaped_tells : (p : Part) → Tells (shaped m p) (ShapeOff m p)
  unfolding shaped ShapeOff string_octets
  shaped_tells (there n b) = never_wrong
  shaped_tells (number n most) = never_wrong
  shaped_tells (signed k z) = never_wrong
  shaped_tells (string w s) = shape_tells w (string_octets m s)

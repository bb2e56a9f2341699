-- One element, to its bottom, in octets of any number: document 01, "Elements".
-- Assumes nothing: these are definitions.
use Rattle.std.specs.Prelude.{ℕ, zero, suc, ◌/◌, ◌%◌, ◌≤◌, ◌<◌}
use mathlib.Core.{Path.◌≡◌, Logic.◌⊎◌, Bool.Bool, Bool.true, Bool.false, Bool.◌||◌, List.List, List.[], List.◌∷◌, List.◌++◌}
use lib.{ListN.length, ListN.drop, Dec.eqb}
use Rattle.base.specs.{Value.Every}
use Rattle.element.specs.{Form.exactly, Form.leaf_of, Form.around_of, Form.series_form, Form.Matches, Form.document01, Form.StandsFor}

-- bit F
unfoldable pub constructor_of : ℕ → Bool
constructor_of a = eqb (a / 32 % 2) 1

-- 11111 in A to E announces extension octets
unfoldable pub extended_of : ℕ → Bool
extended_of a = eqb (a % 32) 31

-- universal code 0, of either form, is no element
unfoldable pub code_zero : ℕ → Bool
code_zero a = eqb a 0 || eqb a 32

-- first octet and 0 to 3 extension octets, bit H set on all but the last; the first not 80, the code 31 or more
unfoldable pub IsTag : ℕ → List ℕ → Type 0
IsTag a [] = extended_of a ≡ false
IsTag a (x ∷ []) = (extended_of a ≡ true) × (31 ≤ x) × (x < 128)
IsTag a (x ∷ y ∷ []) = (extended_of a ≡ true) × (129 ≤ x) × (y < 128)
IsTag a (x ∷ y ∷ z ∷ []) = (extended_of a ≡ true) × (129 ≤ x) × (128 ≤ y) × (z < 128)
IsTag a (x ∷ y ∷ z ∷ w ∷ r) = ⊥

-- the octets m are one element whose first octet is a, with so many levels left for it
unfoldable pub IsElement : ℕ → ℕ → List ℕ → Type 0
IsElement zero a m = ⊥
IsElement (suc l) a m =
    (x : List ℕ) × IsTag a x × (code_zero a ≡ false)
    × (((constructor_of a ≡ false) × ((c : List ℕ) × Matches document01 (leaf_of (a ∷ x) c) m))
    ⊎ ((constructor_of a ≡ true) × ((ws : List (List ℕ)) × Every (λ w. (b : ℕ) × IsElement l b w) ws × Matches document01 (around_of (a ∷ x) (series_form exactly ws)) m)))

unfoldable pub Element : ℕ → List ℕ → Type 0
Element l m = (a : ℕ) × IsElement l a m

-- a series of elements of one tag
unfoldable pub SeriesOf : ℕ → ℕ → List ℕ → Type 0
SeriesOf a l m = (ws : List (List ℕ)) × Every (IsElement l a) ws × Matches document01 (series_form exactly ws) m

-- The head of an element, at the front of a part (the octets from a place to the end of the enclosing contents): tag octets (a and ext), length
-- octets, u in all, and then n contents octets; or 80, and contents up to the end pair
pub record Definitely (part : List ℕ) (a u n : ℕ) : Type 0 where
  pub ext : List ℕ
  pub len : List ℕ
  pub is_tag : IsTag a ext
  pub plain : code_zero a ≡ false
  pub stands : StandsFor len n
  pub front : part ≡ ((a ∷ ext) ++ len) ++ drop u part
  pub used : u ≡ length ((a ∷ ext) ++ len)
  pub room : n ≤ length (drop u part)

pub record Endlessly (part : List ℕ) (a u : ℕ) : Type 0 where
  pub ext : List ℕ
  pub is_tag : IsTag a ext
  pub plain : code_zero a ≡ false
  pub constructor : constructor_of a ≡ true
  pub front : part ≡ ((a ∷ ext) ++ (0x80 ∷ [])) ++ drop u part
  pub used : u ≡ length ((a ∷ ext) ++ (0x80 ∷ []))

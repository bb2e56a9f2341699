-- The first entry that passes a test, one entry at a time, as the library finds it. Assumes nothing.
use Rattle.std.specs.Prelude.{Some, None}
use Prim.Native.Nat.{ℕ, suc, ◌+◌, ◌<◌, ◌≤◌}
use native.Mathlib.Omega.{arith}
use mathlib.Core.Path.{◌≡◌, refl, ◌∙◌}
use mathlib.Core.Bool.{Bool, true, false}
use mathlib.Core.List.{List, [], ◌∷◌}
use lib.ListN.{length, drop, get_or, drop_of_length-le}
use lib.Seq.{drop-cons}
use Rattle.std.specs.List.{position, position_from}
use Rattle.std.proofs.lemmas.Iterator.Adapters.{position_from-zero}
use Rattle.open_transactions.specs.declared.{Entry.Entry}
use Rattle.open_transactions.specs.Table.{find_from}

module _ (t : Entry → Bool) (all : List Entry) (i : ℕ) (d : Entry) where
  pub find_here : i < length all → t (get_or all i d) ≡ true → find_from t i (drop i all) ≡ Some i
  unfolding find_from
  find_here l e = rw (drop-cons all i d l, e)

  pub find_next : i < length all → t (get_or all i d) ≡ false → find_from t i (drop i all) ≡ find_from t (i + 1) (drop (i + 1) all)
  unfolding find_from
  find_next l e = let one : i + 1 ≡ suc i = omega arith in rw (one, drop-cons all i d l, e)

  pub find_none : length all ≤ i → find_from t i (drop i all) ≡ None
  unfolding find_from
  find_none l = rw (drop_of_length-le all l)

-- the library's search for the first
from_position : (t : Entry → Bool) (k : ℕ) (es : List Entry) → position_from t k es ≡ find_from t k es
unfolding find_from
from_position t k [] = refl
from_position t k (x ∷ xs) = let one : k + 1 ≡ suc k = omega arith in rw (one, from_position t (suc k) xs)

pub find_position : (t : Entry → Bool) (es : List Entry) → position t es ≡ find_from t 0 es
find_position t es = position_from-zero t es ∙ from_position t 0 es

pub found_below : (t : Entry → Bool) (i n : ℕ) (all : List Entry) → find_from t i all ≡ Some n → n < i + length all
unfolding find_from
found_below t i n [] e = let z : ◌≡◌ {A = ℕ} 0 1 = cc in absurd (omega arith)
found_below t i n (x ∷ xs) e = by_test (λ g. found_below t (suc i) n xs g) (t x) refl
  where
    by_test : (find_from t (suc i) xs ≡ Some n → n < suc i + length xs) → (b : Bool) → t x ≡ b → n < i + suc (length xs)
    by_test step true q = let g : Some i ≡ Some n = (rw q at e) in let h : i ≡ n = cc in omega (arith, h)
    by_test step false q = let h = step (rw q at e) in omega (arith, h)

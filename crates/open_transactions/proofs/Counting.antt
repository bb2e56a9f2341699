-- Entries that pass a test: how many, which is first, and what a store changes of both. Assumes nothing.
use Rattle.std.specs.Prelude.{Option as Optional, Some, None}
use Prim.Native.Nat.{ℕ, zero, suc, ◌+◌, ◌<◌, ◌≤◌}
use native.Mathlib.Omega.{arith}
use native.Mathlib.Nat.{add-zero}
use mathlib.Core.Path.{◌≡◌, refl, sym, ◌∙◌}
use mathlib.Core.Bool.{Bool, true, false, cond, not}
use mathlib.Core.List.{List, [], ◌∷◌}
use lib.ListN.{length, get_or, set}
use lib.Seq.{get_or-set_other}
use Rattle.open_transactions.specs.declared.{Entry.Entry}
use Rattle.open_transactions.specs.Table.{blank_entry, find_from}
use Rattle.open_transactions.specs.History.{one, count_in, known_at}

-- what is found passes the test
pub record Found (t : Entry → Bool) (from n : ℕ) (all : List Entry) : Type 0 where
  pub steps : ℕ
  pub place : n ≡ from + steps
  pub within : steps < length all
  pub passes : t (get_or all steps blank_entry) ≡ true

found : (t : Entry → Bool) (i n : ℕ) (all : List Entry) → find_from t i all ≡ Some n → Found t i n all
unfolding find_from
found t i n [] e = let z : ◌≡◌ {A = ℕ} 0 1 = cc in absurd (omega arith)
found t i n (x ∷ xs) e = by_test (λ g. found t (suc i) n xs g) (t x) refl
  where
    by_test : (find_from t (suc i) xs ≡ Some n → Found t (suc i) n xs) → (b : Bool) → t x ≡ b → Found t i n (x ∷ xs)
    by_test step true q = let g : Some i ≡ Some n = (rw q at e) in let h : i ≡ n = cc in record { steps = 0; place = omega (arith, h); within = omega arith; passes = q }
    by_test step false q = let f = step (rw q at e) in record { steps = suc f.steps; place = omega (arith, f.place); within = omega (arith, f.within); passes = f.passes }

pub record First (t : Entry → Bool) (i : ℕ) (all : List Entry) : Type 0 where
  pub within : i < length all
  pub passes : t (get_or all i blank_entry) ≡ true

pub first_of_lem : (t : Entry → Bool) (i : ℕ) (all : List Entry) → find_from t 0 all ≡ Some i → First t i all
first_of_lem t i all e = let f = found t 0 i all e in let z : i ≡ f.steps = omega (arith, f.place) in record { within = omega (arith, z, f.within); passes = rw z f.passes }

module _ (t : Entry → Bool) where
  -- an entry in another's place
  pub set_count : (es : List Entry) (i : ℕ) (e : Entry) → i < length es → count_in t (set es i e) + one (t (get_or es i blank_entry)) ≡ count_in t es + one (t e)
  unfolding count_in
  set_count [] i e l = absurd (omega (arith, l))
  set_count (x ∷ xs) zero e l = omega arith
  set_count (x ∷ xs) (suc i) e l = let h = set_count xs i e (omega (arith, l)) in omega (arith, h)

  -- nothing is found where none passes, and only there
  pub none_count : (k : ℕ) (es : List Entry) → find_from t k es ≡ None → count_in t es ≡ 0
  unfolding find_from count_in
  none_count k [] e = refl
  none_count k (x ∷ xs) e = by_test (λ g. none_count (suc k) xs g) (t x) refl
    where
      by_test : (find_from t (suc k) xs ≡ None → count_in t xs ≡ 0) → (b : Bool) → t x ≡ b → one (t x) + count_in t xs ≡ 0
      by_test step true q = let g : Some k ≡ None = (rw q at e) in let z : ◌≡◌ {A = ℕ} 0 1 = cc in absurd (omega arith)
      by_test step false q = let h = step (rw q at e) in rw q (omega (arith, h))

  pub count_none : (k : ℕ) (es : List Entry) → count_in t es ≡ 0 → find_from t k es ≡ None
  unfolding find_from count_in
  count_none k [] e = refl
  count_none k (x ∷ xs) e = by_test (λ g. count_none (suc k) xs g) (t x) refl
    where
      by_test : (count_in t xs ≡ 0 → find_from t (suc k) xs ≡ None) → (b : Bool) → t x ≡ b → cond (t x) (Some k) (find_from t (suc k) xs) ≡ None
      by_test step true q = let g : 1 + count_in t xs ≡ 0 = (rw q at e) in absurd (omega (arith, g))
      by_test step false q = let g : 0 + count_in t xs ≡ 0 = (rw q at e) in rw q (step (omega (arith, g)))

  pub passes_counted : (es : List Entry) (i : ℕ) → i < length es → t (get_or es i blank_entry) ≡ true → 1 ≤ count_in t es
  unfolding count_in
  passes_counted [] i l e = absurd (omega (arith, l))
  passes_counted (x ∷ xs) zero l e = rw e (omega arith)
  passes_counted (x ∷ xs) (suc i) l e = let h = passes_counted xs i (omega (arith, l)) e in omega (arith, h)

  -- where one passes at most, no two do
  pub only_one : (es : List Entry) (i j : ℕ) → count_in t es ≤ 1 → i < length es → j < length es → t (get_or es i blank_entry) ≡ true → t (get_or es j blank_entry) ≡ true → i ≡ j
  unfolding count_in
  only_one [] i j c l m e f = absurd (omega (arith, l))
  only_one (x ∷ xs) zero zero c l m e f = refl
  only_one (x ∷ xs) zero (suc j) c l m e f = let h = passes_counted xs j (omega (arith, m)) f in let z : one (t x) ≡ 1 = rw e in absurd (omega (arith, c, h, z))
  only_one (x ∷ xs) (suc i) zero c l m e f = let h = passes_counted xs i (omega (arith, l)) e in let z : one (t x) ≡ 1 = rw f in absurd (omega (arith, c, h, z))
  only_one (x ∷ xs) (suc i) (suc j) c l m e f = let h = only_one xs i j (omega (arith, c)) (omega (arith, l)) (omega (arith, m)) e f in omega (arith, h)

  -- What a store changes of what is found first

  abbrev pub Late : ℕ → Optional ℕ → Type 0
  Late i None = Unit {0}
  Late i (Some n) = i ≤ n

  set_first : (es : List Entry) (k i : ℕ) (e : Entry) → i < length es → t e ≡ true → Late (k + i) (find_from t k es) → find_from t k (set es i e) ≡ Some (k + i)
  unfolding find_from
  set_first [] k i e l p h = absurd (omega (arith, l))
  set_first (x ∷ xs) k zero e l p h = rw (p, add-zero)
  set_first (x ∷ xs) k (suc i) e l p h = by_test (λ g. set_first xs (suc k) i e (omega (arith, l)) p g) (t x) refl
    where
      z : suc k + i ≡ k + suc i
      z = omega arith

      by_test : (Late (suc k + i) (find_from t (suc k) xs) → find_from t (suc k) (set xs i e) ≡ Some (suc k + i)) → (b : Bool) → t x ≡ b → find_from t k (x ∷ set xs i e) ≡ Some (k + suc i)
      by_test step true q = let g : Late (k + suc i) (Some k) = (rw q at h) in absurd (omega (arith, g))
      by_test step false q = let g : Late (k + suc i) (find_from t (suc k) xs) = (rw q at h) in rw q (step (rw z g) ∙ rw z)

  pub set_found : (es : List Entry) (i : ℕ) (e : Entry) → i < length es → t e ≡ true → Late i (find_from t 0 es) → find_from t 0 (set es i e) ≡ Some i
  set_found es i e l p h = let z : 0 + i ≡ i = omega arith in rw z at (set_first es 0 i e l p (rw z h))

  pub set_unfound : (es : List Entry) (k i : ℕ) (e : Entry) → t (get_or es i blank_entry) ≡ false → t e ≡ false → find_from t k (set es i e) ≡ find_from t k es
  unfolding find_from
  set_unfound [] k i e p q = refl
  set_unfound (x ∷ xs) k zero e p q = rw (p, q)
  set_unfound (x ∷ xs) k (suc i) e p q = rw (set_unfound xs (suc k) i e p q)

  -- what is known of another entry stays
  pub known_stays : (es : List Entry) (i : ℕ) (e : Entry) → t (get_or es i blank_entry) ≡ false → t e ≡ false → known_at (set es i e) (find_from t 0 (set es i e)) ≡ known_at es (find_from t 0 es)
  known_stays es i e p q = rw (set_unfound es 0 i e p q) (by_room (find_from t 0 es) refl)
    where
      by_room : (r : Optional ℕ) → find_from t 0 es ≡ r → known_at (set es i e) r ≡ known_at es r
      by_room None f = refl
      by_room (Some j) f =
          let g = first_of_lem t j es f in
          rw (get_or-set_other es i j e blank_entry (λ z. let w : true ≡ false = sym g.passes ∙ rw z p in let v : ◌≡◌ {A = ℕ} 0 1 = cc in absurd (omega arith)))

  -- those that pass and those that do not are all
  pub count_both : (es : List Entry) → count_in t es + count_in (λ e. not (t e)) es ≡ length es
  unfolding count_in
  count_both [] = refl
  count_both (x ∷ xs) = by_test (count_both xs) (t x) refl
    where
      by_test : count_in t xs + count_in (λ e. not (t e)) xs ≡ length xs → (b : Bool) → t x ≡ b → (one (t x) + count_in t xs) + (one (not (t x)) + count_in (λ e. not (t e)) xs) ≡ suc (length xs)
      by_test step true q = rw q (omega (arith, step))
      by_test step false q = rw q (omega (arith, step))

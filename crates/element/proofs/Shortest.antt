-- The shortest octets of a form are of that form, and no others are shorter; under any length rules that keep `RulesLaws`. Assumes nothing.
use Prim.Native.Nat.{ℕ, zero, suc, ◌+◌, ◌*◌, ◌/◌, ◌%◌, ◌≤◌, ◌<◌}
use mathlib.Core.Path.{◌≡◌, refl, sym, ap, ap₂, ◌∙◌}
use mathlib.Core.Logic.{◌⊎◌, inl, inr}
use mathlib.Core.Bool.{Bool, true, false, cond, false≢true}
use mathlib.Core.List.{List, [], ◌∷◌, ◌++◌}
use native.Mathlib.Omega.{arith}
use native.Mathlib.Nat.{le_refl}
use lib.ListN.{length, length-append}
use lib.Dec.{ltb, leb, eqb}
use borrow.Author.Tests.{ltb-true, ltb-false, leb-true, le-ltb, le-leb, ne_eqb}
use Rattle.element.specs.Form.{Form, exactly, leaf_of, then, around_of, perhaps, LengthRules, Definite, Unending, Matches, shortest, ◌⊑◌, fewest_of, LongLength, StandsFor, digits, length_octets, document01}
use Rattle.base.specs.Number.{number_from}
use Rattle.base.specs.Value.{Every}

-- the size cap of `never-longer`, and that of `shortest-least`
abbrev pub cap : ℕ
cap = 65536

abbrev pub strict_cap : ℕ
strict_cap = 256

abbrev pub Octets : List ℕ → Type 0
Octets l = Every (λ x. x < 256) l

pub record RulesLaws (rules : LengthRules) : Type 0 where
  pub stands : (n : ℕ) → n < cap → rules.Stands (rules.fewest n) n
  pub least : (l : List ℕ) (n : ℕ) → rules.Stands l n → Octets l → n < cap → length (rules.fewest n) ≤ length l
  pub grows : (n k : ℕ) → n ≤ k → k < cap → length (rules.fewest n) ≤ length (rules.fewest k)
  pub small : (n : ℕ) → n < cap → length (rules.fewest n) ≤ 3
  pub only : (l : List ℕ) (n : ℕ) → rules.Stands l n → n < strict_cap → l ≡ rules.fewest n
  pub smaller : (n : ℕ) → n < strict_cap → length (rules.fewest n) ≤ 2

-- an order of octets
pub ⊑-length : (a b : List ℕ) → a ⊑ b → length a ≤ length b
unfolding ◌⊑◌
⊑-length a b (inl e) = omega (arith, ap length e)
⊑-length a b (inr h) = omega arith

⊑_refl : (a : List ℕ) → a ⊑ a
unfolding ◌⊑◌
⊑_refl a = inl refl

⊑-nil : (b : List ℕ) → [] ⊑ b
unfolding ◌⊑◌
⊑-nil [] = inl refl
⊑-nil (x ∷ xs) = inr (omega arith)

⊑-append : (a b a' b' : List ℕ) → a ⊑ a' → b ⊑ b' → (a ++ b) ⊑ (a' ++ b')
unfolding ◌⊑◌
⊑-append a b a' b' (inl e) (inl d) = inl (ap₂ ◌++◌ e d)
⊑-append a b a' b' (inl e) (inr k) = inr (simp length-append (omega (arith, ap length e)))
⊑-append a b a' b' (inr h) (inl d) = inr (simp length-append (omega (arith, ap length d)))
⊑-append a b a' b' (inr h) (inr k) = inr (simp length-append (omega arith))

every_parts : (a b : List ℕ) → Octets (a ++ b) → Octets a × Octets b
unfolding Every
every_parts [] b o = (tt, o)
every_parts (x ∷ a) b o = let r = every_parts a b o.1 in ((o.0, r.0), r.1)

tail_octets : (t c : List ℕ) → Octets (t ++ (0x80 ∷ (c ++ (0 ∷ 0 ∷ [])))) → Octets (c ++ (0 ∷ 0 ∷ []))
unfolding Every
tail_octets t c o = (every_parts t (0x80 ∷ (c ++ (0 ∷ 0 ∷ []))) o).1.1

three : (t l c : List ℕ) → length (t ++ (l ++ c)) ≡ length t + (length l + length c)
three t l c = length-append t (l ++ c) ∙ ap (λ (n : ℕ). length t + n) (length-append l c)

open_length : (t c : List ℕ) → length (t ++ (0x80 ∷ (c ++ (0 ∷ 0 ∷ [])))) ≡ length t + (3 + length c)
open_length t c = omega (arith, length-append t (0x80 ∷ (c ++ (0 ∷ 0 ∷ []))), length-append c (0 ∷ 0 ∷ []))

module _ (rules : LengthRules) (laws : RulesLaws rules) where
  pub shortest_matches : (f : Form) → length (shortest rules f) < cap → Matches rules f (shortest rules f)
  unfolding Matches shortest Definite
  shortest_matches (exactly s) k = refl
  shortest_matches (leaf_of t c) k = (rules.fewest (length c), laws.stands (length c) (omega (arith, three t (rules.fewest (length c)) c)), refl)
  shortest_matches (then f g) k =
      (shortest rules f, shortest rules g, refl, shortest_matches f (omega (arith, length-append (shortest rules f) (shortest rules g))), shortest_matches g (omega (arith, length-append (shortest rules f) (shortest rules g))))
  shortest_matches (around_of t f) k =
      let n : length (shortest rules f) < cap = omega (arith, three t (rules.fewest (length (shortest rules f))) (shortest rules f)) in
      (shortest rules f, shortest_matches f n, inl (rules.fewest (length (shortest rules f)), laws.stands (length (shortest rules f)) n, refl))
  shortest_matches (perhaps f) k = inl refl

  pub never_longer : (f : Form) (m : List ℕ) → Matches rules f m → Octets m → length m < cap → length (shortest rules f) ≤ length m
  unfolding Matches shortest Definite Unending
  never_longer (exactly s) m e o k = omega (arith, ap length e)
  never_longer (leaf_of t c) m (l, s, e) o k =
      let i : length m ≡ length t + (length l + length c) = ap length e ∙ three t l c in
      let q = every_parts l c (every_parts t (l ++ c) (rw e at o)).1 in
      omega (arith, three t (rules.fewest (length c)) c, laws.least l (length c) s q.0 (omega arith))
  never_longer (then f g) m (a, b, e, p, q) o k =
      let i : length m ≡ length a + length b = ap length e ∙ length-append a b in
      let r = every_parts a b (rw e at o) in
      omega (arith, length-append (shortest rules f) (shortest rules g), never_longer f a p r.0 (omega arith), never_longer g b q r.1 (omega arith))
  never_longer (around_of t f) m (c, p, inl (l, s, e)) o k =
      let i : length m ≡ length t + (length l + length c) = ap length e ∙ three t l c in
      let q = every_parts l c (every_parts t (l ++ c) (rw e at o)).1 in
      let h : length (shortest rules f) ≤ length c = never_longer f c p q.1 (omega arith) in
      omega (arith, three t (rules.fewest (length (shortest rules f))) (shortest rules f), laws.least l (length c) s q.0 (omega arith), laws.grows (length (shortest rules f)) (length c) h (omega arith))
  never_longer (around_of t f) m (c, p, inr (u, e)) o k =
      let i : length m ≡ length t + (3 + length c) = ap length e ∙ open_length t c in
      let q = every_parts c (0 ∷ 0 ∷ []) (tail_octets t c (rw e at o)) in
      let h : length (shortest rules f) ≤ length c = never_longer f c p q.0 (omega arith) in
      omega (arith, three t (rules.fewest (length (shortest rules f))) (shortest rules f), laws.small (length (shortest rules f)) (omega arith))
  never_longer (perhaps f) m d o k = omega arith

  -- every other is longer
  definite_least : (t a b : List ℕ) → length b < strict_cap → a ⊑ b → (t ++ (rules.fewest (length a) ++ a)) ⊑ (t ++ (rules.fewest (length b) ++ b))
  unfolding ◌⊑◌
  definite_least t a b k (inl e) = inl (rw e)
  definite_least t a b k (inr h) =
      inr (omega (arith, three t (rules.fewest (length a)) a, three t (rules.fewest (length b)) b, laws.grows (length a) (length b) (omega arith) (omega arith)))

  definite_open : (t a b : List ℕ) → length b < strict_cap → a ⊑ b → (t ++ (rules.fewest (length a) ++ a)) ⊑ (t ++ (0x80 ∷ (b ++ (0 ∷ 0 ∷ []))))
  unfolding ◌⊑◌
  definite_open t a b k h =
      let i : length a ≤ length b = ⊑-length a b h in
      inr (omega (arith, three t (rules.fewest (length a)) a, open_length t b, laws.smaller (length a) (omega arith)))

  pub shortest_least : (f : Form) (m : List ℕ) → Matches rules f m → length m < strict_cap → shortest rules f ⊑ m
  unfolding Matches shortest Definite Unending
  shortest_least (exactly s) m e k = rw e (⊑_refl s)
  shortest_least (leaf_of t c) m (l, s, e) k =
      let i : length m ≡ length t + (length l + length c) = ap length e ∙ three t l c in
      let q : l ≡ rules.fewest (length c) = laws.only l (length c) s (omega arith) in
      rw (e, q) (⊑_refl (t ++ (rules.fewest (length c) ++ c)))
  shortest_least (then f g) m (a, b, e, p, q) k =
      let i : length m ≡ length a + length b = ap length e ∙ length-append a b in
      rw e (⊑-append (shortest rules f) (shortest rules g) a b (shortest_least f a p (omega arith)) (shortest_least g b q (omega arith)))
  shortest_least (around_of t f) m (c, p, inl (l, s, e)) k =
      let i : length m ≡ length t + (length l + length c) = ap length e ∙ three t l c in
      let q : l ≡ rules.fewest (length c) = laws.only l (length c) s (omega arith) in
      rw (e, q) (definite_least t (shortest rules f) c (omega arith) (shortest_least f c p (omega arith)))
  shortest_least (around_of t f) m (c, p, inr (u, e)) k =
      let i : length m ≡ length t + (3 + length c) = ap length e ∙ open_length t c in
      rw e (definite_open t (shortest rules f) c (omega arith) (shortest_least f c p (omega arith)))
  shortest_least (perhaps f) m d k = ⊑-nil m

-- Document 01's lengths

digits_none : (k : ℕ) → digits k 0 ≡ []
unfolding digits
digits_none zero = refl
digits_none (suc k) = refl

digits_one : (k n : ℕ) → 1 ≤ n → n < 256 → digits (suc k) n ≡ n ∷ []
unfolding digits
digits_one k n h i =
    let z : n / 256 ≡ 0 = omega arith in
    let y : n % 256 ≡ n = omega arith in
    rw (ne_eqb n 0 (λ e. omega arith), z, digits_none k, y)

digits_two : (k n : ℕ) → 256 ≤ n → n < cap → digits (suc (suc k)) n ≡ (n / 256) ∷ (n % 256) ∷ []
unfolding digits
digits_two k n h i = rw (ne_eqb n 0 (λ e. omega arith), digits_one k (n / 256) (omega arith) (omega arith))

-- one, two or three octets
unfoldable pub Cases : ℕ → Type 0
Cases n = ((n < 128) × (length_octets n ≡ n ∷ [])) ⊎ (((128 ≤ n) × (n < 256) × (length_octets n ≡ 0x81 ∷ n ∷ [])) ⊎ ((256 ≤ n) × (length_octets n ≡ 0x82 ∷ (n / 256) ∷ (n % 256) ∷ [])))

long_octets : (n : ℕ) (ds : List ℕ) → 128 ≤ n → digits n n ≡ ds → length_octets n ≡ (128 + length ds) ∷ ds
unfolding length_octets
long_octets n ds h e = rw (le-ltb n 128 h, e)

one_digit : (n : ℕ) → 128 ≤ n → n < 256 → digits n n ≡ n ∷ []
one_digit zero h i = absurd (omega arith)
one_digit (suc k) h i = digits_one k (suc k) (omega arith) i

two_digits : (n : ℕ) → 256 ≤ n → n < cap → digits n n ≡ (n / 256) ∷ (n % 256) ∷ []
two_digits zero h i = absurd (omega arith)
two_digits (suc zero) h i = absurd (omega arith)
two_digits (suc (suc k)) h i = digits_two k (suc (suc k)) h i

pub cases : (n : ℕ) → n < cap → Cases n
unfolding Cases length_octets
cases n k = go (ltb n 128) (ltb n 256) refl refl
  where
    go : (a b : Bool) → ltb n 128 ≡ a → ltb n 256 ≡ b → Cases n
    go true b e f = inl (ltb-true n 128 e, rw (e))
    go false true e f = inr (inl (ltb-false n 128 e, ltb-true n 256 f, long_octets n (n ∷ []) (ltb-false n 128 e) (one_digit n (ltb-false n 128 e) (ltb-true n 256 f))))
    go false false e f = inr (inr (ltb-false n 256 f, long_octets n _ (ltb-false n 128 e) (two_digits n (ltb-false n 256 f) k)))

short_stands : (n : ℕ) (l : List ℕ) → l ≡ n ∷ [] → n < 128 → StandsFor l n
unfolding StandsFor
short_stands n l e h = inl (h, e)

few_one : (n : ℕ) → 128 ≤ n → fewest_of n 1 ≡ true
unfolding fewest_of
few_one n h = rw (ne_eqb n 0 (λ e. omega arith), le-leb 128 n h)

few_two : (n : ℕ) → 1 ≤ n → fewest_of n 2 ≡ true
unfolding fewest_of
few_two n h = rw (ne_eqb n 0 (λ e. omega arith))

octets_stand : (n : ℕ) → n < cap → Cases n → StandsFor (length_octets n) n
unfolding Cases StandsFor number_from
octets_stand n k (inl (h, e)) = inl (h, e)
octets_stand n k (inr (inl (h, i, e))) = inr (n ∷ [], record { octets = e; some = omega arith; most = omega arith; number = omega arith; few = few_one n h })
octets_stand n k (inr (inr (h, e))) =
    inr ((n / 256) ∷ (n % 256) ∷ [], record { octets = e; some = omega arith; most = omega arith; number = omega arith; few = few_two (n / 256) (omega arith) })

number_grows : (v : ℕ) (xs : List ℕ) → v ≤ number_from v xs
unfolding number_from
number_grows v [] = le_refl v
number_grows v (x ∷ xs) = omega (arith, number_grows (v * 256 + x) xs)

few_some : (x k : ℕ) → fewest_of x k ≡ true → 1 ≤ x
unfolding fewest_of
few_some zero k e = absurd (false≢true e)
few_some (suc x) k e = omega arith

few_long : (x : ℕ) → fewest_of x 1 ≡ true → 128 ≤ x
unfolding fewest_of
few_long x e = go (eqb x 0) (leb 128 x) refl refl e
  where
    go : (a b : Bool) → eqb x 0 ≡ a → leb 128 x ≡ b → cond a false (cond true b true) ≡ true → 128 ≤ x
    go true b p q f = absurd (false≢true f)
    go false true p q f = leb-true 128 x q
    go false false p q f = absurd (false≢true f)

-- a length of n below 256 has one form; and never fewer octets than the fewest
pub long_only : (l ds : List ℕ) (n : ℕ) → LongLength l ds n → n < 256 → (128 ≤ n) × (l ≡ 0x81 ∷ n ∷ [])
unfolding number_from
long_only l [] n s k = absurd (omega (arith, s.some))
long_only l (x ∷ []) n s k = let q : x ≡ n = omega (arith, s.number) in let h : 128 ≤ x = few_long x s.few in (omega arith, s.octets ∙ ap (λ (y : ℕ). 0x81 ∷ y ∷ []) q)
long_only l (x ∷ y ∷ r) n s k =
    let h : 1 ≤ x = few_some x _ s.few in
    absurd (omega (arith, s.number, number_grows ((0 * 256 + x) * 256 + y) r))

only_form : (l : List ℕ) (n : ℕ) → StandsFor l n → n < 256 → Cases n → l ≡ length_octets n
unfolding StandsFor Cases
only_form l n (inl (h, e)) k (inl (i, f)) = e ∙ sym f
only_form l n (inl (h, e)) k (inr (inl (i, j, f))) = absurd (omega arith)
only_form l n (inl (h, e)) k (inr (inr (i, f))) = absurd (omega arith)
only_form l n (inr (ds, s)) k (inl (i, f)) = absurd (omega (arith, (long_only l ds n s k).0))
only_form l n (inr (ds, s)) k (inr (inl (i, j, f))) = (long_only l ds n s k).1 ∙ sym f
only_form l n (inr (ds, s)) k (inr (inr (i, f))) = absurd (omega arith)

long_least : (l ds : List ℕ) (n : ℕ) → LongLength l ds n → Octets l → 256 ≤ n → 3 ≤ length l
unfolding number_from Every
long_least l [] n s o h = absurd (omega (arith, s.some))
long_least l (x ∷ []) n s o h = let q : Octets (0x81 ∷ x ∷ []) = rw s.octets at o in absurd (omega (arith, s.number, q.1.0))
long_least l (x ∷ y ∷ r) n s o h = omega (arith, ap length s.octets)

least_form : (l : List ℕ) (n : ℕ) → StandsFor l n → Octets l → n < cap → Cases n → length (length_octets n) ≤ length l
unfolding StandsFor Cases
least_form l n s o k c = go c s
  where
    small_case : n < 256 → length (length_octets n) ≤ length l
    small_case h = omega (arith, ap length (only_form l n s h c))

    go : Cases n → StandsFor l n → length (length_octets n) ≤ length l
    go (inl (h, e)) t = small_case (omega arith)
    go (inr (inl (h, i, e))) t = small_case i
    go (inr (inr (h, e))) (inl (i, f)) = absurd (omega arith)
    go (inr (inr (h, e))) (inr (ds, f)) = omega (arith, ap length e, long_least l ds n f o h)

sizes : (n : ℕ) → Cases n → ((n < 128) × (length (length_octets n) ≡ 1)) ⊎ (((128 ≤ n) × (n < 256) × (length (length_octets n) ≡ 2)) ⊎ ((256 ≤ n) × (length (length_octets n) ≡ 3)))
unfolding Cases
sizes n (inl (h, e)) = inl (h, ap length e)
sizes n (inr (inl (h, i, e))) = inr (inl (h, i, ap length e))
sizes n (inr (inr (h, e))) = inr (inr (h, ap length e))

pub document01_laws : RulesLaws document01
document01_laws =
    record {
      stands = λ n k. octets_stand n k (cases n k);
      least = λ l n s o k. least_form l n s o k (cases n k);
      grows = λ n k h j. grows n k h (sizes n (cases n (omega arith))) (sizes k (cases k j));
      small = λ n k. small n (sizes n (cases n k));
      only = λ l n s k. only_form l n s k (cases n (omega arith));
      smaller = λ n k. smaller n k (sizes n (cases n (omega arith)));
    }
  where
    Sizes : ℕ → Type 0
    Sizes n = ((n < 128) × (length (length_octets n) ≡ 1)) ⊎ (((128 ≤ n) × (n < 256) × (length (length_octets n) ≡ 2)) ⊎ ((256 ≤ n) × (length (length_octets n) ≡ 3)))

    grows : (n k : ℕ) → n ≤ k → Sizes n → Sizes k → length (length_octets n) ≤ length (length_octets k)
    grows n k h (inl a) (inl b) = omega arith
    grows n k h (inl a) (inr (inl b)) = omega arith
    grows n k h (inl a) (inr (inr b)) = omega arith
    grows n k h (inr (inl a)) (inl b) = omega arith
    grows n k h (inr (inl a)) (inr (inl b)) = omega arith
    grows n k h (inr (inl a)) (inr (inr b)) = omega arith
    grows n k h (inr (inr a)) (inl b) = omega arith
    grows n k h (inr (inr a)) (inr (inl b)) = omega arith
    grows n k h (inr (inr a)) (inr (inr b)) = omega arith

    small : (n : ℕ) → Sizes n → length (length_octets n) ≤ 3
    small n (inl a) = omega arith
    small n (inr (inl a)) = omega arith
    small n (inr (inr a)) = omega arith

    smaller : (n : ℕ) → n < 256 → Sizes n → length (length_octets n) ≤ 2
    smaller n k (inl a) = omega arith
    smaller n k (inr (inl a)) = omega arith
    smaller n k (inr (inr a)) = omega arith

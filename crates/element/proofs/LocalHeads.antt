-- How far the end, the tag and the length look: octets that begin alike, as far as that, are read alike.
-- Assumes nothing.
use Prim.Native.Nat.{ℕ, zero, suc, ◌+◌, ◌-◌, ◌≤◌, ◌<◌}
use mathlib.Core.Path.{◌≡◌, refl, sym, ap, ◌∙◌}
use mathlib.Core.Logic.{◌⊎◌, inl, inr}
use mathlib.Core.Bool.{Bool, true, false, cond, false≢true}
use mathlib.Core.List.{List, [], ◌∷◌, ◌++◌, append-nil}
use native.Mathlib.Omega.{arith}
use lib.ListN.{length, get_or, take, drop, length-append, length-take, length-drop, take-append-drop}
use lib.Seq.{take_all, take-take, take-length, take-append_seam, length-take-le}
use lib.Dec.{ltb, leb, eqb}
use borrow.Author.Tests.{ltb-true, ltb-false, leb-false, eqb-true, eqb-false, le-ltb, lt-leb}
use Rattle.base.specs.Number.{number_from}
use Rattle.base.proofs.Tests.{cond_all}
use Rattle.element.specs.Form.{fewest_of}
use Rattle.element.specs.Element.{extended_of}
use Rattle.element.specs.declared.FaultKind.{FaultKind}
use Rattle.element.specs.declared.FaultKind.TheVariants.{CutOff, BadTag, BadLength, PassesEnd}
use Rattle.element.specs.declared.TagRead.{TagRead}
use Rattle.element.specs.declared.TagRead.TheVariants.{Fault as tag_fault, Tag as tag}
use Rattle.element.specs.declared.LengthRead.{LengthRead}
use Rattle.element.specs.declared.LengthRead.TheVariants.{Fault as length_fault, Definite as known, Indefinite as endless}
use Rattle.element.specs.declared.EndRead.TheVariants.{Ended as ended, More as more}
use Rattle.element.specs.Head.{third, second, first, tag_of, within, length_of, end_of}
use Rattle.element.proofs.Heads.{tag_plain, tag_first, tag_second, tag_third, tag_complete, TagIs, tag_sound, length_cons, long_cons, take_first, length_complete, length_endless, LengthIs, length_sound}
use Rattle.element.proofs.Asking.{more_first}
use Rattle.element.proofs.ItemLaws.{end_definite, end_indefinite}

-- Octets that begin alike

abbrev pub Alike : ℕ → List ℕ → List ℕ → Type 0
Alike q s t = take q t ≡ take q s

pub alike_less : (j q : ℕ) (s t : List ℕ) → j ≤ q → Alike q s t → Alike j s t
alike_less j q s t h e = sym (take-take j q t h) ∙ ap (take j) e ∙ take-take j q s h

pub alike_all : (q : ℕ) (s t : List ℕ) → length t ≡ length s → length s ≤ q → Alike q s t → t ≡ s
alike_all q s t l h e = sym (take_all q t (omega arith)) ∙ e ∙ take_all q s h

take_none : (k : ℕ) → take {A = ℕ} k [] ≡ []
take_none zero = refl
take_none (suc k) = refl

pub take_behind : (u k : ℕ) (l : List ℕ) → take k (drop u l) ≡ drop u (take (u + k) l)
take_behind zero k l = let z : 0 + k ≡ k = omega arith in rw z
take_behind (suc u) k [] = take_none k ∙ sym (ap (drop (suc u)) (take_none (suc u + k)))
take_behind (suc u) k (x ∷ l) = let z : suc u + k ≡ suc (u + k) = omega arith in rw z (take_behind u k l)

pub alike_drop : (u q : ℕ) (s t : List ℕ) → Alike (u + q) s t → Alike q (drop u s) (drop u t)
alike_drop u q s t e = take_behind u q t ∙ ap (drop u) e ∙ sym (take_behind u q s)

-- what begins with w, and what begins alike
pub alike_front : (w r t : List ℕ) → Alike (length w) (w ++ r) t → t ≡ w ++ drop (length w) t
alike_front w r t e = sym (take-append-drop (length w) t) ∙ ap (λ (x : List ℕ). x ++ drop (length w) t) (e ∙ take-append_seam w r)

pub alike_cons : (b : ℕ) (r t : List ℕ) → Alike 1 (b ∷ r) t → t ≡ b ∷ drop 1 t
alike_cons b r t e = alike_front (b ∷ []) r t e

-- The end

-- how many octets the end of contents takes
unfoldable pub pair : Bool → ℕ
pair true = 0
pair false = 2

at_pair : (t r : List ℕ) → t ≡ 0 ∷ 0 ∷ r → end_of false t ≡ ended
unfolding end_of
at_pair t r y = rw y

pub end_alike : (d : Bool) (s t : List ℕ) → length t ≡ length s → Alike (pair d) s t → end_of d s ≡ ended → end_of d t ≡ ended
unfolding pair
end_alike true s t l e h = let z : s ≡ [] = end_definite s h in let y : t ≡ s = alike_all 0 s t l (omega (arith, ap length z)) e in rw y h
end_alike false s t l e h =
    let (r, q) = end_indefinite s h in
    at_pair t (drop 2 t) (alike_front (0 ∷ 0 ∷ []) r t (rw q at e))

-- more follows: in definite contents by their length, in indefinite by the octet that is not 0
more_same : (d : Bool) (s t : List ℕ) → t ≡ s → end_of d s ≡ more → end_of d t ≡ more
more_same d s t y h = rw y h

more_true : (s t : List ℕ) → end_of true s ≡ more → length t ≡ length s → end_of true t ≡ more
unfolding end_of
more_true [] t h l = let z : ◌≡◌ {A = ℕ} 0 1 = cc in absurd (omega arith)
more_true (x ∷ s) [] h l = absurd (omega arith)
more_true (x ∷ s) (y ∷ t) h l = refl

nothing_more : end_of false [] ≡ more → ⊥
unfolding end_of
nothing_more h = let z : ◌≡◌ {A = ℕ} 0 1 = cc in omega arith

pub record More (d : Bool) (s : List ℕ) : Type 0 where
  pub looks : ℕ
  pub most : looks ≤ 2
  pub there : looks ≤ length s
  pub alike : (t : List ℕ) → length t ≡ length s → Alike looks s t → end_of d t ≡ more

more_two : (x y : ℕ) (r : List ℕ) → end_of false (x ∷ y ∷ r) ≡ more → (v : List ℕ) → end_of false (x ∷ y ∷ v) ≡ more
unfolding end_of
more_two x y r h v = h

pub more_alike : (d : Bool) (s : List ℕ) → end_of d s ≡ more → More d s
more_alike true s h = record { looks = 0; most = omega arith; there = omega arith; alike = λ t l e. more_true s t h l }
more_alike false [] h = absurd (nothing_more h)
more_alike false (x ∷ []) h = record { looks = 1; most = omega arith; there = omega arith; alike = λ t l e. more_same false (x ∷ []) t (alike_all 1 (x ∷ []) t l (omega arith) e) h }
more_alike false (x ∷ y ∷ r) h = by_first (eqb x 0) refl
  where
    by_first : (b : Bool) → eqb x 0 ≡ b → More false (x ∷ y ∷ r)
    by_first true z = record { looks = 2; most = omega arith; there = omega arith; alike = λ t l e. more_same false (x ∷ y ∷ drop 2 t) t (alike_front (x ∷ y ∷ []) r t e) (more_two x y r h (drop 2 t)) }
    by_first false z = record { looks = 1; most = omega arith; there = omega arith; alike = λ t l e. more_same false (x ∷ drop 1 t) t (alike_cons x (y ∷ r) t e) (more_first false x (drop 1 t) z) }

-- The tag

-- why a tag is a fault: it is cut off within 4 octets, or its first octets are bad, whatever follows them
unfoldable pub TagWrong : List ℕ → TagRead → Type 0
TagWrong s (tag_fault k) = (length s ≤ 3) ⊎ ((a : ℕ) × (w : List ℕ) × (rest : List ℕ) × (s ≡ (a ∷ w) ++ rest) × (extended_of a ≡ true) × (length w ≤ 3) × ((r : List ℕ) → tag_of ((a ∷ w) ++ r) ≡ tag_fault k))
TagWrong s (tag a n) = Unit {0}

module _ (a : ℕ) (e : extended_of a ≡ true) where
  bad_80 : (x : ℕ) (r : List ℕ) → eqb x 128 ≡ true → tag_of (a ∷ x ∷ r) ≡ tag_fault BadTag
  bad_80 x r h = tag_plain a (x ∷ r) ∙ rw (e, tag_first a x r, h)

  bad_low : (x : ℕ) (r : List ℕ) → eqb x 128 ≡ false → ltb x 31 ≡ true → tag_of (a ∷ x ∷ r) ≡ tag_fault BadTag
  bad_low x r h i = tag_plain a (x ∷ r) ∙ rw (e, tag_first a x r, h, i)

  bad_long : (x y z : ℕ) (r : List ℕ) → eqb x 128 ≡ false → ltb x 31 ≡ false → ltb x 128 ≡ false → ltb y 128 ≡ false → ltb z 128 ≡ false → tag_of (a ∷ x ∷ y ∷ z ∷ r) ≡ tag_fault BadTag
  bad_long x y z r h i j k l = tag_plain a (x ∷ y ∷ z ∷ r) ∙ rw (e, tag_first a x (y ∷ z ∷ r), h, i, j, tag_second a x y (z ∷ r), k, tag_third a x y z r, l)

  third_wrong : (x y : ℕ) (r : List ℕ) → eqb x 128 ≡ false → ltb x 31 ≡ false → ltb x 128 ≡ false → ltb y 128 ≡ false → TagWrong (a ∷ x ∷ y ∷ r) (third (a ∷ x ∷ y ∷ r))
  unfolding TagWrong third
  third_wrong x y [] h i j k = inl (omega arith)
  third_wrong x y (z ∷ r) h i j k =
      rw (tag_third a x y z r) (cond_all (TagWrong (a ∷ x ∷ y ∷ z ∷ r)) (ltb z 128) _ _ (λ _. tt) λ l. inr (a, x ∷ y ∷ z ∷ [], r, refl, e, omega arith, λ v. bad_long x y z v h i j k l))

  second_wrong : (x : ℕ) (r : List ℕ) → eqb x 128 ≡ false → ltb x 31 ≡ false → ltb x 128 ≡ false → TagWrong (a ∷ x ∷ r) (second (a ∷ x ∷ r))
  unfolding TagWrong second
  second_wrong x [] h i j = inl (omega arith)
  second_wrong x (y ∷ r) h i j = rw (tag_second a x y r) (cond_all (TagWrong (a ∷ x ∷ y ∷ r)) (ltb y 128) _ _ (λ _. tt) λ k. third_wrong x y r h i j k)

  first_wrong : (r : List ℕ) → TagWrong (a ∷ r) (first (a ∷ r))
  unfolding TagWrong first
  first_wrong [] = inl (omega arith)
  first_wrong (x ∷ r) =
      rw (tag_first a x r)
      (cond_all (TagWrong (a ∷ x ∷ r)) (eqb x 128) _ _ (λ h. inr (a, x ∷ [], r, refl, e, omega arith, λ v. bad_80 x v h)) λ h.
      cond_all (TagWrong (a ∷ x ∷ r)) (ltb x 31) _ _ (λ i. inr (a, x ∷ [], r, refl, e, omega arith, λ v. bad_low x v h i)) λ i.
      cond_all (TagWrong (a ∷ x ∷ r)) (ltb x 128) _ _ (λ _. tt) λ j.
      second_wrong x r h i j)

tag_wrong : (s : List ℕ) → TagWrong s (tag_of s)
unfolding TagWrong tag_of
tag_wrong [] = inl (omega arith)
tag_wrong (a ∷ r) = rw (tag_plain a r) (cond_all (TagWrong (a ∷ r)) (extended_of a) _ _ (λ e. first_wrong a e r) (λ _. tt))

extended_not_zero : (a : ℕ) → extended_of a ≡ true → eqb a 0 ≡ false
unfolding extended_of
extended_not_zero a e = by_zero (eqb a 0) refl
  where
    by_zero : (b : Bool) → eqb a 0 ≡ b → eqb a 0 ≡ false
    by_zero true z = absurd (false≢true (rw (eqb-true a 0 z) at e))
    by_zero false z = z

tag_same : (r : TagRead) (s t : List ℕ) → t ≡ s → tag_of s ≡ r → tag_of t ≡ r
tag_same r s t y h = rw y h

pub more_some : (d : Bool) (s : List ℕ) → end_of d s ≡ more → 1 ≤ length s
unfolding end_of
more_some true [] h = let z : ◌≡◌ {A = ℕ} 0 1 = cc in absurd (omega arith)
more_some false [] h = let z : ◌≡◌ {A = ℕ} 0 1 = cc in absurd (omega arith)
more_some d (x ∷ s) h = omega arith

pub record TagFaulty (d : Bool) (s : List ℕ) (k : FaultKind) : Type 0 where
  pub looks : ℕ
  pub least : 1 ≤ looks
  pub most : looks ≤ 4
  pub there : looks ≤ length s
  pub shown : tag_of (take looks s) ≡ tag_fault k
  pub alike : (t : List ℕ) → length t ≡ length s → Alike looks s t → (end_of d t ≡ more) × (tag_of t ≡ tag_fault k)

pub tag_faulty : (d : Bool) (s : List ℕ) (k : FaultKind) → end_of d s ≡ more → tag_of s ≡ tag_fault k → TagFaulty d s k
unfolding TagWrong
tag_faulty d s k m h = by_cause (rw h at (tag_wrong s))
  where
    by_cause : TagWrong s (tag_fault k) → TagFaulty d s k
    by_cause (inl l) =
        record {
          looks = length s;
          least = more_some d s m;
          most = omega arith;
          there = omega arith;
          shown = rw (take-length s) h;
          alike = λ t i e. let y : t ≡ s = alike_all (length s) s t i (omega arith) e in rw y (m, h);
        }
    by_cause (inr (a, w, rest, q, e, l, f)) =
        let n : length (a ∷ w) ≤ length s = omega (arith, ap length q, length-append (a ∷ w) rest) in
        record {
          looks = length (a ∷ w);
          least = omega arith;
          most = omega arith;
          there = n;
          shown = rw (q, take-append_seam (a ∷ w) rest) (rw append-nil at (f []));
          alike = λ t i g. let y : t ≡ (a ∷ w) ++ drop (length (a ∷ w)) t = alike_front (a ∷ w) rest t (rw q at g) in
              (more_same d _ t y (more_first d a (w ++ drop (length (a ∷ w)) t) (extended_not_zero a e)), tag_same (tag_fault k) _ t y (f (drop (length (a ∷ w)) t)));
        }

-- a tag that is read looks at its own octets alone
pub tag_alike : (s t : List ℕ) (a n : ℕ) → tag_of s ≡ tag a n → Alike n s t → tag_of t ≡ tag a n
unfolding TagIs
tag_alike s t a n h e =
    let (x, r, q, i, z) : TagIs s (tag a n) = rw h at (tag_sound s) in
    let y : t ≡ (a ∷ x) ++ drop (length (a ∷ x)) t = alike_front (a ∷ x) r t (rw (q, z) at e) in
    tag_same (tag a n) _ t y (tag_complete a x (drop (length (a ∷ x)) t) i ∙ ap (tag a) (sym z))

-- The length

-- how many octets a length takes, by the first
unfoldable pub length_reach : ℕ → ℕ
length_reach b = cond (leb b 128) 1 (cond (leb 255 b) 1 (b - 127))

pub record LengthFaulty (s : List ℕ) (c : Bool) (k : FaultKind) : Type 0 where
  pub looks : ℕ
  pub most : looks ≤ length_reach (get_or s 0 0)
  pub there : looks ≤ length s
  pub shown : length_of (take looks s) c ≡ length_fault k
  pub alike : (t : List ℕ) → length t ≡ length s → Alike looks s t → length_of t c ≡ length_fault k

unfoldable LengthWrong : List ℕ → Bool → LengthRead → Type 0
LengthWrong s c (length_fault k) = LengthFaulty s c k
LengthWrong s c (known k n) = Unit {0}
LengthWrong s c endless = Unit {0}

length_same : (c : Bool) (r : LengthRead) (s t : List ℕ) → t ≡ s → length_of s c ≡ r → length_of t c ≡ r
length_same c r s t y h = rw y h

size_least : (b : ℕ) → 1 ≤ length_reach b
unfolding length_reach
size_least b = cond_all (λ n. 1 ≤ n) (leb b 128) _ _ (λ _. omega arith) λ e. cond_all (λ n. 1 ≤ n) (leb 255 b) _ _ (λ _. omega arith) λ f. omega (arith, leb-false b 128 e)

size_long : (b : ℕ) → 129 ≤ b → b < 255 → length_reach b ≡ suc (b - 128)
unfolding length_reach
size_long b h i = let z : b - 127 ≡ suc (b - 128) = omega arith in rw (lt-leb b 128 (omega arith), lt-leb 255 b i, z)

-- one octet tells it, with how many octets follow
module _ (b : ℕ) (r : List ℕ) (c : Bool) (k : FaultKind) where
  by_one : length_of (b ∷ []) c ≡ length_fault k → ((v : List ℕ) → length v ≡ length r → length_of (b ∷ v) c ≡ length_fault k) → LengthFaulty (b ∷ r) c k
  by_one h f =
      record {
        looks = 1;
        most = size_least b;
        there = omega arith;
        shown = h;
        alike = λ t l e. length_same c (length_fault k) (b ∷ drop 1 t) t (alike_cons b r t e) (f (drop 1 t) (omega (arith, length-drop 1 t)));
      }

  -- all that is there
  by_all : length (b ∷ r) ≤ length_reach b → length_of (b ∷ r) c ≡ length_fault k → LengthFaulty (b ∷ r) c k
  by_all i h =
      record {
        looks = length (b ∷ r);
        most = i;
        there = omega arith;
        shown = rw (take-length (b ∷ r)) h;
        alike = λ t l e. length_same c (length_fault k) (b ∷ r) t (alike_all (length (b ∷ r)) (b ∷ r) t l (omega arith) e) h;
      }

  -- the octets that the first one names
  by_named : 129 ≤ b → b < 255 → b - 128 ≤ length r → ((v : List ℕ) → length v ≡ length r → take (b - 128) v ≡ take (b - 128) r → length_of (b ∷ v) c ≡ length_fault k) → length_of (b ∷ take (b - 128) r) c ≡ length_fault k → LengthFaulty (b ∷ r) c k
  by_named g i j f h =
      record {
        looks = suc (b - 128);
        most = omega (arith, size_long b g i);
        there = omega arith;
        shown = h;
        alike = λ t l e. let y : t ≡ b ∷ drop 1 t = alike_cons b r t (alike_less 1 (suc (b - 128)) (b ∷ r) t (omega arith) e) in
            length_same c (length_fault k) (b ∷ drop 1 t) t y (f (drop 1 t) (omega (arith, length-drop 1 t)) (tails (b - 128) r t e));
      }
    where
      tails : (n : ℕ) (r t : List ℕ) → take (suc n) t ≡ take (suc n) (b ∷ r) → take n (drop 1 t) ≡ take n r
      tails n r t e = let z : 1 + n ≡ suc n = omega arith in alike_drop 1 n (b ∷ r) t (rw z e)

-- and with more octets than one
module _ (b : ℕ) (c : Bool) (e : ltb b 128 ≡ false) (f : leb 255 b ≡ false) (g : eqb b 128 ≡ false) where
  long_is : (v : List ℕ) → length_of (b ∷ v) c
      ≡ cond (ltb (length v) (b - 128)) (length_fault CutOff) (cond (fewest_of (get_or v 0 0) (b - 128)) (within (suc (b - 128)) (number_from 0 (take (b - 128) v)) (length v - (b - 128))) (length_fault BadLength))
  long_is v = length_cons b v c ∙ rw (e, f, g, long_cons b v (b - 128))

  module _ (r v : List ℕ) (some : 1 ≤ b - 128) (there : b - 128 ≤ length v) (same : take (b - 128) v ≡ take (b - 128) r) where
    head_same : get_or v 0 0 ≡ get_or r 0 0
    head_same = sym (take_first (b - 128) v some) ∙ ap (λ (x : List ℕ). get_or x 0 0) same ∙ take_first (b - 128) r some

    not_few : fewest_of (get_or r 0 0) (b - 128) ≡ false → length_of (b ∷ v) c ≡ length_fault BadLength
    not_few j = long_is v ∙ rw (le-ltb (length v) (b - 128) there, head_same, j)

    too_far : fewest_of (get_or r 0 0) (b - 128) ≡ true → length v - (b - 128) < number_from 0 (take (b - 128) r) → length_of (b ∷ v) c ≡ length_fault PassesEnd
    unfolding within
    too_far j h = long_is v ∙ rw (le-ltb (length v) (b - 128) there, head_same, j, same, lt-leb (number_from 0 (take (b - 128) r)) (length v - (b - 128)) h)

length_wrong_lem : (s : List ℕ) (c : Bool) → LengthWrong s c (length_of s c)
unfolding LengthWrong length_of within
length_wrong_lem [] c = record { looks = 0; most = omega arith; there = omega arith; shown = refl; alike = λ t l e. length_same c (length_fault CutOff) [] t (alike_all 0 [] t l (omega arith) e) refl }
length_wrong_lem (b ∷ r) c =
    rw (length_cons b r c)
    (cond_all (LengthWrong (b ∷ r) c) (ltb b 128) _ _ (λ e.
    cond_all (LengthWrong (b ∷ r) c) (leb b (length r)) _ _ (λ _. tt) λ h.
    by_one b r c PassesEnd (length_cons b [] c ∙ rw (e, lt-leb b 0 (omega (arith, leb-false b (length r) h)))) (λ v l. length_cons b v c ∙ rw (e, l, h))) λ e.
    cond_all (LengthWrong (b ∷ r) c) (leb 255 b) _ _ (λ f. by_one b r c BadLength (length_cons b [] c ∙ rw (e, f)) (λ v l. length_cons b v c ∙ rw (e, f))) λ f.
    cond_all (LengthWrong (b ∷ r) c) (eqb b 128) _ _ (λ g.
    cond_all (LengthWrong (b ∷ r) c) c _ _ (λ _. tt) λ i. by_one b r c BadLength (length_cons b [] c ∙ rw (e, f, g, i)) (λ v l. length_cons b v c ∙ rw (e, f, g, i))) λ g.
    let low : 129 ≤ b = omega (arith, ltb-false b 128 e, eqb-false b 128 g) in
    let high : b < 255 = omega (arith, leb-false 255 b f) in
    let z : length (take (b - 128) r) ≤ b - 128 = omega (arith, length-take (b - 128) r) in
    rw (long_cons b r (b - 128))
    (cond_all (LengthWrong (b ∷ r) c) (ltb (length r) (b - 128)) _ _ (λ i. by_all b r c CutOff (omega (arith, size_long b low high, ltb-true (length r) (b - 128) i)) (long_is b c e f g r ∙ rw i)) λ i.
    let j : b - 128 ≤ length r = ltb-false (length r) (b - 128) i in
    let l : length (take (b - 128) r) ≡ b - 128 = length-take-le (b - 128) r j in
    let y : take (b - 128) (take (b - 128) r) ≡ take (b - 128) r = take-take (b - 128) (b - 128) r (omega arith) in
    cond_all (LengthWrong (b ∷ r) c) (fewest_of (get_or r 0 0) (b - 128)) _ _ (λ n.
    cond_all (LengthWrong (b ∷ r) c) (leb (number_from 0 (take (b - 128) r)) (length r - (b - 128))) _ _ (λ _. tt) λ h.
    let far : length r - (b - 128) < number_from 0 (take (b - 128) r) = omega (arith, leb-false (number_from 0 (take (b - 128) r)) (length r - (b - 128)) h) in
    by_named b r c PassesEnd low high j (λ v q k. too_far b c e f g r v (omega arith) (omega arith) k n (omega arith)) (too_far b c e f g r (take (b - 128) r) (omega arith) (omega arith) y n (omega arith)))
    λ n. by_named b r c BadLength low high j (λ v q k. not_few b c e f g r v (omega arith) (omega arith) k n) (not_few b c e f g r (take (b - 128) r) (omega arith) (omega arith) y n)))

pub length_faulty : (s : List ℕ) (c : Bool) (k : FaultKind) → length_of s c ≡ length_fault k → LengthFaulty s c k
unfolding LengthWrong
length_faulty s c k h = rw h at (length_wrong_lem s c)

-- a length that is read looks at its own octets, and asks that the contents are there
pub length_alike : (s t : List ℕ) (c : Bool) (k n : ℕ) → length_of s c ≡ known k n → Alike k s t → k + n ≤ length t → length_of t c ≡ known k n
unfolding LengthIs
length_alike s t c k n h e room =
    let (i, j) : LengthIs s c (known k n) = rw h at (length_sound s c) in
    let z : length (take k s) ≡ k = length-take-le k s (omega arith) in
    let y : t ≡ take k s ++ drop k t = sym (take-append-drop k t) ∙ ap (λ (x : List ℕ). x ++ drop k t) e in
    length_same c (known k n) _ t y (length_complete (take k s) n (drop k t) c i (omega (arith, length-drop k t)) ∙ ap (λ (x : ℕ). known x n) z)

pub endless_alike : (s t : List ℕ) (c : Bool) → length_of s c ≡ endless → Alike 1 s t → length_of t c ≡ endless
unfolding LengthIs
endless_alike s t c h e =
    let (i, (r, q)) : LengthIs s c endless = rw h at (length_sound s c) in
    rw i (length_same true endless _ t (alike_cons 0x80 r t (rw q at e)) (length_endless (drop 1 t)))

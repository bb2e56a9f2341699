-- A tag and a length are read just where they stand. Assumes nothing.
use Prim.Native.Nat.{ℕ, zero, suc, ◌+◌, ◌-◌, ◌≤◌, ◌<◌}
use mathlib.Core.Path.{◌≡◌, refl, ap, ◌∙◌}
use mathlib.Core.Logic.{inl, inr}
use mathlib.Core.Bool.{Bool, true, false, cond}
use mathlib.Core.List.{List, [], ◌∷◌, ◌++◌}
use native.Mathlib.Omega.{arith}
use lib.ListN.{length, get_or, take, length-append}
use lib.Seq.{take-append_seam, length-take-le}
use lib.Dec.{ltb, leb, eqb}
use borrow.Author.Tests.{ltb-true, ltb-false, leb-true, leb-false, eqb-true, eqb-false, lt-ltb, le-ltb, le-leb, lt-leb, ne_eqb}
use Rattle.element.specs.Form.{StandsFor, fewest_of}
use Rattle.base.specs.Number.{number_from}
use Rattle.element.specs.Element.{IsTag, extended_of}
use Rattle.element.specs.declared.FaultKind.TheVariants.{CutOff, BadTag, BadLength}
use Rattle.element.specs.declared.TagRead.{TagRead}
use Rattle.element.specs.declared.TagRead.TheVariants.{Fault as tag_fault, Tag as tag}
use Rattle.element.specs.Head.{third, second, first, tag_of, within, long_of, length_of}
use Rattle.element.specs.declared.LengthRead.{LengthRead}
use Rattle.element.specs.declared.LengthRead.TheVariants.{Fault as length_fault, Definite as known, Indefinite as endless}

-- by cases on a test, with what the test says
pub cond_all {ℓ} : {A : Type ℓ} (P : A → Type 0) (b : Bool) (x y : A) → (b ≡ true → P x) → (b ≡ false → P y) → P (cond b x y)
cond_all P true x y f g = f refl
cond_all P false x y f g = g refl

-- The tag

-- what `tag_of` gives, by its first octets
pub tag_plain : (a : ℕ) (r : List ℕ) → tag_of (a ∷ r) ≡ cond (extended_of a) (first (a ∷ r)) (tag a 1)
unfolding tag_of
tag_plain a r = rw (ne_eqb (length (a ∷ r)) 0 (λ q. omega arith))

pub tag_first : (a x : ℕ) (r : List ℕ) → first (a ∷ x ∷ r) ≡ cond (eqb x 128) (tag_fault BadTag) (cond (ltb x 31) (tag_fault BadTag) (cond (ltb x 128) (tag a 2) (second (a ∷ x ∷ r))))
unfolding first
tag_first a x r = rw (lt-leb (length (a ∷ x ∷ r)) 1 (omega arith))

pub tag_second : (a x y : ℕ) (r : List ℕ) → second (a ∷ x ∷ y ∷ r) ≡ cond (ltb y 128) (tag a 3) (third (a ∷ x ∷ y ∷ r))
unfolding second
tag_second a x y r = rw (lt-leb (length (a ∷ x ∷ y ∷ r)) 2 (omega arith))

pub tag_third : (a x y z : ℕ) (r : List ℕ) → third (a ∷ x ∷ y ∷ z ∷ r) ≡ cond (ltb z 128) (tag a 4) (tag_fault BadTag)
unfolding third
tag_third a x y z r = rw (lt-leb (length (a ∷ x ∷ y ∷ z ∷ r)) 3 (omega arith))

pub tag_complete : (a : ℕ) (x rest : List ℕ) → IsTag a x → tag_of (a ∷ (x ++ rest)) ≡ tag a (suc (length x))
unfolding IsTag
tag_complete a [] rest h = tag_plain a rest ∙ rw h
tag_complete a (x ∷ []) rest (e, h, k) = tag_plain a (x ∷ rest) ∙ rw (e, tag_first a x rest, ne_eqb x 128 (λ q. omega arith), le-ltb x 31 h, lt-ltb x 128 k)
tag_complete a (x ∷ y ∷ []) rest (e, h, k) =
    tag_plain a (x ∷ y ∷ rest) ∙ rw (e, tag_first a x (y ∷ rest), ne_eqb x 128 (λ q. omega arith), le-ltb x 31 (omega arith), le-ltb x 128 (omega arith), tag_second a x y rest, lt-ltb y 128 k)
tag_complete a (x ∷ y ∷ z ∷ []) rest (e, h, k, l) =
    tag_plain a (x ∷ y ∷ z ∷ rest)
    ∙ rw (e, tag_first a x (y ∷ z ∷ rest), ne_eqb x 128 (λ q. omega arith), le-ltb x 31 (omega arith), le-ltb x 128 (omega arith), tag_second a x y (z ∷ rest), le-ltb y 128 k, tag_third a x y z rest, lt-ltb z 128 l)
tag_complete a (x ∷ y ∷ z ∷ w ∷ r) rest h = absurd h

-- what a tag says of the octets it was read from
unfoldable pub TagIs : List ℕ → TagRead → Type 0
TagIs part (tag_fault k) = Unit {0}
TagIs part (tag a s) = (x : List ℕ) × (r : List ℕ) × (part ≡ a ∷ (x ++ r)) × IsTag a x × (s ≡ suc (length x))

third_is : (a x y : ℕ) (r : List ℕ) → extended_of a ≡ true → 129 ≤ x → 128 ≤ y → TagIs (a ∷ x ∷ y ∷ r) (third (a ∷ x ∷ y ∷ r))
unfolding TagIs IsTag third
third_is a x y [] e h k = tt
third_is a x y (z ∷ r) e h k =
    rw (tag_third a x y z r) (cond_all (TagIs (a ∷ x ∷ y ∷ z ∷ r)) (ltb z 128) _ _ (λ l. (x ∷ y ∷ z ∷ [], r, refl, (e, h, k, ltb-true z 128 l), refl)) (λ _. tt))

second_is : (a x : ℕ) (r : List ℕ) → extended_of a ≡ true → 129 ≤ x → TagIs (a ∷ x ∷ r) (second (a ∷ x ∷ r))
unfolding TagIs IsTag second
second_is a x [] e h = tt
second_is a x (y ∷ r) e h =
    rw (tag_second a x y r) (cond_all (TagIs (a ∷ x ∷ y ∷ r)) (ltb y 128) _ _ (λ k. (x ∷ y ∷ [], r, refl, (e, h, ltb-true y 128 k), refl)) (λ k. third_is a x y r e h (ltb-false y 128 k)))

first_is : (a : ℕ) (r : List ℕ) → extended_of a ≡ true → TagIs (a ∷ r) (first (a ∷ r))
unfolding TagIs IsTag first
first_is a [] e = tt
first_is a (x ∷ r) e =
    rw (tag_first a x r)
    (cond_all (TagIs (a ∷ x ∷ r)) (eqb x 128) _ _ (λ _. tt) λ n.
    cond_all (TagIs (a ∷ x ∷ r)) (ltb x 31) _ _ (λ _. tt) λ h.
    cond_all (TagIs (a ∷ x ∷ r)) (ltb x 128) _ _ (λ k. (x ∷ [], r, refl, (e, ltb-false x 31 h, ltb-true x 128 k), refl)) λ k.
    second_is a x r e (omega (arith, ltb-false x 128 k, eqb-false x 128 n)))

pub tag_sound : (part : List ℕ) → TagIs part (tag_of part)
unfolding TagIs IsTag tag_of
tag_sound [] = tt
tag_sound (a ∷ r) = rw (tag_plain a r) (cond_all (TagIs (a ∷ r)) (extended_of a) _ _ (λ e. first_is a r e) (λ e. ([], r, refl, e, refl)))

-- The length

within_known : (size n room : ℕ) → n ≤ room → within size n room ≡ known size n
unfolding within
within_known size n room h = rw (le-leb n room h)

-- what `length_of` gives, by its first octet
pub length_cons : (b : ℕ) (r : List ℕ) (c : Bool) → length_of (b ∷ r) c
    ≡ cond (ltb b 128) (within 1 b (length r)) (cond (leb 255 b) (length_fault BadLength) (cond (eqb b 128) (cond c endless (length_fault BadLength)) (long_of (b ∷ r) (b - 128))))
unfolding length_of
length_cons b r c =
    let e : length (b ∷ r) - 1 ≡ length r = omega arith in
    rw (ne_eqb (length (b ∷ r)) 0 (λ q. omega arith), e)

pub long_cons : (b : ℕ) (r : List ℕ) (k : ℕ) → long_of (b ∷ r) k
    ≡ cond (ltb (length r) k) (length_fault CutOff) (cond (fewest_of (get_or r 0 0) k) (within (suc k) (number_from 0 (take k r)) (length r - k)) (length_fault BadLength))
unfolding long_of
long_cons b r k = let e : length (b ∷ r) - 1 ≡ length r = omega arith in rw e

first_append : (x : ℕ) (ds rest : List ℕ) → get_or ((x ∷ ds) ++ rest) 0 0 ≡ get_or (x ∷ ds) 0 0
first_append x ds rest = refl

pub length_complete : (l : List ℕ) (n : ℕ) (rest : List ℕ) (c : Bool) → StandsFor l n → n ≤ length rest → length_of (l ++ rest) c ≡ known (length l) n
unfolding StandsFor
length_complete l n rest c (inl (h, e)) k = rw (e, length_cons n rest c, lt-ltb n 128 h) (within_known 1 n (length rest) k)
length_complete l n rest c (inr (ds, e)) k = rw e.octets (go ds e.some e.most e.number e.few)
  where
    go : (ds : List ℕ) → 1 ≤ length ds → length ds ≤ 126 → number_from 0 ds ≡ n → fewest_of (get_or ds 0 0) (length ds) ≡ true
        → length_of ((128 + length ds) ∷ (ds ++ rest)) c ≡ known (suc (length ds)) n
    go [] h i j f = absurd (omega arith)
    go (x ∷ ds) h i j f =
        let q : ℕ = length (x ∷ ds) in
        let z : 128 + q - 128 ≡ q = omega arith in
        length_cons (128 + q) ((x ∷ ds) ++ rest) c
        ∙ rw (le-ltb (128 + q) 128 (omega arith), lt-leb 255 (128 + q) (omega arith), ne_eqb (128 + q) 128 (λ g. omega arith), z, long_cons (128 + q) ((x ∷ ds) ++ rest) q)
        (rw (le-ltb (length ((x ∷ ds) ++ rest)) q (omega (arith, length-append (x ∷ ds) rest)), first_append x ds rest, f, take-append_seam (x ∷ ds) rest, j)
        (within_known (suc q) n (length ((x ∷ ds) ++ rest) - q) (omega (arith, length-append (x ∷ ds) rest))))

pub length_endless : (rest : List ℕ) → length_of (0x80 ∷ rest) true ≡ endless
length_endless rest = length_cons 0x80 rest true

unfoldable pub LengthIs : List ℕ → Bool → LengthRead → Type 0
LengthIs p c (length_fault k) = Unit {0}
LengthIs p c (known k n) = StandsFor (take k p) n × (k + n ≤ length p)
LengthIs p c endless = (c ≡ true) × ((r : List ℕ) × (p ≡ 0x80 ∷ r))

within_is : (p : List ℕ) (c : Bool) (size n room : ℕ) → (n ≤ room → StandsFor (take size p) n × (size + n ≤ length p)) → LengthIs p c (within size n room)
unfolding within LengthIs
within_is p c size n room h = cond_all (LengthIs p c) (leb n room) _ _ (λ e. h (leb-true n room e)) (λ _. tt)

pub take_first : (k : ℕ) (r : List ℕ) → 1 ≤ k → get_or (take k r) 0 0 ≡ get_or r 0 0
take_first zero r h = absurd (omega arith)
take_first (suc k) [] h = refl
take_first (suc k) (x ∷ r) h = refl

long_stands : (b : ℕ) (r : List ℕ) → 129 ≤ b → b ≤ 254 → b - 128 ≤ length r → fewest_of (get_or r 0 0) (b - 128) ≡ true → StandsFor (b ∷ take (b - 128) r) (number_from 0 (take (b - 128) r))
unfolding StandsFor
long_stands b r h k l f =
    let z : length (take (b - 128) r) ≡ b - 128 = length-take-le (b - 128) r l in
    inr (
      take (b - 128) r,
      record {
        octets = ap (λ (x : ℕ). x ∷ take (b - 128) r) (omega arith);
        some = omega arith;
        most = omega arith;
        number = refl;
        few = rw (z, take_first (b - 128) r (omega arith)) f;
      },
    )

short : (b : ℕ) → b < 128 → StandsFor (b ∷ []) b
unfolding StandsFor
short b h = inl (h, refl)

pub length_sound : (p : List ℕ) (c : Bool) → LengthIs p c (length_of p c)
unfolding LengthIs length_of
length_sound [] c = tt
length_sound (b ∷ r) c =
    rw (length_cons b r c)
    (cond_all (LengthIs (b ∷ r) c) (ltb b 128) _ _ (λ e. within_is (b ∷ r) c 1 b (length r) λ h. (short b (ltb-true b 128 e), omega arith)) λ e.
    cond_all (LengthIs (b ∷ r) c) (leb 255 b) _ _ (λ _. tt) λ f.
    cond_all (LengthIs (b ∷ r) c) (eqb b 128) _ _ (λ g. cond_all (LengthIs (b ∷ r) c) c _ _ (λ i. (i, (r, ap (λ (x : ℕ). x ∷ r) (eqb-true b 128 g)))) (λ _. tt)) λ g.
    rw (long_cons b r (b - 128))
    (cond_all (LengthIs (b ∷ r) c) (ltb (length r) (b - 128)) _ _ (λ _. tt) λ i.
    cond_all (LengthIs (b ∷ r) c) (fewest_of (get_or r 0 0) (b - 128)) _ _ (λ j. within_is (b ∷ r) c (suc (b - 128)) (number_from 0 (take (b - 128) r)) (length r - (b - 128)) λ h.
    (long_stands b r (omega (arith, ltb-false b 128 e, eqb-false b 128 g)) (omega (arith, leb-false 255 b f)) (ltb-false (length r) (b - 128) i) j, omega (arith, ltb-false (length r) (b - 128) i))) (λ _. tt)))

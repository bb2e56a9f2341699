-- What the readers of a front answer, from what their code was told on the way, and how many octets they take.
-- Assumes nothing.
use Prim.Native.Nat.{ℕ, ◌+◌, ◌*◌, ◌/◌, ◌≤◌, ◌<◌}
use mathlib.Core.Path.{◌≡◌, refl, ap}
use mathlib.Core.Logic.{inl, inr}
use mathlib.Core.Bool.{Bool, true, false, cond, not}
use mathlib.Core.List.{List, [], ◌∷◌}
use native.Mathlib.Omega.{arith}
use native.Mathlib.Numerals.{add-one}
use native.Mathlib.Nat.{le_refl}
use lib.ListN.{length, get_or, take, drop, length-append, length-take, drop_of_length-le}
use lib.Seq.{drop-cons}
use lib.Dec.{ltb, eqb}
use borrow.Author.Tests.{ltb-true, le-leb, lt-leb, ne_eqb}
use Rattle.base.specs.Number.{number_from}
use Rattle.base.proofs.Tests.{cond_all}
use Rattle.element.specs.Form.{StandsFor}
use Rattle.element.specs.Element.{code_zero}
use Rattle.element.specs.Head.{end_of, tag_of, within, length_of}
use Rattle.element.specs.Fault.{at}
use Rattle.element.specs.Ask.{Got, bad, check, Body, ask_tag}
use Rattle.element.specs.inner.Fronts.{fronted, front_of}
use Rattle.element.specs.declared.FaultKind.{FaultKind}
use Rattle.element.specs.declared.FaultKind.TheVariants.{PassesEnd, CodeZero, TooDeep}
use Rattle.element.specs.declared.EndRead.{EndRead}
use Rattle.element.specs.declared.EndRead.TheVariants.{Ended, Unfinished, More}
use Rattle.element.specs.declared.TagRead.{TagRead}
use Rattle.element.specs.declared.TagRead.TheVariants.{Fault as tag_fault, Tag}
use Rattle.element.specs.declared.LengthRead.{LengthRead}
use Rattle.element.specs.declared.LengthRead.TheVariants.{Fault as length_fault, Definite, Indefinite}
use Rattle.element.proofs.Heads.{TagIs, tag_sound, LengthIs, length_sound}

-- The end, by the code's tests

unfoldable pub end_tests : Bool → List ℕ → EndRead
end_tests d p =
    cond d (cond (eqb (length p) 0) Ended More)
    (cond (eqb (length p) 0) Unfinished
    (cond (eqb (get_or p 0 0) 0) (cond (eqb (length p) 1) Unfinished (cond (eqb (get_or p 1 0) 0) Ended More)) More))

pub end_tests_lem : (d : Bool) (p : List ℕ) → end_of d p ≡ end_tests d p
unfolding end_of end_tests
end_tests_lem true [] = refl
end_tests_lem true (x ∷ r) = rw (ne_eqb (length (x ∷ r)) 0 (λ q. omega arith))
end_tests_lem false [] = refl
end_tests_lem false (x ∷ []) = refl
end_tests_lem false (x ∷ y ∷ r) = rw (ne_eqb (length (x ∷ y ∷ r)) 0 (λ q. omega arith), ne_eqb (length (x ∷ y ∷ r)) 1 (λ q. omega arith))

-- The number of a length, octet by octet: i of them are read, and v is their number

number_grows : (v : ℕ) (xs : List ℕ) → v ≤ number_from v xs
unfolding number_from
number_grows v [] = le_refl v
number_grows v (x ∷ xs) = omega (arith, number_grows (v * 256 + x) xs)

module _ (xs : List ℕ) (v i : ℕ) where
  pub number_next : (r : ℕ) → i < length xs → r ≡ get_or xs i 0 → number_from 0 xs ≡ number_from v (drop i xs) → number_from 0 xs ≡ number_from (v * 256 + r) (drop (i + 1) xs)
  unfolding number_from
  number_next r h e n = rw (add-one, e) (rw (drop-cons xs i 0 h) at n)

  module _ (size room : ℕ) (n : number_from 0 xs ≡ number_from v (drop i xs)) where
    pub count_early : i < length xs → room / 256 < v → length_fault PassesEnd ≡ within size (number_from 0 xs) room
    unfolding within
    count_early h g =
        let l : number_from 0 xs ≡ number_from (v * 256 + get_or xs i 0) (drop (i + 1) xs) = number_next (get_or xs i 0) h refl n in
        let m : v * 256 + get_or xs i 0 ≤ number_from (v * 256 + get_or xs i 0) (drop (i + 1) xs) = number_grows _ _ in
        rw (lt-leb (number_from 0 xs) room (omega arith))

    number_end : length xs ≤ i → number_from 0 xs ≡ v
    unfolding number_from
    number_end h = rw (drop_of_length-le xs h) at n

    pub count_within : length xs ≤ i → v ≤ room → Definite size v ≡ within size (number_from 0 xs) room
    unfolding within
    count_within h g = rw (number_end h, le-leb v room g)

    pub count_past : length xs ≤ i → room < v → length_fault PassesEnd ≡ within size (number_from 0 xs) room
    unfolding within
    count_past h g = rw (number_end h, lt-leb v room g)

-- Tag, code 0 and level: what a front that is no fault says
unfoldable pub FrontIs : ℕ → List ℕ → TagRead → Type 0
FrontIs left p (tag_fault k) = Unit {0}
FrontIs left p (Tag a s) = (tag_of p ≡ Tag a s) × (code_zero a ≡ false) × (ltb 0 left ≡ true)

fronted_is : (left : ℕ) (p : List ℕ) (t : TagRead) → tag_of p ≡ t → FrontIs left p (fronted left t)
unfolding FrontIs fronted
fronted_is left p (tag_fault k) e = tt
fronted_is left p (Tag a s) e =
    cond_all (FrontIs left p) (code_zero a) _ _ (λ _. tt) λ z. cond_all (FrontIs left p) (ltb 0 left) _ _ (λ d. (e, z, d)) (λ _. tt)

pub front_says : (left : ℕ) (p : List ℕ) (a s : ℕ) (t : TagRead) → t ≡ front_of left p → t ≡ Tag a s → FrontIs left p (Tag a s)
unfolding front_of
front_says left p a s t is e = rw (← is, e) at (fronted_is left p (tag_of p) refl)

-- a front that is a fault is what is answered, whatever else is asked there
pub front_refused : {A : Type 0} (b : Body A) (d : Bool) (p : ℕ) (part : List ℕ) (k : FaultKind) → front_of b.left part ≡ tag_fault k → ask_tag b d p part (tag_of part) ≡ bad (b.owner (at k p))
unfolding front_of fronted ask_tag check
front_refused {A} b d p part k e = by_tag (tag_of part) e
  where
    by_tests : (a s : ℕ) (z v : Bool) (x : Got A) → cond z (tag_fault CodeZero) (cond v (Tag a s) (tag_fault TooDeep)) ≡ tag_fault k
        → check (not z) (b.owner (at CodeZero p)) (check v (b.owner (at TooDeep p)) x) ≡ bad (b.owner (at k p))
    by_tests a s true v x e = let q : CodeZero ≡ k = cc in rw (← q)
    by_tests a s false true x e = let z : ◌≡◌ {A = ℕ} 0 1 = cc in absurd (omega arith)
    by_tests a s false false x e = let q : TooDeep ≡ k = cc in rw (← q)

    by_tag : (t : TagRead) → fronted b.left t ≡ tag_fault k → ask_tag b d p part t ≡ bad (b.owner (at k p))
    by_tag (tag_fault j) e = let q : j ≡ k = cc in rw q
    by_tag (Tag a s) e = by_tests a s (code_zero a) (ltb 0 b.left) _ e

-- How many octets each takes

pub tag_size : (p : List ℕ) (a s : ℕ) → tag_of p ≡ Tag a s → (1 ≤ s) × (s ≤ length p)
unfolding TagIs
tag_size p a s e =
    let (x, r, q, i, z) : TagIs p (Tag a s) = rw e at (tag_sound p) in
    omega (arith, z, ap length q, length-append (a ∷ x) r)

-- a tag is read from its first octet
pub tag_first : (p : List ℕ) (a s : ℕ) → tag_of p ≡ Tag a s → get_or p 0 0 ≡ a
unfolding TagIs
tag_first p a s e = let (x, r, q, i, z) : TagIs p (Tag a s) = rw e at (tag_sound p) in rw q

pub front_size : (left : ℕ) (p : List ℕ) (a s : ℕ) (t : TagRead) → t ≡ front_of left p → t ≡ Tag a s → (1 ≤ s) × (s ≤ length p) × (1 ≤ left)
unfolding FrontIs
front_size left p a s t is e =
    let (i, z, d) : FrontIs left p (Tag a s) = front_says left p a s t is e in
    omega (arith, tag_size p a s i, ltb-true 0 left d)

pub stands_size : (l : List ℕ) (n : ℕ) → StandsFor l n → 1 ≤ length l
unfolding StandsFor
stands_size l n (inl (h, e)) = omega (arith, ap length e)
stands_size l n (inr (ds, f)) = omega (arith, ap length f.octets)

pub definite_size : (q : List ℕ) (c : Bool) (k n : ℕ) (r : LengthRead) → r ≡ length_of q c → r ≡ Definite k n → (1 ≤ k) × (k + n ≤ length q)
unfolding LengthIs
definite_size q c k n r is e =
    let (s, h) : LengthIs q c (Definite k n) = rw (← is, e) at (length_sound q c) in
    omega (arith, h, stands_size (take k q) n s, length-take k q)

pub indefinite_size : (q : List ℕ) (c : Bool) (r : LengthRead) → r ≡ length_of q c → r ≡ Indefinite → (1 ≤ length q) × (c ≡ true)
unfolding LengthIs
indefinite_size q c r is e =
    let (z, (l, f)) : LengthIs q c Indefinite = rw (← is, e) at (length_sound q c) in
    (omega (arith, ap length f), z)

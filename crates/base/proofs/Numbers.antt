-- Two's complement, once over the width: what is written of a number that the width holds is read as that number, and the other way. Assumes nothing.
use Prim.Native.Nat.{ℕ, zero, suc, ◌+◌, ◌-◌, ◌*◌, ◌/◌, ◌%◌, ◌≤◌, ◌<◌}
use native.Mathlib.Omega.{arith}
use native.Mathlib.Nat.{zero-add}
use native.Mathlib.Numerals.{add-one}
use mathlib.Core.Path.{◌≡◌, refl, ap, sym, ◌∙◌}
use mathlib.Core.Bool.{Bool, true, false, cond, false≢true}
use mathlib.Core.List.{List, [], ◌∷◌, ◌++◌, append_assoc, append-nil}
use lib.ListN.{length, drop, get_or, length-append, drop_of_length-le}
use lib.Seq.{drop-cons}
use lib.Dec.{T, leb, leb-zero}
use lib.IntN.{ℤ, pos, negsuc, ◌-ℤ◌, nat_abs}
use lib.Signed.{mag, le_z, non_neg}
use mir.Syntax.{w8}
use mir.Val.{Fits}
use borrow.Author.Tests.{leb-true, leb-false, le-leb, lt-leb, le-ltb}
use Rattle.base.specs.Number.{number_from, octets_in, top_of, signed_at, bits_at, holds}
use Rattle.base.specs.Value.{Every}

abbrev pub Octets : List ℕ → Type 0
Octets l = Every (λ x. x < 256) l

-- the law over the width
module _ (top n : ℕ) where
  small_by : (b : Bool) → leb n (top / 2) ≡ b → mag (signed_at top n) ≤ top / 2
  unfolding signed_at
  small_by true e = rw e (leb-true _ _ e)
  small_by false e = rw e (omega (arith, leb-false n (top / 2) e))

  pub signed_small : mag (signed_at top n) ≤ top / 2
  signed_small = small_by (leb n (top / 2)) refl

module _ (top n : ℕ) (h : n ≤ top) where
  back_by : (b : Bool) → leb n (top / 2) ≡ b → bits_at top (signed_at top n) ≡ n
  unfolding signed_at bits_at
  back_by true e = rw e
  back_by false e = rw e (omega arith)

  pub bits_signed : bits_at top (signed_at top n) ≡ n
  bits_signed = back_by (leb n (top / 2)) refl

pub signed_bits : (top : ℕ) (z : ℤ) → mag z ≤ top / 2 → top / 2 + top / 2 < top → signed_at top (bits_at top z) ≡ z
unfolding signed_at bits_at
signed_bits top (pos n) h odd = rw (le-leb n (top / 2) h)
signed_bits top (negsuc n) h odd =
    let past : top / 2 < top - n = omega arith in
    let back : top - (top - n) ≡ n = omega arith in
    rw (lt-leb (top - n) (top / 2) past, back)

pub bits_within : (top : ℕ) (z : ℤ) → mag z ≤ top / 2 → bits_at top z ≤ top
unfolding bits_at
bits_within top (pos n) h = omega arith
bits_within top (negsuc n) h = omega arith

-- every width is odd
pub top_odd : (k : ℕ) → 1 ≤ k → top_of k / 2 + top_of k / 2 < top_of k
unfolding top_of
top_odd zero h = absurd (omega arith)
top_odd (suc k) h = omega arith

pub top_grows : (i k : ℕ) → i ≤ k → top_of i ≤ top_of k
unfolding top_of
top_grows zero k h = omega arith
top_grows (suc i) zero h = absurd (omega arith)
top_grows (suc i) (suc k) h = let s : top_of i ≤ top_of k = top_grows i k (omega arith) in omega arith

pub holds_more : (i k : ℕ) (z : ℤ) → i ≤ k → holds i z ≡ true → holds k z ≡ true
unfolding holds
holds_more i k z h e = le-leb (mag z) (top_of k / 2) (omega (arith, top_grows i k h, leb-true (mag z) (top_of i / 2) e))

pub holds_small : (k : ℕ) (z : ℤ) → holds k z ≡ true → mag z ≤ top_of k / 2
unfolding holds
holds_small k z e = leb-true (mag z) (top_of k / 2) e

pub small_holds : (k : ℕ) (z : ℤ) → mag z ≤ top_of k / 2 → holds k z ≡ true
unfolding holds
small_holds k z h = le-leb (mag z) (top_of k / 2) h

-- octets of a number

pub length_octets_lem : (k n : ℕ) → length (octets_in k n) ≡ k
unfolding octets_in
length_octets_lem zero n = refl
length_octets_lem (suc k) n = omega (arith, length-append (octets_in k (n / 256)) (n % 256 ∷ []), length_octets_lem k (n / 256))

pub octets_append : (a b : List ℕ) → Octets a → Octets b → Octets (a ++ b)
unfolding Every
octets_append [] b o q = q
octets_append (x ∷ a) b o q = (o.0, octets_append a b o.1 q)

pub octets_are : (k n : ℕ) → Octets (octets_in k n)
unfolding octets_in Every
octets_are zero n = tt
octets_are (suc k) n = octets_append (octets_in k (n / 256)) (n % 256 ∷ []) (octets_are k (n / 256)) (omega arith, tt)

number_append : (v : ℕ) (a b : List ℕ) → number_from v (a ++ b) ≡ number_from (number_from v a) b
unfolding number_from
number_append v [] b = refl
number_append v (x ∷ a) b = number_append (v * 256 + x) a b

pub number_octets : (k n : ℕ) → n ≤ top_of k → number_from 0 (octets_in k n) ≡ n
unfolding number_from octets_in top_of
number_octets zero n h = omega arith
number_octets (suc k) n h =
    let e : number_from 0 (octets_in k (n / 256)) ≡ n / 256 = number_octets k (n / 256) (omega arith) in
    number_append 0 (octets_in k (n / 256)) (n % 256 ∷ []) ∙ rw e (omega arith)

-- k octets make a number of their width
number_within : (v b : ℕ) (c : List ℕ) → v ≤ top_of b → Octets c → number_from v c ≤ top_of (b + length c)
unfolding number_from Every top_of
number_within v b [] h o = let z : b + 0 ≡ b = omega arith in rw z h
number_within v b (x ∷ c) h o = let z : b + suc (length c) ≡ suc b + length c = omega arith in rw z (number_within (v * 256 + x) (suc b) c (omega (arith, o.0)) o.1)

pub number_small : (c : List ℕ) → Octets c → number_from 0 c ≤ top_of (length c)
number_small c o = rw (zero-add (length c)) at (number_within 0 0 c (omega arith) o)

-- octets of a slice, as the code knows them
pub octets_known : (l : List ℕ) → ((i : ℕ) → Fits w8 (get_or l i 0)) → Octets l
unfolding Every
octets_known [] h = tt
octets_known (x ∷ l) h = ((h 0).fits, octets_known l (λ i. h (suc i)))

-- octets are those of their number, also after others
octets_after_lem : (b v : ℕ) (c : List ℕ) → Octets c → octets_in (b + length c) (number_from v c) ≡ octets_in b v ++ c
unfolding octets_in number_from Every
octets_after_lem b v [] o = let z : b + 0 ≡ b = omega arith in rw (z, append-nil)
octets_after_lem b v (x ∷ c) o =
    let z : b + suc (length c) ≡ suc b + length c = omega arith in
    let front : (v * 256 + x) / 256 ≡ v = omega (arith, o.0) in
    let last : (v * 256 + x) % 256 ≡ x = omega (arith, o.0) in
    rw z (octets_after_lem (suc b) (v * 256 + x) c o.1 ∙ rw (front, last) (append_assoc (octets_in b v) (x ∷ []) c))

pub octets_number : (c : List ℕ) → Octets c → octets_in (length c) (number_from 0 c) ≡ c
unfolding octets_in
octets_number c o = rw (zero-add (length c)) at (octets_after_lem 0 0 c o)

-- one octet more
pub number_step : (s : List ℕ) (i v : ℕ) → i < length s → number_from v (drop i s) ≡ number_from (v * 256 + get_or s i 0) (drop (i + 1) s)
unfolding number_from
number_step s i v h = rw (add-one, drop-cons s i 0)

pub number_end : (s : List ℕ) (i v : ℕ) → length s ≤ i → number_from v (drop i s) ≡ v
unfolding number_from
number_end s i v h = rw (drop_of_length-le s h)

pub top_step : (i : ℕ) → top_of (i + 1) ≡ top_of i * 256 + 255
unfolding top_of
top_step i = rw add-one

-- by the sign, as the test `z >= 0` tells it
pub bits_by_sign : (top : ℕ) (z : ℤ) → bits_at top z ≡ cond (le_z (pos 0) z) (mag z) (top - mag z)
unfolding bits_at
bits_by_sign top (pos n) = rw (leb-zero n)
bits_by_sign top (negsuc n) = refl

pub not_neg : (z : ℤ) → le_z (pos 0) z ≡ true → T (non_neg z) × (nat_abs z ≡ mag z)
not_neg (pos n) e = (tt, refl)
not_neg (negsuc n) e = absurd (false≢true e)

-- -1 - m is -(m + 1), and -1 - z for z below 0
pub minus_one_less : (m : ℕ) → negsuc 0 -ℤ pos m ≡ negsuc m
minus_one_less zero = refl
minus_one_less (suc n) = ap (λ (k : ℕ). negsuc (suc k)) (zero-add n)

pub neg_flip : (z : ℤ) → le_z (pos 0) z ≡ false → negsuc 0 -ℤ z ≡ pos (mag z)
neg_flip (pos n) e = absurd (false≢true (sym e ∙ leb-zero n))
neg_flip (negsuc n) e =
    let past : 1 ≤ suc n = omega arith in
    let less : suc n - 1 ≡ n = omega arith in
    rw (le-ltb (suc n) 1 past) (ap pos less)

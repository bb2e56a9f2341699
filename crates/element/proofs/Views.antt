-- What stands from a place to an end, by the octets of the whole. Assumes nothing.
use Prim.Native.Nat.{ℕ, suc, ◌+◌, ◌-◌, ◌*◌, ◌≤◌, ◌<◌}
use mathlib.Core.Path.{◌≡◌, refl, sym, ap, ◌∙◌}
use mathlib.Core.Bool.{Bool, true, false, cond}
use mathlib.Core.List.{List}
use native.Mathlib.Omega.{arith}
use native.Mathlib.Nat.{add-zero, zero-add}
use lib.ListN.{length, get_or, drop, take, length-drop}
use lib.Seq.{drop-cons, length-take-le, get_or-drop, get_or-take, drop-drop, take-take, take-add, drop_at}
use lib.Dec.{eqb, ltb, leb}
use borrow.Author.Tests.{leb-true, leb-false, ltb-true, ltb-false, le-leb, lt-leb, eqb-false, eqb-true, lt-ltb, le-ltb, eq-eqb, ne_eqb}
use Rattle.base.specs.Number.{number_from}
use Rattle.base.proofs.Tests.{cond_all}
use Rattle.element.specs.declared.FaultKind.{FaultKind}
use Rattle.element.specs.declared.EndRead.{EndRead}
use Rattle.element.specs.declared.TagRead.{TagRead}
use Rattle.element.specs.declared.LengthRead.{LengthRead}
use Rattle.element.specs.Form.{fewest_of}
use Rattle.element.specs.Element.{extended_of}
use Rattle.element.specs.Head.{end_of, tag_of, first, second, third, within, long_of, length_of}
use Rattle.element.specs.inner.Fronts.{span, long_read, length_size}
use Rattle.element.proofs.Reading.{end_tests, end_tests_lem, number_next}

pub span_length : (m : List ℕ) (at end : ℕ) → end ≤ length m → length (span m at end) ≡ end - at
span_length m at end h = rw (length-drop, length-take-le end m h)

pub span_get : (m : List ℕ) (at end i : ℕ) → at + i < end → get_or (span m at end) i 0 ≡ get_or m (at + i) 0
span_get m at end i h = rw (get_or-drop, get_or-take end m (at + i) 0 h)

pub cond_else {ℓ} : {A : Type ℓ} (b : Bool) (x : A) {y z : A} → (b ≡ false → y ≡ z) → cond b x y ≡ cond b x z
cond_else true x h = refl
cond_else false x h = h refl

pub cond_then {ℓ} : {A : Type ℓ} (b : Bool) {x y : A} (z : A) → (b ≡ true → x ≡ y) → cond b x z ≡ cond b y z
cond_then true z h = h refl
cond_then false z h = refl

-- what stands inside
pub span_drop : (m : List ℕ) (at end n : ℕ) → drop n (span m at end) ≡ span m (at + n) end
span_drop m at end n = drop-drop n at (take end m)

pub span_cut : (m : List ℕ) (at end : ℕ) → at ≤ end → end ≤ length m → span m at end ≡ take (end - at) (drop at m)
span_cut m at end g h =
    let e : end ≡ at + (end - at) = omega (arith, g) in
    ap (λ (k : ℕ). drop at (take k m)) e ∙ ap (drop at) (take-add at (end - at) m) ∙ drop_at (take at m) _ at (length-take-le at m (omega (arith, g, h)))

pub span_take : (m : List ℕ) (at end i k : ℕ) → at + i + k ≤ end → end ≤ length m → take k (drop i (span m at end)) ≡ take k (drop (at + i) m)
span_take m at end i k g h = rw (span_drop m at end i, span_cut m (at + i) end (omega (arith, g)) h, take-take k (end - (at + i)) (drop (at + i) m) (omega (arith, g)))

pub span_inner : (m : List ℕ) (at end i k : ℕ) → at + i + k ≤ end → end ≤ length m → take k (drop i (span m at end)) ≡ span m (at + i) (at + i + k)
span_inner m at end i k g h =
    let e : at + i + k - (at + i) ≡ k = omega arith in
    rw (span_take m at end i k g h, span_cut m (at + i) (at + i + k) (omega arith) (omega (arith, g, h)), e)

-- the end, by the octets left and the first two
unfoldable pub end_by : Bool → ℕ → ℕ → ℕ → EndRead
end_by d n a b =
    cond d (cond (eqb n 0) EndRead.Ended EndRead.More)
    (cond (eqb n 0) EndRead.Unfinished
    (cond (eqb a 0) (cond (eqb n 1) EndRead.Unfinished (cond (eqb b 0) EndRead.Ended EndRead.More)) EndRead.More))

unfoldable pub tag_by : ℕ → ℕ → ℕ → ℕ → ℕ → TagRead
tag_by n a b c d =
    cond (eqb n 0) (TagRead.Fault FaultKind.CutOff)
    (cond (extended_of a)
    (cond (leb n 1) (TagRead.Fault FaultKind.CutOff)
    (cond (eqb b 128) (TagRead.Fault FaultKind.BadTag)
    (cond (ltb b 31) (TagRead.Fault FaultKind.BadTag)
    (cond (ltb b 128) (TagRead.Tag a 2)
    (cond (leb n 2) (TagRead.Fault FaultKind.CutOff)
    (cond (ltb c 128) (TagRead.Tag a 3)
    (cond (leb n 3) (TagRead.Fault FaultKind.CutOff)
    (cond (ltb d 128) (TagRead.Tag a 4) (TagRead.Fault FaultKind.BadTag)))))))))
    (TagRead.Tag a 1))

module _ (m : List ℕ) (at end : ℕ) (h : end ≤ length m) where
  some_left : eqb (end - at) 0 ≡ false → at < end
  some_left e = omega (arith, eqb-false (end - at) 0 e)

  -- an octet is asked for only where it stands
  pub end_view : (d : Bool) → end_of d (span m at end) ≡ end_by d (end - at) (get_or m at 0) (get_or m (at + 1) 0)
  unfolding end_tests end_by
  end_view true = rw (end_tests_lem, span_length m at end h)
  end_view false =
      rw (end_tests_lem, span_length m at end h) (cond_else (eqb (end - at) 0) _ (λ e. let l : at < end = some_left e in
      rw (span_get m at end 0 (omega arith), add-zero) (cond_then (eqb (get_or m at 0) 0) _ (λ z. cond_else (eqb (end - at) 1) _ (λ f. rw (span_get m at end 1 (omega (arith, eqb-false (end - at) 1 f))))))))

  pub tag_view : tag_of (span m at end) ≡ tag_by (end - at) (get_or m at 0) (get_or m (at + 1) 0) (get_or m (at + 2) 0) (get_or m (at + 3) 0)
  unfolding tag_of first second third tag_by
  tag_view =
      rw (span_length m at end h) (cond_else (eqb (end - at) 0) _ (λ e. let l : at < end = some_left e in
      rw (span_get m at end 0 (omega arith), add-zero) (cond_then (extended_of (get_or m at 0)) _ (λ z. cond_else (leb (end - at) 1) _ (λ f. let g : 1 < end - at = leb-false (end - at) 1 f in
      rw (span_get m at end 1 (omega arith)) (cond_else (eqb (get_or m (at + 1) 0) 128) _ (λ z. cond_else (ltb (get_or m (at + 1) 0) 31) _ (λ z. cond_else (ltb (get_or m (at + 1) 0) 128) _ (λ z.
      cond_else (leb (end - at) 2) _ (λ f. let g : 2 < end - at = leb-false (end - at) 2 f in
      rw (span_get m at end 2 (omega arith)) (cond_else (ltb (get_or m (at + 2) 0) 128) _ (λ z.
      cond_else (leb (end - at) 3) _ (λ f. let g : 3 < end - at = leb-false (end - at) 3 f in rw (span_get m at end 3 (omega arith)))))))))))))))

-- a length, by the octets left and the first
unfoldable pub length_by : ℕ → ℕ → Bool → LengthRead → LengthRead
length_by n b c long =
    cond (eqb n 0) (LengthRead.Fault FaultKind.CutOff)
    (cond (ltb b 128) (within 1 b (n - 1))
    (cond (leb 255 b) (LengthRead.Fault FaultKind.BadLength)
    (cond (eqb b 128) (cond c LengthRead.Indefinite (LengthRead.Fault FaultKind.BadLength)) long)))

unfoldable pub long_by : ℕ → ℕ → ℕ → List ℕ → LengthRead
long_by left k one octets =
    cond (ltb left k) (LengthRead.Fault FaultKind.CutOff)
    (cond (fewest_of one k) (within (suc k) (number_from 0 octets) (left - k)) (LengthRead.Fault FaultKind.BadLength))

pub length_view : (m : List ℕ) (from end : ℕ) (c : Bool) → end ≤ length m → length_of (span m from end) c ≡ length_by (end - from) (get_or m from 0) c (long_of (span m from end) (get_or m from 0 - 128))
unfolding length_of length_by
length_view m from end c h =
    rw (span_length m from end h) (cond_else (eqb (end - from) 0) _ (λ e. rw (span_get m from end 0 (omega (arith, eqb-false (end - from) 0 e)), add-zero)))

pub long_view : (m : List ℕ) (from end k : ℕ) → end ≤ length m → 1 ≤ k → long_of (span m from end) k ≡ long_by (end - from - 1) k (get_or m (from + 1) 0) (take k (drop (from + 1) m))
unfolding long_of long_by
long_view m from end k h l =
    rw (span_length m from end h) (cond_else (ltb (end - from - 1) k) _ (λ e. let g : k ≤ end - from - 1 = ltb-false (end - from - 1) k e in
    rw (span_get m from end 1 (omega (arith, g, l)), span_take m from end 1 k (omega (arith, g, l)) h)))

-- the k octets of a length behind its first
abbrev pub length_octets : List ℕ → ℕ → ℕ → List ℕ
length_octets m from k = take k (drop (from + 1) m)

pub octets_count : (m : List ℕ) (from k : ℕ) → from + 1 + k ≤ length m → length (length_octets m from k) ≡ k
octets_count m from k l = length-take-le k (drop (from + 1) m) (omega (arith, length-drop (from + 1) m, l))

pub one_number : (m : List ℕ) (from : ℕ) → from + 1 < length m → number_from 0 (length_octets m from 1) ≡ get_or m (from + 1) 0
unfolding number_from
one_number m from l = rw (drop-cons m (from + 1) 0 l, zero-add)

-- the number of a length, octet by octet: i of them are read, and v is their number
module _ (m : List ℕ) (from k room v i : ℕ) (l : from + 1 + k + room ≤ length m) (n : number_from 0 (length_octets m from k) ≡ number_from v (drop i (length_octets m from k))) where
  pub all_of_them : length (length_octets m from k) ≡ k
  all_of_them = octets_count m from k (omega (arith, l))

  pub place_next : (r : ℕ) → i < k → r ≡ get_or m (from + 1 + i) 0 → number_from 0 (length_octets m from k) ≡ number_from (v * 256 + r) (drop (i + 1) (length_octets m from k))
  place_next r h e = number_next (length_octets m from k) v i r (omega (arith, all_of_them, h)) (e ∙ rw (get_or-take k (drop (from + 1) m) i 0 h, get_or-drop)) n

-- a length whose octets are there and as few as can be
module _ (m : List ℕ) (from end k : ℕ) (b : from < end) (h : end ≤ length m) (l : 1 ≤ k) (most : k ≤ 126) (g : k ≤ end - from - 1) where
  pub long_place : fewest_of (get_or m (from + 1) 0) k ≡ true → long_read (span m from end) k ≡ within (suc k) (number_from 0 (length_octets m from k)) (end - from - 1 - k)
  unfolding long_read long_by
  long_place few = rw (le-ltb 126 k most, long_view m from end k h l, le-ltb (end - from - 1) k g, few)

  -- a length below 128 is in more octets than it needs
  pub low_place : k ≡ 1 → get_or m (from + 1) 0 < 128 → long_read (span m from end) k ≡ LengthRead.Fault FaultKind.BadLength
  unfolding long_read long_by fewest_of
  low_place n q = rw (le-ltb 126 k most, long_view m from end k h l, le-ltb (end - from - 1) k g, eq-eqb k 1 n, lt-leb 128 (get_or m (from + 1) 0) q, either (eqb (get_or m (from + 1) 0) 0))
    where
      either : (b : Bool) → cond b false false ≡ false
      either true = refl
      either false = refl

  -- one octet is its number
  module _ (n : k ≡ 1) (o : 128 ≤ get_or m (from + 1) 0) where
    pub one_place : long_read (span m from end) k ≡ within 2 (get_or m (from + 1) 0) (end - from - 1 - 1)
    unfolding fewest_of
    one_place =
        let few : fewest_of (get_or m (from + 1) 0) k ≡ true = rw (ne_eqb (get_or m (from + 1) 0) 0 (λ z. omega (arith, z, o)), eq-eqb k 1 n, le-leb 128 (get_or m (from + 1) 0) o) in
        rw (long_place few, n, one_number m from (omega (arith, h, g, n)))

-- 255 is no first octet of a length
pub no_255 : (b : ℕ) → 128 ≤ b → leb 255 b ≡ ltb 126 (b - 128)
no_255 b g = by (leb 255 b) refl
  where
    by : (t : Bool) → leb 255 b ≡ t → t ≡ ltb 126 (b - 128)
    by true q = sym (lt-ltb 126 (b - 128) (omega (arith, leb-true 255 b q)))
    by false q = sym (le-ltb 126 (b - 128) (omega (arith, leb-false 255 b q)))

-- how many octets a length takes is told by its first
unfoldable pub SizeIs : ℕ → LengthRead → Type 0
SizeIs b (LengthRead.Fault k) = Unit {0}
SizeIs b (LengthRead.Definite k n) = k ≡ length_size b
SizeIs b LengthRead.Indefinite = 1 ≡ length_size b

within_size : (b size n room : ℕ) → size ≡ length_size b → SizeIs b (within size n room)
unfolding within SizeIs
within_size b size n room e = cond_all (SizeIs b) (leb n room) _ _ (λ _. e) (λ _. tt)

pub length_sized : (p : List ℕ) (c : Bool) → SizeIs (get_or p 0 0) (length_of p c)
unfolding length_of long_of SizeIs length_size
length_sized p c =
    cond_all (SizeIs (get_or p 0 0)) (eqb (length p) 0) _ _ (λ _. tt) λ e.
    cond_all (SizeIs (get_or p 0 0)) (ltb (get_or p 0 0) 128) _ _ (λ l. within_size (get_or p 0 0) 1 _ _ (rw (le-leb (get_or p 0 0) 128 (omega (arith, ltb-true (get_or p 0 0) 128 l))))) λ l.
    cond_all (SizeIs (get_or p 0 0)) (leb 255 (get_or p 0 0)) _ _ (λ _. tt) λ f.
    cond_all (SizeIs (get_or p 0 0)) (eqb (get_or p 0 0) 128) _ _ (λ q. cond_all (SizeIs (get_or p 0 0)) c _ _ (λ _. rw (eqb-true (get_or p 0 0) 128 q)) (λ _. tt)) λ q.
    cond_all (SizeIs (get_or p 0 0)) (ltb (length p - 1) (get_or p 0 0 - 128)) _ _ (λ _. tt) λ i.
    cond_all (SizeIs (get_or p 0 0)) (fewest_of (get_or p 1 0) (get_or p 0 0 - 128)) _ _ (λ j. within_size (get_or p 0 0) _ _ _ (rw (lt-leb (get_or p 0 0) 128 (omega (arith, ltb-false (get_or p 0 0) 128 l, eqb-false (get_or p 0 0) 128 q))) (omega arith))) (λ _. tt)

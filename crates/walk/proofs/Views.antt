-- What the readers of a tag and of a length find, by the octets of the whole. Assumes nothing.
use Rattle.std.specs.Prelude.{Some, None, unwrap_or}
use Prim.Native.Nat.{ℕ, suc, ◌+◌, ◌-◌, ◌/◌, ◌%◌, ◌≤◌, ◌<◌}
use mathlib.Core.Path.{◌≡◌, refl, ap, ◌∙◌}
use mathlib.Core.Bool.{Bool, true, false}
use mathlib.Core.List.{List}
use native.Mathlib.Omega.{arith}
use lib.ListN.{length, get_or, drop}
use lib.Dec.{eqb}
use borrow.Author.Tests.{eqb-true, le-leb, lt-leb, lt-ltb, le-ltb, ne_eqb}
use Rattle.element.specs.declared.FaultKind.{FaultKind}
use Rattle.element.specs.declared.LengthRead.{LengthRead}
use Rattle.element.specs.Element.{extended_of, code_zero}
use Rattle.base.specs.Number.{number_from}
use Rattle.element.specs.Form.{fewest_of}
use Rattle.element.specs.Head.{within, length_of}
use Rattle.element.specs.inner.Fronts.{fronted, front_of, span, long_read}
use Rattle.element.proofs.Reading.{count_early, count_within, count_past}
use Rattle.element.proofs.Views.{tag_by, tag_view, length_by, length_view, length_octets, all_of_them, long_view, long_place, low_place, no_255}
use Rattle.base.proofs.Tests.{tests}
use Rattle.walk.specs.Walks.{tag_end, length_end, end_by_length}

-- what `count_end` answers: the number of a length, octet by octet, of which i are read, and v is their number
module _ (m : List ℕ) (from k room v i : ℕ) (l : from + 1 + k + room ≤ length m) (n : number_from 0 (length_octets m from k) ≡ number_from v (drop i (length_octets m from k))) where
  pub place_early : i < k → room / 256 < v → None ≡ length_end from (within (suc k) (number_from 0 (length_octets m from k)) room)
  unfolding length_end
  place_early h g = ap (length_end from) (count_early (length_octets m from k) v i (suc k) room n (omega (arith, all_of_them m from k room v i l n, h)) g)

  module _ (h : k ≤ i) where
    pub place_within : v ≤ room → Some (from + 1 + k + v) ≡ length_end from (within (suc k) (number_from 0 (length_octets m from k)) room)
    unfolding length_end
    place_within g = let e : from + 1 + k + v ≡ from + (suc k + v) = omega arith in rw e (ap (length_end from) (count_within (length_octets m from k) v i (suc k) room n (omega (arith, all_of_them m from k room v i l n, h)) g))

    pub place_past : room < v → None ≡ length_end from (within (suc k) (number_from 0 (length_octets m from k)) room)
    unfolding length_end
    place_past g = ap (length_end from) (count_past (length_octets m from k) v i (suc k) room n (omega (arith, all_of_them m from k room v i l n, h)) g)

-- the same as a number, with `past` where there is none
pub end_or_past : (from past : ℕ) (r : LengthRead) → unwrap_or (length_end from r) past ≡ end_by_length from past r
unfolding length_end end_by_length
end_or_past from past (LengthRead.Fault k) = refl
end_or_past from past (LengthRead.Definite k n) = refl
end_or_past from past LengthRead.Indefinite = refl

-- a length of more than one octet whose octets are there
module _ (m : List ℕ) (from end k : ℕ) (b : from < end) (h : end ≤ length m) (l : 1 ≤ k) (most : k ≤ 126) (g : k ≤ end - from - 1) where
  pub long_more : (get_or m (from + 1) 0 ≡ 0 → ⊥) → (k ≡ 1 → 128 ≤ get_or m (from + 1) 0) → long_read (span m from end) k ≡ within (suc k) (number_from 0 (length_octets m from k)) (end - from - 1 - k)
  unfolding fewest_of
  long_more o n = long_place m from end k b h l most g (few (eqb k 1) refl)
    where
      few : (t : Bool) → eqb k 1 ≡ t → fewest_of (get_or m (from + 1) 0) k ≡ true
      few true e = rw (ne_eqb (get_or m (from + 1) 0) 0 o, e, le-leb 128 (get_or m (from + 1) 0) (n (eqb-true k 1 e)))
      few false e = rw (ne_eqb (get_or m (from + 1) 0) 0 o, e)

-- a length by its first octet: one octet that is a number, or the number of those that follow
module _ (m : List ℕ) (from end : ℕ) (c : Bool) (h : end ≤ length m) (l : from < end) where
  module _ (low : get_or m from 0 < 128) where
    pub length_short : from + (1 + get_or m from 0) ≤ end → length_of (span m from end) c ≡ LengthRead.Definite 1 (get_or m from 0)
    unfolding length_by within
    length_short g = rw (length_view m from end c h, ne_eqb (end - from) 0 (λ z. omega (arith, z, l)), lt-ltb (get_or m from 0) 128 low, le-leb (get_or m from 0) (end - from - 1) (omega (arith, g)))

    pub length_past : end < from + (1 + get_or m from 0) → length_of (span m from end) c ≡ LengthRead.Fault FaultKind.PassesEnd
    unfolding length_by within
    length_past g = rw (length_view m from end c h, ne_eqb (end - from) 0 (λ z. omega (arith, z, l)), lt-ltb (get_or m from 0) 128 low, lt-leb (get_or m from 0) (end - from - 1) (omega (arith, g, l)))

  pub length_long : 128 ≤ get_or m from 0 → (get_or m from 0 ≡ 128 → ⊥) → length_of (span m from end) c ≡ long_read (span m from end) (get_or m from 0 - 128)
  unfolding length_by long_read
  length_long g n = rw (length_view m from end c h, ne_eqb (end - from) 0 (λ z. omega (arith, z, l)), le-ltb (get_or m from 0) 128 g, ne_eqb (get_or m from 0) 128 n, no_255 (get_or m from 0) g)

-- a tag of one octet, by its code
module _ (m : List ℕ) (at end : ℕ) (h : end ≤ length m) (l : at < end) where
  pub front_zero : get_or m at 0 ≡ 0 → None ≡ tag_end at (front_of 1 (span m at end))
  unfolding front_of fronted tag_end tag_by extended_of code_zero
  front_zero e = rw (tag_view m at end h, ne_eqb (end - at) 0 (λ z. omega (arith, z, l)), e)

  pub front_one : (get_or m at 0 ≡ 0 → ⊥) → (get_or m at 0 ≡ 32 → ⊥) → (get_or m at 0 % 32 ≡ 31 → ⊥) → Some (at + 1) ≡ tag_end at (front_of 1 (span m at end))
  unfolding front_of fronted tag_end tag_by extended_of code_zero
  front_one z y e = rw (tag_view m at end h, ne_eqb (end - at) 0 (λ z. omega (arith, z, l)), ne_eqb (get_or m at 0 % 32) 31 e, ne_eqb (get_or m at 0) 0 z, ne_eqb (get_or m at 0) 32 y)

pub ruleset counting = (place_early, place_within, place_past)

pub ruleset long_lengths = (tests, long_view, long_more, low_place)

pub ruleset short_lengths = (length_short, length_past, length_long)

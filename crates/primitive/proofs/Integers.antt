-- Signed integers: written and read back, over the width; and their fewest octets, as those in which they are written and by the range of one less.
-- Assumes nothing.
use Rattle.std.specs.Prelude.{Option as Optional, Some, None, if◌then◌else◌}
use Prim.Native.Nat.{ℕ, zero, suc, ◌+◌, ◌-◌, ◌*◌, ◌/◌, ◌≤◌, ◌<◌}
use native.Mathlib.Omega.{arith}
use mathlib.Core.Path.{◌≡◌, refl, sym, ap, ◌∙◌}
use mathlib.Core.Bool.{Bool, true, false, cond, not, ◌&&◌, false≢true, and-true, and-false, and-eq-true_iff}
use mathlib.Core.List.{List, [], ◌∷◌, map}
use lib.ListN.{length, get_or}
use lib.Dec.{leb, eqb}
use lib.IntN.{ℤ, pos, negsuc}
use lib.Signed.{mag, le_z, lt_z}
use Rattle.std.specs.Ordering.{is_le, int_cmp}
use Rattle.std.specs.declared.cmp.Ordering.TheVariants.{Less, Equal, Greater}
use borrow.Author.Tests.{leb-true, le-leb, lt-leb, ltb-true, ltb-false, eqb-true, eqb-false}
use mir.Facts.{to_z-of_z}
use Rattle.base.specs.Number.{number_from, octets_in, top_of, signed_at, bits_at, holds}
use Rattle.base.specs.Value.{same}
use Rattle.base.proofs.Tests.{cond_all}
use Rattle.base.proofs.Values.{same_equal, same_refl}
use Rattle.base.proofs.Numbers.{Octets, signed_small, bits_signed, signed_bits, bits_within, top_odd, holds_more, holds_small, small_holds, length_octets_lem, octets_are, number_octets, number_small, octets_number}
use Rattle.primitive.specs.Primitive.{between, most_integer_octets, width_from, integer_octets, signed_of, integer_ok}
use Rattle.primitive.specs.inner.Answers.{integer_of}

-- the fewest octets from k on: they hold z if k and so many more do, and no fewer do
width_holds : (more k : ℕ) (z : ℤ) → holds (k + more) z ≡ true → holds (width_from more k z) z ≡ true
unfolding width_from
width_holds zero k z h = let e : k + 0 ≡ k = omega arith in rw e at h
width_holds (suc more) k z h =
    let e : k + suc more ≡ suc k + more = omega arith in
    cond_all (λ w. holds w z ≡ true) (holds k z) k (width_from more (suc k) z) (λ t. t) (λ f. width_holds more (suc k) z (rw e at h))

width_from_lem : (more k : ℕ) (z : ℤ) → k ≤ width_from more k z
unfolding width_from
width_from_lem zero k z = omega arith
width_from_lem (suc more) k z = cond_all (λ w. k ≤ w) (holds k z) k (width_from more (suc k) z) (λ t. omega arith) (λ f. omega (arith, width_from_lem more (suc k) z))

width_least : (more k j : ℕ) (z : ℤ) → k ≤ j → holds j z ≡ true → width_from more k z ≤ j
unfolding width_from
width_least zero k j z l h = l
width_least (suc more) k j z l h =
    cond_all (λ w. w ≤ j) (holds k z) k (width_from more (suc k) z) (λ t. l) (λ f. width_least more (suc k) j z (past f) h)
  where
    past : holds k z ≡ false → suc k ≤ j
    past f = let unlike : k ≡ j → ⊥ = λ e. false≢true (sym f ∙ ap (λ (i : ℕ). holds i z) e ∙ h) in omega arith

-- The octets in which a number is written

abbrev width : ℤ → ℕ
width z = width_from (most_integer_octets - 1) 1 z

width_enough : (z : ℤ) → holds most_integer_octets z ≡ true → holds (width z) z ≡ true
width_enough z h = width_holds (most_integer_octets - 1) 1 z h

width_some : (z : ℤ) → 1 ≤ width z
width_some z = width_from_lem (most_integer_octets - 1) 1 z

width_fits : (k : ℕ) (z : ℤ) → 1 ≤ k → holds k z ≡ true → width z ≤ k
width_fits k z l h = width_least (most_integer_octets - 1) 1 k z l h

pub integer_length : (z : ℤ) → length (integer_octets z) ≡ width z
unfolding integer_octets
integer_length z = length_octets_lem (width z) (bits_at (top_of (width z)) z)

pub integer_octets_lem : (z : ℤ) → Octets (integer_octets z)
unfolding integer_octets
integer_octets_lem z = octets_are (width z) (bits_at (top_of (width z)) z)

-- one octet or more, and no more than hold the number
pub integer_some : (z : ℤ) → 1 ≤ length (integer_octets z)
integer_some z = rw (integer_length z) (width_some z)

pub integer_fits : (k : ℕ) (z : ℤ) → 1 ≤ k → holds k z ≡ true → length (integer_octets z) ≤ k
integer_fits k z l h = rw (integer_length z) (width_fits k z l h)

-- read, they are that number
pub integer_back : (z : ℤ) → holds most_integer_octets z ≡ true → signed_of (integer_octets z) ≡ z
unfolding signed_of integer_octets
integer_back z h =
    let k : ℕ = width z in
    let small : mag z ≤ top_of k / 2 = holds_small k z (width_enough z h) in
    rw (length_octets_lem k (bits_at (top_of k) z), number_octets k (bits_at (top_of k) z) (bits_within (top_of k) z small))
    (signed_bits (top_of k) z small (top_odd k (width_some z)))

-- octets hold the number that they are read as
octets_hold : (c : List ℕ) → holds (length c) (signed_of c) ≡ true
unfolding signed_of
octets_hold c = small_holds (length c) _ (signed_small (top_of (length c)) (number_from 0 c))

-- what is written passes, and nothing else does
pub integer_ok_lem : (most : ℕ) (z : ℤ) → 1 ≤ most → most ≤ most_integer_octets → holds most z ≡ true → integer_ok most (integer_octets z) ≡ true
unfolding integer_ok
integer_ok_lem most z i l h =
    rw (integer_back z (holds_more most most_integer_octets z l h), le-leb _ _ (integer_some z), le-leb _ _ (integer_fits most z i h))
    (same_refl (integer_octets z))

pub integer_only : (most : ℕ) (c : List ℕ) → integer_ok most c ≡ true → (c ≡ integer_octets (signed_of c)) × (holds most (signed_of c) ≡ true)
unfolding integer_ok
integer_only most c e =
    let (b, s) = (and-eq-true_iff (leb 1 (length c) && leb (length c) most) (same (integer_octets (signed_of c)) c)).0 e in
    let q : c ≡ integer_octets (signed_of c) = same_equal (integer_octets (signed_of c)) c s in
    let n : length c ≤ most = leb-true (length c) most ((and-eq-true_iff (leb 1 (length c)) (leb (length c) most)).0 b).1 in
    (q, holds_more (length c) most (signed_of c) n (octets_hold c))

-- from -1 - k to k is no further than k
pub range_far : (k : ℕ) (z : ℤ) → le_z (negsuc k) z && le_z z (pos k) ≡ leb (mag z) k
range_far k (pos n) = refl
range_far k (negsuc n) = and-true (leb n k)

-- how far a number is from 0, or from -1 below it, by the tests of a range
near : (k : ℕ) (z : ℤ) → lt_z z (negsuc k) ≡ false → lt_z z (pos (suc k)) ≡ true → mag z ≤ k
near k (pos n) e f = omega (arith, ltb-true n (suc k) f)
near k (negsuc n) e f = ltb-false k n e

near_below : (j k : ℕ) (z : ℤ) → lt_z z (negsuc k) ≡ false → lt_z z (negsuc j) ≡ true → mag z ≤ k
near_below j k (pos n) e f = absurd (false≢true f)
near_below j k (negsuc n) e f = ltb-false k n e

near_above : (j k : ℕ) (z : ℤ) → lt_z z (pos j) ≡ false → lt_z z (pos (suc k)) ≡ true → mag z ≤ k
near_above j k (pos n) e f = omega (arith, ltb-true n (suc k) f)
near_above j k (negsuc n) e f = absurd (false≢true (sym e))

far_below : (k : ℕ) (z : ℤ) → lt_z z (negsuc k) ≡ true → k < mag z
far_below k (pos n) e = absurd (false≢true e)
far_below k (negsuc n) e = ltb-true k n e

far_above : (k : ℕ) (z : ℤ) → lt_z z (pos (suc k)) ≡ false → k < mag z
far_above k (pos n) e = omega (arith, ltb-false n (suc k) e)
far_above k (negsuc n) e = absurd (false≢true (sym e))

far_over : (k : ℕ) (z : ℤ) → lt_z (pos k) z ≡ true → k < mag z
far_over k (pos n) e = ltb-true k n e
far_over k (negsuc n) e = absurd (false≢true e)

-- how many octets a number takes, by these tests
module _ (z : ℤ) where
  size_far : 8388607 < mag z → length (integer_octets z) ≡ 4
  unfolding width_from holds top_of
  size_far l = rw (integer_length z, lt-leb (mag z) 127 (omega arith), lt-leb (mag z) 32767 (omega arith), lt-leb (mag z) 8388607 l)

  size_within : 32767 < mag z → mag z ≤ 8388607 → length (integer_octets z) ≡ 3
  unfolding width_from holds top_of
  size_within l h = rw (integer_length z, lt-leb (mag z) 127 (omega arith), lt-leb (mag z) 32767 l, le-leb (mag z) 8388607 h)

  size_near : 127 < mag z → mag z ≤ 32767 → length (integer_octets z) ≡ 2
  unfolding width_from holds top_of
  size_near l h = rw (integer_length z, lt-leb (mag z) 127 l, le-leb (mag z) 32767 h)

  pub size_one : lt_z z (negsuc 127) ≡ false → lt_z z (pos 128) ≡ true → length (integer_octets z) ≡ 1
  unfolding width_from holds top_of
  size_one e f = rw (integer_length z, le-leb (mag z) 127 (near 127 z e f))

  pub size_two_below : lt_z z (negsuc 32767) ≡ false → lt_z z (negsuc 127) ≡ true → length (integer_octets z) ≡ 2
  size_two_below e f = size_near (far_below 127 z f) (near_below 127 32767 z e f)

  pub size_two_above : lt_z z (pos 128) ≡ false → lt_z z (pos 32768) ≡ true → length (integer_octets z) ≡ 2
  size_two_above e f = size_near (far_above 127 z e) (near_above 128 32767 z e f)

  pub size_three_below : lt_z z (negsuc 8388607) ≡ false → lt_z z (negsuc 32767) ≡ true → length (integer_octets z) ≡ 3
  size_three_below e f = size_within (far_below 32767 z f) (near_below 32767 8388607 z e f)

  pub size_three_above : lt_z z (pos 32768) ≡ false → lt_z z (pos 8388608) ≡ true → length (integer_octets z) ≡ 3
  size_three_above e f = size_within (far_above 32767 z e) (near_above 32768 8388607 z e f)

  pub size_four_below : lt_z z (negsuc 8388607) ≡ true → length (integer_octets z) ≡ 4
  size_four_below e = size_far (far_below 8388607 z e)

  pub size_four_above : lt_z z (pos 8388608) ≡ false → length (integer_octets z) ≡ 4
  size_four_above e = size_far (far_above 8388607 z e)

  pub size_four : false ≡ is_le (int_cmp (negsuc 8388607) z) && is_le (int_cmp z (pos 8388607)) → length (integer_octets z) ≡ 4
  size_four e = size_far (by (lt_z z (negsuc 8388607)) (lt_z (pos 8388607) z) refl refl)
    where
      at_most : (x y : ℤ) → lt_z y x ≡ false → is_le (int_cmp x y) ≡ true
      at_most x y f = rw f (elim (lt_z x y) as (λ b. is_le (cond b Less (cond false Greater Equal)) ≡ true) [ true ↦ refl | false ↦ refl ])

      by : (a b : Bool) → lt_z z (negsuc 8388607) ≡ a → lt_z (pos 8388607) z ≡ b → 8388607 < mag z
      by true b f g = far_below 8388607 z f
      by false true f g = far_over 8388607 z g
      by false false f g = absurd (false≢true (rw (at_most (negsuc 8388607) z f, at_most z (pos 8388607) g) at e))

pub ruleset sizes = (to_z-of_z, size_one, size_two_below, size_two_above, size_three_below, size_three_above, size_four_below, size_four_above)

-- octets are those of their number if these are as many, and not if these are fewer
module _ (c : List ℕ) (o : Octets c) (i : 1 ≤ length c) where
  no_more : width (signed_of c) ≤ length c
  no_more = width_fits (length c) (signed_of c) i (octets_hold c)

  as_many : length c ≤ width (signed_of c) → same (integer_octets (signed_of c)) c ≡ true
  unfolding integer_octets signed_of
  as_many l =
      let e : width (signed_of c) ≡ length c = omega (arith, no_more) in
      rw (e, bits_signed (top_of (length c)) (number_from 0 c) (number_small c o), octets_number c o) (same_refl c)

  fewer : width (signed_of c) < length c → same (integer_octets (signed_of c)) c ≡ false
  fewer l = by_test (same (integer_octets (signed_of c)) c) refl
    where
      by_test : (b : Bool) → same (integer_octets (signed_of c)) c ≡ b → b ≡ false
      by_test true e = absurd (omega (arith, ap length (same_equal (integer_octets (signed_of c)) c e), integer_length (signed_of c)))
      by_test false e = refl

-- octets are the fewest unless one less holds their number; none hold no number
pub fewest_range : (c : List ℕ) → Octets c → 1 ≤ length c → length c ≤ most_integer_octets
    → same (integer_octets (signed_of c)) c ≡ cond (eqb (length c) 1) true (not (holds (length c - 1) (signed_of c)))
fewest_range c o i l = by_one (eqb (length c) 1) refl
  where
    z : ℤ
    z = signed_of c

    by_less : (b : Bool) → 1 < length c → holds (length c - 1) z ≡ b → same (integer_octets z) c ≡ not b
    by_less true s e = fewer c o i (omega (arith, width_fits (length c - 1) z (omega arith) e))
    by_less false s e =
        let enough : holds (width z) z ≡ true = width_enough z (holds_more (length c) most_integer_octets z l (octets_hold c)) in
        let unlike : width z ≤ length c - 1 → ⊥ = λ q. false≢true (sym e ∙ holds_more (width z) (length c - 1) z q enough) in
        as_many c o i (omega arith)

    by_one : (b : Bool) → eqb (length c) 1 ≡ b → same (integer_octets z) c ≡ cond b true (not (holds (length c - 1) z))
    by_one true e = as_many c o i (omega (arith, eqb-true (length c) 1 e, width_some z))
    by_one false e = by_less (holds (length c - 1) z) (omega (arith, eqb-false (length c) 1 e)) refl

-- octets are the fewest if their number takes as many
module _ (most : ℕ) (c : List ℕ) (v : ℤ) (o : Octets c) (e : Some v ≡ (if between 1 most_integer_octets c then Some (signed_of c) else None)) where
  read_as : (between 1 most_integer_octets c ≡ true) × (v ≡ signed_of c)
  read_as = by (between 1 most_integer_octets c) refl
    where
      by : (b : Bool) → between 1 most_integer_octets c ≡ b → (between 1 most_integer_octets c ≡ true) × (v ≡ signed_of c)
      by true t = (t, let f = rw t at e in cc)
      by false t = absurd (let f = rw t at e in cc)

  some : 1 ≤ length c
  some = leb-true 1 (length c) ((and-eq-true_iff (leb 1 (length c)) (leb (length c) most_integer_octets)).0 read_as.0).0

  pub integer_more : ¬ (length (integer_octets v) ≡ length c) → integer_of most c ≡ None
  unfolding integer_of integer_ok
  integer_more h = by (same (integer_octets (signed_of c)) c) refl
    where
      by : (b : Bool) → same (integer_octets (signed_of c)) c ≡ b → cond (between 1 most c && same (integer_octets (signed_of c)) c) (Some (signed_of c)) None ≡ None
      by true f = absurd (h (rw read_as.1 (ap length (sym (same_equal (integer_octets (signed_of c)) c f)))))
      by false f = rw (f, and-false)

  pub integer_fewest : length c ≤ most → length (integer_octets v) ≡ length c → integer_of most c ≡ Some v
  unfolding integer_of integer_ok
  integer_fewest h k =
      let all : same (integer_octets (signed_of c)) c ≡ true = as_many c o some (omega (arith, integer_length (signed_of c), ap (λ (z : ℤ). length (integer_octets z)) read_as.1)) in
      rw (le-leb 1 (length c) some, le-leb (length c) most h, all, read_as.1)

-- what one octet to four are read as, octet by octet
pub signed_one : (s : List ℕ) (n : ℕ) → length s ≡ 1 → n ≡ get_or s 0 0 → signed_at 0xFF n ≡ signed_of s
unfolding signed_of number_from top_of
signed_one [] n l e = absurd (omega arith)
signed_one (x ∷ []) n l e = ap (signed_at 0xFF) (omega arith)
signed_one (x ∷ y ∷ r) n l e = absurd (omega arith)

pub signed_two : (s : List ℕ) (n : ℕ) → length s ≡ 2 → n ≡ get_or s 0 0 * 256 + get_or s 1 0 → signed_at 0xFFFF n ≡ signed_of s
unfolding signed_of number_from top_of
signed_two [] n l e = absurd (omega arith)
signed_two (x ∷ []) n l e = absurd (omega arith)
signed_two (x ∷ y ∷ []) n l e = ap (signed_at 0xFFFF) (omega arith)
signed_two (x ∷ y ∷ v ∷ r) n l e = absurd (omega arith)

pub signed_three : (s : List ℕ) (n : ℕ) → length s ≡ 3 → n ≡ get_or s 0 0 * 65536 + get_or s 1 0 * 256 + get_or s 2 0 → signed_at 0xFFFFFF n ≡ signed_of s
unfolding signed_of number_from top_of
signed_three [] n l e = absurd (omega arith)
signed_three (x ∷ []) n l e = absurd (omega arith)
signed_three (x ∷ y ∷ []) n l e = absurd (omega arith)
signed_three (x ∷ y ∷ v ∷ []) n l e = ap (signed_at 0xFFFFFF) (omega arith)
signed_three (x ∷ y ∷ v ∷ w ∷ r) n l e = absurd (omega arith)

pub signed_four : (s : List ℕ) (n : ℕ) → length s ≡ 4 → n ≡ get_or s 0 0 * 16777216 + get_or s 1 0 * 65536 + get_or s 2 0 * 256 + get_or s 3 0 → signed_at 0xFFFFFFFF n ≡ signed_of s
unfolding signed_of number_from top_of
signed_four [] n l e = absurd (omega arith)
signed_four (x ∷ []) n l e = absurd (omega arith)
signed_four (x ∷ y ∷ []) n l e = absurd (omega arith)
signed_four (x ∷ y ∷ v ∷ []) n l e = absurd (omega arith)
signed_four (x ∷ y ∷ v ∷ w ∷ []) n l e = ap (signed_at 0xFFFFFFFF) (omega arith)
signed_four (x ∷ y ∷ v ∷ w ∷ u ∷ r) n l e = absurd (omega arith)

pub ruleset values = (to_z-of_z, signed_one, signed_two, signed_three, signed_four)

-- Octets, and what they are read as: the ends of each range, in as many octets as they need and in one more

record Reads : Type 0 where
  octets : List ℕ
  answer : Optional ℤ

abbrev table : List Reads
table =
    record { octets = 0x00 ∷ []; answer = Some (pos 0) }
    ∷ record { octets = 0x80 ∷ []; answer = Some (negsuc 127) }
    ∷ record { octets = 0x00 ∷ 0x7F ∷ []; answer = None }
    ∷ record { octets = 0x00 ∷ 0x80 ∷ []; answer = Some (pos 128) }
    ∷ record { octets = 0xFF ∷ 0x80 ∷ []; answer = None }
    ∷ record { octets = 0xFF ∷ 0x7F ∷ []; answer = Some (negsuc 128) }
    ∷ record { octets = 0x00 ∷ 0x7F ∷ 0xFF ∷ []; answer = None }
    ∷ record { octets = 0x00 ∷ 0x80 ∷ 0x00 ∷ []; answer = Some (pos 32768) }
    ∷ record { octets = 0xFF ∷ 0x80 ∷ 0x00 ∷ []; answer = None }
    ∷ record { octets = 0xFF ∷ 0x7F ∷ 0xFF ∷ []; answer = Some (negsuc 32768) }
    ∷ record { octets = 0x00 ∷ 0x7F ∷ 0xFF ∷ 0xFF ∷ []; answer = None }
    ∷ record { octets = 0x00 ∷ 0x80 ∷ 0x00 ∷ 0x00 ∷ []; answer = Some (pos 8388608) }
    ∷ record { octets = 0xFF ∷ 0x80 ∷ 0x00 ∷ 0x00 ∷ []; answer = None }
    ∷ record { octets = 0xFF ∷ 0x7F ∷ 0xFF ∷ 0xFF ∷ []; answer = Some (negsuc 8388608) }
    ∷ record { octets = 0x80 ∷ 0x00 ∷ 0x00 ∷ 0x00 ∷ []; answer = Some (negsuc 2147483647) }
    ∷ record { octets = 0x00 ∷ 0x00 ∷ 0x00 ∷ 0x00 ∷ 0x2D ∷ []; answer = None }
    ∷ record { octets = []; answer = None }
    ∷ []

computed : map (λ (r : Reads). integer_of most_integer_octets r.octets) table ≡ map (λ (r : Reads). r.answer) table
unfolding integer_of integer_ok integer_octets signed_of width_from same holds bits_at signed_at octets_in top_of number_from
computed = refl

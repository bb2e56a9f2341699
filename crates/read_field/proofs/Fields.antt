-- What the readers of primitives and codes answer. Assumes nothing.
use Rattle.std.specs.Prelude.{Option as Optional, Some, None}
use Prim.Native.Nat.{ℕ, ◌+◌, ◌/◌, ◌%◌, ◌≤◌, ◌<◌}
use mathlib.Core.Path.{◌≡◌, refl, sym, ◌∙◌}
use mathlib.Core.Bool.{Bool, true, false, cond, false≢true, ◌&&◌, and-eq-true_iff}
use mathlib.Core.List.{List, [], ◌∷◌}
use native.Mathlib.Omega.{arith}
use lib.ListN.{length, get_or, drop, take}
use lib.Dec.{leb}
use borrow.Author.Tests.{leb-true, le-leb, lt-leb, ne_eqb}
use Rattle.element.specs.declared.FaultKind.{FaultKind}
use Rattle.element.specs.Element.{constructor_of}
use Rattle.element.specs.Fault.{at}
use Rattle.element.specs.Parts.{level, leaf_item, integer_item}
use Rattle.read_place.specs.Places.{part, finite, bad_place, count_of, Leads, Reads, until, bad_contents}
use Rattle.read_place.proofs.Items.{counted, leaf_good, leaf_bad, leaf_none, placed_item}
use lib.IntN.{ℤ}
use lib.Seq.{drop-cons}
use Rattle.base.specs.Value.{Every, same}
use Rattle.primitive.specs.Primitive.{most_integer_octets, most_identifier_octets, identifier_ok, numbers, integer_ok, integer_octets, signed_of}
use Rattle.primitive.specs.inner.Answers.{integer_of}
use Rattle.primitive.proofs.Integers.{fewest_range}
use Rattle.tcap.specs.Productions.{single?, octet_item, name_item}

pub between_sized : (most : ℕ) (c : List ℕ) (x : Bool) → (leb 1 (length c) && leb (length c) most) && x ≡ true → (1 ≤ length c) × (length c ≤ most)
between_sized most c x e =
    let (b, s) = (and-eq-true_iff (leb 1 (length c) && leb (length c) most) x).0 e in
    let (i, j) = (and-eq-true_iff (leb 1 (length c)) (leb (length c) most)).0 b in
    (leb-true 1 (length c) i, leb-true (length c) most j)

module _ (m : List ℕ) (at stop n : ℕ) (g : at ≤ until stop) (h : until stop ≤ length m) where
  -- an object identifier
  module _ (is : n ≡ count_of (until stop) at (get_or m at 0) (get_or m (at + 1) 0) 6 most_identifier_octets) where
    pub name_none : n ≡ 0 → (r : ℕ) → r ≡ bad_place m at stop 6 → Reads name_item m at stop r
    unfolding identifier_ok constructor_of
    name_none z r e = leaf_none m at stop 6 _ n identifier_ok g h (omega arith, omega arith, omega arith) refl (omega arith) is z (λ c e. between_sized _ c (numbers c true) e) r e

    module _ (there : 1 ≤ n) (xs : List ℕ) (b : Bool) (xs-is : xs ≡ take n (drop (at + 2) m)) (told : b ≡ identifier_ok xs) where
      pub name_good : b ≡ true → Reads name_item m at stop (at + 2 + n)
      unfolding constructor_of
      name_good t = leaf_good m at stop 6 _ n identifier_ok g h (omega arith, omega arith, omega arith) refl (omega arith) is there (rw xs-is at (sym told ∙ t))

      pub name_bad : b ≡ false → Reads name_item m at stop (bad_contents + at)
      unfolding constructor_of
      name_bad t = leaf_bad m at stop 6 _ n identifier_ok g h (omega arith, omega arith, omega arith) refl (omega arith) is there (rw xs-is at (sym told ∙ t))

pub count_room : (m : List ℕ) (at end tag most n : ℕ) → n ≡ count_of end at (get_or m at 0) (get_or m (at + 1) 0) tag most → 1 ≤ n → (at + 2 + n ≤ end) × (n ≤ most)
count_room m at end tag most n is there = let i = counted m at end tag most n is there in (i.room, i.few)

pub count_more : (m : List ℕ) (at end tag most n : ℕ) → n ≡ count_of end at (get_or m at 0) (get_or m (at + 1) 0) tag most → 1 ≤ n → end ≤ length m → at + 2 + n ≤ length m
count_more m at end tag most n is there h = omega (arith, (counted m at end tag most n is there).room, h)

pub count_third : (m : List ℕ) (at end tag most n : ℕ) → n ≡ count_of end at (get_or m at 0) (get_or m (at + 1) 0) tag most → 1 ≤ n → end ≤ length m → at + 2 < length m
count_third m at end tag most n is there h = omega (arith, (counted m at end tag most n is there).room, there, h)

pub plain : (tag : ℕ) → tag / 32 % 2 ≡ 0 → constructor_of tag ≡ false
unfolding constructor_of
plain tag e = ne_eqb (tag / 32 % 2) 1 (λ z. omega (arith, e, z))

one_octet_lem : (x : ℕ) → x < 256 → integer_ok 1 (x ∷ []) ≡ true
unfolding integer_ok Every
one_octet_lem x h = rw (fewest_range (x ∷ []) (h, tt) (omega arith) (omega arith))

pub single_sized : (most : ℕ) (c : List ℕ) → single? most c ≡ true → (1 ≤ length c) × (length c ≤ 1)
unfolding single?
single_sized most [] e = absurd (false≢true e)
single_sized most (x ∷ []) e = omega arith
single_sized most (x ∷ y ∷ r) e = absurd (false≢true e)

pub integer_sized : (most : ℕ) (c : List ℕ) → integer_ok most c ≡ true → (1 ≤ length c) × (length c ≤ most)
unfolding integer_ok
integer_sized most c e = between_sized most c (same (integer_octets (signed_of c)) c) e

-- a primitive of one octet
module _ (m : List ℕ) (at stop tag n : ℕ) (g : at ≤ until stop) (h : until stop ≤ length m) (leads : Leads tag) (kind : tag / 32 % 2 ≡ 0) (is : n ≡ count_of (until stop) at (get_or m at 0) (get_or m (at + 1) 0) tag 1) where
  pub id_none : n ≡ 0 → (r : ℕ) → r ≡ bad_place m at stop tag → Reads (integer_item tag 1) m at stop r
  id_none z r e = placed_item (level 1) FaultKind.Another (λ v. signed_of v.1) (leaf_item tag (integer_ok 1)) (finite stop) at (part m at stop) (until stop) r
      (leaf_none m at stop tag 1 n (integer_ok 1) g h leads (plain tag kind) (omega arith) is z (integer_sized 1) r e)

  pub small_none : (most : ℕ) → n ≡ 0 → (r : ℕ) → r ≡ bad_place m at stop tag → Reads (octet_item tag most) m at stop r
  small_none most z r e = placed_item (level 1) FaultKind.Another (λ v. get_or v.1 0 0) (leaf_item tag (single? most)) (finite stop) at (part m at stop) (until stop) r
      (leaf_none m at stop tag 1 n (single? most) g h leads (plain tag kind) (omega arith) is z (single_sized most) r e)

  module _ (there : 1 ≤ n) where
    one : n ≡ 1
    one = omega (arith, (counted m at (until stop) tag 1 n is there).few, there)

    one_is : take n (drop (at + 2) m) ≡ get_or m (at + 2) 0 ∷ []
    one_is = rw (one, drop-cons m (at + 2) 0 (omega (arith, (counted m at (until stop) tag 1 n is there).room, h, one)))

    three : at + 2 + n ≡ at + 3
    three = omega (arith, one)

    pub id_good : ((i : ℕ) → get_or m i 0 < 256) → Reads (integer_item tag 1) m at stop (at + 3)
    id_good low = placed_item (level 1) FaultKind.Another (λ v. signed_of v.1) (leaf_item tag (integer_ok 1)) (finite stop) at (part m at stop) (until stop) (at + 3)
        (rw (← three) (leaf_good m at stop tag 1 n (integer_ok 1) g h leads (plain tag kind) (omega arith) is there (rw one_is (one_octet_lem (get_or m (at + 2) 0) (low (at + 2))))))

    pub small_good : (most : ℕ) → get_or m (at + 2) 0 ≤ most → Reads (octet_item tag most) m at stop (at + 3)
    unfolding single?
    small_good most l = placed_item (level 1) FaultKind.Another (λ v. get_or v.1 0 0) (leaf_item tag (single? most)) (finite stop) at (part m at stop) (until stop) (at + 3)
        (rw (← three) (leaf_good m at stop tag 1 n (single? most) g h leads (plain tag kind) (omega arith) is there (rw one_is (le-leb (get_or m (at + 2) 0) most l))))

    pub small_bad : (most : ℕ) → most < get_or m (at + 2) 0 → Reads (octet_item tag most) m at stop (bad_contents + at)
    unfolding single?
    small_bad most l = placed_item (level 1) FaultKind.Another (λ v. get_or v.1 0 0) (leaf_item tag (single? most)) (finite stop) at (part m at stop) (until stop) (bad_contents + at)
        (leaf_bad m at stop tag 1 n (single? most) g h leads (plain tag kind) (omega arith) is there (rw one_is (lt-leb (get_or m (at + 2) 0) most l)))

-- a local code
by_value : (b : Bool) (z v : ℤ) → cond b (Some z) None ≡ Some v → b ≡ true
by_value true z v e = refl
by_value false z v e = let q : ◌≡◌ {A = ℕ} 0 1 = cc in absurd (omega arith)

by_wrong : (b : Bool) (z : ℤ) → cond b (Some z) None ≡ None → b ≡ false
by_wrong true z e = let q : ◌≡◌ {A = ℕ} 0 1 = cc in absurd (omega arith)
by_wrong false z e = refl

module _ (m : List ℕ) (at stop n : ℕ) (g : at ≤ until stop) (h : until stop ≤ length m) (is : n ≡ count_of (until stop) at (get_or m at 0) (get_or m (at + 1) 0) 2 most_integer_octets) where
  pub local_none : n ≡ 0 → (r : ℕ) → r ≡ bad_place m at stop 2 → Reads (integer_item 2 most_integer_octets) m at stop r
  local_none z r e = placed_item (level 1) FaultKind.Another (λ v. signed_of v.1) (leaf_item 2 (integer_ok most_integer_octets)) (finite stop) at (part m at stop) (until stop) r
      (leaf_none m at stop 2 _ n (integer_ok _) g h (omega arith, omega arith, omega arith) (plain 2 (omega arith)) (omega arith) is z (integer_sized _) r e)

  module _ (there : 1 ≤ n) (xs : List ℕ) (i : Optional ℤ) (xs-is : xs ≡ take n (drop (at + 2) m)) (told : i ≡ integer_of most_integer_octets xs) where
    pub local_good : (v : ℤ) → i ≡ Some v → Reads (integer_item 2 most_integer_octets) m at stop (at + 2 + n)
    unfolding integer_of
    local_good v t = placed_item (level 1) FaultKind.Another (λ v. signed_of v.1) (leaf_item 2 (integer_ok most_integer_octets)) (finite stop) at (part m at stop) (until stop) (at + 2 + n)
        (leaf_good m at stop 2 _ n (integer_ok _) g h (omega arith, omega arith, omega arith) (plain 2 (omega arith)) (omega arith) is there (rw xs-is at (by_value (integer_ok most_integer_octets xs) (signed_of xs) v (sym told ∙ t))))

    pub local_bad : i ≡ None → Reads (integer_item 2 most_integer_octets) m at stop (bad_contents + at)
    unfolding integer_of
    local_bad t = placed_item (level 1) FaultKind.Another (λ v. signed_of v.1) (leaf_item 2 (integer_ok most_integer_octets)) (finite stop) at (part m at stop) (until stop) (bad_contents + at)
        (leaf_bad m at stop 2 _ n (integer_ok _) g h (omega arith, omega arith, omega arith) (plain 2 (omega arith)) (omega arith) is there (rw xs-is at (by_wrong (integer_ok most_integer_octets xs) (signed_of xs) (sym told ∙ t))))

pub name_sized : (c : List ℕ) → identifier_ok c ≡ true → (1 ≤ length c) × (length c ≤ most_identifier_octets)
unfolding identifier_ok
name_sized c e = between_sized _ c (numbers c true) e

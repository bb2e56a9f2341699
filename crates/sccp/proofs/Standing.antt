-- The tests of the definition, and the page's words: each holds exactly if the other does. Assumes nothing.
use Prim.Native.Nat.{ℕ, suc, ◌+◌, ◌-◌, ◌≤◌}
use native.Mathlib.Omega.{arith}
use mathlib.Core.Path.{◌≡◌, refl}
use mathlib.Core.Logic.{◌↔◌}
use mathlib.Core.Bool.{Bool, true, false, ◌&&◌, ◌||◌, and-eq-true_iff}
use mathlib.Core.List.{List}
use Rattle.std.proofs.lemmas.Bool.Decides.{nat_tests}
use lib.ListN.{length, get_or}
use lib.Dec.{ltb, leb}
use borrow.Author.Tests.{ltb-true, ltb-false, leb-true, leb-false, lt-ltb, le-leb}
use Rattle.sccp.specs.declared.{Part.Part}
use Rattle.sccp.specs.Unitdata.{named_by, part_at, inside, clear, apart, separate, addressed}
use Rattle.sccp.specs.Standing.{Covers, Disjoint, Named, Clear, Inside, Separate, Addressed, unitdata_at}

pub both : {b c : Bool} → b ≡ true → c ≡ true → (b && c) ≡ true
both {b} {c} e f = (and-eq-true_iff b c).1 (e, f)

-- one part
module _ (m : List ℕ) (i : ℕ) where
  pub named : inside m (part_at m i) ≡ true → Named m i (part_at m i)
  unfolding Covers
  named e =
      let h = leb-true (suc (named_by m i) + get_or m (named_by m i) 0) (length m) e in
      record { pointed = omega arith; placed = refl; counted = refl; covered = λ k c. omega (arith, c.1) }

  pub named_inside : {p : Part} → Named m i p → inside m p ≡ true
  unfolding Covers
  named_inside {p} n = le-leb (p.place + p.len) (length m) (omega (arith, n.placed, n.covered (p.place + p.len - 1) (omega (arith, n.placed), omega (arith, n.placed))))

  pub named_is : {p : Part} → Named m i p → p ≡ part_at m i
  named_is {p} n = rw (← n.placed, ← n.counted)

-- a part has a length octet, and so no place is 0
module _ (p : Part) (h : 1 ≤ p.place) where
  pub clear_test : Clear p → clear p ≡ true
  unfolding Clear Covers
  clear_test f = lt-ltb 5 p.place (omega (arith, f (p.place - 1) (omega arith, omega arith)))

  pub test_clear : clear p ≡ true → Clear p
  unfolding Clear Covers
  test_clear e k c = omega (arith, c.0, ltb-true 5 p.place e)

  module _ (q : Part) (i : 1 ≤ q.place) where
    pub test_disjoint : apart p q ≡ true → Disjoint p q
    unfolding apart Disjoint Covers
    test_disjoint e k c d = grind (arith, nat_tests)

    -- if neither ends before the other begins, the later length octet belongs to both
    pub disjoint_test : Disjoint p q → apart p q ≡ true
    unfolding apart Disjoint Covers
    disjoint_test f = by (ltb (p.place + p.len) q.place) refl (ltb (q.place + q.len) p.place) refl
      where
        shared : q.place ≤ p.place + p.len → p.place ≤ q.place + q.len → ⊥
        shared g j = at (leb p.place q.place) refl
          where
            at : (b : Bool) → leb p.place q.place ≡ b → ⊥
            at true s = f (q.place - 1) (omega (arith, leb-true p.place q.place s), omega arith) (omega arith, omega arith)
            at false s = f (p.place - 1) (omega arith, omega arith) (omega (arith, leb-false p.place q.place s), omega arith)

        by : (b : Bool) → ltb (p.place + p.len) q.place ≡ b → (c : Bool) → ltb (q.place + q.len) p.place ≡ c → (b || c) ≡ true
        by true g c j = refl
        by false g true j = refl
        by false g false j = absurd (shared (ltb-false (p.place + p.len) q.place g) (ltb-false (q.place + q.len) p.place j))

-- all three, as the pointers name them
module _ (m : List ℕ) where
  abbrev a : Part
  a = part_at m 2

  abbrev b : Part
  b = part_at m 3

  abbrev d : Part
  d = part_at m 4

  pub inside_exactly : ((inside m a && (inside m b && inside m d)) ≡ true) ↔ Inside m (unitdata_at m)
  inside_exactly = (
    λ e. record { called_lies = named m 2 (grind (arith, nat_tests)); calling_lies = named m 3 (grind (arith, nat_tests)); data_lies = named m 4 (grind (arith, nat_tests)) },
    λ i. both (named_inside m 2 i.called_lies) (both (named_inside m 3 i.calling_lies) (named_inside m 4 i.data_lies)),
  )

  pub separate_exactly : (separate a b d ≡ true) ↔ Separate (unitdata_at m)
  unfolding separate
  separate_exactly = (
    λ e. record {
      called_clear = test_clear a (omega arith) (grind (arith, nat_tests));
      calling_clear = test_clear b (omega arith) (grind (arith, nat_tests));
      data_clear = test_clear d (omega arith) (grind (arith, nat_tests));
      addresses = test_disjoint a (omega arith) b (omega arith) (grind (arith, nat_tests));
      called_data = test_disjoint a (omega arith) d (omega arith) (grind (arith, nat_tests));
      calling_data = test_disjoint b (omega arith) d (omega arith) (grind (arith, nat_tests));
    },
    λ s.
        both (clear_test a (omega arith) s.called_clear)
        (both (clear_test b (omega arith) s.calling_clear)
        (both (clear_test d (omega arith) s.data_clear)
        (both (disjoint_test a (omega arith) b (omega arith) s.addresses)
        (both (disjoint_test a (omega arith) d (omega arith) s.called_data) (disjoint_test b (omega arith) d (omega arith) s.calling_data))))),
  )

  pub addressed_exactly : (addressed a b ≡ true) ↔ Addressed (unitdata_at m)
  addressed_exactly = (
    λ e. record { called_some = grind (arith, nat_tests); calling_some = grind (arith, nat_tests) },
    λ s. grind (arith, nat_tests),
  )

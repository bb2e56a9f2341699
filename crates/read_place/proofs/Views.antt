-- What stands from a place to an end, by the octets of the whole. Assumes nothing.
use Prim.Native.Nat.{ℕ, suc, ◌+◌, ◌-◌, ◌≤◌, ◌<◌}
use mathlib.Core.Path.{◌≡◌, refl, ◌∙◌}
use mathlib.Core.Bool.{Bool, true, false, cond}
use mathlib.Core.List.{List}
use native.Mathlib.Omega.{arith}
use lib.ListN.{length, get_or}
use lib.Dec.{eqb, leb}
use borrow.Author.Tests.{eqb-false, eqb-true, lt-ltb, eq-eqb, ne_eqb, le-leb, lt-leb}
use Rattle.element.specs.declared.FaultKind.{FaultKind}
use Rattle.element.specs.declared.EndRead.{EndRead}
use Rattle.element.specs.declared.LengthRead.{LengthRead}
use Rattle.base.specs.Number.{number_from}
use Rattle.element.specs.Form.{fewest_of}
use Rattle.element.specs.Head.{end_of, within, length_of}
use Rattle.walk.specs.Walks.{end_by_length}
use Rattle.element.proofs.Views.{length_by, length_view, length_octets, long_place, one_place, end_by, end_view}
use Rattle.element.specs.inner.Fronts.{span, long_read}
use Rattle.read_place.specs.Places.{part, finite, ended_of, unfinished_of, base, length_place, until, Near, Endless, Finite, opening, passes_end}

-- the end of contents, by their stop
closed_stop : (stop : ℕ) → Finite stop → until stop ≡ stop
closed_stop stop h = omega (arith, h)

opened_stop : (stop : ℕ) → Endless stop → Near stop → until stop ≡ stop - opening
opened_stop stop g h = omega (arith, g, h)

module _ (m : List ℕ) (at stop : ℕ) (h : until stop ≤ length m) where
  pub end_closed : Finite stop → end_of true (part m at stop) ≡ end_by true (stop - at) (get_or m at 0) (get_or m (at + 1) 0)
  end_closed l = rw (closed_stop stop l) (end_view m at stop (rw (← (closed_stop stop l)) h) true)

  pub end_opened : Endless stop → Near stop → end_of false (part m at stop) ≡ end_by false (stop - opening - at) (get_or m at 0) (get_or m (at + 1) 0)
  end_opened g l = rw (opened_stop stop g l) (end_view m at (stop - opening) (rw (← (opened_stop stop g l)) h) false)

  pub ended_closed : at ≤ until stop → Finite stop → eqb at stop ≡ ended_of (end_of (finite stop) (part m at stop))
  unfolding end_by ended_of
  ended_closed k l = rw (lt-ltb stop opening l, end_closed l) (go (eqb (stop - at) 0) refl)
    where
      go : (b : Bool) → eqb (stop - at) 0 ≡ b → eqb at stop ≡ ended_of (cond b EndRead.Ended EndRead.More)
      go true e = eq-eqb at stop (omega (arith, eqb-true (stop - at) 0 e, k, closed_stop stop l))
      go false e = ne_eqb at stop (λ z. eqb-false (stop - at) 0 e (omega (arith, z)))

pub ended_same : (b : Bool) → b ≡ ended_of (cond b EndRead.Ended EndRead.More)
unfolding ended_of
ended_same true = refl
ended_same false = refl

pub unfinished_same : (b c : Bool) → b ≡ unfinished_of (cond b EndRead.Unfinished (cond c EndRead.Ended EndRead.More))
unfolding unfinished_of
unfinished_same true c = refl
unfinished_same false true = refl
unfinished_same false false = refl

pub unfinished_not : (b : Bool) → false ≡ unfinished_of (cond b EndRead.Ended EndRead.More)
unfolding unfinished_of
unfinished_not true = refl
unfinished_not false = refl

-- a length of one octet, or of more, whose octets are there
module _ (m : List ℕ) (from end k : ℕ) (b : from < end) (h : end ≤ length m) (l : 1 ≤ k) (most : k ≤ 126) (g : k ≤ end - from - 1) where
  long_more : (get_or m (from + 1) 0 ≡ 0 → ⊥) → (k ≡ 1 → ⊥) → long_read (span m from end) k ≡ within (suc k) (number_from 0 (length_octets m from k)) (end - from - 1 - k)
  unfolding fewest_of
  long_more o n = long_place m from end k b h l most g (rw (ne_eqb (get_or m (from + 1) 0) 0 o, ne_eqb k 1 n))

  module _ (n : k ≡ 1) (o : 128 ≤ get_or m (from + 1) 0) where
    pub long_one : get_or m (from + 1) 0 < end - from - 1 → long_read (span m from end) k ≡ LengthRead.Definite 2 (get_or m (from + 1) 0)
    unfolding within
    long_one q = one_place m from end k b h l most g n o ∙ rw (le-leb (get_or m (from + 1) 0) (end - from - 1 - 1) (omega (arith, q)))

    pub long_past : end - from - 1 ≤ get_or m (from + 1) 0 → long_read (span m from end) k ≡ LengthRead.Fault FaultKind.PassesEnd
    unfolding within
    long_past q = one_place m from end k b h l most g n o ∙ rw (lt-leb (get_or m (from + 1) 0) (end - from - 1 - 1) (omega (arith, q, g, n)))

-- a length whose octets are there passes the end, or it does not
count_place : (at from end size n room : ℕ) → end_by_length from (passes_end + at) (within size n room) ≡ length_place at from end (within size n room)
unfolding end_by_length length_place base within
count_place at from end size n room = go (leb n room)
  where
    go : (b : Bool) → end_by_length from (passes_end + at) (cond b (LengthRead.Definite size n) (LengthRead.Fault FaultKind.PassesEnd)) ≡ length_place at from end (cond b (LengthRead.Definite size n) (LengthRead.Fault FaultKind.PassesEnd))
    go true = refl
    go false = refl

pub count_more : (m : List ℕ) (at from end k r : ℕ) → from < end → end ≤ length m → 1 ≤ k → k ≤ 126 → k ≤ end - from - 1 → (get_or m (from + 1) 0 ≡ 0 → ⊥) → (k ≡ 1 → ⊥)
    → r ≡ end_by_length from (passes_end + at) (within (suc k) (number_from 0 (length_octets m from k)) (end - from - 1 - k)) → r ≡ length_place at from end (long_read (span m from end) k)
count_more m at from end k r b h l most g o n e = rw (long_more m from end k b h l most g o n) (e ∙ count_place at from end (suc k) (number_from 0 (length_octets m from k)) (end - from - 1 - k))

-- no octet of a length, and 80
module _ (m : List ℕ) (from end : ℕ) (c : Bool) (h : end ≤ length m) where
  pub length_none : end ≤ from → length_of (span m from end) c ≡ LengthRead.Fault FaultKind.CutOff
  unfolding length_by
  length_none g = rw (length_view m from end c h, eq-eqb (end - from) 0 (omega (arith, g)))

  module _ (l : from < end) (is : get_or m from 0 ≡ 128) where
    pub length_open : c ≡ true → length_of (span m from end) c ≡ LengthRead.Indefinite
    unfolding length_by
    length_open d = rw (length_view m from end c h, ne_eqb (end - from) 0 (λ z. omega (arith, z, l)), is, d)

    pub length_shut : c ≡ false → length_of (span m from end) c ≡ LengthRead.Fault FaultKind.BadLength
    unfolding length_by
    length_shut d = rw (length_view m from end c h, ne_eqb (end - from) 0 (λ z. omega (arith, z, l)), is, d)

-- `ended` meets its contract. Assumes nothing.
use Prim.Native.Nat.{ℕ, zero, suc, ◌-◌, ◌≤◌, ◌<◌}
use native.Mathlib.Omega.{arith}
use mathlib.Core.Path.{◌≡◌, refl, sym, ◌∙◌}
use mathlib.Core.Bool.{Bool, true, false, cond}
use lib.Dec.{eqb}
use lib.ListN.{get_or}
use borrow.Author.Tests.{ne_eqb, leb-true}
use Rattle.element.specs.declared.EndRead.{EndRead}
use Rattle.read_place.proofs.Views.{end_opened, ended_closed, ended_same}
use Rattle.read_place.specs.Places.{ended_of}
use Rattle.base.proofs.Tests.{tests}
use Rattle.element.proofs.Views.{end_by}
use Rattle.read_place.proofs.ended.Goals.{then-left-ge2, else-left-ge2}
use Rattle.read_place.proofs.ended.Goals as goal

-- two octets are left, or fewer, or the first is not 0
two : (l a b : ℕ) → 2 ≤ l → eqb a 0 ≡ true → eqb b 0 ≡ ended_of (end_by false l a b)
unfolding ended_of end_by
two l a b h e = rw (ne_eqb l 0 (omega arith), e, ne_eqb l 1 (omega arith)) (ended_same (eqb b 0))

few : (l a b : ℕ) → l < 2 → false ≡ ended_of (end_by false l a b)
unfolding ended_of end_by
few zero a b h = refl
few (suc zero) a b h = go (eqb a 0)
  where
    go : (q : Bool) → false ≡ ended_of (cond q EndRead.Unfinished EndRead.More)
    go true = refl
    go false = refl
few (suc (suc l)) a b h = absurd (omega arith)

other : (l a b : ℕ) → eqb a 0 ≡ false → false ≡ ended_of (end_by false l a b)
unfolding ended_of end_by
other l a b e = rw e (go (eqb l 0))
  where
    go : (q : Bool) → false ≡ ended_of (cond q EndRead.Unfinished EndRead.More)
    go true = refl
    go false = refl

pub returns-then-stop-lt-OPEN : goal.returns-then-stop-lt-OPEN
unfolding ended_of end_by
returns-then-stop-lt-OPEN c = search ended_closed

pub returns-then-m-at-eq0 : goal.returns-then-m-at-eq0
returns-then-m-at-eq0 c = elim c.if-left-ge2.branch [
  | then-left-ge2 w ↦ let z : eqb (get_or c.args.m.now c.args.at 0) 0 ≡ true = sym w.value-is ∙ c.if-m-at-eq0.true in search (tests, end_opened, two)
  | else-left-ge2 w ↦ absurd (omega (arith, leb-true 2 _ (sym w.value-is ∙ c.if-m-at-eq0.true), w.if-left-ge2.false))
]

pub returns-else-m-at-eq0 : goal.returns-else-m-at-eq0
returns-else-m-at-eq0 c = elim c.if-left-ge2.branch [
  | then-left-ge2 w ↦ let z : eqb (get_or c.args.m.now c.args.at 0) 0 ≡ false = sym w.value-is ∙ c.if-m-at-eq0.false in rw c.if-m-at-eq0.false (search (tests, end_opened, other))
  | else-left-ge2 w ↦ rw c.if-m-at-eq0.false (search (tests, end_opened, few))
]

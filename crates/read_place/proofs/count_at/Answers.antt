-- `count_at` meets its contract. Assumes nothing.
use Prim.Native.Nat.{ℕ, ◌+◌}
use native.Mathlib.Omega.{arith}
use mathlib.Core.Path.{◌≡◌, refl, sym}
use mathlib.Core.Bool.{Bool, true, false, cond}
use Rattle.read_place.specs.Places.{count_of}
use Rattle.base.proofs.Tests.{tests}
use Rattle.read_place.proofs.count_at.Goals.{then-end-at-via-then-end-at, then-end-at-via-else-end-at+then-m-at, then-n-eq0-via-then-n-eq0, then-n-eq0-via-else-n-eq0+then-n-most, then-n-eq0-via-else-n-eq0+else-n-most+then-end-at-2}
use Rattle.read_place.proofs.count_at.Goals as goal

no_octets : (p q : Bool) (n : ℕ) → n ≡ 0 → cond p 0 (cond q 0 n) ≡ 0
no_octets true q n e = refl
no_octets false true n e = refl
no_octets false false n e = e

pub returns-then-end-at : goal.returns-then-end-at
unfolding count_of
returns-then-end-at c = elim c.then-end-at.branch [ then-end-at-via-then-end-at w ↦ search tests | then-end-at-via-else-end-at+then-m-at w ↦ search tests ]

pub returns-then-n-eq0 : goal.returns-then-n-eq0
unfolding count_of
returns-then-n-eq0 c = elim c.then-n-eq0.branch [
  | then-n-eq0-via-then-n-eq0 w ↦ sym (search (tests, no_octets))
  | then-n-eq0-via-else-n-eq0+then-n-most w ↦ search tests
  | then-n-eq0-via-else-n-eq0+else-n-most+then-end-at-2 w ↦ search tests
]

pub overflow_cast-n : goal.overflow_cast-n
overflow_cast-n c = omega (arith, c.type_inv.m (c.args.at + 1))

pub returns : goal.returns
unfolding count_of
returns c = (search tests, omega (arith, c.if-n-eq0.false))

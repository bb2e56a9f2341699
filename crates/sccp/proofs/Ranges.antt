-- What the tests of the writer's code say of the definitions. Assumes nothing.
use Prim.Native.Nat.{ℕ, ◌+◌, ◌≤◌}
use native.Mathlib.Omega.{arith}
use mathlib.Core.Path.{◌≡◌}
use mathlib.Core.Bool.{true}
use mathlib.Core.List.{List, ◌++◌}
use Rattle.std.proofs.lemmas.Bool.Decides.{nat_tests}
use lib.ListN.{length, length-append}
use borrow.Author.Tests.{le-leb}
use Rattle.base.specs.inner.Put.{Put}
use Rattle.base.proofs.Puts.{put_front}
use Rattle.sccp.specs.Standing.{Ranged}
use Rattle.sccp.specs.Writing.{counted, unitdata_octets, in_range, writing_unitdata, behind, leaves_unitdata}

-- 35 does not apply exactly if each part and the sum are in range
pub ranged : (a b d : ℕ) → in_range a b d ≡ true → Ranged a b d
unfolding in_range
ranged a b d e = grind (arith, nat_tests)

pub in_range_lem : (a b d : ℕ) → Ranged a b d → in_range a b d ≡ true
unfolding in_range
in_range_lem a b d r = grind (arith, nat_tests)

-- what the buffer holds where there is room
module _ (c : ℕ) (a b d out : List ℕ) where
  pub octets_length : length (unitdata_octets c a b d) ≡ length a + length b + length d + 8
  unfolding unitdata_octets
  octets_length = omega (arith, length-append a (counted b ++ counted d), length-append b (counted d))

  pub has_room : {r : ℕ} {new : List ℕ} → in_range (length a) (length b) (length d) ≡ true → length a + length b + length d + 8 ≤ length out → Put out 0 (unitdata_octets c a b d) r new → new ≡ leaves_unitdata c a b d out
  unfolding writing_unitdata leaves_unitdata behind
  has_room e h p =
      let fits : length (unitdata_octets c a b d) ≤ length out = omega (arith, octets_length) in
      rw (e, le-leb (length (unitdata_octets c a b d)) (length out) fits) (put_front p fits)

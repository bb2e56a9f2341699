-- A number at a place, from its four octets. Assumes nothing.
use Prim.Native.Nat.{ℕ, suc, ◌+◌, ◌*◌, ◌≤◌, ◌<◌}
use native.Mathlib.Omega.{arith}
use mathlib.Core.Path.{◌≡◌, ap, ◌∙◌}
use mathlib.Core.List.{List, [], ◌∷◌}
use lib.ListN.{length, take, drop, get_or}
use lib.Seq.{drop-cons}
use Rattle.base.specs.Number.{number_from}
use Rattle.layout.specs.Layout.{number_at}

module _ (l : List ℕ) where
  octet_step : (k j : ℕ) → j ≡ suc k → k < length l → drop k l ≡ get_or l k 0 ∷ drop j l
  octet_step k j e h = rw e (drop-cons l k 0 h)

  four_octets : (k : ℕ) → k + 4 ≤ length l → take 4 (drop k l) ≡ get_or l k 0 ∷ get_or l (k + 1) 0 ∷ get_or l (k + 2) 0 ∷ get_or l (k + 3) 0 ∷ []
  four_octets k h =
      rw (octet_step k (k + 1) (omega arith) (omega arith), octet_step (k + 1) (k + 2) (omega arith) (omega arith), octet_step (k + 2) (k + 3) (omega arith) (omega arith), octet_step (k + 3) (k + 4) (omega arith) (omega arith))

  pub number_octets : (k : ℕ) → k + 4 ≤ length l → number_at l k ≡ ((get_or l k 0 * 256 + get_or l (k + 1) 0) * 256 + get_or l (k + 2) 0) * 256 + get_or l (k + 3) 0
  unfolding number_at number_from
  number_octets k h = ap (number_from 0) (four_octets k h) ∙ omega arith

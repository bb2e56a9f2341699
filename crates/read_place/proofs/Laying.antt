-- Laws of what is laid out. Assumes nothing.
use Prim.Native.Nat.{ℕ, suc, ◌+◌, ◌/◌, ◌%◌}
use native.Mathlib.Omega.{arith}
use mathlib.Core.Path.{◌≡◌}
use mathlib.Core.List.{List}
use lib.ListN.{set}
use Rattle.base.specs.Number.{octets_in}
use Rattle.read_place.specs.Laying.{lay_text}

-- four stores, two and two side by side
pub text_laid : (l : List ℕ) (o place len : ℕ) → set (set (set (set l (o + 2) (place / 256 % 256)) (o + 3) (place % 256)) (o + 6) (len / 256 % 256)) (o + 7) (len % 256) ≡ lay_text o place len l
unfolding lay_text octets_in
text_laid l o place len =
    let a : o + 3 ≡ suc (o + 2) = omega arith in
    let b : o + 7 ≡ suc (o + 6) = omega arith in
    rw (a, b)

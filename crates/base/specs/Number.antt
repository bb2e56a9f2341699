-- Octets as numbers, most significant first, and two's complement over the width, of which `top` is the largest number.
-- Assumes nothing: these are definitions.
use Rattle.std.specs.Prelude.{ℕ, zero, suc, ◌+◌, ◌-◌, ◌*◌, ◌/◌, ◌%◌}
use mathlib.Core.{Bool.Bool, Bool.cond, List.List, List.[], List.◌∷◌, List.◌++◌}
use lib.{Dec.leb, IntN.ℤ, IntN.pos, IntN.negsuc, Signed.mag}

-- octets as a number, after those whose number is `value`
unfoldable pub number_from : ℕ → List ℕ → ℕ
number_from value [] = value
number_from value (x ∷ xs) = number_from (value * 256 + x) xs

-- a number in k octets
unfoldable pub octets_in : ℕ → ℕ → List ℕ
octets_in zero n = []
octets_in (suc k) n = octets_in k (n / 256) ++ (n % 256 ∷ [])

-- the largest number of k octets
unfoldable pub top_of : ℕ → ℕ
top_of zero = 0
top_of (suc k) = top_of k * 256 + 255

-- the signed number for which n stands, and the number that stands for z
unfoldable pub signed_at : ℕ → ℕ → ℤ
signed_at top n = cond (leb n (top / 2)) (pos n) (negsuc (top - n))

unfoldable pub bits_at : ℕ → ℤ → ℕ
bits_at top (pos n) = n
bits_at top (negsuc n) = top - n

-- whether k octets hold z: one octet holds -128 to 127
unfoldable pub holds : ℕ → ℤ → Bool
holds k z = leb (mag z) (top_of k / 2)

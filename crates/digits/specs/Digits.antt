-- Numbers and octets as text: whole numbers without leading zeros, most significant digit first, and upper-case hex.
-- Assumes nothing: these are definitions.
use Rattle.std.specs.Prelude.{ℕ, zero, suc, ◌+◌, ◌/◌, ◌%◌}
use mathlib.Core.{Bool.Bool, Bool.true, Bool.false, Bool.cond, List.List, List.[], List.◌∷◌, List.◌++◌}
use lib.{Dec.ltb, IntN.ℤ, IntN.pos, IntN.negsuc}
use Rattle.base.specs.{Text.text}

-- below ten one digit, otherwise the last digit after those of a tenth
abbrev pub digits_by : Bool → ℕ → (ℕ → List ℕ) → List ℕ
digits_by true n tenth = (48 + n) ∷ []
digits_by false n tenth = tenth (n / 10) ++ ((48 + n % 10) ∷ [])

-- the last `most` digits
unfoldable pub last_digits : ℕ → ℕ → List ℕ
last_digits zero n = []
last_digits (suc most) n = digits_by (ltb n 10) n (last_digits most)

-- a number has no more digits than it counts, or one
unfoldable pub decimal : ℕ → List ℕ
decimal n = last_digits (suc n) n

unfoldable pub signed : ℤ → List ℕ
signed (pos n) = decimal n
signed (negsuc n) = text "-" ++ decimal (suc n)

-- 0 is 48, and A, which is ten, is 65
unfoldable pub hex_digit : ℕ → ℕ
hex_digit n = cond (ltb n 10) (48 + n) (55 + n)

unfoldable pub hex : List ℕ → List ℕ
hex [] = []
hex (x ∷ xs) = hex_digit (x / 16) ∷ hex_digit (x % 16) ∷ hex xs

-- as fields of a line, behind a space
unfoldable pub number : ℕ → List ℕ
number n = text " " ++ decimal n

unfoldable pub value : ℤ → List ℕ
value z = text " " ++ signed z

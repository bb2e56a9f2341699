-- Contents of primitives: document 01, "Numbers". Signed integers in the fewest octets, object identifiers.
-- Assumes nothing: these are definitions.
use Rattle.std.specs.Prelude.{ℕ, zero, suc, ◌-◌}
use mathlib.Core.{Bool.Bool, Bool.true, Bool.cond, Bool.not, Bool.◌&&◌, List.List, List.[], List.◌∷◌}
use lib.{ListN.length, Dec.ltb, Dec.leb, Dec.eqb, IntN.ℤ}
use Rattle.base.specs.{Number.number_from, Number.octets_in, Number.top_of, Number.signed_at, Number.bits_at, Number.holds, Value.same}

-- so many octets
abbrev pub between : ℕ → ℕ → List ℕ → Bool
between a b c = leb a (length c) && leb (length c) b

abbrev pub most_integer_octets : ℕ
most_integer_octets = 4

abbrev pub most_identifier_octets : ℕ
most_identifier_octets = 16

-- the fewest octets, from k on, that hold z, if k and `more` do
unfoldable pub width_from : ℕ → ℕ → ℤ → ℕ
width_from zero k z = k
width_from (suc more) k z = let w = width_from more (suc k) z in cond (holds k z) k w

-- z in two's complement, in the fewest octets
unfoldable pub integer_octets : ℤ → List ℕ
integer_octets z = let k = width_from (most_integer_octets - 1) 1 z in octets_in k (bits_at (top_of k) z)

-- the number for which octets stand in two's complement
unfoldable pub signed_of : List ℕ → ℤ
signed_of c = signed_at (top_of (length c)) (number_from 0 c)

-- 1 to `most` octets (4 at most), and just those in which their number is written
unfoldable pub integer_ok : ℕ → List ℕ → Bool
integer_ok most c = between 1 most c && same (integer_octets (signed_of c)) c

-- every number ends with bit H 0 and does not begin with 80; the Bool says that a number begins here
unfoldable pub numbers : List ℕ → Bool → Bool
numbers [] b = b
numbers (x ∷ r) b = not (b && eqb x 128) && numbers r (ltb x 128)

-- an object identifier: 1 to 16 octets
unfoldable pub identifier_ok : List ℕ → Bool
identifier_ok c = between 1 most_identifier_octets c && numbers c true

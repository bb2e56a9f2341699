-- What the functions of this layer answer: their contracts cite it, and the definition of reading does not rest on it.
-- Assumes nothing: these are definitions.
use Rattle.std.specs.Prelude.{ℕ, ℤ, ◌-◌, Option as Optional, Some, None}
use mathlib.Core.{Bool.cond, List.List, Bool.Bool, Bool.true}
use Rattle.primitive.specs.{Primitive.signed_of, Primitive.integer_ok}
use lib.{ListN.get_or, Dec.ltb, Dec.eqb}

-- contents as an integer of 1 to `most` octets
unfoldable pub integer_of : ℕ → List ℕ → Optional ℤ
integer_of most c = cond (integer_ok most c) (Some (signed_of c)) None

-- whether a number of an object identifier begins at a place: a number begins at the start, and behind an octet without bit H
unfoldable pub begins_at : ℕ → List ℕ → Bool
begins_at i c = cond (eqb i 0) true (ltb (get_or c (i - 1) 0) 128)

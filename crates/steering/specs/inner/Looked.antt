-- What the rules look at, taken from the octets of a record (docs/LAYOUT.md): cited by inner contracts, and no part of the definition of steering.
-- Assumes nothing: these are definitions.
use Rattle.std.specs.Prelude.{ℕ, ℤ, Option as Optional, Some, None}
use mathlib.Core.{Bool.cond, List.List}
use lib.{ListN.take, ListN.drop, Dec.eqb}
use Rattle.primitive.specs.Primitive.{signed_of}
use Rattle.layout.specs.Layout.{octet}

-- the first row stands behind the head, at 44; 7 is the last octet of the count
unfoldable pub first_in : List ℕ → Optional ℤ
first_in o = cond (eqb (octet o 7) 0) None (cond (eqb (octet o 44) 0xA1) (cond (eqb (octet o 49) 0x02) (Some (signed_of (take 4 (drop 52 o)))) None) None)

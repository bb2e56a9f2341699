-- Octets that fit, and those before both IDs of an active transaction. Assumes nothing.
use Prim.Native.Nat.{ℕ}
use mathlib.Core.List.{List, [], ◌∷◌}
use lib.ListN.{length, get_or}
use mir.Syntax.{w8}
use mir.Val.{Fits}

abbrev pub Octet : List ℕ → Type 0
Octet l = (i : ℕ) → Fits w8 (get_or l i 0)

abbrev pub header : List ℕ → List ℕ → List ℕ
header o p = 3 ∷ length o ∷ length p ∷ 0 ∷ []

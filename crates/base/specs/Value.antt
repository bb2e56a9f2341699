-- What the library lacks for lists, optional values and alternatives: of every one, of the one if there is one.
-- Assumes nothing: these are definitions.
use Rattle.std.specs.Prelude.{ℕ}
use mathlib.Core.{Bool.Bool, Bool.true, Bool.false, Bool.◌&&◌, List.List, List.[], List.◌∷◌, Option.Option, Option.none, Option.some}
use lib.{Dec.eqb}

unfoldable pub Every : {A : Type 0} → (A → Type 0) → List A → Type 0
Every P [] = Unit {0}
Every P (a ∷ ws) = P a × Every P ws

abbrev pub Maybe : {A : Type 0} → (A → Type 0) → Option A → Type 0
Maybe P none = Unit {0}
Maybe P (some a) = P a

-- the same octets
unfoldable pub same : List ℕ → List ℕ → Bool
same [] [] = true
same [] (y ∷ ys) = false
same (x ∷ xs) [] = false
same (x ∷ xs) (y ∷ ys) = eqb x y && same xs ys

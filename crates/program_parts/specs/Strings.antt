-- The strings of a file of cases, each after its length; when one that comes next is what came to the front of a buffer; what an input lost.
-- Assumes nothing: these are definitions.
use Rattle.std.specs.Prelude.{ℕ, ◌/◌, ◌%◌, ◌≡◌, List, ◌∷◌, ◌++◌, length, Some}
use Rattle.std.specs.declared.option.Option.{Option}
use Rattle.std.specs.Io.KnownBytes.{Consumes}

-- the length in two octets, the high one first
abbrev pub string_octets : List ℕ → List ℕ
string_octets s = (length s / 256) ∷ (length s % 256) ∷ s

-- the length in one octet
abbrev pub short_string_octets : List ℕ → List ℕ
short_string_octets s = length s ∷ s

-- where the known octets of an input begin with `written`, s came to the front of a buffer, and what is behind `written` is left
abbrev pub Comes : Option (List ℕ) → Option (List ℕ) → List ℕ → List ℕ → List ℕ → Type 0
Comes old new written s front = (t : List ℕ) → old ≡ Some (written ++ t) → (front ≡ s) × (new ≡ Some t)

-- known octets of an input lost some at their front
abbrev pub Loses : Option (List ℕ) → Option (List ℕ) → Type 0
Loses old new = (s : List ℕ) × Consumes old new s

-- Text as octets, for the words that a program prints: every character by its number, which is below 128 in ASCII.
-- Assumes nothing: these are definitions.
use Rattle.std.specs.Prelude.{ℕ}
use Prim.Native.Char.{code}
use Prim.Native.String.{String, [] as end, ◌∷◌ as ◌then◌}
use mathlib.Core.{List.List, List.[], List.◌∷◌}

abbrev pub text : String → List ℕ
text end = []
text (c then s) = code c ∷ text s

-- Demand 3 in one statement, and the order of document 01's "Writing" with it: what a call that writes a record answers and leaves, over the definition
-- of reading (`Reads`) and the parts of the record alone, and not over `writing`. Assumes nothing: these are definitions.
use Rattle.std.specs.Prelude.{Result, Ok, Err}
use Rattle.std.specs.Prelude.{ℕ, ◌≤◌, ◌<◌}
use mathlib.Core.{Path.◌≡◌, Logic.◌↔◌, Logic.◌⊎◌, List.List, Option.some}
use lib.{ListN.length, ListN.take, ListN.drop}
use Rattle.tcap.specs.{declared.Record.Record, Meaning.Meaning, WellFormed.WellFormed, Record.meaning_of}
use Rattle.writing.specs.{declared.WriteFault.WriteFault, Writing.write_number, Writing.ReadsAs, Reasons.Misfit, Reasons.RangeOff, Reasons.EndOff, Reasons.ShapeOff, Reasons.SomePart, Reasons.NoPart}

-- a record is well-formed over the material if it has a meaning and that is
abbrev pub MeansWell : Record → List ℕ → Type 0
MeansWell r m = (μ : Meaning) × (meaning_of r m ≡ some μ) × WellFormed μ

-- a message that reads as the record fits the room; every one is longer, or there is none, for a message has at most 255 octets
abbrev pub OneFits : Record → List ℕ → ℕ → Type 0
OneFits r m room = (s : List ℕ) × ReadsAs s r m × (length s ≤ room)

abbrev pub NoneFits : Record → List ℕ → ℕ → Type 0
NoneFits r m room = ((s : List ℕ) → ReadsAs s r m → room < length s) ⊎ ((s : List ℕ) → ReadsAs s r m → ⊥)

-- the first n octets of `new` are a message that reads as the record, and every other such message is longer; the rest is that of `out`
pub record Shortest (r : Record) (m out new : List ℕ) (n : ℕ) : Type 0 where
  pub reads : ReadsAs (take n new) r m
  pub counts : length (take n new) ≡ n
  pub least : (s : List ℕ) → ReadsAs s r m → (take n new ≡ s) ⊎ (n < length s)
  pub rest : drop n new ≡ drop n out

-- an answer says that n octets were written (Done n), or a number (Refused n); `new` is the buffer `out` after the call
pub record WritesShortest (Done Refused : ℕ → Type 0) (r : Record) (m out new : List ℕ) : Type 0 where
  pub done : ((n : ℕ) × Done n) ↔ (MeansWell r m × OneFits r m (length out))
  pub shortest : (n : ℕ) → Done n → Shortest r m out new n
  pub full : Refused 25 ↔ (MeansWell r m × NoneFits r m (length out))
  pub unfit : ((n : ℕ) × (21 ≤ n) × (n ≤ 24) × Refused n) ↔ (MeansWell r m → ⊥)
  pub stays : (n : ℕ) → Refused n → new ≡ out
  -- which of 21 to 24: each over all parts of the record before the next
  pub wrong_parts : Refused 24 ↔ SomePart Misfit r
  pub out_of_range : Refused 23 ↔ (NoPart Misfit r × SomePart RangeOff r)
  pub out_of_material : Refused 21 ↔ (NoPart Misfit r × NoPart RangeOff r × SomePart (EndOff m) r)
  pub unshaped : Refused 22 ↔ (NoPart Misfit r × NoPart RangeOff r × NoPart (EndOff m) r × SomePart (ShapeOff m) r)

-- what an answer of `write` says
abbrev pub Says : Result ℕ WriteFault → ℕ → Type 0
Says w n = w ≡ Ok n

abbrev pub Refuses : Result ℕ WriteFault → ℕ → Type 0
Refuses w n = (f : WriteFault) × (w ≡ Err f) × (write_number f ≡ n)

-- A fault: its kind, where it was found, whom it belongs to, and what was read before it: document 01, "Record and refusal of a reading".
-- Assumes nothing: these are definitions.
use Rattle.std.specs.Prelude.{ℕ}
use mathlib.Core.{List.List, Option.Option, Option.none, Option.some}
use lib.{IntN.ℤ}
use Rattle.element.specs.{declared.FaultKind.FaultKind}

-- document 01's table, where 10 is retired: the contents end where something mandatory is due (14), an element stands where only others may (15),
-- or follows where nothing more may (16)
unfoldable pub number_of : FaultKind → ℕ
number_of FaultKind.CutOff = 1
number_of FaultKind.BadTag = 2
number_of FaultKind.BadLength = 3
number_of FaultKind.PassesEnd = 4
number_of FaultKind.TooDeep = 5
number_of FaultKind.CodeZero = 6
number_of FaultKind.Overlong = 7
number_of FaultKind.NoMessage = 8
number_of FaultKind.OctetsAfter = 9
number_of FaultKind.Missing = 14
number_of FaultKind.Another = 15
number_of FaultKind.TooMany = 16
number_of FaultKind.BadContents = 11
number_of FaultKind.Seventeenth = 12
number_of FaultKind.UnknownComponent = 13

-- octets and the place where they stand
abbrev pub Text : Type 0
Text = ℕ × List ℕ

-- the transaction portion (all that is in neither of the others), inside the contents of 6B, or a component
pub data Owner : Type 0 where
  portion dialogue : Owner
  component : ℕ → Owner

-- kind, place, owner, invoke ID if read, originating ID if read
pub data Fault : Type 0 where
  fault : FaultKind → ℕ → Owner → Option ℤ → Option Text → Fault

-- found at a place, where nothing else is known
abbrev pub at : FaultKind → ℕ → Fault
at k p = fault k p portion none none

-- what is known of a fault from outside the place where it was found
unfoldable pub in_dialogue : Fault → Fault
in_dialogue (fault k p o i t) = fault k p dialogue i t

unfoldable pub in_component : ℕ → Fault → Fault
in_component n (fault k p o i t) = fault k p (component n) i t

unfoldable pub with_invoke_id : Option ℤ → Fault → Fault
with_invoke_id j (fault k p o i t) = fault k p o j t

unfoldable pub with_orig_id : Text → Fault → Fault
with_orig_id s (fault k p o i t) = fault k p o i (some s)

-- Writing a record that stands as octets, in the layout of docs/LAYOUT.md: octets that are no record are refused as wrong parts.
-- Assumes nothing: these are definitions.
use Rattle.std.specs.Prelude.{Result}
use Rattle.std.specs.Prelude.{ℕ}
use mathlib.Core.{Bool.cond, List.List}
use Rattle.layout.specs.Layout.{is_record, record_in}
use Rattle.writing.specs.{declared.WriteFault.WriteFault, Writing.unless, Writing.writing, Writing.leaves}

unfoldable pub writing_octets : List ℕ → List ℕ → ℕ → Result ℕ WriteFault
writing_octets o m room = unless (is_record o) WriteFault.WrongParts (writing (record_in o) m room)

unfoldable pub leaves_octets : List ℕ → List ℕ → List ℕ → List ℕ
leaves_octets o m out = cond (is_record o) (leaves (record_in o) m out) out

-- What C is told of a writing: docs/LAYOUT.md, "Answer". Assumes nothing: these are definitions.
use Rattle.writing.specs.declared.WriteFault.{WriteFault}
use Rattle.std.specs.Prelude.{Result, Ok, Err}
use Rattle.std.specs.Prelude.{ℕ}
use mathlib.Core.{List.List}
use lib.{ListN.length}
use Rattle.writing.specs.{Writing.write_number, Octets.writing_octets}
use Rattle.c_answer.specs.Answer.{length_bits}

-- Writing: the octets o of a record, the material m, and the room for the message, which is then `leaves_octets o m out`

unfoldable pub written_bits : Result ℕ WriteFault → ℕ
written_bits (Ok n) = length_bits n
written_bits (Err f) = write_number f

unfoldable pub write_answer : List ℕ → List ℕ → List ℕ → ℕ
write_answer o m out = written_bits (writing_octets o m (length out))

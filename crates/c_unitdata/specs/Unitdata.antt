-- What C is told of a unitdata, as one number of 64 bits: docs/LAYOUT.md, "Unitdata". Assumes nothing: these are definitions.
use Rattle.std.specs.Prelude.{Result, Ok, Err, ℕ, ◌+◌, ◌*◌, ◌%◌, ◌^◌}
use mathlib.Core.{List.List}
use lib.{ListN.length}
use Rattle.sccp.specs.declared.{Part.Part, Unitdata.Unitdata, UnitdataFault.UnitdataFault, UnitdataWriteFault.UnitdataWriteFault}
use Rattle.sccp.specs.{Unitdata.read_unitdata, Unitdata.unitdata_number, Writing.writing_unitdata, Writing.unitdata_write_number}
use Rattle.c_answer.specs.Answer.{length_bits}

-- 17 bits: 0..8 a place, 9..16 a length
unfoldable pub part_bits : Part → ℕ
part_bits p = p.place % 2 ^ 9 + p.len % 2 ^ 8 * 2 ^ 9

-- 0..7 the number of a refusal; read: 8..24 the called address, 25..41 the calling address, 42..58 data
unfoldable pub unitdata_bits : Result Unitdata UnitdataFault → ℕ
unitdata_bits (Err f) = unitdata_number f
unitdata_bits (Ok u) = part_bits u.called * 2 ^ 8 + part_bits u.calling * 2 ^ 25 + part_bits u.userdata * 2 ^ 42

unfoldable pub unitdata_answer : List ℕ → ℕ
unitdata_answer m = unitdata_bits (read_unitdata m)

-- 0..7 the number of a refusal; written: 8..23 the length
unfoldable pub unitdata_written_bits : Result ℕ UnitdataWriteFault → ℕ
unitdata_written_bits (Ok n) = length_bits n
unitdata_written_bits (Err f) = unitdata_write_number f

unfoldable pub unitdata_write_answer : ℕ → List ℕ → List ℕ → List ℕ → List ℕ → ℕ
unitdata_write_answer c a b d out = unitdata_written_bits (writing_unitdata c a b d (length out))

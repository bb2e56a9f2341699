-- What C is told of a reading, and what its room then holds: docs/LAYOUT.md, "Answer". Assumes nothing: these are definitions.
use Rattle.std.specs.Prelude.{ℕ, Result, Ok, Err}
use mathlib.Core.{Bool.cond, List.List, List.◌++◌}
use lib.{ListN.length, ListN.drop, Dec.ltb}
use Rattle.tcap.specs.{declared.Record.Record, declared.Refusal.Refusal, Reading.outcome_of, Reading.reading}
use Rattle.layout.specs.Layout.{record_size, record_octets}
use Rattle.c_answer.specs.Answer.{no_room, outcome_bits}

-- Reading: the message m, and the room for its record

unfoldable pub read_answer : List ℕ → List ℕ → ℕ
read_answer m room = cond (ltb (length room) record_size) no_room (outcome_bits (outcome_of (reading m)))

unfoldable pub record_room : Result Record Refusal → List ℕ → List ℕ
record_room (Ok r) room = record_octets r ++ drop (length (record_octets r)) room
record_room (Err f) room = room

unfoldable pub read_room : List ℕ → List ℕ → List ℕ
read_room m room = cond (ltb (length room) record_size) room (record_room (reading m) room)

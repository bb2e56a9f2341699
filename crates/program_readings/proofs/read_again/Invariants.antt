-- Every reading is the same. Assumes nothing.
use mathlib.Core.Path.{◌≡◌}
use Rattle.tcap.specs.Reading.{reading}
use Rattle.program_readings.proofs.read_again.Given as goal

abbrev pub invariant-loop : goal.invariant-loop
invariant-loop l = l.found ≡ reading l.message

-- What one writing leaves, the next leaves too. Assumes nothing.
use Rattle.writing.specs.Writing.{Writes}
use Rattle.program_readings.proofs.write_again.Given as goal

abbrev pub invariant-loop : goal.invariant-loop
invariant-loop l = Writes l.held l.material l.fn.out l.written l.out

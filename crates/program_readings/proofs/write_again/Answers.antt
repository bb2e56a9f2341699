-- What one writing leaves, the next leaves too. Assumes nothing.
use Rattle.program_readings.proofs.Rewriting.{writes_again}
use Rattle.program_readings.proofs.write_again.Goals as goal

pub loop-preserved : goal.loop-preserved
loop-preserved c = writes_again _ _ _ c.loop.invariant c.write-written-in-loop.ensures

-- By what was written. Assumes nothing.
use Rattle.c_answer.specs.Answer.{length_bits}
use Rattle.c_write.specs.Write.{written_bits}
use Rattle.c_write.proofs.written_bits.Goals as goal

pub returns-in-Ok : goal.returns-in-Ok
unfolding written_bits length_bits
returns-in-Ok c = rw c.in-Ok.is

pub returns-in-Err : goal.returns-in-Err
unfolding written_bits
returns-in-Err c = rw c.in-Err.is c.from.ensures

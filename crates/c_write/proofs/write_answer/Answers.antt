-- Writing over the octets of the record. Assumes nothing.
use Rattle.c_write.specs.Write.{write_answer}
use Rattle.c_write.proofs.write_answer.Goals as goal

pub returns-clause-value : goal.returns-clause-value
unfolding write_answer
returns-clause-value c = rw (← c.write_octets-written.ensures.value) c.written_bits.ensures

pub returns-clause-out_after : goal.returns-clause-out_after
returns-clause-out_after c = c.write_octets-written.ensures.out_after

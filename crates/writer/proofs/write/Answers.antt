-- The record is laid out, and written as the octets that it stands in. Assumes nothing.
use native.Mathlib.Omega.{arith}
use Rattle.writing.proofs.Laid.{laid_writes}
use Rattle.writer.proofs.write.Goals as goal

pub returns : goal.returns
returns c = laid_writes c.args.held c.put_record.ensures.1 _ _ (omega arith) c.put_record.ensures.0 (c.write_octets.ensures.value, c.write_octets.ensures.out_after)

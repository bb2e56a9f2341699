-- Part after part. Assumes nothing.
use Rattle.base.proofs.Puts.{put_then}
use Rattle.program_readings.specs.Rewritten.{line_of}
use Rattle.program_readings.proofs.put_line.Goals as goal

pub returns : goal.returns
unfolding line_of
returns c = put_then c.put_part-a.ensures (put_then c.put_hex-b.ensures c.put_octet.ensures)

-- A line has room: two digits an octet, and nine octets more. Assumes nothing.
use Prim.Native.Nat.{ℕ}
use lib.ListN.{length-replicate}
use Rattle.program_readings.proofs.Rewriting.{line_fits}
use Rattle.program_readings.proofs.print_written.Goals as goal

pub slice_bounds-text-end : goal.slice_bounds-text-end
slice_bounds-text-end g c = (line_fits _ _ c.put_line-size.ensures c.requires (length-replicate {A = ℕ} 4096 0)).0

pub slice_bounds-write_all-end : goal.slice_bounds-write_all-end
slice_bounds-write_all-end g c = (line_fits _ _ c.put_line-size.ensures c.requires (length-replicate {A = ℕ} 4096 0)).1

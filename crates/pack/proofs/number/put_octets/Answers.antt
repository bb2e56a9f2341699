-- A copy into the part from the place on. Assumes nothing.
use native.Mathlib.Omega.{arith}
use Rattle.pack.proofs.Rooms.{copied}
use Rattle.pack.proofs.number.put_octets.Goals as goal

pub returns : goal.returns
returns g c = copied _ _ _ _ _ (omega arith) c.well_formed.1.1.0.1.0.1 c.requires c.copy_from_slice.ensures.after

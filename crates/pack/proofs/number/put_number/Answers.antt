-- The octets of the number. Assumes nothing.
use Rattle.pack.proofs.Rooms.{be_octets}
use Rattle.pack.proofs.number.put_number.Goals as goal

pub returns : goal.returns
returns c = rw (c.to_be_bytes.ensures, be_octets) at c.put_octets.ensures

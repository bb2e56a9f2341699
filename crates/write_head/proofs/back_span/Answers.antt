-- They are the octets of the string. Assumes nothing.
use Rattle.write_head.proofs.back_span.Goals as goal

pub back_part-requires : goal.back_part-requires
back_part-requires c = rw c.octets_of-octets.ensures c.requires.room

pub returns : goal.returns
returns c = rw (← c.octets_of-octets.ensures) c.back_part.ensures

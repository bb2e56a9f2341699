-- They are the octets of the string. Assumes nothing.
use Rattle.write_head.proofs.back_string.Goals as goal

pub back_leaf-requires : goal.back_leaf-requires
back_leaf-requires c = rw c.octets_of-octets.ensures c.requires.room

pub returns : goal.returns
returns c = rw (← c.octets_of-octets.ensures) c.back_leaf.ensures

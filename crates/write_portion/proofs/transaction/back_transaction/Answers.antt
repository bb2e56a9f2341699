-- By cases. Assumes nothing.
use Rattle.base.proofs.Backs.{back_none}
use Rattle.element.specs.Form.{shortest}
use Rattle.write_portion.proofs.transaction.back_transaction.Goals as goal

pub back_string-requires : goal.back_string-requires
back_string-requires c = record { string_within = rw c.in-Some.is at c.requires.id_within; room = rw c.in-Some.is at c.requires.room }

pub returns-in-None : goal.returns-in-None
unfolding shortest
returns-in-None c = rw c.in-None.is (back_none _ _ c.requires.room.within)

pub returns-in-Some : goal.returns-in-Some
returns-in-Some c = rw c.in-Some.is c.back_string.ensures

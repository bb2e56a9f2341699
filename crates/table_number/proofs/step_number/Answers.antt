-- By the reply. Assumes nothing.
use Rattle.table_layout.proofs.Numbers.{reply_room}
use Rattle.table_number.proofs.step_number.Goals as goal

pub taken_number-requires : goal.taken_number-requires
taken_number-requires c = reply_room _ _ _ _ _ c.step_octets.ensures.value c.in-Ok.is

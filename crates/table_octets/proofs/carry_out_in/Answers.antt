-- A partner's ID is put beside ours. Assumes nothing.
use Rattle.table_layout.proofs.Learning.{learns_done}
use Rattle.table_octets.proofs.carry_out_in.Goals as goal

pub returns-in-Learns : goal.returns-in-Learns
returns-in-Learns c = learns_done _ _ _ _ _ c.in-Learns.is c.requires.holds_ours c.put_partner.ensures

-- `write_unitdata` meets its contract. Assumes nothing.
use native.Mathlib.Omega.{arith}
use mathlib.Core.Path.{sym, ◌∙◌}
use Rattle.sccp.proofs.Ranges.{has_room}
use Rattle.sccp_write.proofs.write_unitdata.Goals as goal

pub returns-clause-out_after : goal.returns-clause-out_after
returns-clause-out_after c = has_room _ _ _ _ _ (sym c.is_in_range.ensures ∙ c.if-not-is_in_range.false) (omega arith) c.put_unitdata.ensures

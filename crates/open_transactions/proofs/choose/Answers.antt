-- The room of a find is one of the entries'. Assumes nothing.
use native.Mathlib.Omega.{arith}
use mathlib.Core.Path.{sym, ◌∙◌}
use Rattle.open_transactions.proofs.Finding.{found_below, find_position}
use Rattle.open_transactions.specs.Table.{holds}
use Rattle.open_transactions.proofs.choose.Goals as goal

pub state_at-requires : goal.state_at-requires
state_at-requires g c = omega (arith, found_below (holds c.args.ours.now) 0 c.in-Some-None.room (g.T.Entries.entries c.args.table.now) (sym (c.find.ensures ∙ find_position _ _) ∙ c.in-Some-None.is-0))

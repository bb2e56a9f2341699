-- What is chosen can be carried out. Assumes nothing.
use mathlib.Core.Path.{sym, ◌∙◌}
use Rattle.open_transactions.proofs.Typed.{table_typed}
use Rattle.open_transactions.proofs.Doing.{deed_doable, chosen_doable}
use Rattle.open_transactions.proofs.Table.step.Goals as goal

pub carry_out-requires : goal.carry_out-requires
carry_out-requires c = chosen_doable _ _ _ c.told_by-told.ensures (sym c.choose.ensures ∙ c.in-Ok.is) (deed_doable _ _ _ _ (table_typed c.args.self _ c.well_formed.0))

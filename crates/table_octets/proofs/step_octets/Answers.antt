-- What is chosen can be carried out. Assumes nothing.
use native.Mathlib.Omega.{arith}
use mathlib.Core.Path.{sym, ◌∙◌, subst}
use Rattle.open_transactions.proofs.Doing.{deed_doable, chosen_doable}
use Rattle.table_layout.specs.inner.Steps.{HoldsOurs}
use Rattle.table_layout.proofs.Entries.{length_entries}
use Rattle.table_layout.proofs.Learning.{deed_known}
use Rattle.table_octets.proofs.step_octets.Goals as goal

pub carry_out_in-requires-clause-table_size_in_bounds : goal.carry_out_in-requires-clause-table_size_in_bounds
carry_out_in-requires-clause-table_size_in_bounds c = (omega arith, chosen_doable _ _ _ c.told_by-told.ensures (sym c.choose.ensures ∙ c.in_ok-deed.was) (deed_doable _ _ _ _ (length_entries c.args.table.now 64 0)))

pub carry_out_in-requires-clause-holds_ours : goal.carry_out_in-requires-clause-holds_ours
carry_out_in-requires-clause-holds_ours c = subst (HoldsOurs c.args.table.now c.args.ours.now) (sym c.choose.ensures ∙ c.in_ok-deed.was) (deed_known _ _ _ _)

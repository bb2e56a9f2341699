-- `outside_judged` meets its contract. Assumes nothing.
use Rattle.std.proofs.lemmas.Result.{err_from_is_err_and}
use mathlib.Core.Path.{sym, ◌∙◌}
use Rattle.write_check_row.proofs.Joining.{passed, later_fine, later_bad, later_not}
use Rattle.write_check.proofs.Dialogues.{kind_outside, kind_known}
use Rattle.write_check.proofs.outside_judged.Goals as goal

pub returns : goal.returns
returns c = later_fine _ _ _ _ _ _ (sym c.name_judged.ensures ∙ c.in_ok-size.was) (rw (← c.octets_of.ensures) (kind_outside _ _ c.name_kind.ensures c.if-name_kind-ne0.false))

pub returns-then-name_kind-ne0 : goal.returns-then-name_kind-ne0
returns-then-name_kind-ne0 c = later_not _ _ _ _ _ _ (sym c.name_judged.ensures ∙ c.in_ok-size.was) (rw (← c.octets_of.ensures) (kind_known _ _ c.name_kind.ensures c.if-name_kind-ne0.true))

pub octets_of-requires : goal.octets_of-requires
octets_of-requires c = (passed _ _ _ _ _ _ (sym c.name_judged.ensures ∙ c.in_ok-size.was)).lies

pub returns-in_err-size : goal.returns-in_err-size
returns-in_err-size c = let p = err_from_is_err_and c.from_residual.result c.from_residual.ensures.1 in rw (p.1, p.2) (later_bad _ _ _ _ _ _ (sym c.name_judged.ensures ∙ c.in_err-size.was))

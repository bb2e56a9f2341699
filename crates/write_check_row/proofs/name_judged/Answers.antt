-- `name_judged` meets its contract. Assumes nothing.
use Rattle.std.proofs.lemmas.Result.{err_from_is_err_and}
use mathlib.Core.Path.{sym, ap, ◌∙◌}
use mathlib.Core.Bool.{true}
use Rattle.primitive.specs.Primitive.{identifier_ok}
use Rattle.write_check_row.proofs.Joining.{passed, later_fine, later_bad, later_not}
use Rattle.write_check_row.proofs.name_judged.Goals as goal

pub returns : goal.returns
returns c = later_fine _ _ true _ _ _ (sym c.sized_judged.ensures ∙ c.in_ok-size.was) (ap identifier_ok (sym c.octets_of.ensures) ∙ sym c.identifier_ok.ensures ∙ c.if-not-identifier_ok.false)

pub returns-then-not-identifier_ok : goal.returns-then-not-identifier_ok
returns-then-not-identifier_ok c = later_not _ _ true _ _ _ (sym c.sized_judged.ensures ∙ c.in_ok-size.was) (ap identifier_ok (sym c.octets_of.ensures) ∙ sym c.identifier_ok.ensures ∙ c.if-not-identifier_ok.true)

pub octets_of-requires : goal.octets_of-requires
octets_of-requires c = (passed _ _ _ _ _ _ (sym c.sized_judged.ensures ∙ c.in_ok-size.was)).lies

pub returns-in_err-size : goal.returns-in_err-size
returns-in_err-size c = let p = err_from_is_err_and c.from_residual.result c.from_residual.ensures.1 in rw (p.1, p.2) (later_bad _ _ true _ _ _ (sym c.sized_judged.ensures ∙ c.in_err-size.was))

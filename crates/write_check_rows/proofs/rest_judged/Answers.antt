-- An Invoke, or no linked ID. Assumes nothing.
use borrow.Author.Tests.{ne_eqb}
use Rattle.layout.specs.Layout.{is_kind, kind_in}
use Rattle.write_check_rows.proofs.rest_judged.Goals as goal

pub returns-in-161-default : goal.returns-in-161-default
unfolding is_kind kind_in
returns-in-161-default c = rw c.in-161-default.is-0 c.invoke_judged.ensures

pub returns-in_default-eq0 : goal.returns-in_default-eq0
unfolding is_kind
returns-in_default-eq0 c = rw (ne_eqb _ _ c.in_default-eq0.is-0.1, c.in_default-eq0.is-1) c.unlinked_judged.ensures

pub returns-in_default : goal.returns-in_default
unfolding is_kind
returns-in_default c = rw (ne_eqb _ _ c.in_default.is-0.1, ne_eqb _ _ c.in_default.is-1.1)

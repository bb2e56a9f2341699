-- `component_at` meets its contract. Assumes nothing.
use Rattle.std.proofs.lemmas.Result.{err_from_is_err_and}
use Rattle.read_place.proofs.Fronts.{wrong_is_far}
use borrow.Author.Rules.{rules}
use native.Mathlib.Omega.{arith}
use mathlib.Core.Path.{sym, ◌∙◌}
use Rattle.read_row.proofs.Contents.{component_wrong, component_stops, start_inside, start_stands, component_done}
use Rattle.read_row.proofs.component_at.Goals as goal

pub start_of-requires : goal.start_of-requires
start_of-requires c = start_inside _ _ _ (search rules) (search rules) _ c.is_component.ensures c.if-is_component.true _ c.in_ok-inner.ensures.0 c.in_ok-inner.ensures.1

pub component_contents_at-requires : goal.component_contents_at-requires
component_contents_at-requires c =
    let s = start_stands c.args.m.now _ _ (omega arith) (omega arith) _ c.is_component.ensures c.if-is_component.true _ c.in_ok-inner.ensures.0 c.in_ok-inner.ensures.1 (omega arith) _ c.start_of.ensures in
    (((s.0, s.1, search rules), search rules), sym c.is_component.ensures ∙ c.if-is_component.true)

pub returns-then-is_component : goal.returns-then-is_component
returns-then-is_component c =
    let whole = c.in-Some.ensures.cases in
    let both = component_done _ _ _ (omega arith) (omega arith) _ c.is_component.ensures c.if-is_component.true _ c.in_ok-inner.ensures.0 c.in_ok-inner.ensures.1 (omega arith) _ c.start_of.ensures _ _ _ (c.component_contents_at.ensures.finishes.0, c.component_contents_at.ensures.leaves_all) in record { reads_component = (both.0, c.component_contents_at.ensures.finishes.1); leaves_component = rw whole.same at both.1 }

pub returns-in_err-inner : goal.returns-in_err-inner
returns-in_err-inner c = let p = err_from_is_err_and c.from_residual.result c.from_residual.ensures.1 in rw (p.1, p.2) (let both = component_stops _ _ _ (omega arith) (omega arith) _ c.is_component.ensures c.if-is_component.true _ c.in_err-inner.ensures.0 c.in_err-inner.ensures.1 _ _ in record { reads_component = (both.0, c.in_err-inner.ensures.1); leaves_component = both.1 })

pub returns : goal.returns
returns c = let both = component_wrong _ _ _ (omega arith) (omega arith) _ c.is_component.ensures c.if-is_component.false _ c.wrong_at.ensures _ _ in record { reads_component = (both.0, omega (arith, c.wrong_at.ensures, wrong_is_far c.args.m.now c.args.at c.args.stop 1048576 (omega arith))); leaves_component = both.1 }

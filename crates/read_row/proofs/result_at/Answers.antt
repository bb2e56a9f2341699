-- `result_at` meets its contract. Assumes nothing.
use Rattle.std.proofs.lemmas.Result.{err_from_is_err_and}
use Rattle.read_place.proofs.Fronts.{behind_near}
use borrow.Author.Rules.{rules}
use native.Mathlib.Omega.{arith}
use mathlib.Core.Path.{refl}
use Rattle.tcap.specs.WellFormed.{the93}
use Rattle.tcap.specs.Productions.{both_item}
use Rattle.read_place.specs.Leaves.{untold}
use Rattle.read_place.specs.Laying.{lay_returned}
use Rattle.read_place.proofs.Optional.{entry_inside, entry_from, entry_to}
use Rattle.read_row.proofs.Pairs.{last_out}
use Rattle.read_row.proofs.Contents.{result_entry, result_fault, result_end, result_within}
use Rattle.read_row.proofs.result_at.Goals as goal

pub returns-then-ended : goal.returns-then-ended
unfolding lay_returned
returns-then-ended c = let both = last_out untold 13 (both_item the93) lay_returned _ _ _ (omega arith) (omega arith) _ c.ended.ensures c.if-ended.true _ c.behind.ensures _ (λ o. refl) in record { finishes = (both.0, omega (arith, c.behind.ensures, behind_near c.args.at c.args.stop (omega arith))); leaves_all = both.1 }

pub returns-in_err-r : goal.returns-in_err-r
returns-in_err-r c = let p = err_from_is_err_and c.from_residual-in_err-r.result c.from_residual-in_err-r.ensures.1 in rw (p.1, p.2) (let both = result_fault _ _ _ (omega arith) (omega arith) _ c.ended.ensures c.if-ended.false _ c.in_ok-inner.ensures.0 _ _ (omega arith) c.in_ok-inner.ensures.1 _ c.start_of.ensures _ (c.in_err-r.ensures.finishes.0, c.in_err-r.ensures.leaves_all) c.in_err-r.ensures.finishes.1 in record { finishes = (both.0, c.in_err-r.ensures.finishes.1); leaves_all = both.1 })

pub leave-requires : goal.leave-requires
leave-requires c =
    let within = result_within c.args.m.now _ _ (omega arith) (omega arith) _ c.ended.ensures c.if-ended.false _ c.in_ok-inner.ensures.0 _ _ (omega arith) c.in_ok-inner.ensures.1 _ c.start_of.ensures _ (c.in_ok-r.ensures.finishes.0, c.in_ok-r.ensures.leaves_all) c.in_ok-r.ensures.finishes.1 in
    ((within, search rules, search rules), search rules)

pub returns : goal.returns
returns c = let both = result_end _ _ _ (omega arith) (omega arith) _ c.ended.ensures c.if-ended.false _ c.in_ok-inner.ensures.0 _ _ (omega arith) c.in_ok-inner.ensures.1 _ c.start_of.ensures _ (c.in_ok-r.ensures.finishes.0, c.in_ok-r.ensures.leaves_all) c.in_ok-r.ensures.finishes.1 _ c.leave.ensures.0 in record { finishes = (both.0, c.leave.ensures.1); leaves_all = both.1 }

pub returns-in_err-inner : goal.returns-in_err-inner
returns-in_err-inner c = let p = err_from_is_err_and c.from_residual.result c.from_residual.ensures.1 in rw (p.1, p.2) (let both = result_entry _ _ _ (omega arith) (omega arith) _ c.ended.ensures c.if-ended.false _ c.in_err-inner.ensures.0 _ _ c.in_err-inner.ensures.1 in record { finishes = (both.0, c.in_err-inner.ensures.1); leaves_all = both.1 })

pub start_of-requires : goal.start_of-requires
start_of-requires c = search (rules, entry_inside, c.in_ok-inner.ensures.0, c.in_ok-inner.ensures.1)

pub coded_at-requires : goal.coded_at-requires
coded_at-requires c = search (rules, entry_from, entry_to, c.in_ok-inner.ensures.0, c.in_ok-inner.ensures.1)

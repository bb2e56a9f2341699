-- `single_at` meets its contract. Assumes nothing.
use Rattle.std.proofs.lemmas.Result.{err_from_is_err_and}
use borrow.Author.Rules.{rules}
use native.Mathlib.Omega.{arith}
use Rattle.read_place.proofs.Optional.{entry_inside, entry_from, entry_to}
use Rattle.read_place.proofs.Walks.{walked_near}
use Rattle.read_pdu.proofs.Taking.{opens_far, opens}
use Rattle.read_dialogue.proofs.Names.{opens_ready, walked_from, single_missing, single_cut, single_far, single_near}
use Rattle.read_dialogue.proofs.single_at.Goals as goal

pub returns-in_err-inner : goal.returns-in_err-inner
returns-in_err-inner c = let p = err_from_is_err_and c.from_residual.result c.from_residual.ensures.1 in rw (p.1, p.2) ((search (opens_far, c.in_err-inner.ensures.0, c.in_err-inner.ensures.1), c.in_err-inner.ensures.1))

pub start_of-from-requires : goal.start_of-from-requires
start_of-from-requires c = search (rules, entry_inside, c.in_ok-inner.ensures.0, c.in_ok-inner.ensures.1)

pub ended-requires : goal.ended-requires
ended-requires c = search (rules, entry_from, entry_to, c.in_ok-inner.ensures.0, c.in_ok-inner.ensures.1)

pub overflow_add-result : goal.overflow_add-result
overflow_add-result c = let h = entry_from _ _ _ 160 _ (omega arith) (omega arith) c.in_ok-inner.ensures.0 c.in_ok-inner.ensures.1 (omega arith) _ c.start_of-from.ensures in omega (arith, h)

pub returns-then-ended : goal.returns-then-ended
returns-then-ended c = (search (opens, single_missing, c.in_ok-inner.ensures.0, c.in_ok-inner.ensures.1), let h = entry_from _ _ _ 160 _ (omega arith) (omega arith) c.in_ok-inner.ensures.0 c.in_ok-inner.ensures.1 (omega arith) _ c.start_of-from.ensures in omega (arith, h))

pub unfinished-requires : goal.unfinished-requires
unfinished-requires c = search (rules, entry_from, entry_to, c.in_ok-inner.ensures.0, c.in_ok-inner.ensures.1)

pub overflow_add-result-then-unfinished : goal.overflow_add-result-then-unfinished
overflow_add-result-then-unfinished c = let h = entry_from _ _ _ 160 _ (omega arith) (omega arith) c.in_ok-inner.ensures.0 c.in_ok-inner.ensures.1 (omega arith) _ c.start_of-from.ensures in omega (arith, h)

pub returns-then-unfinished : goal.returns-then-unfinished
returns-then-unfinished c = (search (opens, single_cut, c.in_ok-inner.ensures.0, c.in_ok-inner.ensures.1), let h = entry_from _ _ _ 160 _ (omega arith) (omega arith) c.in_ok-inner.ensures.0 c.in_ok-inner.ensures.1 (omega arith) _ c.start_of-from.ensures in omega (arith, h))

pub walk_any-requires : goal.walk_any-requires
walk_any-requires c = search (rules, entry_from, entry_to, c.in_ok-inner.ensures.0, c.in_ok-inner.ensures.1)

pub returns-in_err-r : goal.returns-in_err-r
returns-in_err-r c = let p = err_from_is_err_and c.from_residual-in_err-r.result c.from_residual-in_err-r.ensures.1 in rw (p.1, p.2) ((search (opens, single_far, c.in_ok-inner.ensures.0, c.in_ok-inner.ensures.1, c.in_err-r.ensures.0, c.in_err-r.ensures.1), c.in_err-r.ensures.1))

pub overflow_sub-r : goal.overflow_sub-r
overflow_sub-r c = search (walked_from, c.in_ok-inner.ensures.0, c.in_ok-inner.ensures.1, c.in_ok-r.ensures.0, c.in_ok-r.ensures.1)

pub leave-requires : goal.leave-requires
leave-requires c = let l = walked_near _ _ _ _ c.in_ok-r.ensures.0 c.in_ok-r.ensures.1 in
    let h = entry_to _ _ _ 160 _ (omega arith) (omega arith) c.in_ok-inner.ensures.0 c.in_ok-inner.ensures.1 (omega arith) _ c.start_of-from.ensures in omega (arith, l, h)

pub returns : goal.returns
returns c = (search (opens, single_near, opens_ready, c.in_ok-inner.ensures.0, c.in_ok-inner.ensures.1, c.in_ok-r.ensures.0, c.in_ok-r.ensures.1, c.leave.ensures.0), c.leave.ensures.1)

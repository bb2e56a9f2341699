-- `context_at` meets its contract. Assumes nothing.
use Rattle.std.proofs.lemmas.Result.{err_from_is_err_and}
use borrow.Author.Rules.{rules}
use native.Mathlib.Omega.{arith}
use Rattle.read_place.proofs.Optional.{entry_inside, entry_from, entry_to, reads_within}
use Rattle.read_pdu.proofs.Taking.{opens_far, opens, sole_far, sole, takes_far, name_room, name_takes}
use Rattle.read_pdu.proofs.context_at.Goals as goal

pub returns-in_err-inner : goal.returns-in_err-inner
returns-in_err-inner c = let p = err_from_is_err_and c.from_residual.result c.from_residual.ensures.1 in rw (p.1, p.2) ((search (opens_far, c.in_err-inner.ensures.0, c.in_err-inner.ensures.1), c.in_err-inner.ensures.1))

pub start_of-from-requires : goal.start_of-from-requires
start_of-from-requires c = search (rules, entry_inside, c.in_ok-inner.ensures.0, c.in_ok-inner.ensures.1)

pub name_at-requires : goal.name_at-requires
name_at-requires c = search (rules, entry_from, entry_to, c.in_ok-inner.ensures.0, c.in_ok-inner.ensures.1)

pub returns-in_err-r : goal.returns-in_err-r
returns-in_err-r c = let p = err_from_is_err_and c.from_residual-in_err-r.result c.from_residual-in_err-r.ensures.1 in rw (p.1, p.2) ((search (opens, sole_far, takes_far, c.in_ok-inner.ensures.0, c.in_ok-inner.ensures.1, c.in_err-r.ensures.0, c.in_err-r.ensures.1), c.in_err-r.ensures.1))

pub overflow_add-from : goal.overflow_add-from
overflow_add-from c = omega (arith, name_room _ _ _ _ c.in_ok-r.ensures.0 c.in_ok-r.ensures.1)

pub overflow_sub-r : goal.overflow_sub-r
overflow_sub-r c = omega (arith, name_room _ _ _ _ c.in_ok-r.ensures.0 c.in_ok-r.ensures.1)

pub overflow_sub-r-2 : goal.overflow_sub-r-2
overflow_sub-r-2 c = omega (arith, name_room _ _ _ _ c.in_ok-r.ensures.0 c.in_ok-r.ensures.1)

pub leave-requires : goal.leave-requires
leave-requires c = search (rules, reads_within, entry_to, c.in_ok-inner.ensures.0, c.in_ok-inner.ensures.1, c.in_ok-r.ensures.0, c.in_ok-r.ensures.1)

pub returns : goal.returns
returns c = (search (opens, sole, name_takes, entry_to, c.in_ok-inner.ensures.0, c.in_ok-inner.ensures.1, c.in_ok-r.ensures.0, c.in_ok-r.ensures.1, c.leave.ensures.0), c.leave.ensures.1)

-- `external_at` meets its contract. Assumes nothing.
use Rattle.std.proofs.lemmas.Result.{err_from_is_err_and}
use borrow.Author.Rules.{rules}
use native.Mathlib.Omega.{arith}
use Rattle.read_place.proofs.Optional.{entry_inside, entry_from, entry_to, reads_within}
use Rattle.read_field.proofs.Fields.{count_room, count_more}
use Rattle.read_pdu.proofs.Taking.{opens_far, opens}
use Rattle.read_dialogue.proofs.Names.{opens_ready, name_lacks, name_counted, name_other, known_far, known_near}
use Rattle.read_dialogue.proofs.external_at.Goals as goal

pub returns-in_err-inner : goal.returns-in_err-inner
returns-in_err-inner c = let p = err_from_is_err_and c.from_residual.result c.from_residual.ensures.1 in rw (p.1, p.2) ((search (opens_far, c.in_err-inner.ensures.0, c.in_err-inner.ensures.1), c.in_err-inner.ensures.1))

pub start_of-from-requires : goal.start_of-from-requires
start_of-from-requires c = search (rules, entry_inside, c.in_ok-inner.ensures.0, c.in_ok-inner.ensures.1)

pub count_at-requires : goal.count_at-requires
count_at-requires c = search (rules, entry_from, entry_to, c.in_ok-inner.ensures.0, c.in_ok-inner.ensures.1)

pub bad_field-requires : goal.bad_field-requires
bad_field-requires c = search (rules, entry_from, entry_to, c.in_ok-inner.ensures.0, c.in_ok-inner.ensures.1)

pub returns-in_default : goal.returns-in_default
returns-in_default c = let i = c.in_default.ensures in (search (opens, name_lacks, opens_ready, c.in_ok-inner.ensures.0, c.in_ok-inner.ensures.1, c.bad_field.ensures.0), c.bad_field.ensures.1)

pub overflow_add-from : goal.overflow_add-from
overflow_add-from c = let h = count_room c.args.m.now _ _ 6 _ _ c.in-Some.ensures.0 c.in-Some.ensures.1 in omega (arith, h)

pub piece-requires : goal.piece-requires
piece-requires c = let (i, t) = c.in-Some.ensures in search (count_more, entry_to, c.in_ok-inner.ensures.0, c.in_ok-inner.ensures.1)

pub outside_at-requires : goal.outside_at-requires
outside_at-requires c = let (i, t) = c.in-Some.ensures in (search (opens_ready, c.in_ok-inner.ensures.0, c.in_ok-inner.ensures.1), search (name_counted, c.in_ok-inner.ensures.0, c.in_ok-inner.ensures.1), search (name_other, c.in_ok-inner.ensures.0, c.in_ok-inner.ensures.1))

pub returns-then-kind-eq0 : goal.returns-then-kind-eq0
returns-then-kind-eq0 c = let (i, t) = c.in-Some.ensures in (search (opens, c.in_ok-inner.ensures.0, c.in_ok-inner.ensures.1, c.outside_at.ensures.0), c.outside_at.ensures.1)

pub overflow_add-from-2 : goal.overflow_add-from-2
overflow_add-from-2 c = let h = count_room c.args.m.now _ _ 6 _ _ c.in-Some.ensures.0 c.in-Some.ensures.1 in omega (arith, h)

pub overflow_add-from-3 : goal.overflow_add-from-3
overflow_add-from-3 c = let h = count_room c.args.m.now _ _ 6 _ _ c.in-Some.ensures.0 c.in-Some.ensures.1 in omega (arith, h)

pub known_at-requires : goal.known_at-requires
known_at-requires c = let h = count_room c.args.m.now _ _ 6 _ _ c.in-Some.ensures.0 c.in-Some.ensures.1 in
    ((omega (arith, h), search (entry_to, c.in_ok-inner.ensures.0, c.in_ok-inner.ensures.1), search rules), search rules)

pub returns-in_err-r : goal.returns-in_err-r
returns-in_err-r c = let p = err_from_is_err_and c.from_residual-in_err-r.result c.from_residual-in_err-r.ensures.1 in rw (p.1, p.2) (let (i, t) = c.in-Some.ensures in (search (opens, known_far, name_counted, opens_ready, c.in_ok-inner.ensures.0, c.in_ok-inner.ensures.1, c.in_err-r.ensures.0, c.in_err-r.ensures.1), c.in_err-r.ensures.1))

pub leave-requires : goal.leave-requires
leave-requires c = search (rules, reads_within, entry_to, c.in_ok-inner.ensures.0, c.in_ok-inner.ensures.1, c.in_ok-r.ensures.0, c.in_ok-r.ensures.1)

pub returns : goal.returns
returns c = let (i, t) = c.in-Some.ensures in (search (opens, known_near, name_counted, opens_ready, c.in_ok-inner.ensures.0, c.in_ok-inner.ensures.1, c.in_ok-r.ensures.0, c.in_ok-r.ensures.1, c.leave.ensures.0), c.leave.ensures.1)

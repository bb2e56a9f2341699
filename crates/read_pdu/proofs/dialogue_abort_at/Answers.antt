-- `dialogue_abort_at` meets its contract. Assumes nothing.
use Prim.Native.Nat.{◌≤◌}
use lib.ListN.{length}
use Rattle.read_place.specs.Places.{until}
use Rattle.std.proofs.lemmas.Result.{err_from_is_err_and}
use borrow.Author.Rules.{rules}
use mathlib.Core.Path.{◌∙◌}
use lib.ListN.{length-set}
use Rattle.read_place.proofs.Optional.{entry_inside, entry_from, entry_to, reads_within}
use Rattle.read_pdu.proofs.Taking.{opens_far, opens, field_far, octet_one, octet_in_lem}
use Rattle.read_pdu.proofs.Pdus.{source}
use Rattle.read_pdu.proofs.dialogue_abort_at.Goals as goal

pub returns-in_err-inner : goal.returns-in_err-inner
returns-in_err-inner c = let p = err_from_is_err_and c.from_residual.result c.from_residual.ensures.1 in rw (p.1, p.2) ((search (opens_far, c.in_err-inner.ensures.0, c.in_err-inner.ensures.1), c.in_err-inner.ensures.1))

pub start_of-requires : goal.start_of-requires
start_of-requires c = search (rules, entry_inside, c.in_ok-inner.ensures.0, c.in_ok-inner.ensures.1)

pub small_at-requires : goal.small_at-requires
small_at-requires c = search (rules, entry_from, entry_to, c.in_ok-inner.ensures.0, c.in_ok-inner.ensures.1)

pub returns-in_err-r : goal.returns-in_err-r
returns-in_err-r c = let p = err_from_is_err_and c.from_residual-in_err-r.result c.from_residual-in_err-r.ensures.1 in rw (p.1, p.2) ((search (opens, field_far, c.in_ok-inner.ensures.0, c.in_ok-inner.ensures.1, c.in_err-r.ensures.0, c.in_err-r.ensures.1), c.in_err-r.ensures.1))

pub overflow_sub-out : goal.overflow_sub-out
overflow_sub-out c = search (octet_one, entry_to, c.in_ok-inner.ensures.0, c.in_ok-inner.ensures.1, c.in_ok-r.ensures.0, c.in_ok-r.ensures.1)

pub bounds-m-r : goal.bounds-m-r
bounds-m-r c = search (octet_in_lem, entry_to, c.in_ok-inner.ensures.0, c.in_ok-inner.ensures.1, c.in_ok-r.ensures.0, c.in_ok-r.ensures.1)

pub info_at-requires : goal.info_at-requires
info_at-requires c = search (rules, reads_within, entry_to, c.in_ok-inner.ensures.0, c.in_ok-inner.ensures.1, c.in_ok-r.ensures.0, c.in_ok-r.ensures.1)

pub returns : goal.returns
returns c =
    let low : until c.in_ok-inner.inner ≤ length c.args.m.now = search (rules, entry_to, c.in_ok-inner.ensures.0, c.in_ok-inner.ensures.1) in
    let fields = source c.args.m.now _ _ _ low c.in_ok-r.ensures.0 c.in_ok-r.ensures.1 _ _ _ c.info_at.ensures.0 in
    (search (opens, c.in_ok-inner.ensures.0, c.in_ok-inner.ensures.1, fields), c.info_at.ensures.1)

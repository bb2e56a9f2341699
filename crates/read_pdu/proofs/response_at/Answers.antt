-- `response_at` meets its contract. Assumes nothing.
use Prim.Native.Nat.{◌≤◌}
use lib.ListN.{length}
use Rattle.read_place.specs.Places.{until}
use Rattle.std.proofs.lemmas.Result.{err_from_is_err_and}
use borrow.Author.Rules.{rules}
use Rattle.read_place.proofs.Optional.{entry_inside, entry_from, entry_to, reads_within}
use Rattle.read_pdu.proofs.Taking.{opens_far, opens, field_far, field}
use Rattle.read_pdu.proofs.Pdus.{passed_within, version_far, past_version, number_within, result_far, result}
use Rattle.read_pdu.proofs.response_at.Goals as goal

pub returns-in_err-inner : goal.returns-in_err-inner
returns-in_err-inner c = let p = err_from_is_err_and c.from_residual.result c.from_residual.ensures.1 in rw (p.1, p.2) ((search (opens_far, c.in_err-inner.ensures.0, c.in_err-inner.ensures.1), c.in_err-inner.ensures.1))

pub start_of-requires : goal.start_of-requires
start_of-requires c = search (rules, entry_inside, c.in_ok-inner.ensures.0, c.in_ok-inner.ensures.1)

pub past_version-requires : goal.past_version-requires
past_version-requires c = search (rules, entry_from, entry_to, c.in_ok-inner.ensures.0, c.in_ok-inner.ensures.1)

pub returns-in_err-r : goal.returns-in_err-r
returns-in_err-r c = let p = err_from_is_err_and c.from_residual-in_err-r.result c.from_residual-in_err-r.ensures.1 in rw (p.1, p.2) ((search (opens, version_far, entry_from, entry_to, c.in_ok-inner.ensures.0, c.in_ok-inner.ensures.1, c.in_err-r.ensures.0, c.in_err-r.ensures.1), c.in_err-r.ensures.1))

pub context_at-requires : goal.context_at-requires
context_at-requires c = search (rules, passed_within, entry_from, entry_to, c.in_ok-inner.ensures.0, c.in_ok-inner.ensures.1, c.in_ok-r.ensures.0, c.in_ok-r.ensures.1)

pub returns-in_err-s : goal.returns-in_err-s
returns-in_err-s c = let p = err_from_is_err_and c.from_residual-in_err-s.result c.from_residual-in_err-s.ensures.1 in rw (p.1, p.2) ((search (opens, past_version, field_far, entry_from, entry_to, c.in_ok-inner.ensures.0, c.in_ok-inner.ensures.1, c.in_ok-r.ensures.0, c.in_ok-r.ensures.1, c.in_err-s.ensures.0, c.in_err-s.ensures.1) depth 8, c.in_err-s.ensures.1))

pub enclosed_number_at-requires : goal.enclosed_number_at-requires
enclosed_number_at-requires c = (((search (reads_within, c.in_ok-s.ensures.0, c.in_ok-s.ensures.1), search (entry_to, c.in_ok-inner.ensures.0, c.in_ok-inner.ensures.1), search rules), search rules), search rules, search rules)

pub returns-in_err-t : goal.returns-in_err-t
returns-in_err-t c = let p = err_from_is_err_and c.from_residual-in_err-t.result c.from_residual-in_err-t.ensures.1 in rw (p.1, p.2) ((search (opens, past_version, field, result_far, entry_from, entry_to, c.in_ok-inner.ensures.0, c.in_ok-inner.ensures.1, c.in_ok-r.ensures.0, c.in_ok-r.ensures.1, c.in_ok-s.ensures.0, c.in_ok-s.ensures.1, c.in_err-t.ensures.0, c.in_err-t.ensures.1) depth 8, c.in_err-t.ensures.1))

pub source_at-requires : goal.source_at-requires
source_at-requires c = ((number_within _ _ _ _ _ _ _ _ _ c.in_ok-t.ensures.0 c.in_ok-t.ensures.1, search (entry_to, c.in_ok-inner.ensures.0, c.in_ok-inner.ensures.1), search rules), search rules)

pub returns-in_err-u : goal.returns-in_err-u
returns-in_err-u c = let p = err_from_is_err_and c.from_residual-in_err-u.result c.from_residual-in_err-u.ensures.1 in rw (p.1, p.2) ((search (opens, past_version, field, result, field_far, entry_from, entry_to, c.in_ok-inner.ensures.0, c.in_ok-inner.ensures.1, c.in_ok-r.ensures.0, c.in_ok-r.ensures.1, c.in_ok-s.ensures.0, c.in_ok-s.ensures.1, c.in_ok-t.ensures.0, c.in_ok-t.ensures.1, c.in_err-u.ensures.0, c.in_err-u.ensures.1) depth 8, c.in_err-u.ensures.1))

pub info_at-requires : goal.info_at-requires
info_at-requires c = ((reads_within _ _ _ _ _ c.in_ok-u.ensures.0.reads c.in_ok-u.ensures.1, search (entry_to, c.in_ok-inner.ensures.0, c.in_ok-inner.ensures.1), search rules), search rules)

pub returns : goal.returns
returns c =
    let low : until c.in_ok-inner.inner ≤ length c.args.m.now = search (rules, entry_to, c.in_ok-inner.ensures.0, c.in_ok-inner.ensures.1) in
    let begins : c.start_of.result ≤ until c.in_ok-inner.inner = search (rules, entry_from, c.in_ok-inner.ensures.0, c.in_ok-inner.ensures.1) in
    let diagnosed = field _ _ _ _ _ _ _ _ _ _ _ _ c.in_ok-u.ensures.0 c.in_ok-u.ensures.1 c.info_at.ensures.0 in
    let told = result _ _ _ _ _ _ _ c.in_ok-t.ensures.0 _ _ _ c.in_ok-t.ensures.1 diagnosed in
    let named = field _ _ _ _ _ _ _ _ _ _ _ _ c.in_ok-s.ensures.0 c.in_ok-s.ensures.1 told in
    let fields = past_version _ _ _ _ _ _ _ begins low c.in_ok-r.ensures.0 _ _ c.in_ok-r.ensures.1 _ named in
    (search (opens, c.in_ok-inner.ensures.0, c.in_ok-inner.ensures.1, fields), c.info_at.ensures.1)

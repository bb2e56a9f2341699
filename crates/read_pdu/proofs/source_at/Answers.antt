-- `source_at` meets its contract. Assumes nothing.
use native.Mathlib.Omega.{arith}
use Rattle.std.proofs.lemmas.Result.{err_from_is_err_and}
use borrow.Author.Rules.{rules}
use mathlib.Core.Path.{◌∙◌}
use lib.ListN.{length-set}
use Rattle.read_place.proofs.Optional.{entry_inside, entry_from, entry_to}
use Rattle.read_pdu.proofs.Taking.{opens_far, opens, sole_far, sole}
use Rattle.read_pdu.proofs.Pdus.{number_within, diagnostic_user, diagnostic_provider}
use Rattle.read_pdu.proofs.source_at.Goals as goal

pub returns-in_err-inner : goal.returns-in_err-inner
returns-in_err-inner c = let p = err_from_is_err_and c.from_residual.result c.from_residual.ensures.1 in rw (p.1, p.2) ((search (opens_far, c.in_err-inner.ensures.0, c.in_err-inner.ensures.1), c.in_err-inner.ensures.1))

pub start_of-from-requires : goal.start_of-from-requires
start_of-from-requires c = search (rules, entry_inside, c.in_ok-inner.ensures.0, c.in_ok-inner.ensures.1)

pub stands-requires : goal.stands-requires
stands-requires c = search (rules, entry_from, entry_to, c.in_ok-inner.ensures.0, c.in_ok-inner.ensures.1)

pub enclosed_number_at-requires : goal.enclosed_number_at-requires
enclosed_number_at-requires c = search (rules, entry_from, entry_to, c.in_ok-inner.ensures.0, c.in_ok-inner.ensures.1)

pub returns-in_err-r : goal.returns-in_err-r
returns-in_err-r c = let p = err_from_is_err_and c.from_residual-in_err-r.result c.from_residual-in_err-r.ensures.1 in rw (p.1, p.2) ((search (opens, sole_far, diagnostic_user, entry_to, c.in_ok-inner.ensures.0, c.in_ok-inner.ensures.1, c.in_err-r.ensures.0, c.in_err-r.ensures.1), c.in_err-r.ensures.1))

pub leave-requires : goal.leave-requires
leave-requires c = search (rules, number_within, entry_to, c.in_ok-inner.ensures.0, c.in_ok-inner.ensures.1, c.in_ok-r.ensures.0, c.in_ok-r.ensures.1)

pub returns-then-stands : goal.returns-then-stands
returns-then-stands c = (search (opens, sole, diagnostic_user, entry_to, c.in_ok-inner.ensures.0, c.in_ok-inner.ensures.1, c.in_ok-r.ensures.0, c.in_ok-r.ensures.1, c.leave.ensures.0), c.leave.ensures.1)

pub enclosed_number_at-requires-2 : goal.enclosed_number_at-requires-2
enclosed_number_at-requires-2 c = search (rules, entry_from, entry_to, c.in_ok-inner.ensures.0, c.in_ok-inner.ensures.1)

pub returns-in_err-s : goal.returns-in_err-s
returns-in_err-s c = let p = err_from_is_err_and c.from_residual-in_err-s.result c.from_residual-in_err-s.ensures.1 in rw (p.1, p.2) ((search (opens, sole_far, diagnostic_provider, entry_to, c.in_ok-inner.ensures.0, c.in_ok-inner.ensures.1, c.in_err-s.ensures.0, c.in_err-s.ensures.1), c.in_err-s.ensures.1))

pub leave-requires-2 : goal.leave-requires-2
leave-requires-2 c = search (rules, number_within, entry_to, c.in_ok-inner.ensures.0, c.in_ok-inner.ensures.1, c.in_ok-s.ensures.0, c.in_ok-s.ensures.1)

pub returns : goal.returns
returns c = (search (opens, sole, diagnostic_provider, entry_to, c.in_ok-inner.ensures.0, c.in_ok-inner.ensures.1, c.in_ok-s.ensures.0, c.in_ok-s.ensures.1, c.leave-2.ensures.0), c.leave-2.ensures.1)

-- `externals_at` meets its contract. Assumes nothing.
use Rattle.read_place.proofs.Fronts.{wrong_is_far, behind_near}
use native.Mathlib.Omega.{arith}
use Rattle.std.proofs.lemmas.Result.{err_from_is_err_and}
use borrow.Author.Rules.{rules}
use Rattle.read_pdu.proofs.Externals.{going_start, externals_ended, externals_wrong, externals_far, externals_less, externals_to, externals_on}
use Rattle.read_pdu.proofs.externals_at.Goals as goal

pub loop-from-init : goal.loop-from-init
loop-from-init c = search (rules, going_start)

pub returns-then-ended : goal.returns-then-ended
returns-then-ended c = (search externals_ended, omega (arith, c.behind.ensures, behind_near c.loop-from.at c.args.stop (omega (arith, c.loop-from.invariant.0))))

pub returns-in_err-r : goal.returns-in_err-r
returns-in_err-r c = let p = err_from_is_err_and c.from_residual.result c.from_residual.ensures.1 in rw (p.1, p.2) ((search (externals_far, c.in_err-r.ensures.0, c.in_err-r.ensures.1), c.in_err-r.ensures.1))

pub loop-from-smaller : goal.loop-from-smaller
loop-from-smaller c = search (externals_less, c.in_ok-r.ensures.0, c.in_ok-r.ensures.1)

pub loop-from-preserved : goal.loop-from-preserved
loop-from-preserved c = search (externals_to, externals_on, c.in_ok-r.ensures.0, c.in_ok-r.ensures.1)

pub returns-else-stands : goal.returns-else-stands
returns-else-stands c = (search externals_wrong, omega (arith, c.wrong_at.ensures, wrong_is_far c.args.m.now c.loop-from.at c.args.stop 786432 (omega arith)))

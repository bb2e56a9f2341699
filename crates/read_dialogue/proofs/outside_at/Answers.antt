-- `outside_at` meets its contract. Assumes nothing.
use Rattle.std.proofs.lemmas.Result.{err_from_is_err_and}
use borrow.Author.Rules.{rules}
use native.Mathlib.Omega.{arith}
use Rattle.read_dialogue.proofs.Names.{name_to, holds_within, other_bad, other_far, other_near}
use Rattle.read_dialogue.proofs.outside_at.Goals as goal

pub piece-requires : goal.piece-requires
piece-requires c = let h = name_to c.args.m.now _ _ _ c.requires.1 in omega (arith, h, c.requires.0)

pub overflow_add-at-then-identifier_ok-3 : goal.overflow_add-at-then-identifier_ok-3
overflow_add-at-then-identifier_ok-3 c = let h = name_to c.args.m.now _ _ _ c.requires.1 in omega (arith, h)

pub encoding_at-requires : goal.encoding_at-requires
encoding_at-requires c = search (rules, name_to)

pub returns-in_err-r : goal.returns-in_err-r
returns-in_err-r c = let p = err_from_is_err_and c.from_residual.result c.from_residual.ensures.1 in rw (p.1, p.2) ((search (other_far, c.in_err-r.ensures.0, c.in_err-r.ensures.1), c.in_err-r.ensures.1))

pub leave-requires : goal.leave-requires
leave-requires c = let w = holds_within c.args.m.now _ _ _ _ _ c.in_ok-r.ensures.0 c.in_ok-r.ensures.1 in omega (arith, w, c.requires.0)

pub returns-then-identifier_ok : goal.returns-then-identifier_ok
returns-then-identifier_ok c = (search (other_near, c.in_ok-r.ensures.0, c.in_ok-r.ensures.1, c.leave.ensures.0), c.leave.ensures.1)

pub returns : goal.returns
returns c = (search other_bad, omega arith)

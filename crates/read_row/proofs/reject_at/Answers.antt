-- `reject_at` meets its contract. Assumes nothing.
use Rattle.std.proofs.lemmas.Result.{err_from_is_err_and}
use borrow.Author.Rules.{rules}
use Rattle.tcap.specs.Productions.{problem_item}
use Rattle.read_place.proofs.Optional.{reads_within}
use Rattle.read_row.proofs.Contents.{reject_fault, problem_fault, reject_end}
use Rattle.read_row.proofs.reject_at.Goals as goal

pub returns-in_err-r : goal.returns-in_err-r
returns-in_err-r c = let p = err_from_is_err_and c.from_residual.result c.from_residual.ensures.1 in rw (p.1, p.2) (let both = reject_fault _ _ _ _ _ _ (c.in_err-r.ensures.reads.0, c.in_err-r.ensures.leaves) c.in_err-r.ensures.reads.1 in record { finishes = (both.0, c.in_err-r.ensures.reads.1); leaves_all = both.1 })

pub problem_at-requires : goal.problem_at-requires
problem_at-requires c = search (rules, reads_within, c.in_ok-r.ensures.reads.0, c.in_ok-r.ensures.reads.1)

pub returns-in_err-s : goal.returns-in_err-s
returns-in_err-s c = let p = err_from_is_err_and c.from_residual-in_err-s.result c.from_residual-in_err-s.ensures.1 in rw (p.1, p.2) (let both = problem_fault _ _ _ _ _ _ (c.in_ok-r.ensures.reads.0, c.in_ok-r.ensures.leaves) c.in_ok-r.ensures.reads.1 _ _ (c.in_err-s.ensures.reads.0, c.in_err-s.ensures.leaves) c.in_err-s.ensures.reads.1 in record { finishes = (both.0, c.in_err-s.ensures.reads.1); leaves_all = both.1 })

pub leave-requires : goal.leave-requires
leave-requires c = ((reads_within problem_item _ _ _ _ c.in_ok-s.ensures.reads.0 c.in_ok-s.ensures.reads.1, search rules, search rules), search rules)

pub returns : goal.returns
returns c = let both = reject_end _ _ _ _ _ _ (c.in_ok-r.ensures.reads.0, c.in_ok-r.ensures.leaves) c.in_ok-r.ensures.reads.1 _ _ (c.in_ok-s.ensures.reads.0, c.in_ok-s.ensures.leaves) c.in_ok-s.ensures.reads.1 _ c.leave.ensures.0 in record { finishes = (both.0, c.leave.ensures.1); leaves_all = both.1 }

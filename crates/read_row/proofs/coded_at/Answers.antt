-- `coded_at` meets its contract. Assumes nothing.
use Rattle.std.proofs.lemmas.Result.{err_from_is_err_and}
use borrow.Author.Rules.{rules}
use native.Mathlib.Omega.{arith}
use Rattle.read_place.proofs.Optional.{reads_within}
use Rattle.read_row.proofs.Contents.{code_fault, code_rest}
use Rattle.read_row.proofs.coded_at.Goals as goal

pub returns-in_err-r : goal.returns-in_err-r
returns-in_err-r c = let p = err_from_is_err_and c.from_residual.result c.from_residual.ensures.1 in rw (p.1, p.2) (let both = code_fault c.args.must c.args.left (omega arith) _ _ _ _ _ _ (c.in_err-r.ensures.reads.0, c.in_err-r.ensures.leaves) c.in_err-r.ensures.reads.1 in record { finishes = (both.0, c.in_err-r.ensures.reads.1); leaves_all = both.1 })

pub parameter_at-requires : goal.parameter_at-requires
parameter_at-requires c = search (rules, reads_within, c.in_ok-r.ensures.reads.0, c.in_ok-r.ensures.reads.1)

pub returns : goal.returns
returns c = let both = code_rest _ _ (omega arith) _ _ _ _ _ _ (c.in_ok-r.ensures.reads.0, c.in_ok-r.ensures.leaves) c.in_ok-r.ensures.reads.1 _ _ (c.parameter_at.ensures.finishes.0, c.parameter_at.ensures.leaves_all) in record { finishes = (both.0, c.parameter_at.ensures.finishes.1); leaves_all = both.1 }

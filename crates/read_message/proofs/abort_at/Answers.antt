-- `abort_at` meets its contract. Assumes nothing.
use Rattle.std.proofs.lemmas.Result.{err_from_is_err_and}
use native.Mathlib.Omega.{arith}
use Rattle.read_place.proofs.Optional.{reads_within}
use Rattle.read_message.specs.Messages.{ending_body, lay_last}
use Rattle.read_message.proofs.Portions.{dest_fault, dest_rest}
use Rattle.read_message.proofs.abort_at.Goals as goal

pub returns-in_err-r : goal.returns-in_err-r
returns-in_err-r c = let p = err_from_is_err_and c.from_residual.result c.from_residual.ensures.1 in rw (p.1, p.2) (let both = dest_fault ending_body lay_last _ _ _ _ _ _ (c.in_err-r.ensures.reads.0, c.in_err-r.ensures.leaves) c.in_err-r.ensures.reads.1 in record { finishes = (both.0, c.in_err-r.ensures.reads.1); leaves_all = both.1 })

pub ending_at-requires : goal.ending_at-requires
ending_at-requires c = omega (arith, reads_within _ c.args.m.now _ _ _ c.in_ok-r.ensures.reads.0 c.in_ok-r.ensures.reads.1)

pub returns : goal.returns
returns c = let both = dest_rest ending_body lay_last _ _ _ _ _ _ (c.in_ok-r.ensures.reads.0, c.in_ok-r.ensures.leaves) c.in_ok-r.ensures.reads.1 _ _ (c.ending_at.ensures.finishes.0, c.ending_at.ensures.leaves_all) in record { finishes = (both.0, c.ending_at.ensures.finishes.1); leaves_all = both.1 }

-- `uni_at` meets its contract. Assumes nothing.
use Rattle.std.proofs.lemmas.Result.{err_from_is_err_and}
use native.Mathlib.Omega.{arith}
use Rattle.read_place.proofs.Optional.{reads_within}
use Rattle.read_pdu.proofs.Pdus.{passed_within}
use Rattle.read_message.proofs.Portions.{uni_fault, uni_components, uni_end}
use Rattle.read_message.proofs.uni_at.Goals as goal

pub returns-in_err-s : goal.returns-in_err-s
returns-in_err-s c = let p = err_from_is_err_and c.from_residual-in_err-s.result c.from_residual-in_err-s.ensures.1 in rw (p.1, p.2) (let both = uni_components _ _ _ _ (omega arith) (omega arith) _ _ (c.in_ok-r.ensures.passes.0, c.in_ok-r.ensures.lays_past) c.in_ok-r.ensures.passes.1 _ _ (c.in_err-s.ensures.reads.0, c.in_err-s.ensures.leaves) c.in_err-s.ensures.reads.1 in record { finishes = (both.0, c.in_err-s.ensures.reads.1); leaves_all = both.1 })

pub returns : goal.returns
returns c = let both = uni_end _ _ _ _ (omega arith) (omega arith) _ _ (c.in_ok-r.ensures.passes.0, c.in_ok-r.ensures.lays_past) c.in_ok-r.ensures.passes.1 _ _ (c.in_ok-s.ensures.reads.0, c.in_ok-s.ensures.leaves) c.in_ok-s.ensures.reads.1 _ _ (c.end_at.ensures.finishes.0, c.end_at.ensures.leaves_all) in record { finishes = (both.0, c.end_at.ensures.finishes.1); leaves_all = both.1 }

pub returns-in_err-r : goal.returns-in_err-r
returns-in_err-r c = let p = err_from_is_err_and c.from_residual.result c.from_residual.ensures.1 in rw (p.1, p.2) (let both = uni_fault _ _ _ _ (omega arith) (omega arith) _ _ (c.in_err-r.ensures.passes.0, c.in_err-r.ensures.lays_past) (omega arith) c.in_err-r.ensures.passes.1 in record { finishes = (both.0, c.in_err-r.ensures.passes.1); leaves_all = both.1 })

pub components_at-requires : goal.components_at-requires
components_at-requires c = omega (arith, passed_within _ _ c.args.m.now _ _ _ c.in_ok-r.ensures.passes.0 (omega arith) c.in_ok-r.ensures.passes.1)

pub end_at-requires : goal.end_at-requires
end_at-requires c = omega (arith, reads_within _ c.args.m.now _ _ _ c.in_ok-s.ensures.reads.0 c.in_ok-s.ensures.reads.1)

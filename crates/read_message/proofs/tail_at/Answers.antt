-- `tail_at` meets its contract. Assumes nothing.
use Rattle.std.proofs.lemmas.Result.{err_from_is_err_and}
use native.Mathlib.Omega.{arith}
use Rattle.read_pdu.proofs.Pdus.{passed_within}
use Rattle.read_message.proofs.Portions.{tail_fault, tail_rest}
use Rattle.read_message.proofs.tail_at.Goals as goal

pub returns : goal.returns
returns c = let both = tail_rest _ _ _ _ (omega arith) (omega arith) _ _ (c.in_ok-r.ensures.passes.0, c.in_ok-r.ensures.lays_past) c.in_ok-r.ensures.passes.1 _ _ (c.last_components_at.ensures.finishes.0, c.last_components_at.ensures.leaves_all) in record { finishes = (both.0, c.last_components_at.ensures.finishes.1); leaves_all = both.1 }

pub returns-in_err-r : goal.returns-in_err-r
returns-in_err-r c = let p = err_from_is_err_and c.from_residual.result c.from_residual.ensures.1 in rw (p.1, p.2) (let both = tail_fault _ _ _ _ (omega arith) (omega arith) _ _ (c.in_err-r.ensures.passes.0, c.in_err-r.ensures.lays_past) (omega arith) c.in_err-r.ensures.passes.1 in record { finishes = (both.0, c.in_err-r.ensures.passes.1); leaves_all = both.1 })

pub last_components_at-requires : goal.last_components_at-requires
last_components_at-requires c = omega (arith, passed_within _ _ c.args.m.now _ _ _ c.in_ok-r.ensures.passes.0 (omega arith) c.in_ok-r.ensures.passes.1)

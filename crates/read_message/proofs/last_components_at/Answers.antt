-- `last_components_at` meets its contract. Assumes nothing.
use Rattle.std.proofs.lemmas.Result.{err_from_is_err_and}
use Rattle.read_place.proofs.Fronts.{behind_near}
use native.Mathlib.Omega.{arith}
use mathlib.Core.Path.{refl}
use Rattle.read_place.specs.Blames.{Blames}
use Rattle.read_place.specs.Laying.{lay_components}
use Rattle.read_place.proofs.Optional.{reads_within}
use Rattle.tcap.specs.WellFormed.{the93}
use Rattle.tcap.specs.Productions.{components_item}
use Rattle.read_row.proofs.Pairs.{last_out, last_fault, last_end}
use Rattle.read_message.specs.Messages.{lay_listed}
use Rattle.read_message.proofs.last_components_at.Goals as goal

pub returns-then-ended : goal.returns-then-ended
unfolding lay_listed
returns-then-ended c = let both = last_out Blames 15 (components_item the93) lay_listed _ _ _ (omega arith) (omega arith) _ c.ended.ensures c.if-ended.true _ c.behind.ensures _ (λ o. refl) in record { finishes = (both.0, omega (arith, c.behind.ensures, behind_near c.args.at c.args.stop (omega arith))); leaves_all = both.1 }

pub returns-in_err-r : goal.returns-in_err-r
returns-in_err-r c = let p = err_from_is_err_and c.from_residual.result c.from_residual.ensures.1 in rw (p.1, p.2) (let both = last_fault Blames 15 refl (components_item the93) lay_components _ _ _ _ _ _ (c.in_err-r.ensures.reads.0, c.in_err-r.ensures.leaves) _ c.ended.ensures c.if-ended.false lay_listed c.in_err-r.ensures.reads.1 in record { finishes = (both.0, c.in_err-r.ensures.reads.1); leaves_all = both.1 })

pub returns : goal.returns
unfolding lay_listed
returns c = let both = last_end Blames 15 refl (components_item the93) lay_components _ _ _ _ _ _ (c.in_ok-r.ensures.reads.0, c.in_ok-r.ensures.leaves) c.in_ok-r.ensures.reads.1 _ _ (c.end_at.ensures.finishes.0, c.end_at.ensures.leaves_all) _ c.ended.ensures c.if-ended.false lay_listed (λ a l. refl) in record { finishes = (both.0, c.end_at.ensures.finishes.1); leaves_all = both.1 }

pub end_at-requires : goal.end_at-requires
end_at-requires c = omega (arith, reads_within _ c.args.m.now _ _ _ c.in_ok-r.ensures.reads.0 c.in_ok-r.ensures.reads.1)

-- `ending_at` meets its contract. Assumes nothing.
use Rattle.read_place.proofs.Fronts.{behind_near}
use Rattle.std.proofs.lemmas.Result.{err_from_is_err_and}
use Rattle.read_place.specs.declared.FaultAt.{FaultAt}
use mathlib.Core.Path.{ap}
use native.Mathlib.Omega.{arith}
use Prim.Native.Nat.{◌+◌}
use mathlib.Core.Path.{refl, sym, ◌∙◌}
use lib.ListN.{get_or, set, length-set}
use borrow.Author.Rules.{rules}
use Rattle.read_place.specs.Blames.{Blames}
use Rattle.read_place.specs.Laying.{lay_ending}
use Rattle.read_place.proofs.Optional.{reads_within}
use Rattle.read_part.proofs.FieldsLeft.{stored}
use Rattle.read_row.proofs.Pairs.{last_out, last_fault, last_end}
use Rattle.read_message.specs.Messages.{ending_item, lay_last}
use Rattle.read_message.proofs.Fields.{cause_room, cause_fault, cause_laid, says_laid}
use Rattle.read_message.proofs.ending_at.Goals as goal

pub returns-then-ended : goal.returns-then-ended
unfolding lay_last
returns-then-ended c = let both = last_out Blames 15 ending_item lay_last _ _ _ (omega arith) (omega arith) _ c.ended.ensures c.if-ended.true _ c.behind.ensures _ (λ o. refl) in record { finishes = (both.0, omega (arith, c.behind.ensures, behind_near c.args.at c.args.stop (omega arith))); leaves_all = both.1 }

pub returns-in_err-r : goal.returns-in_err-r
returns-in_err-r c = let p = err_from_is_err_and c.from_residual.result c.from_residual.ensures.1 in rw (p.1, p.2) (let it = says_laid _ _ _ _ (omega arith) _ c.stands.ensures _ _ c.if-stands.true (c.in_err-r.ensures.reads.0, c.in_err-r.ensures.leaves) in
    let both = last_fault Blames 15 refl ending_item lay_ending _ _ _ _ _ _ it _ c.ended.ensures c.if-ended.false lay_last c.in_err-r.ensures.reads.1 in record { finishes = (both.0, c.in_err-r.ensures.reads.1); leaves_all = both.1 })

pub returns-then-stands : goal.returns-then-stands
unfolding lay_last
returns-then-stands c =
    let it = says_laid _ _ _ _ (omega arith) _ c.stands.ensures _ _ c.if-stands.true (c.in_ok-r.ensures.reads.0, c.in_ok-r.ensures.leaves) in
    let both = last_end Blames 15 refl ending_item lay_ending _ _ _ _ _ _ it c.in_ok-r.ensures.reads.1 _ _ (c.end_at.ensures.finishes.0, c.end_at.ensures.leaves_all) _ c.ended.ensures c.if-ended.false lay_last (λ a l. refl) in record { finishes = (both.0, c.end_at.ensures.finishes.1); leaves_all = both.1 }

pub returns-in-Err : goal.returns-in-Err
returns-in-Err c =
    let told = c.portion_fault.ensures in
    let it = cause_fault _ _ _ _ (omega arith) _ c.stands.ensures _ _ c.if-stands.false c.in-Err.ensures.0 c.in-Err.ensures.1 c.told-out _ (ap (λ (f : FaultAt). f.0) told.value) told.out_after in
    let both = last_fault Blames 15 refl ending_item lay_ending _ _ _ _ _ _ it _ c.ended.ensures c.if-ended.false lay_last (omega (arith, (ap (λ (f : FaultAt). f.0) told.value), c.in-Err.ensures.1)) in record { finishes = (both.0, omega (arith, (ap (λ (f : FaultAt). f.0) told.value), c.in-Err.ensures.1)); leaves_all = both.1 }

pub returns : goal.returns
unfolding lay_last
returns c =
    let it = cause_laid _ _ _ _ (omega arith) _ c.stands.ensures _ _ c.if-stands.false c.in-Ok.ensures.0 c.in-Ok.ensures.1 refl in
    let both = last_end Blames 15 refl ending_item lay_ending _ _ _ _ _ _ it c.in-Ok.ensures.1 _ _ (c.end_at-2.ensures.finishes.0, c.end_at-2.ensures.leaves_all) _ c.ended.ensures c.if-ended.false lay_last (λ a l. refl) in record { finishes = (both.0, c.end_at-2.ensures.finishes.1); leaves_all = both.1 }

pub dialogue_at-requires : goal.dialogue_at-requires
dialogue_at-requires c = search (rules, sym c.stands.ensures ∙ c.if-stands.true)

pub end_at-requires : goal.end_at-requires
end_at-requires c = omega (arith, reads_within _ c.args.m.now _ _ _ c.in_ok-r.ensures.reads.0 c.in_ok-r.ensures.reads.1)

pub bounds-m-at : goal.bounds-m-at
bounds-m-at c = cause_room c.args.m.now _ _ _ c.in-Ok.ensures.0 c.in-Ok.ensures.1 (omega arith)

pub end_at-requires-2 : goal.end_at-requires-2
end_at-requires-2 c = omega (arith, reads_within _ c.args.m.now _ _ _ c.in-Ok.ensures.0 c.in-Ok.ensures.1)

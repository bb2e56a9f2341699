-- `message_contents_at` meets its contract. Assumes nothing.
use Rattle.std.proofs.lemmas.Result.{err_from_is_err_and}
use native.Mathlib.Omega.{arith}
use mathlib.Core.Path.{◌≡◌}
use Rattle.tcap.specs.WellFormed.{the93}
use Rattle.tcap.specs.Productions.{tail_body}
use Rattle.read_place.specs.Laying.{lay_dest}
use Rattle.read_place.proofs.Optional.{reads_within}
use Rattle.read_row.specs.Component.{lay_both}
use Rattle.read_message.specs.Messages.{lay_tail}
use Rattle.read_message.proofs.Portions.{orig_fault, orig_rest, dest_fault, dest_rest, to_dest, of_begin, of_continue, of_end, of_abort, of_uni}
use Rattle.read_message.proofs.message_contents_at.Goals as goal

pub returns-in_err-r-in-98 : goal.returns-in_err-r-in-98
returns-in_err-r-in-98 c = let p = err_from_is_err_and c.from_residual.result c.from_residual.ensures.1 in rw (p.1, p.2) (
    let a = c.args in
    let both = of_begin a.tag a.m.now a.at a.stop _ a.out.now _ c.in-98.is
    (orig_fault (tail_body the93) lay_tail _ _ _ _ _ _ (c.in_err-r-in-98.ensures.reads.0, c.in_err-r-in-98.ensures.leaves) c.in_err-r-in-98.ensures.reads.1) in record { finishes = (both.0, c.in_err-r-in-98.ensures.reads.1); leaves_all = both.1 })

pub returns-in_ok-r-in-98 : goal.returns-in_ok-r-in-98
returns-in_ok-r-in-98 c =
    let a = c.args in
    let both = of_begin a.tag a.m.now a.at a.stop _ a.out.now _ c.in-98.is
    (orig_rest (tail_body the93) lay_tail _ _ _ _ _ _ (c.in_ok-r-in-98.ensures.reads.0, c.in_ok-r-in-98.ensures.leaves) c.in_ok-r-in-98.ensures.reads.1 _ _ (c.tail_at.ensures.finishes.0, c.tail_at.ensures.leaves_all)) in record { finishes = (both.0, c.tail_at.ensures.finishes.1); leaves_all = both.1 }

pub returns-in_err-r-in-101 : goal.returns-in_err-r-in-101
returns-in_err-r-in-101 c = let p = err_from_is_err_and c.from_residual-in_err-r-in-101.result c.from_residual-in_err-r-in-101.ensures.1 in rw (p.1, p.2) (
    let a = c.args in
    let both = of_continue a.tag a.m.now a.at a.stop _ a.out.now _ c.in-101.is
    (orig_fault to_dest (lay_both lay_dest lay_tail) _ _ _ _ _ _ (c.in_err-r-in-101.ensures.reads.0, c.in_err-r-in-101.ensures.leaves) c.in_err-r-in-101.ensures.reads.1) in record { finishes = (both.0, c.in_err-r-in-101.ensures.reads.1); leaves_all = both.1 })

pub returns-in_err-s-in-101 : goal.returns-in_err-s-in-101
returns-in_err-s-in-101 c = let p = err_from_is_err_and c.from_residual-in_err-s-in-101.result c.from_residual-in_err-s-in-101.ensures.1 in rw (p.1, p.2) (
    let a = c.args in
    let both = of_continue a.tag a.m.now a.at a.stop _ a.out.now _ c.in-101.is
    (orig_rest to_dest (lay_both lay_dest lay_tail) _ _ _ _ _ _ (c.in_ok-r-in-101.ensures.reads.0, c.in_ok-r-in-101.ensures.leaves) c.in_ok-r-in-101.ensures.reads.1 _ _ (dest_fault (tail_body the93) lay_tail _ _ _ _ _ _ (c.in_err-s-in-101.ensures.reads.0, c.in_err-s-in-101.ensures.leaves) c.in_err-s-in-101.ensures.reads.1)) in record { finishes = (both.0, c.in_err-s-in-101.ensures.reads.1); leaves_all = both.1 })

pub returns-in_ok-s-in-101 : goal.returns-in_ok-s-in-101
returns-in_ok-s-in-101 c =
    let a = c.args in
    let both = of_continue a.tag a.m.now a.at a.stop _ a.out.now _ c.in-101.is
    (orig_rest to_dest (lay_both lay_dest lay_tail) _ _ _ _ _ _ (c.in_ok-r-in-101.ensures.reads.0, c.in_ok-r-in-101.ensures.leaves) c.in_ok-r-in-101.ensures.reads.1 _ _ (dest_rest (tail_body the93) lay_tail _ _ _ _ _ _ (c.in_ok-s-in-101.ensures.reads.0, c.in_ok-s-in-101.ensures.leaves) c.in_ok-s-in-101.ensures.reads.1 _ _ (c.tail_at-in-101.ensures.finishes.0, c.tail_at-in-101.ensures.leaves_all))) in record { finishes = (both.0, c.tail_at-in-101.ensures.finishes.1); leaves_all = both.1 }

pub returns-in_err-r-in-100 : goal.returns-in_err-r-in-100
returns-in_err-r-in-100 c = let p = err_from_is_err_and c.from_residual-in_err-r-in-100.result c.from_residual-in_err-r-in-100.ensures.1 in rw (p.1, p.2) (
    let a = c.args in
    let both = of_end a.tag a.m.now a.at a.stop _ a.out.now _ c.in-100.is
    (dest_fault (tail_body the93) lay_tail _ _ _ _ _ _ (c.in_err-r-in-100.ensures.reads.0, c.in_err-r-in-100.ensures.leaves) c.in_err-r-in-100.ensures.reads.1) in record { finishes = (both.0, c.in_err-r-in-100.ensures.reads.1); leaves_all = both.1 })

pub returns-in_ok-r-in-100 : goal.returns-in_ok-r-in-100
returns-in_ok-r-in-100 c =
    let a = c.args in
    let both = of_end a.tag a.m.now a.at a.stop _ a.out.now _ c.in-100.is
    (dest_rest (tail_body the93) lay_tail _ _ _ _ _ _ (c.in_ok-r-in-100.ensures.reads.0, c.in_ok-r-in-100.ensures.leaves) c.in_ok-r-in-100.ensures.reads.1 _ _ (c.tail_at-in-100.ensures.finishes.0, c.tail_at-in-100.ensures.leaves_all)) in record { finishes = (both.0, c.tail_at-in-100.ensures.finishes.1); leaves_all = both.1 }

pub returns-in-103 : goal.returns-in-103
returns-in-103 c =
    let a = c.args in
    let both = of_abort a.tag a.m.now a.at a.stop _ a.out.now _ c.in-103.is
    (c.abort_at.ensures.finishes.0, c.abort_at.ensures.leaves_all) in record { finishes = (both.0, c.abort_at.ensures.finishes.1); leaves_all = both.1 }

pub returns-in_default : goal.returns-in_default
returns-in_default c =
    let a = c.args in
    let not_98 : a.tag ≡ 98 → ⊥ = omega arith in
    let not_101 : a.tag ≡ 101 → ⊥ = omega arith in
    let not_100 : a.tag ≡ 100 → ⊥ = omega arith in
    let not_103 : a.tag ≡ 103 → ⊥ = omega arith in
    let both = of_uni a.tag a.m.now a.at a.stop _ a.out.now _ not_98 not_101 not_100 not_103 c.requires.1
    (c.uni_at.ensures.finishes.0, c.uni_at.ensures.leaves_all) in record { finishes = (both.0, c.uni_at.ensures.finishes.1); leaves_all = both.1 }

pub tail_at-requires : goal.tail_at-requires
tail_at-requires c = omega (arith, reads_within _ c.args.m.now _ _ _ c.in_ok-r-in-98.ensures.reads.0 c.in_ok-r-in-98.ensures.reads.1)

pub transaction_id_into-requires-in-101-2 : goal.transaction_id_into-requires-in-101-2
transaction_id_into-requires-in-101-2 c = omega (arith, reads_within _ c.args.m.now _ _ _ c.in_ok-r-in-101.ensures.reads.0 c.in_ok-r-in-101.ensures.reads.1)

pub tail_at-requires-in-101 : goal.tail_at-requires-in-101
tail_at-requires-in-101 c = omega (arith, reads_within _ c.args.m.now _ _ _ c.in_ok-s-in-101.ensures.reads.0 c.in_ok-s-in-101.ensures.reads.1)

pub tail_at-requires-in-100 : goal.tail_at-requires-in-100
tail_at-requires-in-100 c = omega (arith, reads_within _ c.args.m.now _ _ _ c.in_ok-r-in-100.ensures.reads.0 c.in_ok-r-in-100.ensures.reads.1)

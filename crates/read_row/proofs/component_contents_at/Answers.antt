-- `component_contents_at` meets its contract. Assumes nothing.
use Rattle.std.proofs.lemmas.Result.{err_from_is_err_and}
use borrow.Author.Rules.{rules}
use native.Mathlib.Omega.{arith}
use mathlib.Core.Path.{◌≡◌}
use mathlib.Core.Bool.{false}
use Rattle.read_place.specs.Laying.{lay_linked, lay_returned}
use Rattle.read_place.proofs.Optional.{reads_within}
use Rattle.read_part.proofs.FieldsLeft.{stored}
use Rattle.read_row.specs.Component.{coded_body, linked_body, lay_both, lay_coded}
use Rattle.read_row.proofs.Contents.{id_far, results_body, id_fault, id_rest, of_invoke, of_error, of_reject, of_result}
use Rattle.read_row.proofs.component_contents_at.Goals as goal

pub returns-then-tag-eq164 : goal.returns-then-tag-eq164
returns-then-tag-eq164 c =
    let a = c.args in
    let both = of_reject a.tag a.m.now a.at a.stop _ a.row.now _ c.if-tag-eq164.true
    (c.reject_at.ensures.finishes.0, c.reject_at.ensures.leaves_all) in record { finishes = (both.0, c.reject_at.ensures.finishes.1); leaves_all = both.1 }

pub returns-in_err-r : goal.returns-in_err-r
returns-in_err-r c = let p = err_from_is_err_and c.from_residual.result c.from_residual.ensures.1 in rw (p.1, p.2) (let a = c.args in
    let both = id_far a.tag a.m.now a.at a.stop _ a.row.now _ c.if-tag-eq164.false c.requires.1 (c.in_err-r.ensures.reads.0, c.in_err-r.ensures.leaves) c.in_err-r.ensures.reads.1 in record { finishes = (both.0, c.in_err-r.ensures.reads.1); leaves_all = both.1 })

pub returns-in-161 : goal.returns-in-161
returns-in-161 c =
    let a = c.args in
    let both = of_invoke a.tag a.m.now a.at a.stop _ a.row.now _ c.in-161.is
    (id_rest linked_body (lay_both lay_linked (lay_coded false)) _ _ _ _ _ _ (c.in_ok-r.ensures.reads.0, c.in_ok-r.ensures.leaves) c.in_ok-r.ensures.reads.1 _ _ (c.linked_at.ensures.finishes.0, c.linked_at.ensures.leaves_all)) in record { finishes = (both.0, c.linked_at.ensures.finishes.1); leaves_all = both.1 }

pub returns-in-163 : goal.returns-in-163
returns-in-163 c =
    let a = c.args in
    let both = of_error a.tag a.m.now a.at a.stop _ a.row.now _ c.in-163.is
    (id_rest (coded_body false 13) (lay_coded false) _ _ _ _ _ _ (c.in_ok-r.ensures.reads.0, c.in_ok-r.ensures.leaves) c.in_ok-r.ensures.reads.1 _ _ (c.coded_at.ensures.finishes.0, c.coded_at.ensures.leaves_all)) in record { finishes = (both.0, c.coded_at.ensures.finishes.1); leaves_all = both.1 }

pub returns-in_default : goal.returns-in_default
returns-in_default c =
    let a = c.args in
    let not_161 : a.tag ≡ 161 → ⊥ = omega arith in
    let not_163 : a.tag ≡ 163 → ⊥ = omega arith in
    let both = of_result a.tag a.m.now a.at a.stop _ a.row.now _ not_161 not_163 c.if-tag-eq164.false c.requires.1
    (id_rest results_body lay_returned _ _ _ _ _ _ (c.in_ok-r.ensures.reads.0, c.in_ok-r.ensures.leaves) c.in_ok-r.ensures.reads.1 _ _ (c.result_at.ensures.finishes.0, c.result_at.ensures.leaves_all)) in record { finishes = (both.0, c.result_at.ensures.finishes.1); leaves_all = both.1 }

pub linked_at-requires : goal.linked_at-requires
linked_at-requires c = search (rules, reads_within, c.in_ok-r.ensures.reads.0, c.in_ok-r.ensures.reads.1)

pub coded_at-requires : goal.coded_at-requires
coded_at-requires c = search (rules, reads_within, c.in_ok-r.ensures.reads.0, c.in_ok-r.ensures.reads.1)

pub result_at-requires : goal.result_at-requires
result_at-requires c = search (rules, reads_within, c.in_ok-r.ensures.reads.0, c.in_ok-r.ensures.reads.1)

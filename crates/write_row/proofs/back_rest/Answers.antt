-- By the tag. Assumes nothing.
use native.Mathlib.Omega.{arith}
use mathlib.Core.Path.{◌≡◌}
use lib.ListN.{length}
use Rattle.base.proofs.Backs.{room_next, back_then}
use Rattle.element.specs.Form.{shortest}
use Rattle.tcap.specs.Verdict.{row_lies}
use Rattle.write_check_row.specs.Forms.{rest_form}
use Rattle.write_row.proofs.Fields.{problem_parts, coded_lie, coded_room}
use Rattle.write_row.proofs.Tags.{kind_invoke, kind_error, kind_reject, reject_problem, rest_returned}
use Rattle.write_row.proofs.back_rest.Goals as goal

pub back_coded-next-requires : goal.back_coded-next-requires
unfolding row_lies
back_coded-next-requires c =
    let q = kind_invoke _ c.args.part.now c.in-161.is in
    let h = coded_lie _ _ _ (rw q at c.requires.within) in
    record { code_within = h.0; parameter_within = h.1; room = coded_room _ _ _ _ (rw q at c.requires.room) }

pub back_linked-requires : goal.back_linked-requires
unfolding rest_form shortest
back_linked-requires c = let q = kind_invoke _ c.args.part.now c.in-161.is in room_next c.back_coded-next.ensures _ (rw q at c.requires.room)

pub returns-in-161 : goal.returns-in-161
unfolding rest_form shortest
returns-in-161 c = let q = kind_invoke _ c.args.part.now c.in-161.is in rw q (back_then c.back_coded-next.ensures c.back_linked.ensures)

pub back_coded-requires : goal.back_coded-requires
unfolding row_lies rest_form
back_coded-requires c =
    let q = kind_error _ c.args.part.now c.in-163.is in
    let h = coded_lie _ _ _ (rw q at c.requires.within) in
    record { code_within = h.0; parameter_within = h.1; room = rw q at c.requires.room }

pub returns-in-163 : goal.returns-in-163
unfolding rest_form
returns-in-163 c = let q = kind_error _ c.args.part.now c.in-163.is in rw q c.back_coded.ensures

pub back_octets-requires : goal.back_octets-requires
unfolding rest_form
back_octets-requires c = let q = kind_reject _ c.args.part.now c.in-164.is in (omega arith, rw (problem_parts _ _ (reject_problem _ c.args.part.now c.in-164.is c.requires.kind_listed)) at (rw q at c.requires.room))

pub returns-in-164 : goal.returns-in-164
unfolding rest_form
returns-in-164 c = let q = kind_reject _ c.args.part.now c.in-164.is in rw (q, problem_parts _ _ (reject_problem _ c.args.part.now c.in-164.is c.requires.kind_listed)) c.back_octets.ensures

pub back_returned-requires : goal.back_returned-requires
back_returned-requires c =
    let a : c.args.tag ≡ 0xA1 → ⊥ = λ e. omega arith in
    let b : c.args.tag ≡ 0xA3 → ⊥ = λ e. omega arith in
    let d : c.args.tag ≡ 0xA4 → ⊥ = λ e. omega arith in
    let q = rest_returned _ c.args.part.now c.args.material.now (length c.args.material.now) a b d in
    record { within = rw q.1 at c.requires.within; room = rw q.0 at c.requires.room }

pub returns-in_default : goal.returns-in_default
returns-in_default c =
    let a : c.args.tag ≡ 0xA1 → ⊥ = λ e. omega arith in
    let b : c.args.tag ≡ 0xA3 → ⊥ = λ e. omega arith in
    let d : c.args.tag ≡ 0xA4 → ⊥ = λ e. omega arith in
    let q = rest_returned _ c.args.part.now c.args.material.now (length c.args.material.now) a b d in rw q.0 c.back_returned.ensures

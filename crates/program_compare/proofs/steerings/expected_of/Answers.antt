-- By the first octet; of a refusal by the answer that the last ones say. Assumes nothing.
use Rattle.std.proofs.Common.{◌≡◌, ℕ, List, slice_index, refl, sym, ◌∙◌}
use Rattle.program_parts.specs.Expected.{id_in}
use Rattle.program_compare.specs.Steerings.{pair_at, expected_in, refused_with, answer_with}
use Rattle.program_compare.proofs.steerings.expected_of.Goals as goal

refused_octets : (o : List ℕ) → slice_index o 0 ≡ 2 → expected_in o ≡ refused_with (slice_index o 5) (pair_at o 6) (answer_with (slice_index o 8) (slice_index o 9) (slice_index o 10) (id_in (slice_index o 11) (slice_index o 12)))
unfolding expected_in
refused_octets o e = rw e refl

pub returns-in_err-id_of-in-2 : goal.returns-in_err-id_of-in-2
unfolding refused_with answer_with
returns-in_err-id_of-in-2 c =
    let i = sym c.id_of.ensures ∙ c.in_err-id_of-in-2.was in
    rw (c.from_residual.ensures, refused_octets c.args.octets.now c.in-2.is, i) refl

pub returns-in_err-answer_of-in-2 : goal.returns-in_err-answer_of-in-2
unfolding refused_with answer_with
returns-in_err-answer_of-in-2 c =
    let i = sym c.id_of.ensures ∙ c.in_ok-id_of-in-2.was in
    let a = sym c.answer_of.ensures ∙ c.in_err-answer_of-in-2.was in
    rw (c.from_residual-in_err-answer_of-in-2.ensures, refused_octets c.args.octets.now c.in-2.is, i, a) refl

pub returns-in_ok-answer_of-in-2 : goal.returns-in_ok-answer_of-in-2
unfolding refused_with answer_with
returns-in_ok-answer_of-in-2 c =
    let i = sym c.id_of.ensures ∙ c.in_ok-id_of-in-2.was in
    let a = sym c.answer_of.ensures ∙ c.in_ok-answer_of-in-2.was in
    rw (refused_octets c.args.octets.now c.in-2.is, i, a, c.from.ensures, c.from_be_bytes-in-2.ensures) refl

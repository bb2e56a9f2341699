-- A case that comes is read part after part, and judged by what was read. Assumes nothing.
use Rattle.std.proofs.Common.{rules, arith, ◌≡◌, ℕ, length, ◌++◌, sym, ◌∙◌}
use Rattle.std.proofs.lemmas.List.{length-replicate}
use Rattle.program_parts.specs.Strings.{string_octets, short_string_octets}
use Rattle.program_parts.proofs.Coming.{whole, loses_then}
use Rattle.program_parts.proofs.Judging.{judges}
use Rattle.program_compare.proofs.Judged.{same_steering}
use Rattle.program_compare.proofs.steerings.compare_next.Goals as goal

pub returns-clause-verdict : goal.returns-clause-verdict
returns-clause-verdict g c = λ m r x e t hm hr hx he q.
    let (sm, r₁) = c.in_ok-size.ensures.string m (omega arith) (rw (length-replicate {A = ℕ} 512 0) hm) (string_octets r ++ (short_string_octets x ++ (e ++ t))) q in
    let (sr, r₂) = c.in_ok-length.ensures.string r (omega arith) (rw (length-replicate {A = ℕ} 255 0) hr) (short_string_octets x ++ (e ++ t)) r₁ in
    let (sx, r₃) = c.in_ok-count.ensures.string x (omega arith) (rw (length-replicate {A = ℕ} 255 0) hx) (e ++ t) r₂ in
    let room : length c.read_full.new.buffer ≡ 13 = search rules in
    let (n, se, r₄) = whole _ _ c.in_ok-read_full.field-0 c.read_full.new.buffer e c.in_ok-read_full.ensures.ok.0 (room ∙ sym he) c.in_ok-read_full.ensures.taken c.in_ok-read_full.ensures.end t r₃ in
    (same_steering c.expected_of.ensures sm sr sx se (judges c.from.ensures c.same_both-equal.ensures), r₄)

pub returns-in_err-length-clause-loses : goal.returns-in_err-length-clause-loses
returns-in_err-length-clause-loses g c = loses_then _ _ _ c.in_ok-size.ensures.loses c.next_string-2.ensures.loses

pub returns-in_err-count-clause-loses : goal.returns-in_err-count-clause-loses
returns-in_err-count-clause-loses g c = loses_then _ _ _ (loses_then _ _ _ c.in_ok-size.ensures.loses c.in_ok-length.ensures.loses) c.next_short_string.ensures.loses

pub returns-in_err-read_full-clause-loses : goal.returns-in_err-read_full-clause-loses
returns-in_err-read_full-clause-loses g c = loses_then _ _ _ (loses_then _ _ _ (loses_then _ _ _ c.in_ok-size.ensures.loses c.in_ok-length.ensures.loses) c.in_ok-count.ensures.loses) c.in_err-read_full.ensures.err

pub returns-then-branch-lt13-clause-loses : goal.returns-then-branch-lt13-clause-loses
returns-then-branch-lt13-clause-loses g c = loses_then _ _ _ (loses_then _ _ _ (loses_then _ _ _ c.in_ok-size.ensures.loses c.in_ok-length.ensures.loses) c.in_ok-count.ensures.loses) (_, c.in_ok-read_full.ensures.taken)

pub returns-clause-loses : goal.returns-clause-loses
returns-clause-loses g c = loses_then _ _ _ (loses_then _ _ _ (loses_then _ _ _ c.in_ok-size.ensures.loses c.in_ok-length.ensures.loses) c.in_ok-count.ensures.loses) (_, c.in_ok-read_full.ensures.taken)

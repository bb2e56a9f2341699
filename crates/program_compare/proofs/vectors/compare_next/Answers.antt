-- A case that comes is read part after part, and judged by what was read. Assumes nothing.
use Rattle.std.proofs.Common.{rules, arith, ◌≡◌, ℕ, List, [], ◌∷◌, ◌++◌, get_or, ap}
use Rattle.std.proofs.lemmas.List.{length-replicate}
use Rattle.program_parts.specs.Strings.{string_octets, short_string_octets}
use Rattle.program_parts.proofs.Coming.{whole, loses_then}
use Rattle.program_parts.proofs.Judging.{judges}
use Rattle.program_compare.proofs.Judged.{same_case}
use Rattle.program_compare.proofs.vectors.compare_next.Goals as goal

pub returns-clause-verdict : goal.returns-clause-verdict
returns-clause-verdict g c = λ m text x given octet t hm ht hx q.
    let (sm, r₁) = c.in_ok-size.ensures.string m (omega arith) (rw (length-replicate {A = ℕ} 4096 0) hm) (string_octets text ++ (short_string_octets x ++ (given ∷ octet ∷ t))) q in
    let (st, r₂) = c.in_ok-length.ensures.string text (omega arith) (rw (length-replicate {A = ℕ} 4096 0) ht) (short_string_octets x ++ (given ∷ octet ∷ t)) r₁ in
    let (sx, r₃) = c.in_ok-count.ensures.string x (omega arith) (rw (length-replicate {A = ℕ} 255 0) hx) (given ∷ octet ∷ t) r₂ in
    let (n, sid, r₄) = whole _ _ c.in_ok-read_full.field-0 c.read_full.new.buffer (given ∷ octet ∷ []) c.in_ok-read_full.ensures.ok.0 (search rules) c.in_ok-read_full.ensures.taken c.in_ok-read_full.ensures.end t r₃ in
    let zero : get_or c.read_full.new.buffer 0 0 ≡ given = ap (λ (l : List ℕ). get_or l 0 0) sid in
    let one : get_or c.read_full.new.buffer 1 0 ≡ octet = ap (λ (l : List ℕ). get_or l 1 0) sid in
    (same_case c.read.ensures sm st sx zero one (judges c.from.ensures c.same_reading-equal.ensures), r₄)

pub returns-in_err-length-clause-loses : goal.returns-in_err-length-clause-loses
returns-in_err-length-clause-loses g c = loses_then _ _ _ c.in_ok-size.ensures.loses c.next_string-2.ensures.loses

pub returns-in_err-count-clause-loses : goal.returns-in_err-count-clause-loses
returns-in_err-count-clause-loses g c = loses_then _ _ _ (loses_then _ _ _ c.in_ok-size.ensures.loses c.in_ok-length.ensures.loses) c.next_short_string.ensures.loses

pub returns-in_err-read_full-clause-loses : goal.returns-in_err-read_full-clause-loses
returns-in_err-read_full-clause-loses g c = loses_then _ _ _ (loses_then _ _ _ (loses_then _ _ _ c.in_ok-size.ensures.loses c.in_ok-length.ensures.loses) c.in_ok-count.ensures.loses) c.in_err-read_full.ensures.err

pub returns-then-branch-lt2-clause-loses : goal.returns-then-branch-lt2-clause-loses
returns-then-branch-lt2-clause-loses g c = loses_then _ _ _ (loses_then _ _ _ (loses_then _ _ _ c.in_ok-size.ensures.loses c.in_ok-length.ensures.loses) c.in_ok-count.ensures.loses) (_, c.in_ok-read_full.ensures.taken)

pub returns-clause-loses : goal.returns-clause-loses
returns-clause-loses g c = loses_then _ _ _ (loses_then _ _ _ (loses_then _ _ _ c.in_ok-size.ensures.loses c.in_ok-length.ensures.loses) c.in_ok-count.ensures.loses) (_, c.in_ok-read_full.ensures.taken)

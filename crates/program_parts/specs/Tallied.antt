-- The verdict on a case, and the tally of all cases after it; a count stays at the largest number.
-- Assumes nothing: these are definitions.
use Rattle.std.specs.Prelude.{ℕ, ◌+◌, ◌≡◌, ◌≢◌, min}
use mathlib.Core.{Bool.Bool, Bool.true, Bool.false, Bool.cond}
use Rattle.program_parts.specs.declared.{Tally.Tally, cases.Verdict.Verdict}

-- v is the verdict on a case of which P is expected
abbrev pub Judges : Verdict → Type 0 → Type 0
Judges v P = (v ≡ Verdict.Same → P) × (P → v ≡ Verdict.Same) × (v ≢ Verdict.Ended)

abbrev pub one_more : ℕ → ℕ
one_more n = min (n + 1) 18446744073709551615

unfoldable pub tallied : Tally → Bool → Tally
tallied t equal = record { compared = one_more t.compared; differ = cond equal t.differ (one_more t.differ) }

unfoldable pub verdict_on : Bool → Verdict
verdict_on equal = cond equal Verdict.Same Verdict.Differs

unfoldable pub tallied_by : Tally → Verdict → Tally
tallied_by t Verdict.Same = tallied t true
tallied_by t Verdict.Differs = tallied t false
tallied_by t Verdict.Ended = t

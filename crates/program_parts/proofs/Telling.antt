-- An answer that tells whether something holds: false, where it cannot. Assumes nothing.
use mathlib.Core.Bool.{false, false≢true}
use mathlib.Core.Path.{◌≡◌}
use Rattle.program_parts.specs.Expected.{Tells}

pub denies : {P : Type 0} → (P → ⊥) → Tells false P
denies n = (λ e. absurd (false≢true e), λ p. absurd (n p))

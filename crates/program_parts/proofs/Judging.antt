-- A verdict on the answer to a question is a verdict on what was asked. Assumes nothing.
use mathlib.Core.Path.{◌≡◌, refl, sym, subst}
use mathlib.Core.Bool.{Bool, true, false, false≢true}
use Rattle.program_parts.specs.Expected.{Tells}
use Rattle.program_parts.specs.declared.{cases.Verdict.Verdict}
use Rattle.program_parts.specs.Tallied.{verdict_on, Judges}

judges_on : (P : Type 0) (r : Bool) → Tells r P → Judges (verdict_on r) P
unfolding verdict_on
judges_on P true t = (λ e. t.0 refl, λ p. refl, λ e. absurd cc)
judges_on P false t = (λ e. absurd cc, λ p. absurd (false≢true (t.1 p)), λ e. absurd cc)

pub judges : {P : Type 0} {r : Bool} {v : Verdict} → v ≡ verdict_on r → Tells r P → Judges v P
judges {P} {r} e t = subst (λ w. Judges w P) (sym e) (judges_on P r t)

-- A verdict on what was read of a case is one on the case. Assumes nothing.
use Rattle.std.specs.Prelude.{Result, Option}
use mathlib.Core.Path.{◌≡◌}
use Prim.Native.Nat.{ℕ}
use mathlib.Core.List.{List}
use Rattle.tcap.specs.declared.{Record.Record, Refusal.Refusal}
use Rattle.tcap.specs.Reading.{reading}
use Rattle.program_parts.specs.declared.{cases.Verdict.Verdict}
use Rattle.program_parts.specs.Tallied.{Judges}
use Rattle.program_compare.specs.declared.steerings.{Expected.Expected}
use Rattle.program_compare.specs.Vectors.{ReadingIs}
use Rattle.program_compare.specs.Steerings.{BothAre, expected_in}

pub same_case : {v : Verdict} {r : Result Record Refusal} {m n a b x y : List ℕ} {g h o p : ℕ} → r ≡ reading n → n ≡ m → b ≡ a → y ≡ x → h ≡ g → p ≡ o → Judges v (ReadingIs n r b y h p) → Judges v (ReadingIs m (reading m) a x g o)
same_case e₀ e₁ e₂ e₃ e₄ e₅ j = rw (e₀, e₁, e₂, e₃, e₄, e₅) at j

pub same_steering : {v : Verdict} {m n r s x y e f : List ℕ} {g : Option Expected} → g ≡ expected_in f → n ≡ m → s ≡ r → y ≡ x → f ≡ e → Judges v (BothAre n s g y) → Judges v (BothAre m r (expected_in e) x)
same_steering e₀ e₁ e₂ e₃ e₄ j = rw (e₀, e₁, e₂, e₃, e₄) at j

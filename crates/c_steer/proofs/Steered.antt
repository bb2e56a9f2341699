-- What the answer of a steering tells: the link whole, no rule, or the refusal as reading gives it. Assumes nothing.
use Rattle.tcap.specs.declared.Refusal.{Refusal}
use Rattle.std.specs.Prelude.{Result, Ok, Err, Some, None, Option as Optional}
use Prim.Native.Nat.{ℕ, ◌/◌, ◌%◌, ◌^◌}
use native.Mathlib.Omega.{arith}
use mathlib.Core.Path.{◌≡◌, refl}
use Rattle.element.specs.Fault.{number_of}
use Rattle.c_answer.specs.Answer.{done, no_rule}
use Rattle.c_steer.specs.Steer.{steered_bits}
use Rattle.c_answer.proofs.Fields.{status_field}

abbrev pub status_of : Result (Optional ℕ) Refusal → ℕ
status_of (Ok None) = no_rule
status_of (Ok (Some n)) = done
status_of (Err f) = number_of f.kind

-- a link is told by 0, no rule by 64, and a refusal by its number: no answer stands for two
pub steered_status : (s : Result (Optional ℕ) Refusal) → steered_bits s % 2 ^ 8 ≡ status_of s
unfolding steered_bits
steered_status (Ok None) = refl
steered_status (Ok (Some n)) = omega arith
steered_status (Err f) = status_field f

pub steered_link : (n : ℕ) → steered_bits (Ok (Some n)) / 2 ^ 32 ≡ n
unfolding steered_bits
steered_link n = omega arith

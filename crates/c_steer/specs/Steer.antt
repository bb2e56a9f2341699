-- What C is told of a steering: docs/LAYOUT.md, "Answer". Assumes nothing: these are definitions.
use Rattle.tcap.specs.declared.Refusal.{Refusal}
use Rattle.std.specs.Prelude.{Result, Ok, Err, Some, None, Option as Optional}
use Rattle.std.specs.Prelude.{ℕ, ◌*◌, ◌^◌}
use mathlib.Core.{List.List}
use Rattle.steering.specs.{Layout.rules_in, Steering.steering}
use Rattle.c_answer.specs.Answer.{no_rule, refusal_bits}

-- Steering: the message m, and the octets of the rules; 32..63: a link

unfoldable pub steered_bits : Result (Optional ℕ) Refusal → ℕ
steered_bits (Ok None) = no_rule
steered_bits (Ok (Some n)) = n * 2 ^ 32
steered_bits (Err f) = refusal_bits f

unfoldable pub steer_answer : List ℕ → List ℕ → ℕ
steer_answer m rules = steered_bits (steering m (rules_in rules))

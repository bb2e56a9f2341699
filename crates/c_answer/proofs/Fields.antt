-- The fields of a refusal's answer, read back by division and remainder. Assumes nothing.
use Rattle.std.specs.Prelude.{ℤ, Option as Optional, None}
use Prim.Native.Nat.{ℕ, ◌+◌, ◌*◌, ◌/◌, ◌%◌, ◌^◌, ◌<◌}
use native.Mathlib.Omega.{arith}
use mathlib.Core.Path.{◌≡◌}
use Rattle.element.specs.Fault.{number_of}
use Rattle.tcap.specs.declared.{Answer.Answer, Refusal.Refusal}
use Rattle.layout.specs.Layout.{orig_span, id_flag, id_octet}
use Rattle.c_answer.specs.Answer.{orig_bits, send_bits, refusal_bits, length_bits}
use Rattle.c_answer.proofs.Bits.{flag_small, number_small}

-- a Reject or an Abort, its cause or problem, its component and invoke ID
abbrev pub is_reject : Answer → ℕ
is_reject (Answer.AbortCause n) = 0
is_reject (Answer.RejectProblem n k i) = 1

abbrev pub cause_of : Answer → ℕ
cause_of (Answer.AbortCause n) = n
cause_of (Answer.RejectProblem n k i) = n

abbrev pub component_of : Answer → ℕ
component_of (Answer.AbortCause n) = 0
component_of (Answer.RejectProblem n k i) = k

abbrev pub id_of : Answer → Optional ℤ
id_of (Answer.AbortCause n) = None
id_of (Answer.RejectProblem n k i) = i

-- the upper 20 bits
upper : Answer → ℕ
upper a = is_reject a + cause_of a % 2 ^ 3 * 2 + component_of a % 2 ^ 7 * 2 ^ 4 + id_flag (id_of a) * 2 ^ 11 + id_octet (id_of a) % 2 ^ 8 * 2 ^ 12

send_upper : (a : Answer) → send_bits a ≡ upper a * 2 ^ 44
unfolding send_bits upper id_flag id_octet
send_upper (Answer.AbortCause n) = omega arith
send_upper (Answer.RejectProblem n k i) = omega arith

upper_fields : (a : Answer) → (upper a % 2 ≡ is_reject a) × (upper a / 2 % 2 ^ 3 ≡ cause_of a % 2 ^ 3) × (upper a / 2 ^ 4 % 2 ^ 7 ≡ component_of a % 2 ^ 7) × (upper a / 2 ^ 11 % 2 ≡ id_flag (id_of a)) × (upper a / 2 ^ 12 ≡ id_octet (id_of a) % 2 ^ 8)
unfolding upper
upper_fields (Answer.AbortCause n) = let f = flag_small (id_of (Answer.AbortCause n)) in (omega arith, omega arith, omega arith, omega arith, omega arith)
upper_fields (Answer.RejectProblem n k i) = let f = flag_small i in (omega arith, omega arith, omega arith, omega arith, omega arith)

-- the lower 44, below t
lower_fields : (n p q l t w : ℕ) → n < 2 ^ 8 → p < 2 ^ 16 → q < 2 ^ 16 → l < 2 ^ 4 → w ≡ n + p * 2 ^ 8 + (q * 2 ^ 24 + l * 2 ^ 40) + t * 2 ^ 44
    → (w % 2 ^ 8 ≡ n) × (w / 2 ^ 8 % 2 ^ 16 ≡ p) × (w / 2 ^ 24 % 2 ^ 16 ≡ q) × (w / 2 ^ 40 % 2 ^ 4 ≡ l) × (w / 2 ^ 44 ≡ t)
lower_fields n p q l t w a b c d e = (omega arith, omega arith, omega arith, omega arith, omega arith)

module _ (f : Refusal) where
  lower : let w = refusal_bits f in (w % 2 ^ 8 ≡ number_of f.kind) × (w / 2 ^ 8 % 2 ^ 16 ≡ f.place % 2 ^ 16) × (w / 2 ^ 24 % 2 ^ 16 ≡ (orig_span f.orig).place % 2 ^ 16) × (w / 2 ^ 40 % 2 ^ 4 ≡ (orig_span f.orig).len % 2 ^ 4) × (w / 2 ^ 44 ≡ upper f.answer)
  unfolding refusal_bits orig_bits
  lower = lower_fields (number_of f.kind) (f.place % 2 ^ 16) ((orig_span f.orig).place % 2 ^ 16) ((orig_span f.orig).len % 2 ^ 4) (upper f.answer) (refusal_bits f) (number_small f) (omega arith) (omega arith) (omega arith) (rw (send_upper f.answer))

  -- 0..7, 8..23
  pub status_field : refusal_bits f % 2 ^ 8 ≡ number_of f.kind
  status_field = lower.0

  pub place_field : refusal_bits f / 2 ^ 8 % 2 ^ 16 ≡ f.place % 2 ^ 16
  place_field = lower.1

  -- 24..39, 40..43
  pub orig_place_field : refusal_bits f / 2 ^ 24 % 2 ^ 16 ≡ (orig_span f.orig).place % 2 ^ 16
  orig_place_field = lower.2

  pub orig_length_field : refusal_bits f / 2 ^ 40 % 2 ^ 4 ≡ (orig_span f.orig).len % 2 ^ 4
  orig_length_field = lower.3

  -- 44, 45..47
  pub reject_field : refusal_bits f / 2 ^ 44 % 2 ≡ is_reject f.answer
  reject_field = rw lower.4 (upper_fields f.answer).0

  pub cause_field : refusal_bits f / 2 ^ 45 % 2 ^ 3 ≡ cause_of f.answer % 2 ^ 3
  cause_field = omega (arith, lower.4, (upper_fields f.answer).1)

  -- 48..54, 55, 56..63
  pub component_field : refusal_bits f / 2 ^ 48 % 2 ^ 7 ≡ component_of f.answer % 2 ^ 7
  component_field = omega (arith, lower.4, (upper_fields f.answer).2)

  pub id_flag_field : refusal_bits f / 2 ^ 55 % 2 ≡ id_flag (id_of f.answer)
  id_flag_field = omega (arith, lower.4, (upper_fields f.answer).3)

  pub id_field_lem : refusal_bits f / 2 ^ 56 ≡ id_octet (id_of f.answer) % 2 ^ 8
  id_field_lem = omega (arith, lower.4, (upper_fields f.answer).4)

-- a length is told whole
pub length_told : (n : ℕ) → n < 2 ^ 16 → n ≡ length_bits n / 2 ^ 8
unfolding length_bits
length_told n h = let whole : n % 2 ^ 16 ≡ n = omega arith in rw whole (omega arith)

-- What C is told, as one number of 64 bits: docs/LAYOUT.md, "Answer". A field that begins at bit b is a number of its width times 2 ^ b. Assumes nothing: these are definitions.
use Rattle.std.specs.Prelude.{Result, Ok, Err, ⊤, Option as Optional, ℕ, ◌+◌, ◌*◌, ◌%◌, ◌^◌}
use Rattle.element.specs.{Fault.number_of}
use Rattle.tcap.specs.{declared.Answer.Answer, declared.Refusal.Refusal}
use Rattle.layout.specs.Layout.{orig_span, id_flag, id_octet}
use Rattle.tcap.specs.declared.{OrigTransactionId.OrigTransactionId}

-- done; too little room, by document 01's number; no rule fits
abbrev pub done : ℕ
done = 0

abbrev pub no_room : ℕ
no_room = 25

abbrev pub no_rule : ℕ
no_rule = 64

-- 24..43: the originating ID of a refused message
unfoldable pub orig_bits : Optional OrigTransactionId → ℕ
orig_bits o = (orig_span o).place % 2 ^ 16 * 2 ^ 24 + (orig_span o).len % 2 ^ 4 * 2 ^ 40

-- 44..63: what to send
unfoldable pub send_bits : Answer → ℕ
send_bits (Answer.AbortCause n) = n % 2 ^ 3 * 2 ^ 45
send_bits (Answer.RejectProblem n k i) = 2 ^ 44 + n % 2 ^ 3 * 2 ^ 45 + k % 2 ^ 7 * 2 ^ 48 + id_flag i * 2 ^ 55 + id_octet i % 2 ^ 8 * 2 ^ 56

unfoldable pub refusal_bits : Refusal → ℕ
refusal_bits f = number_of f.kind + f.place % 2 ^ 16 * 2 ^ 8 + orig_bits f.orig + send_bits f.answer

unfoldable pub outcome_bits : Result ⊤ Refusal → ℕ
outcome_bits (Ok tt) = done
outcome_bits (Err f) = refusal_bits f

-- 8..23: a length
unfoldable pub length_bits : ℕ → ℕ
length_bits n = n % 2 ^ 16 * 2 ^ 8

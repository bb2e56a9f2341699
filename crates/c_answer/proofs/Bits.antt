-- The fields of an answer lie side by side in 64 bits, and are read back by division and remainder. Assumes nothing.
use Rattle.std.specs.Prelude.{ℤ, Option as Optional, Some, None}
use Prim.Native.Nat.{◌+◌, ◌-◌, ◌*◌, ◌%◌, ◌^◌, ◌≤◌, ◌<◌}
use native.Mathlib.Omega.{arith}
use Rattle.element.specs.Fault.{number_of}
use Rattle.tcap.specs.declared.{OrigTransactionId.OrigTransactionId, Answer.Answer, Refusal.Refusal}
use Rattle.tcap.proofs.Refusals.{numbered}
use Rattle.layout.specs.Layout.{id_flag, id_octet}
use Rattle.c_answer.specs.Answer.{orig_bits, send_bits}

pub flag_small : (i : Optional ℤ) → id_flag i ≤ 1
unfolding id_flag
flag_small None = omega arith
flag_small (Some z) = omega arith

pub id_small : (i : Optional ℤ) → id_flag i * 2 ^ 55 + id_octet i % 2 ^ 8 * 2 ^ 56 ≤ 2 ^ 64 - 2 ^ 55
id_small i = omega (arith, flag_small i)

pub orig_small : (o : Optional OrigTransactionId) → orig_bits o ≤ 2 ^ 44 - 2 ^ 24
unfolding orig_bits
orig_small o = omega arith

pub send_small : (a : Answer) → send_bits a ≤ 2 ^ 64 - 2 ^ 44
unfolding send_bits
send_small (Answer.AbortCause n) = omega arith
send_small (Answer.RejectProblem n k i) = omega (arith, flag_small i)

pub number_small : (f : Refusal) → number_of f.kind < 2 ^ 8
number_small f = omega (arith, (numbered f.kind).1)

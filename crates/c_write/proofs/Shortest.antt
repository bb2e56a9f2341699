-- Demand 3 as C is told it: the statement of writing/specs/Shortest, with what 64 bits say. Assumes nothing.
use Rattle.std.specs.Prelude.{Result, Ok, Err}
use Prim.Native.Nat.{ℕ, ◌*◌, ◌%◌, ◌^◌, ◌≤◌}
use native.Mathlib.Omega.{arith}
use mathlib.Core.Path.{◌≡◌, refl, ap, ◌∙◌}
use mathlib.Core.Logic.{◌↔◌, ◌⊎◌, inl, inr}
use mathlib.Core.Bool.{true, false}
use mathlib.Core.List.{List}
use lib.ListN.{length}
use Rattle.writing.specs.declared.{WriteFault.WriteFault}
use Rattle.writing.specs.Writing.{write_number, writing}
use Rattle.writing.specs.Octets.{writing_octets, leaves_octets}
use Rattle.writing.specs.Shortest.{WritesShortest, Says, Refuses}
use Rattle.writing.proofs.Promises.{success}
use Rattle.writing.proofs.Shortest.{octets_shortest, says_same}
use Rattle.layout.specs.Layout.{is_record, record_in}
use Rattle.c_answer.specs.Answer.{length_bits}
use Rattle.c_write.specs.Write.{written_bits, write_answer}
use Rattle.c_write.proofs.Writing.{no_record}

-- status 0 and a length; a number alone
abbrev pub SaysBits : ℕ → ℕ → Type 0
SaysBits answer n = answer ≡ n * 2 ^ 8

abbrev pub RefusesBits : ℕ → ℕ → Type 0
RefusesBits answer n = (21 ≤ n) × (n ≤ 25) × (answer ≡ n)

numbers : (f : WriteFault) → (21 ≤ write_number f) × (write_number f ≤ 25)
unfolding write_number
numbers WriteFault.WrongParts = (omega arith, omega arith)
numbers WriteFault.OutOfRange = (omega arith, omega arith)
numbers WriteFault.OutOfMaterial = (omega arith, omega arith)
numbers WriteFault.Unshaped = (omega arith, omega arith)
numbers WriteFault.NoRoom = (omega arith, omega arith)

says_bits : (w : Result ℕ WriteFault) → ((k : ℕ) → Says w k → k ≤ 255) → (n : ℕ) → Says w n ↔ SaysBits (written_bits w) n
unfolding written_bits length_bits
says_bits (Ok k) small n =
    let whole : k % 2 ^ 16 ≡ k = omega (arith, small k refl) in (
      λ e. let q : k ≡ n = cc in rw (whole, q),
      λ e. let d : k * 2 ^ 8 ≡ n * 2 ^ 8 = rw whole at e in let q : k ≡ n = omega arith in ap Ok q,
    )
says_bits (Err f) small n = (λ e. let z : ◌≡◌ {A = ℕ} 0 1 = cc in absurd (omega arith), λ e. absurd (omega (arith, e, (numbers f).0, (numbers f).1)))

refuses_bits : (w : Result ℕ WriteFault) (n : ℕ) → Refuses w n ↔ RefusesBits (written_bits w) n
unfolding written_bits length_bits
refuses_bits (Ok k) n = (λ (f, e, x). let z : ◌≡◌ {A = ℕ} 0 1 = cc in absurd (omega arith), λ (a, b, e). absurd (omega arith))
refuses_bits (Err g) n = (λ (f, e, x). let q : g ≡ f = cc in (omega (arith, (numbers f).0), omega (arith, (numbers f).1), ap write_number q ∙ x), λ h. (g, refl, h.2))

told_length : (k : ℕ) → (n : ℕ) × SaysBits (written_bits (Ok k)) n
unfolding written_bits length_bits
told_length k = (k % 2 ^ 16, refl)

as_record : (o m : List ℕ) (room : ℕ) → is_record o ≡ true → writing (record_in o) m room ≡ writing_octets o m room
unfolding writing_octets
as_record o m room h = rw h

module _ (o m out : List ℕ) {answer : ℕ} {new : List ℕ} (answers : answer ≡ write_answer o m out) (holds : new ≡ leaves_octets o m out) where
  -- octets that are a record
  pub c_shortest : is_record o ≡ true → WritesShortest (SaysBits answer) (RefusesBits answer) (record_in o) m out new
  unfolding write_answer
  c_shortest h = let w = writing_octets o m (length out) in rw answers (says_same (says_bits w (small h)) (refuses_bits w) (octets_shortest o m out refl holds h))
    where
      small : is_record o ≡ true → (k : ℕ) → Says (writing_octets o m (length out)) k → k ≤ 255
      small h k e = let s = success (record_in o) m (length out) (as_record o m (length out) h ∙ e) in omega (arith, s.counts, s.most)

  -- every answer is a length or a number
  pub c_told : ((n : ℕ) × SaysBits answer n) ⊎ ((n : ℕ) × RefusesBits answer n)
  unfolding write_answer
  c_told = rw answers (by_answer (writing_octets o m (length out)))
    where
      by_answer : (w : Result ℕ WriteFault) → ((n : ℕ) × SaysBits (written_bits w) n) ⊎ ((n : ℕ) × RefusesBits (written_bits w) n)
      by_answer (Ok k) = inl (told_length k)
      by_answer (Err f) = inr (write_number f, (refuses_bits (Err f) (write_number f)).0 (f, refl, refl))

  -- others: 24, and the buffer stays
  pub c_refused : is_record o ≡ false → (answer ≡ 24) × (new ≡ out)
  c_refused h = let n = no_record o m out h in (answers ∙ n.0, holds ∙ n.1)

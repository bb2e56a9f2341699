-- Writing through the boundary: octets that are no record are refused with 24, and of all others the writer's promises hold.
-- Assumes nothing.
use Rattle.tcap.specs.Reading.{outcome_of, handed_back}
use Rattle.std.specs.Prelude.{Result, Ok, Err}
use Prim.Native.Nat.{ℕ, ◌-◌, ◌/◌, ◌%◌, ◌^◌, ◌≤◌, ◌<◌}
use native.Mathlib.Omega.{arith}
use mathlib.Core.Path.{◌≡◌, refl, sym, ap, ◌∙◌}
use mathlib.Core.Logic.{◌↔◌}
use mathlib.Core.Bool.{Bool, true, false}
use mathlib.Core.List.{List, ◌++◌, append-nil}
use lib.ListN.{length, take, drop, replicate, length-take}
use lib.Seq.{take_at, take_all}
use lib.Dec.{leb}
use borrow.Author.Tests.{leb-true, leb-false}
use Rattle.tcap.specs.declared.{Record.Record}
use Rattle.tcap.specs.Record.{blank_row, meaning_of, Same}
use Rattle.tcap.specs.Reading.{reading}
use Rattle.tcap.specs.Verdict.{counted, all_parts, all_ranges, all_lie, all_shaped}
use Rattle.writing.specs.declared.{WriteFault.WriteFault}
use Rattle.writing.specs.Writing.{write_number, message_of, writing, RefusedWith, leaves, Writes}
use Rattle.writing.specs.Octets.{writing_octets, leaves_octets}
use Rattle.writing.proofs.Promises.{success, success_buffer, reads_back}
use Rattle.writing.proofs.Standing.{octets_fit}
use Rattle.layout.specs.Layout.{most_rows, record_size, is_record, record_in, record_octets}
use Rattle.layout.specs.Fits.{RecordFits}
use Rattle.layout.proofs.RoundTrip as layout
use Rattle.c_answer.specs.Answer.{length_bits}
use Rattle.c_answer.proofs.Fields.{length_told}
use Rattle.c_write.specs.Write.{written_bits, write_answer}

module _ (o m out : List ℕ) where
  pub no_record : is_record o ≡ false → (write_answer o m out ≡ 24) × (leaves_octets o m out ≡ out)
  unfolding write_answer written_bits write_number writing_octets leaves_octets
  no_record h = rw h (refl, refl)

  -- the answer, and the buffer, of the writer called with the record
  pub record_writes : is_record o ≡ true → (w : Result ℕ WriteFault) × (write_answer o m out ≡ written_bits w) × Writes (record_in o) m out w (leaves_octets o m out)
  unfolding write_answer writing_octets leaves_octets
  record_writes h = (writing (record_in o) m (length out), rw h, rw h (record { answers = refl; holds = refl }))

  by_refused : (w : Result ℕ WriteFault) (n : ℕ) → 21 ≤ n → n ≤ 25 → written_bits w ≡ n → (f : WriteFault) × (w ≡ Err f) × (write_number f ≡ n)
  unfolding written_bits length_bits
  by_refused (Ok k) n a b e = absurd (omega arith)
  by_refused (Err f) n a b e = (f, refl, e)

  -- the numbers are the writer's
  pub refused_exactly : is_record o ≡ true → (n : ℕ) → 21 ≤ n → n ≤ 25 → (write_answer o m out ≡ n) ↔ RefusedWith (record_in o) m (length out) n
  unfolding write_answer writing_octets RefusedWith written_bits
  refused_exactly h n a b = (λ e. by_refused (writing (record_in o) m (length out)) n a b (rw h at e), λ g. rw (h, g.1) g.2)

  by_done : (w : Result ℕ WriteFault) → Writes (record_in o) m out w (leaves_octets o m out) → written_bits w % 2 ^ 8 ≡ 0 → w ≡ Ok (written_bits w / 2 ^ 8)
  unfolding written_bits length_bits write_number
  by_done (Ok k) i e =
      let s = success (record_in o) m (length out) (sym i.answers) in
      let small : k < 2 ^ 16 = omega (arith, s.counts, s.most) in
      ap Ok (length_told k small)
  by_done (Err WriteFault.WrongParts) i e = absurd (omega arith)
  by_done (Err WriteFault.OutOfRange) i e = absurd (omega arith)
  by_done (Err WriteFault.OutOfMaterial) i e = absurd (omega arith)
  by_done (Err WriteFault.Unshaped) i e = absurd (omega arith)
  by_done (Err WriteFault.NoRoom) i e = absurd (omega arith)

  -- a done writing tells the length of a message that reads back as the record, and leaves what stands behind it
  pub done_writes : is_record o ≡ true → write_answer o m out % 2 ^ 8 ≡ 0
      → let n = write_answer o m out / 2 ^ 8 in let s = take n (leaves_octets o m out) in (outcome_of (reading s) ≡ Ok tt) × Same (record_in o) m (handed_back (reading s)) s × (drop n (leaves_octets o m out) ≡ drop n out)
  done_writes h e =
      let (w, a, i) = record_writes h in
      let n = write_answer o m out / 2 ^ 8 in
      let q : w ≡ Ok n = by_done w i (rw a at e) ∙ ap (λ k. Ok (k / 2 ^ 8)) (sym a) in
      let j : Writes (record_in o) m out (Ok n) (leaves_octets o m out) = rw q at i in
      let b = reads_back (record_in o) m out (octets_fit o) j in
      (b.0, b.1, (success_buffer (record_in o) m out j).1)

-- With what octets of a record r are written: r itself, whatever rows it has from its count on

module _ (r : Record) (sixteen : length r.rows ≡ most_rows) where
  kept_rows : counted (layout.blanked r) ≡ counted r
  unfolding layout.blanked
  kept_rows = by_count (leb r.count most_rows) refl
    where
      by_count : (b : Bool) → leb r.count most_rows ≡ b → take r.count (take r.count r.rows ++ replicate (most_rows - r.count) blank_row) ≡ take r.count r.rows
      by_count true e =
          let l = leb-true r.count most_rows e in
          take_at (take r.count r.rows) (replicate (most_rows - r.count) blank_row) r.count (length-take r.count r.rows ∙ omega (arith, sixteen))
      by_count false e =
          let l = leb-false r.count most_rows e in
          let none : most_rows - r.count ≡ 0 = omega arith in
          let all : take r.count r.rows ≡ r.rows = take_all r.count r.rows (omega (arith, sixteen)) in
          rw (none, append-nil, all) all

  kept_message : (m : List ℕ) → message_of (layout.blanked r) m ≡ message_of r m
  unfolding message_of meaning_of layout.blanked
  kept_message m = rw kept_rows

  kept_writing : (m : List ℕ) (room : ℕ) → writing (layout.blanked r) m room ≡ writing r m room
  unfolding writing all_parts all_ranges all_lie all_shaped layout.blanked
  kept_writing m room = rw (kept_message m, kept_rows)

module _ (r : Record) (fits : RecordFits r) (rest m out : List ℕ) where
  pub laid_writes : record_size ≤ length (record_octets r ++ rest) → (write_answer (record_octets r ++ rest) m out ≡ written_bits (writing r m (length out))) × (leaves_octets (record_octets r ++ rest) m out ≡ leaves r m out)
  unfolding write_answer writing_octets leaves_octets leaves
  laid_writes h =
      rw (layout.record_is r rest fits h, layout.record_back r rest fits, kept_writing r fits.sixteen m (length out), kept_message r fits.sixteen m) (refl, refl)

-- Demand 3: a record is written exactly if a message that reads as it fits, what is written reads so and is shorter than every other, and what was
-- read can be written. Assumes nothing.
use Rattle.tcap.specs.Reading.{outcome_of, handed_back}
use Rattle.std.specs.Prelude.{Result, Ok, Err}
use Prim.Native.Nat.{ℕ, min, ◌-◌, ◌≤◌, ◌<◌}
use mathlib.Core.Path.{◌≡◌, refl, sym, ap, ◌∙◌}
use mathlib.Core.Logic.{◌↔◌, ◌⊎◌, inl, ⊎_elim}
use mathlib.Core.Bool.{Bool, true, false}
use mathlib.Core.List.{List, [], ◌++◌, map}
use mathlib.Core.Option.{some}
use native.Mathlib.Omega.{arith}
use lib.ListN.{length, take, drop, replicate, length-append, length-map, length-replicate}
use lib.Seq.{take_at, drop_at}
use lib.Dec.{leb}
use borrow.Author.Tests.{leb-true, leb-false, le-leb}
use Rattle.element.specs.Form.{◌⊑◌}
use Rattle.element.specs.Fault.{Text}
use Rattle.element.specs.Ask.{Got, got, bad}
use Rattle.element.proofs.Shortest.{⊑-length}
use Rattle.tcap.specs.declared.{Record.Record}
use Rattle.tcap.specs.Meaning.{Component, Message, unidirectional, begin, finish, continue, abort, Meaning, written}
use Rattle.tcap.specs.WellFormed.{most_octets, most_components, the93, WellFormed}
use Rattle.tcap.specs.Record.{row_of, blank_row, record_of, meaning_of, Same}
use Rattle.tcap.specs.Reading.{located_up_to, answered, reading_up_to, reading}
use Rattle.tcap.proofs.Promises.{reads_accepted, accepted_reads, written_reads, written_least}
use Rattle.writing.specs.declared.{WriteFault.WriteFault}
use Rattle.writing.specs.Writing.{write_number, message_of, RecordOk, unless, writing, RefusedWith, behind, leaves, Writes, ReadsAs, RecordTyped}
use Rattle.writing.proofs.WellFormed.{found, checked_means, means_checked}

-- what is not refused has passed the test
passed : {n : ℕ} (b : Bool) (f : WriteFault) (w : Result ℕ WriteFault) → unless b f w ≡ Ok n → (b ≡ true) × (w ≡ Ok n)
passed true f w e = (refl, e)
passed false f w e = let z : ◌≡◌ {A = ℕ} 0 1 = cc in absurd (omega arith)

-- what can be refused with 25 alone has passed every test of another number
only_room : (b : Bool) (f : WriteFault) (w : Result ℕ WriteFault) → write_number f < 25 → ((g : WriteFault) → unless b f w ≡ Err g → write_number g ≡ 25) → (b ≡ true) × ((g : WriteFault) → w ≡ Err g → write_number g ≡ 25)
only_room true f w l h = (refl, h)
only_room false f w l h = absurd (omega (arith, h f refl))

module _ (r : Record) (m : List ℕ) where
  pub message_is : {μ : Meaning} → meaning_of r m ≡ some μ → message_of r m ≡ written μ
  unfolding message_of
  message_is e = rw e

  -- a record is well-formed exactly if it has a meaning that is
  pub ok_exactly : RecordTyped r → RecordOk r m ↔ ((μ : Meaning) × (meaning_of r m ≡ some μ) × WellFormed μ)
  ok_exactly w = (λ o. checked_means r m w o, λ h. means_checked r m w.full h.1 h.2)

  -- and so if a message reads as it
  readable_ok : length r.rows ≡ most_components → (s : List ℕ) → ReadsAs s r m → RecordOk r m
  unfolding ReadsAs WellFormed
  readable_ok h s (μ, e, i) = means_checked r m h e i.fine

  message_reads : {μ : Meaning} → meaning_of r m ≡ some μ → WellFormed μ → length (message_of r m) ≤ most_octets → ReadsAs (message_of r m) r m
  unfolding ReadsAs
  message_reads {μ} e o k = (μ, e, rw (message_is e) (written_reads μ o (rw (message_is e) at k)))

  -- every other message that reads as the record is longer
  pub strictly_shortest : (s : List ℕ) → ReadsAs s r m → message_of r m ⊑ s
  unfolding ReadsAs
  strictly_shortest s (μ, e, i) = rw (message_is e) (written_least s μ i)

  module _ (room : ℕ) where
    abbrev size : ℕ
    size = length (message_of r m)

    -- the answer to a well-formed record
    pub ok_answer : RecordOk r m → writing r m room ≡ unless (leb size (min most_octets room)) WriteFault.NoRoom (Ok size)
    unfolding writing
    ok_answer o = rw (o.parts, o.ranged, o.lie, o.shaped)

    -- well-formed exactly if 21 to 24 do not apply
    pub ok_numbers : RecordOk r m ↔ ((n : ℕ) → RefusedWith r m room n → n ≡ 25)
    unfolding RefusedWith writing write_number
    ok_numbers = (
      λ o n h. by_room (leb size (min most_octets room)) n h.0 (sym (ok_answer o) ∙ h.1) h.2,
      λ h.
          let a = only_room _ WriteFault.WrongParts _ (omega arith) (λ f e. h (write_number f) (f, e, refl)) in
          let b = only_room _ WriteFault.OutOfRange _ (omega arith) a.1 in
          let c = only_room _ WriteFault.OutOfMaterial _ (omega arith) b.1 in
          let d = only_room _ WriteFault.Unshaped _ (omega arith) c.1 in
          record { parts = a.0; ranged = b.0; lie = c.0; shaped = d.0 },
    )
      where
        by_room : (b : Bool) (n : ℕ) (f : WriteFault) → unless b WriteFault.NoRoom (Ok size) ≡ Err f → write_number f ≡ n → n ≡ 25
        by_room true n f e k = let z : ◌≡◌ {A = ℕ} 0 1 = cc in absurd (omega arith)
        by_room false n f e k = let z : f ≡ WriteFault.NoRoom = cc in sym k ∙ ap write_number z

    -- what a success tells
    pub record Success (n : ℕ) : Type 0 where
      pub ok : RecordOk r m
      pub counts : n ≡ size
      pub most : size ≤ most_octets
      pub fits : size ≤ room

    pub success : {n : ℕ} → writing r m room ≡ Ok n → Success n
    unfolding writing
    success {n} e =
        let a = passed _ _ _ e in
        let b = passed _ _ _ a.1 in
        let c = passed _ _ _ b.1 in
        let d = passed _ _ _ c.1 in
        let f = passed _ _ _ d.1 in
        let q : Ok size ≡ Ok n = f.1 in
        let l : size ≤ min most_octets room = leb-true size (min most_octets room) f.0 in
        record { ok = record { parts = a.0; ranged = b.0; lie = c.0; shaped = d.0 }; counts = cc; most = omega arith; fits = omega arith }

    -- what is written reads as the record
    pub reads_as : RecordTyped r → {n : ℕ} → writing r m room ≡ Ok n → ReadsAs (message_of r m) r m
    reads_as w h = let (μ, e, o) = checked_means r m w (success h).ok in message_reads e o (success h).most

    -- it is written exactly if a message that reads as it fits
    fitting : length r.rows ≡ most_components → (s : List ℕ) → ReadsAs s r m → length s ≤ room → writing r m room ≡ Ok size
    unfolding ReadsAs
    fitting h s i k =
        let l = ⊑-length (message_of r m) s (strictly_shortest s i) in
        ok_answer (readable_ok h s i) ∙ rw (le-leb size (min most_octets room) (omega (arith, i.2.short)))

    pub written_exactly : RecordTyped r → ((n : ℕ) × (writing r m room ≡ Ok n)) ↔ ((s : List ℕ) × ReadsAs s r m × (length s ≤ room))
    written_exactly w = (λ h. (message_of r m, reads_as w h.1, (success h.1).fits), λ h. (size, fitting w.full h.0 h.1 h.2))

    -- 25 exactly: every message that reads as it is longer than the room, or none does, for a message has at most 255 octets
    pub no_room_exactly : RecordTyped r → RecordOk r m → RefusedWith r m room 25 ↔ (((s : List ℕ) → ReadsAs s r m → room < length s) ⊎ ((s : List ℕ) → ReadsAs s r m → ⊥))
    unfolding RefusedWith write_number
    no_room_exactly w o = (λ h. inl (longer h.0 h.1), λ h. by_size (leb size (min most_octets room)) refl (⊎_elim (λ f. f) (λ f s i. absurd (f s i)) h))
      where
        longer : (f : WriteFault) → writing r m room ≡ Err f → (s : List ℕ) → ReadsAs s r m → room < length s
        longer f e s i = by (leb (length s) room) refl
          where
            by : (b : Bool) → leb (length s) room ≡ b → room < length s
            by true h = let q = fitting w.full s i (leb-true (length s) room h) in let z : ◌≡◌ {A = ℕ} 0 1 = cc in absurd (omega arith)
            by false h = leb-false (length s) room h

        by_size : (b : Bool) → (leb size (min most_octets room)) ≡ b → ((s : List ℕ) → ReadsAs s r m → room < length s) → (f : WriteFault) × (writing r m room ≡ Err f) × (write_number f ≡ 25)
        by_size true h f =
            let e : writing r m room ≡ Ok size = ok_answer o ∙ rw h in
            absurd (omega (arith, f (message_of r m) (reads_as w e), (success e).fits))
        by_size false h f = (WriteFault.NoRoom, ok_answer o ∙ rw h, refl)

-- What was read can be written, in no more octets

rows_full : (cs : List (Component Text)) → leb (length cs) most_components ≡ true → length (map row_of cs ++ replicate (most_components - length cs) blank_row) ≡ most_components
rows_full cs h = simp (length-append, length-map, length-replicate) (omega (arith, leb-true (length cs) most_components h))

record_full : (v : Message Text) → leb (record_of v).count most_components ≡ true → length (record_of v).rows ≡ most_components
unfolding record_of
record_full (unidirectional d cs) h = rows_full cs h
record_full (begin o d cs) h = rows_full cs h
record_full (finish e d cs) h = rows_full cs h
record_full (continue o e d cs) h = rows_full cs h
record_full (abort e s) h = rows_full [] h

reading_full : (s : List ℕ) → leb (handed_back (reading s)).count most_components ≡ true → length (handed_back (reading s)).rows ≡ most_components
unfolding reading reading_up_to answered
reading_full s h = by_got (located_up_to the93 s) h
  where
    by_got : (x : Got (Message Text)) → leb (handed_back (answered x)).count most_components ≡ true → length (handed_back (answered x)).rows ≡ most_components
    by_got (got v n) h = record_full v h
    by_got (bad f) h = rows_full [] h

pub read_written : (s : List ℕ) (room : ℕ) → outcome_of (reading s) ≡ Ok tt → length s ≤ room
    → let r = (handed_back (reading s)) in (n : ℕ) × (writing r s room ≡ Ok n) × (n ≤ length s) × ReadsAs (message_of r s) r s
unfolding ReadsAs WellFormed
read_written s room h k =
    let r = (handed_back (reading s)) in
    let i = accepted_reads s h in
    let l = ⊑-length (message_of r s) s (strictly_shortest r s s i) in
    (length (message_of r s), fitting r s room (reading_full s (found r s i.1).0.few) s i k, l, message_reads r s i.1 i.2.fine (omega (arith, i.2.short)))

-- No second answer

pub one_answer : (r : Record) (m out : List ℕ) (a b : Result ℕ WriteFault) (c d : List ℕ) → Writes r m out a c → Writes r m out b d → (a ≡ b) × (c ≡ d)
one_answer r m out a b c d x y = (x.answers ∙ sym y.answers, x.holds ∙ sym y.holds)

-- The buffer afterwards

module _ (r : Record) (m out : List ℕ) where
  pub leaves_message : {n : ℕ} → writing r m (length out) ≡ Ok n → leaves r m out ≡ message_of r m ++ drop n out
  unfolding leaves behind
  leaves_message e = rw e

  pub leaves_alone : {f : WriteFault} → writing r m (length out) ≡ Err f → leaves r m out ≡ out
  unfolding leaves behind
  leaves_alone e = rw e

  -- a success: the message, and what stood behind it; a refusal: all as it was
  pub success_buffer : {n : ℕ} {new : List ℕ} → Writes r m out (Ok n) new → (take n new ≡ message_of r m) × (drop n new ≡ drop n out)
  success_buffer {n} x =
      let e = x.holds ∙ leaves_message (sym x.answers) in
      let k = sym (success r m (length out) (sym x.answers)).counts in
      (ap (take n) e ∙ take_at (message_of r m) (drop n out) n k, ap (drop n) e ∙ drop_at (message_of r m) (drop n out) n k)

  pub refusal_buffer : {f : WriteFault} {new : List ℕ} → Writes r m out (Err f) new → new ≡ out
  refusal_buffer x = x.holds ∙ leaves_alone (sym x.answers)

  -- what was written reads back as the same record
  pub reads_back : RecordTyped r → {n : ℕ} {new : List ℕ} → Writes r m out (Ok n) new → (outcome_of (reading (take n new)) ≡ Ok tt) × Same r m (handed_back (reading (take n new))) (take n new)
  unfolding ReadsAs Same
  reads_back w {n} {new} x =
      let (μ, e, i) = reads_as r m (length out) w (sym x.answers) in
      let a = reads_accepted (take n new) μ (rw (success_buffer x).0 i) in
      (a.0, (μ, e, a.1))

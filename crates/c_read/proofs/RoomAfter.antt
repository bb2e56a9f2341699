-- What reading leaves in the room is a record, and stands for what was read; 0 is answered for nothing else. Assumes nothing.
use Rattle.tcap.specs.Reading.{outcome_of, handed_back}
use Rattle.std.specs.Prelude.{Result, Ok, Err, ⊤}
use Prim.Native.Nat.{ℕ, ◌≤◌}
use native.Mathlib.Omega.{arith}
use mathlib.Core.Path.{◌≡◌, refl}
use mathlib.Core.Bool.{Bool, true, false}
use mathlib.Core.List.{List, ◌++◌}
use lib.ListN.{length, drop, length-append, length-drop}
use lib.Dec.{ltb}
use borrow.Author.Tests.{le-ltb, ltb-false}
use Rattle.tcap.specs.declared.{Record.Record, Refusal.Refusal}
use Rattle.tcap.specs.Reading.{reading}
use Rattle.tcap.proofs.Refusals.{numbered}
use Rattle.layout.specs.Layout.{record_size, is_record, record_in, record_octets}
use Rattle.layout.proofs.RoundTrip.{record_is, record_length}
use Rattle.layout.proofs.Readings.{reading_fits, reading_back}
use Rattle.c_answer.specs.Answer.{refusal_bits, outcome_bits}
use Rattle.c_read.specs.Read.{read_answer, record_room, read_room}

-- what is laid out of an accepted message has at most 428 octets
pub laid_most : (m : List ℕ) → outcome_of (reading m) ≡ Ok tt → length (record_octets (handed_back (reading m))) ≤ record_size
laid_most m h = record_length (handed_back (reading m)) (reading_fits m h).sixteen

pub room_of : (x : Result Record Refusal) (room : List ℕ) → outcome_of x ≡ Ok tt → record_room x room ≡ record_octets (handed_back x) ++ drop (length (record_octets (handed_back x))) room
unfolding record_room
room_of (Ok r) room h = refl
room_of (Err f) room h = let z : ◌≡◌ {A = ℕ} 0 1 = cc in absurd (omega arith)

pub room_left : (x : Result Record Refusal) (room : List ℕ) (f : Refusal) → outcome_of x ≡ Err f → record_room x room ≡ room
unfolding record_room
room_left (Ok r) room f h = let z : ◌≡◌ {A = ℕ} 0 1 = cc in absurd (omega arith)
room_left (Err g) room f h = refl

module _ (m room : List ℕ) (enough : record_size ≤ length room) where
  pub accepted_kept : outcome_of (reading m) ≡ Ok tt → (read_answer m room ≡ 0) × (is_record (read_room m room) ≡ true) × (record_in (read_room m room) ≡ handed_back (reading m))
  unfolding read_answer read_room outcome_bits
  accepted_kept h =
      let r = handed_back (reading m) in
      let fits = reading_fits m h in
      let rest = drop (length (record_octets r)) room in
      let long : record_size ≤ length (record_octets r ++ rest) = omega (arith, length-append (record_octets r) rest, length-drop (length (record_octets r)) room) in
      rw (le-ltb (length room) record_size enough, h, room_of (reading m) room h) (refl, record_is r rest fits long, reading_back m h rest)

  pub refused_kept : (f : Refusal) → outcome_of (reading m) ≡ Err f → (read_answer m room ≡ refusal_bits f) × (read_room m room ≡ room)
  unfolding read_answer read_room outcome_bits
  refused_kept f h = rw (le-ltb (length room) record_size enough, h, room_left (reading m) room f h) (refl, refl)

some_bits : (o : Result ⊤ Refusal) → outcome_bits o ≡ 0 → o ≡ Ok tt
unfolding outcome_bits refusal_bits
some_bits (Ok tt) h = refl
some_bits (Err f) h = absurd (omega (arith, (numbered f.kind).0))

pub zero_accepted : (m room : List ℕ) → read_answer m room ≡ 0 → (record_size ≤ length room) × (outcome_of (reading m) ≡ Ok tt)
unfolding read_answer
zero_accepted m room = by_room (ltb (length room) record_size) refl
  where
    by_room : (b : Bool) → ltb (length room) record_size ≡ b → read_answer m room ≡ 0 → (record_size ≤ length room) × (outcome_of (reading m) ≡ Ok tt)
    by_room true e h = absurd (omega (arith, rw e at h))
    by_room false e h = (ltb-false (length room) record_size e, some_bits (outcome_of (reading m)) (rw e at h))

-- An answer's room is one of the table's, and the fields of its number, read back by division and remainder. Assumes nothing.
use Rattle.std.specs.Prelude.{Result, Ok, Err}
use Prim.Native.Nat.{ℕ, ◌/◌, ◌%◌, ◌^◌}
use mathlib.Core.Path.{◌≡◌, refl, sym, ◌∙◌, subst}
use mathlib.Core.List.{List}
use lib.ListN.{length}
use mathlib.Core.Bool.{Bool, true, false}
use native.Mathlib.Omega.{arith}
use lib.Dec.{ltb}
use Rattle.transaction_states.specs.declared.{TableRefusal.TableRefusal, Deed.Deed, Taken.Taken}
use Rattle.transaction_states.specs.Events.{event_in, told_by, answered, refusal_number}
use Rattle.open_transactions.specs.Table.{deed_of}
use Rattle.open_transactions.specs.inner.Steps.{Doable}
use Rattle.open_transactions.specs.History.{taken_status}
use Rattle.open_transactions.proofs.Doing.{deed_doable}
use Rattle.table_layout.specs.declared.{StepFault.StepFault}
use Rattle.table_layout.specs.Octets.{table_size, entries_in, with_fault, replying, reply_number, InTable}
use Rattle.table_layout.proofs.Entries.{length_entries}

doable_room : (o p : List ℕ) (d : Result Deed TableRefusal) → Doable o p d → InTable (answered d)
doable_room o p (Err k) h = tt
doable_room o p (Ok (Deed.Opens i s)) h = h.inside
doable_room o p (Ok (Deed.Keeps i)) h = h.inside
doable_room o p (Ok (Deed.Activates i)) h = h.inside
doable_room o p (Ok (Deed.Learns i)) h = h.inside
doable_room o p (Ok (Deed.Closes i)) h = h.inside

pub answer_room : (l : List ℕ) (n : ℕ) (o p : List ℕ) → InTable (answered (deed_of (entries_in l) (event_in n) o p))
answer_room l n o p = doable_room o (told_by (event_in n) p) (deed_of (entries_in l) (event_in n) o p) (deed_doable (entries_in l) (event_in n) o p (length_entries l 64 0))

taken_room : (a : Result Taken TableRefusal) (k : Taken) → with_fault a ≡ Ok k → InTable a → InTable (Ok k)
taken_room (Ok j) k e h = let w : j ≡ k = cc in subst (λ (x : Taken). InTable (Ok x)) w h
taken_room (Err f) k e h = let w : ◌≡◌ {A = ℕ} 0 1 = cc in absurd (omega arith)

pub reply_room : (l : List ℕ) (n : ℕ) (o p : List ℕ) (k : Taken) {r : Result Taken StepFault} → r ≡ replying l n o p → r ≡ Ok k → InTable (Ok k)
unfolding replying
reply_room l n o p k q e = by_size (ltb (length l) table_size) refl
  where
    by_size : (b : Bool) → ltb (length l) table_size ≡ b → InTable (Ok k)
    by_size true h = let z : Err StepFault.NoRoom ≡ Ok k = sym (rw h at q) ∙ e in let w : ◌≡◌ {A = ℕ} 0 1 = cc in absurd (omega arith)
    by_size false h = taken_room (answered (deed_of (entries_in l) (event_in n) o p)) k (sym (rw h at q) ∙ e) (answer_room l n o p)

-- The fields of the number

-- what was done, 0 if nothing was, and the entry
abbrev pub deed_told : Result Taken TableRefusal → ℕ
deed_told (Err k) = 0
deed_told (Ok (Taken.Opened i)) = 1
deed_told (Ok (Taken.Kept i)) = 2
deed_told (Ok (Taken.Closed i)) = 3

abbrev pub entry_told : Result Taken TableRefusal → ℕ
entry_told (Err k) = 0
entry_told (Ok (Taken.Opened i)) = i
entry_told (Ok (Taken.Kept i)) = i
entry_told (Ok (Taken.Closed i)) = i

pub record Fields (k : Result Taken TableRefusal) (w : ℕ) : Type 0 where
  pub status : w % 2 ^ 8 ≡ taken_status k
  pub deed : w / 2 ^ 8 % 2 ^ 8 ≡ deed_told k
  pub entry : w / 2 ^ 16 ≡ entry_told k

refusal_fields : (k : TableRefusal) → Fields (Err k) (refusal_number k)
refusal_fields TableRefusal.BadId = record { status = refl; deed = refl; entry = refl }
refusal_fields TableRefusal.InUse = record { status = refl; deed = refl; entry = refl }
refusal_fields TableRefusal.Unknown = record { status = refl; deed = refl; entry = refl }
refusal_fields TableRefusal.NotAllowed = record { status = refl; deed = refl; entry = refl }
refusal_fields TableRefusal.Full = record { status = refl; deed = refl; entry = refl }

pub taken_fields : (k : Result Taken TableRefusal) → Fields k (reply_number (with_fault k))
taken_fields (Err k) = refusal_fields k
taken_fields (Ok (Taken.Opened i)) = record { status = omega arith; deed = omega arith; entry = omega arith }
taken_fields (Ok (Taken.Kept i)) = record { status = omega arith; deed = omega arith; entry = omega arith }
taken_fields (Ok (Taken.Closed i)) = record { status = omega arith; deed = omega arith; entry = omega arith }

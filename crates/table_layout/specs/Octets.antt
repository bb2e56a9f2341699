-- The table of open transactions as octets, in the layout of docs/LAYOUT.md: 64 entries of 12 octets. Assumes nothing: these are definitions.
use Rattle.std.specs.Prelude.{ℕ, zero, suc, ◌+◌, ◌*◌, ◌<◌, Result, Ok, Err}
use mathlib.Core.{Bool.cond, List.List, List.[], List.◌∷◌}
use lib.{ListN.set, ListN.length, ListN.get_or, ListN.drop, Seq.sets, Dec.ltb}
use Rattle.transaction_states.specs.Events.{state_in, event_in, told_by, answered, refusal_number}
use Rattle.open_transactions.specs.Table.{capacity, partner_of, deed_of}
use Rattle.transaction_states.specs.declared.{State.State, TableRefusal.TableRefusal, Deed.Deed, Taken.Taken}
use Rattle.open_transactions.specs.declared.{Entry.Entry, Table.Table}
use Rattle.table_layout.specs.declared.{StepFault.StepFault}
use Rattle.entry_octets.specs.Entries.{entry_octets, blank_octets}

abbrev pub table_size : ℕ
table_size = 768

-- The table that octets hold

-- an entry: state, length of our ID, of the partner's, one octet that is not used, our ID in four octets and the partner's
unfoldable pub entry_of : List ℕ → Entry
entry_of c = record {
  state = state_in (get_or c 0 0);
  ours = record { 0 = record { octets = record { place = 0; len = get_or c 1 0 } } };
  partner = partner_of (get_or c 2 0);
  octets = get_or c 4 0 ∷ get_or c 5 0 ∷ get_or c 6 0 ∷ get_or c 7 0 ∷ get_or c 8 0 ∷ get_or c 9 0 ∷ get_or c 10 0 ∷ get_or c 11 0 ∷ [];
}

unfoldable pub entries_from : List ℕ → ℕ → ℕ → List Entry
entries_from l zero i = []
entries_from l (suc n) i = entry_of (drop (i * 12) l) ∷ entries_from l n (suc i)

abbrev pub entries_in : List ℕ → List Entry
entries_in l = entries_from l capacity 0

abbrev pub table_in : List ℕ → Table
table_in l = record { entries = entries_in l }

-- What is left of the octets, and what is answered

unfoldable pub octets_done : List ℕ → List ℕ → List ℕ → Result Deed TableRefusal → List ℕ
octets_done l o p (Err k) = l
octets_done l o p (Ok (Deed.Opens i s)) = sets l (i * 12) (entry_octets s o p)
octets_done l o p (Ok (Deed.Keeps i)) = l
octets_done l o p (Ok (Deed.Activates i)) = set l (i * 12) 3
octets_done l o p (Ok (Deed.Learns i)) = sets l (i * 12) (entry_octets State.Active o p)
octets_done l o p (Ok (Deed.Closes i)) = sets l (i * 12) blank_octets

abbrev pub with_fault : Result Taken TableRefusal → Result Taken StepFault
with_fault (Ok k) = Ok k
with_fault (Err k) = Err (StepFault.Refused k)

-- 25 before all else
unfoldable pub replying : List ℕ → ℕ → List ℕ → List ℕ → Result Taken StepFault
replying l n o p = cond (ltb (length l) table_size) (Err StepFault.NoRoom) (with_fault (answered (deed_of (entries_in l) (event_in n) o p)))

unfoldable pub leaving : List ℕ → ℕ → List ℕ → List ℕ → List ℕ
leaving l n o p = cond (ltb (length l) table_size) l (octets_done l o (told_by (event_in n) p) (deed_of (entries_in l) (event_in n) o p))

-- The answer as one number: the status in its lowest octet; if that is 0, then what was done (1 opened, 2 kept, 3 closed), then the entry

abbrev pub done_number : ℕ → ℕ → ℕ
done_number what room = what * 256 + room * 65536

abbrev pub taken_number : Taken → ℕ
taken_number (Taken.Opened i) = done_number 1 i
taken_number (Taken.Kept i) = done_number 2 i
taken_number (Taken.Closed i) = done_number 3 i

abbrev pub fault_number : StepFault → ℕ
fault_number StepFault.NoRoom = 25
fault_number (StepFault.Refused k) = refusal_number k

abbrev pub reply_number : Result Taken StepFault → ℕ
reply_number (Ok k) = taken_number k
reply_number (Err f) = fault_number f

-- the room is one of the table's
abbrev pub InTable : Result Taken TableRefusal → Type 0
InTable (Err k) = Unit {0}
InTable (Ok (Taken.Opened i)) = i < capacity
InTable (Ok (Taken.Kept i)) = i < capacity
InTable (Ok (Taken.Closed i)) = i < capacity

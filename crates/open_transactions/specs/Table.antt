-- Open transactions: the table, and what each event does in it (document 02, §10). Assumes nothing: these are definitions.
use Rattle.tcap.specs.declared.DestTransactionId.{DestTransactionId}
use Rattle.std.specs.Prelude.{ℕ, suc, Option as Optional, Some, None, Result, Ok, Err}
use mathlib.Core.{Bool.Bool, Bool.false, Bool.cond, Bool.not, List.List, List.[], List.◌∷◌}
use lib.{ListN.set, ListN.length, ListN.get_or, ListN.replicate, Dec.eqb}
use Rattle.transaction_states.specs.declared.{State.State, Event.Event, TableRefusal.TableRefusal, Deed.Deed}
use Rattle.open_transactions.specs.declared.{Entry.Entry, Table.Table, Stepped.Stepped}
use Rattle.transaction_states.specs.Events.{move_of, begins_of, told_by, ids_ok, is_open, opening, moving, answered}

abbrev pub capacity : ℕ
capacity = 64

abbrev pub blank_entry : Entry
blank_entry = record { state = State.Idle; ours = record { 0 = record { octets = record { place = 0; len = 0 } } }; partner = None; octets = replicate 8 0 }

abbrev pub empty_table : Table
empty_table = record { entries = replicate capacity blank_entry }

-- Entries

unfoldable pub is_free : Entry → Bool
is_free e = not (is_open e.state)

-- the octets of both IDs, ours from 0 on and the partner's from 4 on; behind an ID's octets there are zeros
abbrev pub octets_for : List ℕ → List ℕ → List ℕ
octets_for o p = get_or o 0 0 ∷ get_or o 1 0 ∷ get_or o 2 0 ∷ get_or o 3 0 ∷ get_or p 0 0 ∷ get_or p 1 0 ∷ get_or p 2 0 ∷ get_or p 3 0 ∷ []

-- the partner's ID once it is known, by its length
unfoldable pub partner_of : ℕ → Optional DestTransactionId
partner_of n = cond (eqb n 0) None (Some (record { 0 = record { octets = record { place = 4; len = n } } }))

unfoldable pub entry_for : State → List ℕ → List ℕ → Entry
entry_for s o p = record { state = s; ours = record { 0 = record { octets = record { place = 0; len = length o } } }; partner = partner_of (length p); octets = octets_for o p }

abbrev pub active_now : Entry → Entry
active_now e = record { state = State.Active; ours = e.ours; partner = e.partner; octets = e.octets }

-- the ID that an entry is kept under: so many octets, and the same ones
unfoldable pub same_id : Entry → List ℕ → Bool
same_id e id =
    cond (eqb e.ours.0.octets.len (length id))
    (cond (eqb (get_or e.octets 0 0) (get_or id 0 0))
    (cond (eqb (get_or e.octets 1 0) (get_or id 1 0))
    (cond (eqb (get_or e.octets 2 0) (get_or id 2 0)) (eqb (get_or e.octets 3 0) (get_or id 3 0)) false) false) false) false

unfoldable pub holds : List ℕ → Entry → Bool
holds id e = cond (is_open e.state) (same_id e id) false

-- the first entry that passes a test
unfoldable pub find_from : (Entry → Bool) → ℕ → List Entry → Optional ℕ
find_from t i [] = None
find_from t i (e ∷ es) = cond (t e) (Some i) (find_from t (suc i) es)

-- What is to be done, over the entries of a table

-- 41: a Begin under an ID in use
unfoldable pub begin_deed : List Entry → State → Optional ℕ → Result Deed TableRefusal
begin_deed es s (Some i) = Err TableRefusal.InUse
begin_deed es s None = opening s (find_from is_free 0 es)

-- 41: another event under an ID that is not known
unfoldable pub other_deed : List Entry → Event → Optional ℕ → Result Deed TableRefusal
other_deed es e None = Err TableRefusal.Unknown
other_deed es e (Some i) = moving i (move_of e (get_or es i blank_entry).state)

unfoldable pub found_deed : List Entry → Event → Optional State → Optional ℕ → Result Deed TableRefusal
found_deed es e (Some s) at = begin_deed es s at
found_deed es e None at = other_deed es e at

unfoldable pub deed_of : List Entry → Event → List ℕ → List ℕ → Result Deed TableRefusal
deed_of es e o p = cond (ids_ok e o p) (found_deed es e (begins_of e) (find_from (holds o) 0 es)) (Err TableRefusal.BadId)

-- What is answered, and the table after it

abbrev pub with_entry : Table → ℕ → Entry → Table
with_entry t i e = record { entries = set t.entries i e }

unfoldable pub done : Table → List ℕ → List ℕ → Result Deed TableRefusal → Table
done t o p (Err k) = t
done t o p (Ok (Deed.Opens i s)) = with_entry t i (entry_for s o p)
done t o p (Ok (Deed.Keeps i)) = t
done t o p (Ok (Deed.Activates i)) = with_entry t i (active_now (get_or t.entries i blank_entry))
done t o p (Ok (Deed.Learns i)) = with_entry t i (entry_for State.Active o p)
done t o p (Ok (Deed.Closes i)) = with_entry t i blank_entry

abbrev pub outcome : Table → List ℕ → List ℕ → Result Deed TableRefusal → Stepped
outcome t o p d = record { taken = answered d; table = done t o p d }

unfoldable pub stepped : Table → Event → List ℕ → List ℕ → Stepped
stepped t e o p = outcome t o (told_by e p) (deed_of t.entries e o p)

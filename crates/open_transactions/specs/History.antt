-- Histories of events from the empty table, what is counted over them, and what the page says of one ID. Assumes nothing: these are definitions.
use Rattle.tcap.specs.declared.DestTransactionId.{DestTransactionId}
use Rattle.std.specs.Prelude.{ℕ, ◌+◌, Option as Optional, Some, None, Result, Ok, Err}
use mathlib.Core.{Bool.Bool, Bool.true, Bool.false, Bool.cond, List.List, List.[], List.◌∷◌, Option.Option, Option.none, Option.some}
use lib.{ListN.get_or, ListN.take, ListN.drop}
use Rattle.transaction_states.specs.declared.{State.State, Event.Event, Move.Move, TableRefusal.TableRefusal, Taken.Taken}
use Rattle.open_transactions.specs.declared.{Entry.Entry, Table.Table, Stepped.Stepped}
use Rattle.transaction_states.specs.Events.{is_open, move_of, begins_of, told_by, ids_ok, refusal_number}
use Rattle.open_transactions.specs.Table.{blank_entry, empty_table, holds, find_from, stepped}

-- A history: events from the first to the last, with the IDs that they name

pub record Happening : Type 0 where
  pub event : Event
  pub ours : List ℕ
  pub partner : List ℕ

abbrev pub after : Table → Happening → Stepped
after t h = stepped t h.event h.ours h.partner

unfoldable pub table_from : Table → List Happening → Table
table_from t [] = t
table_from t (h ∷ hs) = table_from (after t h).table hs

abbrev pub reached : List Happening → Table
reached hs = table_from empty_table hs

-- Counts

abbrev pub one : Bool → ℕ
one true = 1
one false = 0

unfoldable pub count_in : (Entry → Bool) → List Entry → ℕ
count_in t [] = 0
count_in t (e ∷ es) = one (t e) + count_in t es

abbrev pub is_open_entry : Entry → Bool
is_open_entry e = is_open e.state

-- the number open
abbrev pub open_in : Table → ℕ
open_in t = count_in is_open_entry t.entries

abbrev pub is_opened : Result Taken TableRefusal → Bool
is_opened (Err k) = false
is_opened (Ok (Taken.Opened i)) = true
is_opened (Ok (Taken.Kept i)) = false
is_opened (Ok (Taken.Closed i)) = false

abbrev pub is_closed : Result Taken TableRefusal → Bool
is_closed (Err k) = false
is_closed (Ok (Taken.Opened i)) = false
is_closed (Ok (Taken.Kept i)) = false
is_closed (Ok (Taken.Closed i)) = true

-- the number told: a refusal's, or 0
abbrev pub taken_status : Result Taken TableRefusal → ℕ
taken_status (Err k) = refusal_number k
taken_status (Ok (Taken.Opened i)) = 0
taken_status (Ok (Taken.Kept i)) = 0
taken_status (Ok (Taken.Closed i)) = 0

-- how many events of a history were taken so
unfoldable pub how_many : (Result Taken TableRefusal → Bool) → Table → List Happening → ℕ
how_many q t [] = 0
how_many q t (h ∷ hs) = one (q (after t h).taken) + how_many q (after t h).table hs

-- What is known of an ID: its state, and the partner's ID once known

pub record Known : Type 0 where
  pub state : State
  pub partner : Option (List ℕ)

abbrev pub partner_in : List ℕ → Optional DestTransactionId → Option (List ℕ)
partner_in c None = none
partner_in c (Some d) = some (take d.0.octets.len (drop d.0.octets.place c))

abbrev pub known_entry : Entry → Known
known_entry e = record { state = e.state; partner = partner_in e.octets e.partner }

abbrev pub known_at : List Entry → Optional ℕ → Option Known
known_at es None = none
known_at es (Some i) = some (known_entry (get_or es i blank_entry))

unfoldable pub known_of : Table → List ℕ → Option Known
known_of t id = known_at t.entries (find_from (holds id) 0 t.entries)

-- What the page says of one ID: the answer, and what is known of it then. There are no rooms in it.

pub data Answer : Type 0 where
  refused : TableRefusal → Answer
  opened : Answer
  kept : Answer
  closed : Answer

abbrev pub answer_of : Result Taken TableRefusal → Answer
answer_of (Err k) = refused k
answer_of (Ok (Taken.Opened i)) = opened
answer_of (Ok (Taken.Kept i)) = kept
answer_of (Ok (Taken.Closed i)) = closed

-- the partner's ID, if the event carries one
abbrev pub given : List ℕ → Option (List ℕ)
given [] = none
given (x ∷ r) = some (x ∷ r)

abbrev pub page_moves : Known → Option (List ℕ) → Move → Answer × Option Known
page_moves k p Move.Barred = (refused TableRefusal.NotAllowed, some k)
page_moves k p Move.Stay = (kept, some k)
page_moves k p Move.Activate = (kept, some (record { state = State.Active; partner = k.partner }))
page_moves k p Move.Learn = (kept, some (record { state = State.Active; partner = p }))
page_moves k p Move.Close = (closed, none)

abbrev pub page_opens : Bool → State → Option (List ℕ) → Answer × Option Known
page_opens true s p = (refused TableRefusal.Full, none)
page_opens false s p = (opened, some (record { state = s; partner = p }))

abbrev pub page_knows : Bool → Event → Option (List ℕ) → Optional State → Option Known → Answer × Option Known
page_knows full e p (Some s) (some k) = (refused TableRefusal.InUse, some k)
page_knows full e p (Some s) none = page_opens full s p
page_knows full e p None none = (refused TableRefusal.Unknown, none)
page_knows full e p None (some k) = page_moves k p (move_of e k.state)

unfoldable pub page_says : Bool → Event → List ℕ → List ℕ → Option Known → Answer × Option Known
page_says full e o p k = cond (ids_ok e o p) (page_knows full e (given (told_by e p)) (begins_of e) k) (refused TableRefusal.BadId, k)

-- What an event does to a transaction, by its state (document 02, §10). Assumes nothing: these are definitions.
use Rattle.std.specs.Prelude.{ℕ, Option as Optional, Some, None, Result, Ok, Err}
use mathlib.Core.{Bool.Bool, Bool.true, Bool.false, Bool.cond, List.List, List.[]}
use lib.{Dec.eqb}
use Rattle.tcap.specs.WellFormed.{id_ok}
use Rattle.transaction_states.specs.declared.{State.State, Event.Event, Move.Move, TableRefusal.TableRefusal, Deed.Deed, Taken.Taken}

-- The page's table: what an event does to an open transaction in a state

-- Continue, sent or received
abbrev pub continuing : Bool → State → Move
continuing sent State.Idle = Move.Barred
continuing sent State.InitiationSent = cond sent Move.Barred Move.Learn
continuing sent State.InitiationReceived = cond sent Move.Activate Move.Barred
continuing sent State.Active = Move.Stay

-- End and Abort, sent or received
abbrev pub closing : Bool → State → Move
closing sent State.Idle = Move.Barred
closing sent State.InitiationSent = cond sent Move.Barred Move.Close
closing sent State.InitiationReceived = cond sent Move.Close Move.Barred
closing sent State.Active = Move.Close

abbrev pub move_of : Event → State → Move
move_of Event.BeginSent s = Move.Barred
move_of Event.BeginReceived s = Move.Barred
move_of Event.ContinueSent s = continuing true s
move_of Event.ContinueReceived s = continuing false s
move_of Event.EndSent s = closing true s
move_of Event.EndReceived s = closing false s
move_of Event.AbortSent s = closing true s
move_of Event.AbortReceived s = closing false s
move_of Event.LocalClose s = Move.Close
move_of Event.Other s = Move.Barred

-- Begin opens one, in the initiation state of that name
abbrev pub begins_of : Event → Optional State
begins_of Event.BeginSent = Some State.InitiationSent
begins_of Event.BeginReceived = Some State.InitiationReceived
begins_of Event.ContinueSent = None
begins_of Event.ContinueReceived = None
begins_of Event.EndSent = None
begins_of Event.EndReceived = None
begins_of Event.AbortSent = None
begins_of Event.AbortReceived = None
begins_of Event.LocalClose = None
begins_of Event.Other = None

-- the events that carry the partner's ID
abbrev pub tells : Event → Bool
tells Event.BeginSent = false
tells Event.BeginReceived = true
tells Event.ContinueSent = false
tells Event.ContinueReceived = true
tells Event.EndSent = false
tells Event.EndReceived = false
tells Event.AbortSent = false
tells Event.AbortReceived = false
tells Event.LocalClose = false
tells Event.Other = false

-- of the others it is neither asked nor kept
abbrev pub told_by : Event → List ℕ → List ℕ
told_by e p = cond (tells e) p []

-- 40: our ID, and the partner's where the event carries one
unfoldable pub ids_ok : Event → List ℕ → List ℕ → Bool
ids_ok e o p = cond (id_ok o) (cond (tells e) (id_ok p) true) false

-- idle is no open transaction: it is what free room is in
abbrev pub is_open : State → Bool
is_open State.Idle = false
is_open State.InitiationSent = true
is_open State.InitiationReceived = true
is_open State.Active = true

-- What is to be done in which room

-- an opening takes the first free room: 43 where there is none
abbrev pub opening : State → Optional ℕ → Result Deed TableRefusal
opening s None = Err TableRefusal.Full
opening s (Some i) = Ok (Deed.Opens i s)

-- 42 where the event is not allowed in the state
abbrev pub moving : ℕ → Move → Result Deed TableRefusal
moving i Move.Barred = Err TableRefusal.NotAllowed
moving i Move.Stay = Ok (Deed.Keeps i)
moving i Move.Activate = Ok (Deed.Activates i)
moving i Move.Learn = Ok (Deed.Learns i)
moving i Move.Close = Ok (Deed.Closes i)

-- What is answered

abbrev pub taken_of : Deed → Taken
taken_of (Deed.Opens i s) = Taken.Opened i
taken_of (Deed.Keeps i) = Taken.Kept i
taken_of (Deed.Activates i) = Taken.Kept i
taken_of (Deed.Learns i) = Taken.Kept i
taken_of (Deed.Closes i) = Taken.Closed i

abbrev pub answered : Result Deed TableRefusal → Result Taken TableRefusal
answered (Err k) = Err k
answered (Ok d) = Ok (taken_of d)

-- Numbers, as C is told them

abbrev pub refusal_number : TableRefusal → ℕ
refusal_number TableRefusal.BadId = 40
refusal_number TableRefusal.InUse = 41
refusal_number TableRefusal.Unknown = 41
refusal_number TableRefusal.NotAllowed = 42
refusal_number TableRefusal.Full = 43

-- events 1 to 9 in the page's order, each sent then received; every other number is an event that is not named
unfoldable pub event_in : ℕ → Event
event_in n =
    cond (eqb n 1) Event.BeginSent
    (cond (eqb n 2) Event.BeginReceived
    (cond (eqb n 3) Event.ContinueSent
    (cond (eqb n 4) Event.ContinueReceived
    (cond (eqb n 5) Event.EndSent
    (cond (eqb n 6) Event.EndReceived
    (cond (eqb n 7) Event.AbortSent (cond (eqb n 8) Event.AbortReceived (cond (eqb n 9) Event.LocalClose Event.Other))))))))

-- a state: with an octet other than 1, 2, 3 the room is free
abbrev pub state_in : ℕ → State
state_in n = cond (eqb n 1) State.InitiationSent (cond (eqb n 2) State.InitiationReceived (cond (eqb n 3) State.Active State.Idle))

abbrev pub state_octet : State → ℕ
state_octet State.Idle = 0
state_octet State.InitiationSent = 1
state_octet State.InitiationReceived = 2
state_octet State.Active = 3

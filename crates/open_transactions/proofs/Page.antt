-- A step answers and changes what the page says of its ID; and the page's table, computed. Assumes nothing.
use Rattle.std.specs.Prelude.{Option as Optional, Some, None, Result}
use Prim.Native.Nat.{ℕ, ◌<◌}
use native.Mathlib.Omega.{arith}
use mathlib.Core.Path.{◌≡◌, refl, sym, ap, ◌∙◌}
use mathlib.Core.Logic.{◌↔◌}
use mathlib.Core.Bool.{Bool, true, false, false≢true}
use mathlib.Core.List.{List, [], ◌∷◌, map}
use mathlib.Core.Option.{Option, none, some}
use lib.ListN.{length, get_or, set}
use lib.Seq.{get_or-set_same}
use lib.Dec.{eqb}
use borrow.Author.Tests.{eq-eqb, ne_eqb}
use Rattle.transaction_states.specs.declared.{State.State, Event.Event, Move.Move, TableRefusal.TableRefusal, Deed.Deed}
use Rattle.open_transactions.specs.declared.{Entry.Entry, Table.Table}
use Rattle.tcap.specs.WellFormed.{id_ok}
use Rattle.transaction_states.specs.Events.{is_open, move_of, begins_of, told_by, ids_ok, opening, moving, answered, refusal_number}
use Rattle.open_transactions.specs.Table.{blank_entry, is_free, holds, find_from, entry_for, active_now, begin_deed, other_deed, found_deed, deed_of, with_entry, done, stepped}
use Rattle.open_transactions.specs.History.{one, count_in, is_open_entry, open_in, Known, known_entry, known_at, known_of, Answer, refused, opened, kept, closed, answer_of, given, page_moves, page_opens, page_knows, page_says}
use Rattle.open_transactions.proofs.Doing.{ids_short}
use Rattle.open_transactions.proofs.Counting.{first_of_lem, set_count, none_count, count_none, passes_counted, set_found, count_both, Late}
use Rattle.open_transactions.proofs.Holding.{blank_holds, made_holds, active_holds, partner_stands}
use Rattle.open_transactions.proofs.Happening.{begins_open, Sound}

-- what is known of an entry that was made
known_made : (s : State) (o p : List ℕ) → length p < 5 → known_entry (entry_for s o p) ≡ record { state = s; partner = given p }
unfolding entry_for
known_made s o p h = ap (λ (x : Option (List ℕ)). record { state = s; partner = x }) (partner_stands s o p h)

-- no room is free where 64 are open, and only there
module _ (es : List Entry) (size : length es ≡ 64) where
  all_open : find_from is_free 0 es ≡ None → count_in is_open_entry es ≡ 64
  unfolding is_free
  all_open f = omega (arith, size, count_both is_open_entry es, none_count is_free 0 es f)

  some_free : (i : ℕ) → find_from is_free 0 es ≡ Some i → count_in is_open_entry es < 64
  unfolding is_free
  some_free i f = let g = first_of_lem is_free i es f in omega (arith, size, count_both is_open_entry es, passes_counted is_free es i g.within g.passes)

module _ (t : Table) (z : Sound t.entries) (o p : List ℕ) (short : length o < 5) (told : length p < 5) where
  -- what the page says, and what is done
  abbrev Says : Answer × Option Known → Result Deed TableRefusal → Type 0
  Says a d = (answer_of (answered d), known_of (done t o p d) o) ≡ a

  known_stored : (i : ℕ) (e : Entry) → i < length t.entries → holds o e ≡ true → Late (holds o) i (find_from (holds o) 0 t.entries) → known_of (with_entry t i e) o ≡ some (known_entry e)
  unfolding known_of
  known_stored i e l h f = rw (set_found (holds o) t.entries i e l h f, get_or-set_same t.entries i e blank_entry l)

  known_shut : (i : ℕ) → find_from (holds o) 0 t.entries ≡ Some i → known_of (with_entry t i blank_entry) o ≡ none
  unfolding known_of
  known_shut i f =
      let g = first_of_lem (holds o) i t.entries f in
      let c = set_count (holds o) t.entries i blank_entry g.within in
      let a : one (holds o (get_or t.entries i blank_entry)) ≡ 1 = rw g.passes in
      let b : one (holds o blank_entry) ≡ 0 = rw (blank_holds o) in
      rw (count_none (holds o) 0 (set t.entries i blank_entry) (omega (arith, c, a, b, z.unique o)))

  open_says : (s : State) → is_open s ≡ true → find_from (holds o) 0 t.entries ≡ None → (r : Optional ℕ) → find_from is_free 0 t.entries ≡ r → Says (page_opens (eqb (open_in t) 64) s (given p)) (opening s r)
  unfolding done known_of
  open_says s w n None f = rw (eq-eqb (open_in t) 64 (all_open t.entries z.size f), n)
  open_says s w n (Some i) f =
      let less = some_free t.entries z.size i f in
      let k : known_of (with_entry t i (entry_for s o p)) o ≡ some (known_entry (entry_for s o p)) =
      known_stored i (entry_for s o p) (first_of_lem is_free i t.entries f).within (made_holds s o p w) (rw n tt) in
      rw (ne_eqb (open_in t) 64 (λ q. omega (arith, less, q)), k, known_made s o p told)

  begin_says : (e : Event) (s : State) → is_open s ≡ true → (r : Optional ℕ) → find_from (holds o) 0 t.entries ≡ r → Says (page_knows (eqb (open_in t) 64) e (given p) (Some s) (known_at t.entries r)) (begin_deed t.entries s r)
  unfolding done known_of begin_deed
  begin_says e s w (Some i) f = rw f
  begin_says e s w None f = open_says s w f (find_from is_free 0 t.entries) refl

  move_says : (i : ℕ) → find_from (holds o) 0 t.entries ≡ Some i → (v : Move) → Says (page_moves (known_entry (get_or t.entries i blank_entry)) (given p) v) (moving i v)
  unfolding done known_of
  move_says i f Move.Barred = rw f
  move_says i f Move.Stay = rw f
  move_says i f Move.Activate =
      let g = first_of_lem (holds o) i t.entries f in
      let k = known_stored i (active_now (get_or t.entries i blank_entry)) g.within (active_holds o (get_or t.entries i blank_entry) g.passes) (rw f (omega arith)) in
      ap (λ (x : Option Known). (kept, x)) k
  move_says i f Move.Learn =
      let g = first_of_lem (holds o) i t.entries f in
      let k = known_stored i (entry_for State.Active o p) g.within (made_holds State.Active o p refl) (rw f (omega arith)) in
      ap (λ (x : Option Known). (kept, x)) (k ∙ ap some (known_made State.Active o p told))
  move_says i f Move.Close = ap (λ (x : Option Known). (closed, x)) (known_shut i f)

  found_says : (e : Event) (b : Optional State) → begins_of e ≡ b → (r : Optional ℕ) → find_from (holds o) 0 t.entries ≡ r → Says (page_knows (eqb (open_in t) 64) e (given p) b (known_at t.entries r)) (found_deed t.entries e b r)
  unfolding done known_of found_deed other_deed
  found_says e (Some s) q r f = begin_says e s (begins_open e s q) r f
  found_says e None q None f = rw f
  found_says e None q (Some i) f = move_says i f (move_of e (get_or t.entries i blank_entry).state)

pub step_says : (t : Table) → Sound t.entries → (e : Event) (o p : List ℕ) → (answer_of (stepped t e o p).taken, known_of (stepped t e o p).table o) ≡ page_says (eqb (open_in t) 64) e o p (known_of t o)
unfolding stepped deed_of done page_says known_of
step_says t z e o p = by_ids (ids_ok e o p) refl
  where
    by_ids : (b : Bool) → ids_ok e o p ≡ b → (answer_of (stepped t e o p).taken, known_of (stepped t e o p).table o) ≡ page_says (eqb (open_in t) 64) e o p (known_of t o)
    by_ids true q =
        let s = ids_short e o p q in
        rw q (found_says t z o (told_by e p) s.ours s.partner e (begins_of e) refl (find_from (holds o) 0 t.entries) refl)
    by_ids false q = rw q

-- The number, over what the page says

abbrev pub number_of : Answer → ℕ
number_of (refused k) = refusal_number k
number_of opened = 0
number_of kept = 0
number_of closed = 0

abbrev pub begins : Optional State → Bool
begins (Some s) = true
begins None = false

abbrev pub is_known : Option Known → Bool
is_known none = false
is_known (some k) = true

-- 41: a Begin under an ID that is known, or another event under one that is not
pub record Mismatched (e : Event) (o p : List ℕ) (k : Option Known) : Type 0 where
  pub sound : ids_ok e o p ≡ true
  pub wrong : begins (begins_of e) ≡ is_known k

-- 42: the state does not allow it
pub record BarredFor (e : Event) (o p : List ℕ) (k : Option Known) : Type 0 where
  pub sound : ids_ok e o p ≡ true
  pub other : begins (begins_of e) ≡ false
  pub entry : Known
  pub known : k ≡ some entry
  pub barred : move_of e entry.state ≡ Move.Barred

-- 43: the IDs are sound, ours is not known, and 64 are open
pub record FullFor (full : Bool) (e : Event) (o p : List ℕ) (k : Option Known) : Type 0 where
  pub opens : begins (begins_of e) ≡ true
  pub sound : ids_ok e o p ≡ true
  pub unknown : k ≡ none
  pub all : full ≡ true

pub data Why (full : Bool) (e : Event) (o p : List ℕ) (k : Option Known) : ℕ → Type 0 where
  why_40 : ids_ok e o p ≡ false → Why full e o p k 40
  why_41 : Mismatched e o p k → Why full e o p k 41
  why_42 : BarredFor e o p k → Why full e o p k 42
  why_43 : FullFor full e o p k → Why full e o p k 43
  why_0 : Why full e o p k 0

why_moves : (full : Bool) (e : Event) (o p : List ℕ) (k : Known) → ids_ok e o p ≡ true → begins (begins_of e) ≡ false → (v : Move) → move_of e k.state ≡ v → Why full e o p (some k) (number_of (page_moves k (given (told_by e p)) v).0)
why_moves full e o p k q r Move.Barred h = why_42 (record { sound = q; other = r; entry = k; known = refl; barred = h })
why_moves full e o p k q r Move.Stay h = why_0
why_moves full e o p k q r Move.Activate h = why_0
why_moves full e o p k q r Move.Learn h = why_0
why_moves full e o p k q r Move.Close h = why_0

pub why_says : (full : Bool) (e : Event) (o p : List ℕ) (k : Option Known) → Why full e o p k (number_of (page_says full e o p k).0)
unfolding page_says
why_says full e o p k = by_ids full k (ids_ok e o p) refl (begins_of e) refl
  where
    by_ids : (f : Bool) (m : Option Known) (b : Bool) → ids_ok e o p ≡ b → (c : Optional State) → begins_of e ≡ c → Why f e o p m (number_of (page_says f e o p m).0)
    by_ids f m false q c r = rw q (why_40 q)
    by_ids f (some m) true q (Some s) r = rw (q, r) (why_41 (record { sound = q; wrong = rw r }))
    by_ids true none true q (Some s) r = rw (q, r) (why_43 (record { opens = rw r; sound = q; unknown = refl; all = refl }))
    by_ids false none true q (Some s) r = rw (q, r) why_0
    by_ids f none true q None r = rw (q, r) (why_41 (record { sound = q; wrong = rw r }))
    by_ids f (some m) true q None r = rw (q, r) (why_moves f e o p m q (rw r) (move_of e m.state) refl)

module _ {full : Bool} {e : Event} {o p : List ℕ} {k : Option Known} where
  only_40 : Why full e o p k 40 → ids_ok e o p ≡ false
  only_40 (why_40 h) = h

  only_41 : Why full e o p k 41 → Mismatched e o p k
  only_41 (why_41 h) = h

  only_42 : Why full e o p k 42 → BarredFor e o p k
  only_42 (why_42 h) = h

  only_43 : Why full e o p k 43 → FullFor full e o p k
  only_43 (why_43 h) = h

module _ (full : Bool) (e : Event) (o p : List ℕ) (k : Option Known) where
  abbrev number : ℕ
  number = number_of (page_says full e o p k).0

  pub says_40 : (number ≡ 40) ↔ (ids_ok e o p ≡ false)
  unfolding page_says
  says_40 = (λ h. only_40 (rw h at (why_says full e o p k)), λ h. rw h)

  pub says_41 : (number ≡ 41) ↔ Mismatched e o p k
  unfolding page_says
  says_41 = (λ h. only_41 (rw h at (why_says full e o p k)), λ w. back w (begins_of e) refl k refl)
    where
      back : Mismatched e o p k → (c : Optional State) → begins_of e ≡ c → (m : Option Known) → k ≡ m → number ≡ 41
      back w (Some s) r (some m) n = rw (w.sound, r, n)
      back w (Some s) r none n = let y : true ≡ false = (rw (r, n) at w.wrong) in absurd (false≢true (sym y))
      back w None r none n = rw (w.sound, r, n)
      back w None r (some m) n = absurd (false≢true (rw (r, n) at w.wrong))

  pub says_42 : (number ≡ 42) ↔ BarredFor e o p k
  unfolding page_says
  says_42 = (λ h. only_42 (rw h at (why_says full e o p k)), λ w. back w (begins_of e) refl)
    where
      back : BarredFor e o p k → (c : Optional State) → begins_of e ≡ c → number ≡ 42
      back w (Some s) r = let y : true ≡ false = (rw r at w.other) in absurd (false≢true (sym y))
      back w None r = rw (w.sound, r, w.known, w.barred)

  pub says_43 : (number ≡ 43) ↔ FullFor full e o p k
  unfolding page_says
  says_43 = (λ h. only_43 (rw h at (why_says full e o p k)), λ w. back w (begins_of e) refl)
    where
      back : FullFor full e o p k → (c : Optional State) → begins_of e ≡ c → number ≡ 43
      back w (Some s) r = rw (w.sound, r, w.unknown, w.all)
      back w None r = absurd (false≢true (rw r at w.opens))

-- The page's table, computed: each event in each state, the number of its refusal (0: taken) and the state after it

abbrev in_state : State → Option Known
in_state State.Idle = none
in_state State.InitiationSent = some (record { state = State.InitiationSent; partner = none })
in_state State.InitiationReceived = some (record { state = State.InitiationReceived; partner = some (0x50 ∷ []) })
in_state State.Active = some (record { state = State.Active; partner = some (0x50 ∷ []) })

abbrev state_after : Option Known → State
state_after none = State.Idle
state_after (some k) = k.state

abbrev told : Answer × Option Known → ℕ × State
told a = (number_of a.0, state_after a.1)

abbrev every_state : List State
every_state = State.Idle ∷ State.InitiationSent ∷ State.InitiationReceived ∷ State.Active ∷ []

abbrev every_event : List Event
every_event = Event.BeginSent ∷ Event.BeginReceived ∷ Event.ContinueSent ∷ Event.ContinueReceived ∷ Event.EndSent ∷ Event.EndReceived ∷ Event.AbortSent ∷ Event.AbortReceived ∷ Event.LocalClose ∷ Event.Other ∷ []

abbrev in_each : Event → List (ℕ × State)
in_each e = map (λ s. told (page_says false e (0x41 ∷ []) (0x51 ∷ []) (in_state s))) every_state

pub page : map in_each every_event ≡
    ((0, State.InitiationSent) ∷ (41, State.InitiationSent) ∷ (41, State.InitiationReceived) ∷ (41, State.Active) ∷ []) ∷
    ((0, State.InitiationReceived) ∷ (41, State.InitiationSent) ∷ (41, State.InitiationReceived) ∷ (41, State.Active) ∷ []) ∷
    ((41, State.Idle) ∷ (42, State.InitiationSent) ∷ (0, State.Active) ∷ (0, State.Active) ∷ []) ∷
    ((41, State.Idle) ∷ (0, State.Active) ∷ (42, State.InitiationReceived) ∷ (0, State.Active) ∷ []) ∷
    ((41, State.Idle) ∷ (42, State.InitiationSent) ∷ (0, State.Idle) ∷ (0, State.Idle) ∷ []) ∷
    ((41, State.Idle) ∷ (0, State.Idle) ∷ (42, State.InitiationReceived) ∷ (0, State.Idle) ∷ []) ∷
    ((41, State.Idle) ∷ (42, State.InitiationSent) ∷ (0, State.Idle) ∷ (0, State.Idle) ∷ []) ∷
    ((41, State.Idle) ∷ (0, State.Idle) ∷ (42, State.InitiationReceived) ∷ (0, State.Idle) ∷ []) ∷
    ((41, State.Idle) ∷ (0, State.Idle) ∷ (0, State.Idle) ∷ (0, State.Idle) ∷ []) ∷
    ((41, State.Idle) ∷ (42, State.InitiationSent) ∷ (42, State.InitiationReceived) ∷ (42, State.Active) ∷ []) ∷ []
unfolding page_says ids_ok id_ok
page = refl

-- The partner's ID after it: 50 is known before, 51 comes with the event

abbrev partner_after : Option Known → Option (List ℕ)
partner_after none = none
partner_after (some k) = k.partner

abbrev old : Option (List ℕ)
old = some (0x50 ∷ [])

abbrev new : Option (List ℕ)
new = some (0x51 ∷ [])

abbrev partners_of : Event → List (Option (List ℕ))
partners_of e = map (λ s. partner_after (page_says false e (0x41 ∷ []) (0x51 ∷ []) (in_state s)).1) every_state

pub page_partner : map partners_of every_event ≡
    (none ∷ none ∷ old ∷ old ∷ []) ∷
    (new ∷ none ∷ old ∷ old ∷ []) ∷
    (none ∷ none ∷ old ∷ old ∷ []) ∷
    (none ∷ new ∷ old ∷ old ∷ []) ∷
    (none ∷ none ∷ none ∷ none ∷ []) ∷
    (none ∷ none ∷ old ∷ none ∷ []) ∷
    (none ∷ none ∷ none ∷ none ∷ []) ∷
    (none ∷ none ∷ old ∷ none ∷ []) ∷
    (none ∷ none ∷ none ∷ none ∷ []) ∷
    (none ∷ none ∷ old ∷ old ∷ []) ∷ []
unfolding page_says ids_ok id_ok
page_partner = refl

-- The number by itself: our ID of 0 and of 5 octets, the partner's of 0 and of 5, all four unknown; then a full table, our ID unknown, and active

abbrev five : List ℕ
five = 1 ∷ 2 ∷ 3 ∷ 4 ∷ 5 ∷ []

abbrev numbers_of : Event → List ℕ
numbers_of e =
    map (λ (a : Answer × Option Known). number_of a.0)
    (page_says false e [] (0x51 ∷ []) none ∷
    page_says false e five (0x51 ∷ []) none ∷
    page_says false e (0x41 ∷ []) [] none ∷
    page_says false e (0x41 ∷ []) five none ∷
    page_says true e (0x41 ∷ []) (0x51 ∷ []) none ∷
    page_says true e (0x41 ∷ []) (0x51 ∷ []) (in_state State.Active) ∷ [])

pub page_number : map numbers_of every_event ≡
    (40 ∷ 40 ∷ 0 ∷ 0 ∷ 43 ∷ 41 ∷ []) ∷
    (40 ∷ 40 ∷ 40 ∷ 40 ∷ 43 ∷ 41 ∷ []) ∷
    (40 ∷ 40 ∷ 41 ∷ 41 ∷ 41 ∷ 0 ∷ []) ∷
    (40 ∷ 40 ∷ 40 ∷ 40 ∷ 41 ∷ 0 ∷ []) ∷
    (40 ∷ 40 ∷ 41 ∷ 41 ∷ 41 ∷ 0 ∷ []) ∷
    (40 ∷ 40 ∷ 41 ∷ 41 ∷ 41 ∷ 0 ∷ []) ∷
    (40 ∷ 40 ∷ 41 ∷ 41 ∷ 41 ∷ 0 ∷ []) ∷
    (40 ∷ 40 ∷ 41 ∷ 41 ∷ 41 ∷ 0 ∷ []) ∷
    (40 ∷ 40 ∷ 41 ∷ 41 ∷ 41 ∷ 0 ∷ []) ∷
    (40 ∷ 40 ∷ 41 ∷ 41 ∷ 41 ∷ 42 ∷ []) ∷ []
unfolding page_says ids_ok id_ok
page_number = refl

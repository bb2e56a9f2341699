-- What a step does to the entries, in one of five ways, and what each keeps. Assumes nothing.
use Rattle.std.specs.Prelude.{Option as Optional, Some, None, Result, Ok, Err}
use Prim.Native.Nat.{ℕ, zero, suc, ◌+◌, ◌<◌, ◌≤◌}
use native.Mathlib.Omega.{arith}
use mathlib.Core.Path.{◌≡◌, refl, sym, ◌∙◌}
use mathlib.Core.Bool.{Bool, true, false, false≢true}
use mathlib.Core.List.{List}
use lib.ListN.{length, get_or, set, replicate, length-set}
use lib.Seq.{get_or-set_same, get_or-set_other}
use lib.Dec.{eqb}
use borrow.Author.Tests.{eqb-true, eqb-false}
use Rattle.transaction_states.specs.declared.{State.State, Event.Event, Move.Move, TableRefusal.TableRefusal, Deed.Deed, Taken.Taken}
use Rattle.open_transactions.specs.declared.{Entry.Entry, Table.Table}
use Rattle.transaction_states.specs.Events.{is_open, move_of, begins_of, told_by, ids_ok, opening, moving, answered}
use Rattle.open_transactions.specs.Table.{blank_entry, empty_table, is_free, holds, find_from, entry_for, active_now, begin_deed, other_deed, found_deed, deed_of, done, stepped}
use Rattle.open_transactions.specs.History.{one, count_in, is_open_entry, is_opened, is_closed, known_at}
use Rattle.open_transactions.proofs.Doing.{ids_short}
use Rattle.open_transactions.proofs.Counting.{first_of_lem, set_count, none_count, known_stays}
use Rattle.open_transactions.proofs.Holding.{held_of, same_holders, one_id, other_id, blank_holds, free_shut, free_holds, made_holds, active_holds, ours_in, ours_stands}

-- the entries before, the entries after, and the answer
pub data Happened (o : List ℕ) : List Entry → List Entry → Result Taken TableRefusal → Type 0 where
  barred : {es : List Entry} {k : TableRefusal} → Happened o es es (Err k)
  stayed : {es : List Entry} {i : ℕ} → find_from (holds o) 0 es ≡ Some i → Happened o es es (Ok (Taken.Kept i))
  moved : {es : List Entry} {i : ℕ} (e : Entry) → length o < 5 → find_from (holds o) 0 es ≡ Some i → holds o e ≡ true → (ours_in (get_or es i blank_entry) ≡ o → ours_in e ≡ o) → Happened o es (set es i e) (Ok (Taken.Kept i))
  shut : {es : List Entry} {i : ℕ} → length o < 5 → find_from (holds o) 0 es ≡ Some i → Happened o es (set es i blank_entry) (Ok (Taken.Closed i))
  begun : {es : List Entry} {i : ℕ} (e : Entry) → length o < 5 → find_from (holds o) 0 es ≡ None → find_from is_free 0 es ≡ Some i → holds o e ≡ true → ours_in e ≡ o → Happened o es (set es i e) (Ok (Taken.Opened i))

-- Begin opens in one of the two initiation states
pub begins_open : (e : Event) (s : State) → begins_of e ≡ Some s → is_open s ≡ true
begins_open Event.BeginSent s h = let z : State.InitiationSent ≡ s = cc in rw (← z)
begins_open Event.BeginReceived s h = let z : State.InitiationReceived ≡ s = cc in rw (← z)
begins_open Event.ContinueSent s h = let z : ◌≡◌ {A = ℕ} 0 1 = cc in absurd (omega arith)
begins_open Event.ContinueReceived s h = let z : ◌≡◌ {A = ℕ} 0 1 = cc in absurd (omega arith)
begins_open Event.EndSent s h = let z : ◌≡◌ {A = ℕ} 0 1 = cc in absurd (omega arith)
begins_open Event.EndReceived s h = let z : ◌≡◌ {A = ℕ} 0 1 = cc in absurd (omega arith)
begins_open Event.AbortSent s h = let z : ◌≡◌ {A = ℕ} 0 1 = cc in absurd (omega arith)
begins_open Event.AbortReceived s h = let z : ◌≡◌ {A = ℕ} 0 1 = cc in absurd (omega arith)
begins_open Event.LocalClose s h = let z : ◌≡◌ {A = ℕ} 0 1 = cc in absurd (omega arith)
begins_open Event.Other s h = let z : ◌≡◌ {A = ℕ} 0 1 = cc in absurd (omega arith)

module _ (t : Table) (o p : List ℕ) (short : length o < 5) where
  abbrev Does : Result Deed TableRefusal → Type 0
  Does d = Happened o t.entries (done t o p d).entries (answered d)

  open_does : (s : State) → is_open s ≡ true → find_from (holds o) 0 t.entries ≡ None → (r : Optional ℕ) → find_from is_free 0 t.entries ≡ r → Does (opening s r)
  unfolding done
  open_does s w n None f = barred
  open_does s w n (Some i) f = begun (entry_for s o p) short n f (made_holds s o p w) (ours_stands s o p short)

  begin_does : (s : State) → is_open s ≡ true → (r : Optional ℕ) → find_from (holds o) 0 t.entries ≡ r → Does (begin_deed t.entries s r)
  unfolding done begin_deed
  begin_does s w (Some i) f = barred
  begin_does s w None f = open_does s w f (find_from is_free 0 t.entries) refl

  move_does : (i : ℕ) → find_from (holds o) 0 t.entries ≡ Some i → (v : Move) → Does (moving i v)
  unfolding done
  move_does i f Move.Barred = barred
  move_does i f Move.Stay = stayed f
  move_does i f Move.Activate = moved (active_now (get_or t.entries i blank_entry)) short f (active_holds o (get_or t.entries i blank_entry) (first_of_lem (holds o) i t.entries f).passes) (λ w. w)
  move_does i f Move.Learn = moved (entry_for State.Active o p) short f (made_holds State.Active o p refl) (λ w. ours_stands State.Active o p short)
  move_does i f Move.Close = shut short f

  found_does : (e : Event) (b : Optional State) → begins_of e ≡ b → (r : Optional ℕ) → find_from (holds o) 0 t.entries ≡ r → Does (found_deed t.entries e b r)
  unfolding done found_deed other_deed
  found_does e (Some s) q r f = begin_does s (begins_open e s q) r f
  found_does e None q None f = barred
  found_does e None q (Some i) f = move_does i f (move_of e (get_or t.entries i blank_entry).state)

pub step_does : (t : Table) (e : Event) (o p : List ℕ) → Happened o t.entries (stepped t e o p).table.entries (stepped t e o p).taken
unfolding stepped deed_of done
step_does t e o p = by_ids (ids_ok e o p) refl
  where
    by_ids : (b : Bool) → ids_ok e o p ≡ b → Happened o t.entries (stepped t e o p).table.entries (stepped t e o p).taken
    by_ids true q = rw q (found_does t o (told_by e p) (ids_short e o p q).ours e (begins_of e) refl (find_from (holds o) 0 t.entries) refl)
    by_ids false q = rw q barred

-- The number open

pub open_counts : {o : List ℕ} {es fs : List Entry} {k : Result Taken TableRefusal} → Happened o es fs k → count_in is_open_entry fs + one (is_closed k) ≡ count_in is_open_entry es + one (is_opened k)
open_counts barred = refl
open_counts (stayed f) = refl
open_counts {o} {es} (moved {i = i} e s f h w) =
    let g = first_of_lem (holds o) i es f in
    let c = set_count is_open_entry es i e g.within in
    let a : one (is_open_entry (get_or es i blank_entry)) ≡ 1 = rw (held_of o (get_or es i blank_entry) g.passes).live in
    let b : one (is_open_entry e) ≡ 1 = rw (held_of o e h).live in
    omega (arith, c, a, b)
open_counts {o} {es} (shut {i = i} s f) =
    let g = first_of_lem (holds o) i es f in
    let c = set_count is_open_entry es i blank_entry g.within in
    let a : one (is_open_entry (get_or es i blank_entry)) ≡ 1 = rw (held_of o (get_or es i blank_entry) g.passes).live in
    omega (arith, c, a)
open_counts {o} {es} (begun {i = i} e s n f h w) =
    let g = first_of_lem is_free i es f in
    let c = set_count is_open_entry es i e g.within in
    let a : one (is_open_entry (get_or es i blank_entry)) ≡ 0 = rw (free_shut (get_or es i blank_entry) g.passes) in
    let b : one (is_open_entry e) ≡ 1 = rw (held_of o e h).live in
    omega (arith, c, a, b)

-- 64 entries, and no two under one ID

pub record Sound (es : List Entry) : Type 0 where
  pub size : length es ≡ 64
  pub unique : (id : List ℕ) → count_in (holds id) es ≤ 1

pub empty_sound : Sound empty_table.entries
unfolding count_in holds
empty_sound = record { size = refl; unique = λ id. let z : count_in (holds id) (replicate 64 blank_entry) ≡ 0 = refl in omega (arith, z) }

at_most_one : (b : Bool) → one b ≤ 1
at_most_one true = omega arith
at_most_one false = omega arith

pub keeps_sound : {o : List ℕ} {es fs : List Entry} {k : Result Taken TableRefusal} → Happened o es fs k → Sound es → Sound fs
keeps_sound barred z = z
keeps_sound (stayed f) z = z
keeps_sound {o} {es} (moved {i = i} e s f h w) z =
    let g = first_of_lem (holds o) i es f in
    record {
      size = length-set es i e ∙ z.size;
      unique = λ id.
          let c = set_count (holds id) es i e g.within in
          let a : one (holds id (get_or es i blank_entry)) ≡ one (holds id e) = rw (same_holders (get_or es i blank_entry) e o id s g.passes h) in
          omega (arith, c, a, z.unique id);
    }
keeps_sound {o} {es} (shut {i = i} s f) z =
    let g = first_of_lem (holds o) i es f in
    record {
      size = length-set es i blank_entry ∙ z.size;
      unique = λ id.
          let c = set_count (holds id) es i blank_entry g.within in
          let a : one (holds id blank_entry) ≡ 0 = rw (blank_holds id) in
          omega (arith, c, a, z.unique id);
    }
keeps_sound {o} {es} (begun {i = i} e s n f h w) z =
    let g = first_of_lem is_free i es f in
    record {
      size = length-set es i e ∙ z.size;
      unique = λ id.
          let c = set_count (holds id) es i e g.within in
          let a : one (holds id (get_or es i blank_entry)) ≡ 0 = rw (free_holds id (get_or es i blank_entry) g.passes) in
          omega (arith, c, a, fresh id (holds id e) refl);
    }
  where
    fresh : (id : List ℕ) (b : Bool) → holds id e ≡ b → count_in (holds id) es + one (holds id e) ≤ 1
    fresh id true q = let w : count_in (holds id) es ≡ 0 = rw (one_id e o id s h q) (none_count (holds o) 0 es n) in omega (arith, w, at_most_one (holds id e))
    fresh id false q = let w : one (holds id e) ≡ 0 = rw q in omega (arith, w, z.unique id)

-- An entry that holds an ID has it at its place

abbrev pub Standing : List Entry → Type 0
Standing es = (i : ℕ) (id : List ℕ) → holds id (get_or es i blank_entry) ≡ true → ours_in (get_or es i blank_entry) ≡ id

blank_all : (n i : ℕ) → get_or (replicate n blank_entry) i blank_entry ≡ blank_entry
blank_all zero i = refl
blank_all (suc n) zero = refl
blank_all (suc n) (suc i) = blank_all n i

pub empty_standing : Standing empty_table.entries
empty_standing i id q = absurd (false≢true (sym (blank_holds id) ∙ (rw (blank_all 64 i) at q)))

stored_standing : (es : List Entry) (i : ℕ) (e : Entry) → i < length es → ((id : List ℕ) → holds id e ≡ true → ours_in e ≡ id) → Standing es → Standing (set es i e)
stored_standing es i e l own z j id q = by_room (eqb j i) refl
  where
    by_room : (b : Bool) → eqb j i ≡ b → ours_in (get_or (set es i e) j blank_entry) ≡ id
    by_room true t =
        let x : get_or (set es i e) j blank_entry ≡ e = rw (eqb-true j i t) (get_or-set_same es i e blank_entry l) in
        rw x (own id (rw x at q))
    by_room false t =
        let x = get_or-set_other es i j e blank_entry (eqb-false j i t) in
        rw x (z j id (rw x at q))

pub keeps_standing : {o : List ℕ} {es fs : List Entry} {k : Result Taken TableRefusal} → Happened o es fs k → Standing es → Standing fs
keeps_standing barred z = z
keeps_standing (stayed f) z = z
keeps_standing {o} {es} (moved {i = i} e s f h w) z =
    let g = first_of_lem (holds o) i es f in
    stored_standing es i e g.within (λ id q. w (z i o g.passes) ∙ sym (one_id e o id s h q)) z
keeps_standing {o} {es} (shut {i = i} s f) z = stored_standing es i blank_entry (first_of_lem (holds o) i es f).within (λ id q. absurd (false≢true (sym (blank_holds id) ∙ q))) z
keeps_standing {o} {es} (begun {i = i} e s n f h w) z = stored_standing es i e (first_of_lem is_free i es f).within (λ id q. w ∙ sym (one_id e o id s h q)) z

-- What is known of another ID

pub others_known : {o : List ℕ} {es fs : List Entry} {k : Result Taken TableRefusal} (id : List ℕ) → (id ≡ o → ⊥) → Happened o es fs k → known_at fs (find_from (holds id) 0 fs) ≡ known_at es (find_from (holds id) 0 es)
others_known id n barred = refl
others_known id n (stayed f) = refl
others_known {o} {es} id n (moved {i = i} e s f h w) = known_stays (holds id) es i e (other_id (get_or es i blank_entry) o id s n (first_of_lem (holds o) i es f).passes) (other_id e o id s n h)
others_known {o} {es} id n (shut {i = i} s f) = known_stays (holds id) es i blank_entry (other_id (get_or es i blank_entry) o id s n (first_of_lem (holds o) i es f).passes) (blank_holds id)
others_known {o} {es} id n (begun {i = i} e s u f h w) = known_stays (holds id) es i e (free_holds id (get_or es i blank_entry) (first_of_lem is_free i es f).passes) (other_id e o id s n h)

-- What the table promises over all histories from empty. Assumes nothing.
use Rattle.std.specs.Prelude.{Some, Result, Ok, Err}
use Prim.Native.Nat.{ℕ, ◌+◌, ◌<◌, ◌≤◌}
use native.Mathlib.Omega.{arith}
use mathlib.Core.Path.{◌≡◌, refl, sym, ap, ◌∙◌}
use mathlib.Core.Logic.{◌↔◌}
use mathlib.Core.Bool.{true, false}
use mathlib.Core.List.{List, [], ◌∷◌}
use mathlib.Core.Option.{Option, none}
use lib.ListN.{get_or, replicate}
use lib.Dec.{eqb}
use borrow.Author.Tests.{eq-eqb, eqb-true}
use Rattle.transaction_states.specs.declared.{Event.Event, TableRefusal.TableRefusal, Deed.Deed, Taken.Taken}
use Rattle.open_transactions.specs.declared.{Entry.Entry, Table.Table}
use Rattle.transaction_states.specs.Events.{begins_of, told_by, ids_ok, answered}
use Rattle.open_transactions.specs.Table.{blank_entry, empty_table, is_free, holds, find_from, deed_of, done, stepped}
use Rattle.open_transactions.specs.History.{Happening, after, table_from, reached, one, count_in, is_open_entry, open_in, is_opened, is_closed, taken_status, how_many, Known, known_of, Answer, answer_of, page_says}
use Rattle.open_transactions.proofs.Counting.{first_of_lem, only_one, set_found, count_both}
use Rattle.open_transactions.proofs.Holding.{ours_in}
use Rattle.open_transactions.proofs.Happening.{Happened, barred, stayed, moved, shut, begun, step_does, open_counts, Sound, empty_sound, keeps_sound, Standing, empty_standing, keeps_standing, others_known}
use Rattle.open_transactions.proofs.Page.{step_says, number_of, begins, Mismatched, BarredFor, says_40, says_41, says_42, says_43}

-- every table that is reached is sound
from_sound : (t : Table) → Sound t.entries → (hs : List Happening) → Sound (table_from t hs).entries
unfolding table_from
from_sound t z [] = z
from_sound t z (h ∷ hs) = from_sound (after t h).table (keeps_sound (step_does t h.event h.ours h.partner) z) hs

reached_sound : (hs : List Happening) → Sound (reached hs).entries
reached_sound hs = from_sound empty_table empty_sound hs

-- The number open is the openings accepted less the closings accepted

from_counts : (t : Table) (hs : List Happening) → open_in (table_from t hs) + how_many is_closed t hs ≡ open_in t + how_many is_opened t hs
unfolding table_from how_many
from_counts t [] = refl
from_counts t (h ∷ hs) =
    let s = open_counts (step_does t h.event h.ours h.partner) in
    let r = from_counts (after t h).table hs in
    omega (arith, s, r)

pub count_kept : (hs : List Happening) → open_in (reached hs) + how_many is_closed empty_table hs ≡ how_many is_opened empty_table hs
unfolding count_in
count_kept hs = let z : count_in is_open_entry (replicate 64 blank_entry) ≡ 0 = refl in omega (arith, from_counts empty_table hs, z)

-- No two entries are kept under one ID

pub one_entry : (hs : List Happening) (id : List ℕ) (i j : ℕ) → i < 64 → j < 64 → holds id (get_or (reached hs).entries i blank_entry) ≡ true → holds id (get_or (reached hs).entries j blank_entry) ≡ true → i ≡ j
one_entry hs id i j l m e f =
    let z = reached_sound hs in
    only_one (holds id) (reached hs).entries i j (z.unique id) (omega (arith, z.size, l)) (omega (arith, z.size, m)) e f

-- and the ID stands in its entry

from_standing : (t : Table) → Standing t.entries → (hs : List Happening) → Standing (table_from t hs).entries
unfolding table_from
from_standing t z [] = z
from_standing t z (h ∷ hs) = from_standing (after t h).table (keeps_standing (step_does t h.event h.ours h.partner) z) hs

pub id_stands : (hs : List Happening) (i : ℕ) (id : List ℕ) → holds id (get_or (reached hs).entries i blank_entry) ≡ true → ours_in (get_or (reached hs).entries i blank_entry) ≡ id
id_stands hs = from_standing empty_table empty_standing hs

-- Each step answers, and changes of its ID, what the page says

pub as_the_page : (hs : List Happening) (e : Event) (o p : List ℕ) → (answer_of (stepped (reached hs) e o p).taken, known_of (stepped (reached hs) e o p).table o) ≡ page_says (eqb (open_in (reached hs)) 64) e o p (known_of (reached hs) o)
as_the_page hs e o p = step_says (reached hs) (reached_sound hs) e o p

-- and nothing of any other ID

pub others_stay : (hs : List Happening) (e : Event) (o p id : List ℕ) → (id ≡ o → ⊥) → known_of (stepped (reached hs) e o p).table id ≡ known_of (reached hs) id
unfolding known_of
others_stay hs e o p id n = others_known id n (step_does (reached hs) e o p)

-- A refusal changes nothing

done_refused : (t : Table) (o p : List ℕ) (k : TableRefusal) (d : Result Deed TableRefusal) → answered d ≡ Err k → done t o p d ≡ t
unfolding done
done_refused t o p k (Err r) h = refl
done_refused t o p k (Ok (Deed.Opens i s)) h = let z : ◌≡◌ {A = ℕ} 0 1 = cc in absurd (omega arith)
done_refused t o p k (Ok (Deed.Keeps i)) h = refl
done_refused t o p k (Ok (Deed.Activates i)) h = let z : ◌≡◌ {A = ℕ} 0 1 = cc in absurd (omega arith)
done_refused t o p k (Ok (Deed.Learns i)) h = let z : ◌≡◌ {A = ℕ} 0 1 = cc in absurd (omega arith)
done_refused t o p k (Ok (Deed.Closes i)) h = let z : ◌≡◌ {A = ℕ} 0 1 = cc in absurd (omega arith)

pub refused_stays : (t : Table) (e : Event) (o p : List ℕ) (k : TableRefusal) → (stepped t e o p).taken ≡ Err k → (stepped t e o p).table ≡ t
unfolding stepped
refused_stays t e o p k h = done_refused t o (told_by e p) k (deed_of t.entries e o p) h

-- The room told is the transaction's: before an event that keeps or closes it, after one that keeps or opens it

abbrev pub RoomTold : List ℕ → List Entry → List Entry → Result Taken TableRefusal → Type 0
RoomTold o before later (Err k) = Unit {0}
RoomTold o before later (Ok (Taken.Opened i)) = find_from (holds o) 0 later ≡ Some i
RoomTold o before later (Ok (Taken.Kept i)) = (find_from (holds o) 0 before ≡ Some i) × (find_from (holds o) 0 later ≡ Some i)
RoomTold o before later (Ok (Taken.Closed i)) = find_from (holds o) 0 before ≡ Some i

room_of : {o : List ℕ} {es fs : List Entry} {k : Result Taken TableRefusal} → Happened o es fs k → RoomTold o es fs k
room_of barred = tt
room_of (stayed f) = (f, f)
room_of {o} {es} (moved {i = i} e s f h w) = (f, set_found (holds o) es i e (first_of_lem (holds o) i es f).within h (rw f (omega arith)))
room_of (shut s f) = f
room_of {o} {es} (begun {i = i} e s n f h w) = set_found (holds o) es i e (first_of_lem is_free i es f).within h (rw n tt)

pub room_told : (t : Table) (e : Event) (o p : List ℕ) → RoomTold o t.entries (stepped t e o p).table.entries (stepped t e o p).taken
room_told t e o p = room_of (step_does t e o p)

-- Each number exactly where it is due

status_answer : (k : Result Taken TableRefusal) → taken_status k ≡ number_of (answer_of k)
status_answer (Err r) = refl
status_answer (Ok (Taken.Opened i)) = refl
status_answer (Ok (Taken.Kept i)) = refl
status_answer (Ok (Taken.Closed i)) = refl

-- a Begin has sound IDs, ours is unknown, and 64 are open
pub record FullNow (t : Table) (e : Event) (o p : List ℕ) : Type 0 where
  pub opens : begins (begins_of e) ≡ true
  pub sound : ids_ok e o p ≡ true
  pub unknown : known_of t o ≡ none
  pub all : open_in t ≡ 64

module _ (t : Table) (z : Sound t.entries) (e : Event) (o p : List ℕ) where
  said : taken_status (stepped t e o p).taken ≡ number_of (page_says (eqb (open_in t) 64) e o p (known_of t o)).0
  said = status_answer (stepped t e o p).taken ∙ ap (λ (x : Answer × Option Known). number_of x.0) (step_says t z e o p)

  exactly : {n : ℕ} {P : Type 0} → ((number_of (page_says (eqb (open_in t) 64) e o p (known_of t o)).0 ≡ n) ↔ P) → (taken_status (stepped t e o p).taken ≡ n) ↔ P
  exactly s = (λ h. s.0 (sym said ∙ h), λ f. said ∙ s.1 f)

  full_now : (taken_status (stepped t e o p).taken ≡ 43) ↔ FullNow t e o p
  full_now =
      let s = exactly (says_43 (eqb (open_in t) 64) e o p (known_of t o)) in (
        λ h. let f = s.0 h in record { opens = f.opens; sound = f.sound; unknown = f.unknown; all = eqb-true (open_in t) 64 f.all },
        λ f. s.1 (record { opens = f.opens; sound = f.sound; unknown = f.unknown; all = eq-eqb (open_in t) 64 f.all }),
      )

module _ (hs : List Happening) (e : Event) (o p : List ℕ) where
  abbrev status : ℕ
  status = taken_status (stepped (reached hs) e o p).taken

  pub unsound_exactly : (status ≡ 40) ↔ (ids_ok e o p ≡ false)
  unsound_exactly = exactly (reached hs) (reached_sound hs) e o p (says_40 (eqb (open_in (reached hs)) 64) e o p (known_of (reached hs) o))

  pub mismatched_exactly : (status ≡ 41) ↔ Mismatched e o p (known_of (reached hs) o)
  mismatched_exactly = exactly (reached hs) (reached_sound hs) e o p (says_41 (eqb (open_in (reached hs)) 64) e o p (known_of (reached hs) o))

  pub barred_exactly : (status ≡ 42) ↔ BarredFor e o p (known_of (reached hs) o)
  barred_exactly = exactly (reached hs) (reached_sound hs) e o p (says_42 (eqb (open_in (reached hs)) 64) e o p (known_of (reached hs) o))

  pub full_exactly : (status ≡ 43) ↔ FullNow (reached hs) e o p
  full_exactly = full_now (reached hs) (reached_sound hs) e o p

closed_not_opened : (k : Result Taken TableRefusal) → is_closed k ≡ true → one (is_opened k) ≡ 0
closed_not_opened (Err r) h = refl
closed_not_opened (Ok (Taken.Opened i)) h = let z : ◌≡◌ {A = ℕ} 0 1 = cc in absurd (omega arith)
closed_not_opened (Ok (Taken.Kept i)) h = refl
closed_not_opened (Ok (Taken.Closed i)) h = refl

open_most : (t : Table) → Sound t.entries → open_in t ≤ 64
open_most t z = omega (arith, z.size, count_both is_open_entry t.entries)

-- so the room of a transaction that was closed is used again: the next Begin is not refused for want of room
pub room_again : (hs : List Happening) (h g : Happening) → is_closed (after (reached hs) h).taken ≡ true → taken_status (after (after (reached hs) h).table g).taken ≡ 43 → ⊥
room_again hs h g c f =
    let z = reached_sound hs in
    let d = step_does (reached hs) h.event h.ours h.partner in
    let n = (full_now (after (reached hs) h).table (keeps_sound d z) g.event g.ours g.partner).0 f in
    let w = open_counts d in
    let a : one (is_closed (after (reached hs) h).taken) ≡ 1 = rw c in
    let b = closed_not_opened (after (reached hs) h).taken c in
    omega (arith, w, a, b, n.all, open_most (reached hs) z)

-- What a deed may rely on. Assumes nothing.
use Rattle.std.specs.Prelude.{Option as Optional, Some, None, Result, Ok}
use Prim.Native.Nat.{ℕ, ◌<◌}
use native.Mathlib.Omega.{arith}
use mathlib.Core.Path.{◌≡◌, refl, sym, subst}
use mathlib.Core.Bool.{Bool, true, false, false≢true, and-eq-true_iff}
use mathlib.Core.List.{List}
use lib.ListN.{length, get_or}
use lib.Dec.{leb}
use borrow.Author.Tests.{leb-true}
use Rattle.tcap.specs.WellFormed.{most_transaction_id_octets, id_ok}
use Rattle.transaction_states.specs.declared.{State.State, Event.Event, Move.Move, TableRefusal.TableRefusal, Deed.Deed}
use Rattle.open_transactions.specs.declared.{Entry.Entry}
use Rattle.transaction_states.specs.Events.{move_of, begins_of, tells, told_by, ids_ok, opening, moving}
use Rattle.open_transactions.specs.Table.{blank_entry, holds, is_free, find_from, begin_deed, other_deed, found_deed, deed_of}
use Rattle.open_transactions.specs.inner.Steps.{Inside, Kept, Doable}
use Rattle.open_transactions.proofs.Finding.{found_below}

-- the room of a find
pub found_inside : (t : Entry → Bool) (es : List Entry) → length es ≡ 64 → Inside (find_from t 0 es)
found_inside t es n = by_room (find_from t 0 es) refl
  where
    by_room : (r : Optional ℕ) → find_from t 0 es ≡ r → Inside r
    by_room None e = tt
    by_room (Some i) e = omega (arith, n, found_below t 0 i es e)

-- IDs that are taken have 4 octets at most
id_short : (c : List ℕ) → id_ok c ≡ true → length c < 5
unfolding id_ok
id_short c e = omega (arith, leb-true (length c) most_transaction_id_octets ((and-eq-true_iff (leb 1 (length c)) _).0 e).1)

pub record Short (e : Event) (o p : List ℕ) : Type 0 where
  pub ours : length o < 5
  pub partner : length (told_by e p) < 5

pub ids_short : (e : Event) (o p : List ℕ) → ids_ok e o p ≡ true → Short e o p
unfolding ids_ok
ids_short e o p h = by_ours (id_ok o) refl
  where
    by_tells : (b : Bool) → tells e ≡ b → id_ok o ≡ true → Short e o p
    by_tells true t q = record { ours = id_short o q; partner = rw t (id_short p (rw (q, t) at h)) }
    by_tells false t q = record { ours = id_short o q; partner = rw t (omega arith) }

    by_ours : (b : Bool) → id_ok o ≡ b → Short e o p
    by_ours true q = by_tells (tells e) refl q
    by_ours false q = absurd (false≢true (rw q at h))

-- what is to be done can be done
module _ (e : Event) (o p : List ℕ) (z : Short e o p) where
  kept_in : (i : ℕ) → i < 64 → Kept o (told_by e p) i
  kept_in i l = record { inside = l; ours = z.ours; partner = z.partner }

  opening_doable : (s : State) (r : Optional ℕ) → Inside r → Doable o (told_by e p) (opening s r)
  opening_doable s None k = tt
  opening_doable s (Some i) k = kept_in i k

  moving_doable : (i : ℕ) (v : Move) → i < 64 → Doable o (told_by e p) (moving i v)
  moving_doable i Move.Barred k = tt
  moving_doable i Move.Stay k = kept_in i k
  moving_doable i Move.Activate k = kept_in i k
  moving_doable i Move.Learn k = kept_in i k
  moving_doable i Move.Close k = kept_in i k

  found_doable : (es : List Entry) → length es ≡ 64 → (b : Optional State) (r : Optional ℕ) → Inside r → Doable o (told_by e p) (found_deed es e b r)
  unfolding found_deed begin_deed other_deed
  found_doable es n (Some s) (Some i) k = tt
  found_doable es n (Some s) None k = opening_doable s (find_from is_free 0 es) (found_inside is_free es n)
  found_doable es n None None k = tt
  found_doable es n None (Some i) k = moving_doable i (move_of e (get_or es i blank_entry).state) k

pub deed_doable : (es : List Entry) (e : Event) (o p : List ℕ) → length es ≡ 64 → Doable o (told_by e p) (deed_of es e o p)
unfolding deed_of
deed_doable es e o p n = by_ids (ids_ok e o p) refl
  where
    by_ids : (b : Bool) → ids_ok e o p ≡ b → Doable o (told_by e p) (deed_of es e o p)
    by_ids true q = rw q (found_doable e o p (ids_short e o p q) es n (begins_of e) (find_from (holds o) 0 es) (found_inside (holds o) es n))
    by_ids false q = rw q tt

pub chosen_doable : (o q : List ℕ) (d : Deed) {p : List ℕ} {r : Result Deed TableRefusal} → q ≡ p → r ≡ Ok d → Doable o p r → Doable o q (Ok d)
chosen_doable o q d {p} e f h = subst (λ (x : List ℕ). Doable o x (Ok d)) (sym e) (subst (Doable o p) f h)

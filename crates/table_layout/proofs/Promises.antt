-- The octets' table steps as the table does. Assumes nothing.
use Rattle.std.specs.Prelude.{Result, Ok, Err}
use Prim.Native.Nat.{ℕ, suc, ◌+◌, ◌*◌, ◌<◌, ◌≤◌}
use native.Mathlib.Omega.{arith}
use native.Mathlib.Nat.{add-zero}
use mathlib.Core.Path.{◌≡◌, refl, sym, ap, ◌∙◌}
use mathlib.Core.Logic.{◌⊎◌, inl, inr}
use mathlib.Core.Bool.{Bool, true, false}
use mathlib.Core.List.{List, [], ◌∷◌, ◌++◌, append_assoc, map}
use lib.ListN.{length, get_or, set, take, drop, replicate, length-set, length-append, length-replicate}
use lib.Seq.{sets, length-take-le, sets-eq, length-sets, get_or-drop, get_or-set_same, get_or-set_other, ext_get_or, drop-cons, drop-set-add, drop_at, drop-set-lt}
use lib.Dec.{ltb, eqb}
use borrow.Author.Tests.{le-ltb, lt-ltb, ltb-true, ltb-false, eqb-true, eqb-false}
use Rattle.transaction_states.specs.declared.{State.State, TableRefusal.TableRefusal, Deed.Deed}
use Rattle.open_transactions.specs.declared.{Entry.Entry, Table.Table}
use Rattle.transaction_states.specs.Events.{state_in, state_octet, event_in, told_by}
use Rattle.open_transactions.specs.Table.{blank_entry, empty_table, partner_of, entry_for, active_now, deed_of, done, stepped}
use Rattle.open_transactions.specs.inner.Steps.{Doable}
use Rattle.open_transactions.specs.History.{Happening, table_from, reached}
use Rattle.open_transactions.proofs.Doing.{deed_doable}
use Rattle.table_layout.specs.declared.{StepFault.StepFault}
use Rattle.entry_octets.specs.Entries.{entry_octets, blank_octets}
use Rattle.table_layout.specs.Octets.{entry_of, entries_from, entries_in, table_in, octets_done, with_fault, replying, leaving, reply_number, InTable}
use Rattle.table_layout.proofs.Entries.{length_entries, entry_at}
use Rattle.table_layout.proofs.Learning.{outside}
use Rattle.table_layout.proofs.Numbers.{answer_room, Fields, taken_fields}

-- All zeros is the empty table

pub zeros_empty : (rest : List ℕ) → table_in (replicate 768 0 ++ rest) ≡ empty_table
unfolding entries_from entry_of partner_of
zeros_empty rest = refl

-- An entry takes its 12 octets from the front

same_entry : (a b : List ℕ) → ((k : ℕ) → k < 12 → get_or a k 0 ≡ get_or b k 0) → entry_of a ≡ entry_of b
unfolding entry_of
same_entry a b h =
    rw
    (h 0 (omega arith), h 1 (omega arith), h 2 (omega arith), h 4 (omega arith), h 5 (omega arith), h 6 (omega arith), h 7 (omega arith), h 8 (omega arith), h 9 (omega arith), h 10 (omega arith), h 11 (omega arith))

side : (i j k : ℕ) → k < 12 → (j ≡ i → ⊥) → (j * 12 + k < i * 12) ⊎ (i * 12 + 12 ≤ j * 12 + k)
side i j k h n = by_test (ltb j i) refl (ltb i j) refl
  where
    by_test : (b : Bool) → ltb j i ≡ b → (c : Bool) → ltb i j ≡ c → (j * 12 + k < i * 12) ⊎ (i * 12 + 12 ≤ j * 12 + k)
    by_test true e c f = inl (omega (arith, ltb-true j i e, h))
    by_test false e true f = inr (omega (arith, ltb-true i j f))
    by_test false e false f = absurd (n (omega (arith, ltb-false j i e, ltb-false i j f)))

-- 12 octets set in a room
module _ (l : List ℕ) (i : ℕ) (inside : i < 64) (room : 768 ≤ length l) where
  other_rooms : (m : List ℕ) → ((j k : ℕ) → k < 12 → (j ≡ i → ⊥) → get_or m (j * 12 + k) 0 ≡ get_or l (j * 12 + k) 0) → (e : Entry) → entry_of (drop (i * 12) m) ≡ e → entries_in m ≡ set (entries_in l) i e
  other_rooms m h e q =
      ext_get_or blank_entry (entries_in m) (set (entries_in l) i e) (length_entries m 64 0 ∙ sym (length-set (entries_in l) i e ∙ length_entries l 64 0)) (λ j s. by_room j (omega (arith, s, length_entries m 64 0)) (eqb j i) refl)
    where
      by_room : (j : ℕ) → j < 64 → (b : Bool) → eqb j i ≡ b → get_or (entries_in m) j blank_entry ≡ get_or (set (entries_in l) i e) j blank_entry
      by_room j s true t = rw (eqb-true j i t) (entry_at m i blank_entry inside ∙ q ∙ sym (get_or-set_same (entries_in l) i e blank_entry (omega (arith, inside, length_entries l 64 0))))
      by_room j s false t =
          entry_at m j blank_entry s ∙
          same_entry (drop (j * 12) m) (drop (j * 12) l) (λ k w. rw (get_or-drop, get_or-drop) (h j k w (eqb-false j i t))) ∙
          sym (get_or-set_other (entries_in l) i j e blank_entry (eqb-false j i t) ∙ entry_at l j blank_entry s)

  put_in_room : (xs : List ℕ) → length xs ≡ 12 → (e : Entry) → entry_of (xs ++ drop (i * 12 + 12) l) ≡ e → entries_in (sets l (i * 12) xs) ≡ set (entries_in l) i e
  put_in_room xs n e q =
      other_rooms (sets l (i * 12) xs) (λ j k w d. outside xs l (i * 12) (j * 12 + k) (rw n (side i j k w d))) e (rw front q)
    where
      front : drop (i * 12) (sets l (i * 12) xs) ≡ xs ++ drop (i * 12 + 12) l
      front = rw (sets-eq xs l (i * 12) (omega (arith, n, inside, room)), n, append_assoc) (drop_at (take (i * 12) l) (xs ++ drop (i * 12 + 12) l) (i * 12) (length-take-le (i * 12) l (omega (arith, inside, room))))

  activate_in_room : entries_in (set l (i * 12) 3) ≡ set (entries_in l) i (active_now (get_or (entries_in l) i blank_entry))
  unfolding entry_of
  activate_in_room =
      other_rooms (set l (i * 12) 3) (λ j k w d. get_or-set_other l (i * 12) (j * 12 + k) 3 0 (away j k w d)) (active_now (get_or (entries_in l) i blank_entry)) (front ∙ sym (ap active_now (entry_at l i blank_entry inside)))
    where
      away : (j k : ℕ) → k < 12 → (j ≡ i → ⊥) → j * 12 + k ≡ i * 12 → ⊥
      away j k w d e = d (omega (arith, e, w))

      front : entry_of (drop (i * 12) (set l (i * 12) 3)) ≡ active_now (entry_of (drop (i * 12) l))
      front =
          let z : drop (i * 12) (set l (i * 12) 3) ≡ set (drop (i * 12) l) 0 3 = rw add-zero at (drop-set-add (i * 12) l 0 3) in
          rw (z, drop-cons l (i * 12) 0 (omega (arith, inside, room)))

-- what is put is that entry
state_back : (s : State) → state_in (state_octet s) ≡ s
state_back State.Idle = refl
state_back State.InitiationSent = refl
state_back State.InitiationReceived = refl
state_back State.Active = refl

made : (s : State) (o p rest : List ℕ) → entry_of (entry_octets s o p ++ rest) ≡ entry_for s o p
unfolding entry_of entry_for
made s o p rest = rw (state_back s)

blanked : (rest : List ℕ) → entry_of (blank_octets ++ rest) ≡ blank_entry
unfolding entry_of partner_of
blanked rest = refl

-- a deed on octets is that deed on the table
octets_done_lem : (l : List ℕ) → 768 ≤ length l → (o p : List ℕ) (d : Result Deed TableRefusal) → Doable o p d → table_in (octets_done l o p d) ≡ done (table_in l) o p d
unfolding octets_done done
octets_done_lem l h o p (Err k) w = refl
octets_done_lem l h o p (Ok (Deed.Opens i s)) w = ap (λ (es : List Entry). record { entries = es }) (put_in_room l i w.inside h (entry_octets s o p) refl (entry_for s o p) (made s o p (drop (i * 12 + 12) l)))
octets_done_lem l h o p (Ok (Deed.Keeps i)) w = refl
octets_done_lem l h o p (Ok (Deed.Activates i)) w = ap (λ (es : List Entry). record { entries = es }) (activate_in_room l i w.inside h)
octets_done_lem l h o p (Ok (Deed.Learns i)) w = ap (λ (es : List Entry). record { entries = es }) (put_in_room l i w.inside h (entry_octets State.Active o p) refl (entry_for State.Active o p) (made State.Active o p (drop (i * 12 + 12) l)))
octets_done_lem l h o p (Ok (Deed.Closes i)) w = ap (λ (es : List Entry). record { entries = es }) (put_in_room l i w.inside h blank_octets refl blank_entry (blanked (drop (i * 12 + 12) l)))

-- The octets' table steps as the table does, and answers the same

module _ (l : List ℕ) (h : 768 ≤ length l) (n : ℕ) (o p : List ℕ) where
  pub steps_alike : table_in (leaving l n o p) ≡ (stepped (table_in l) (event_in n) o p).table
  unfolding leaving stepped
  steps_alike = rw (le-ltb (length l) 768 h) (octets_done_lem l h o (told_by (event_in n) p) (deed_of (entries_in l) (event_in n) o p) (deed_doable (entries_in l) (event_in n) o p (length_entries l 64 0)))

  pub answers_alike : replying l n o p ≡ with_fault (stepped (table_in l) (event_in n) o p).taken
  unfolding replying stepped
  answers_alike = rw (le-ltb (length l) 768 h)

  -- and its number tells the answer whole: status, deed and entry, which is one of the table's
  pub number_told : let k = (stepped (table_in l) (event_in n) o p).taken in Fields k (reply_number (replying l n o p)) × InTable k
  unfolding stepped
  number_told =
      let k = (stepped (table_in l) (event_in n) o p).taken in
      (rw answers_alike (taken_fields k), answer_room l n o p)

-- Too little room: nothing is changed

pub no_room : (l : List ℕ) → length l < 768 → (n : ℕ) (o p : List ℕ) → (replying l n o p ≡ Err StepFault.NoRoom) × (leaving l n o p ≡ l)
unfolding replying leaving
no_room l h n o p = (rw (lt-ltb (length l) 768 h), rw (lt-ltb (length l) 768 h))

pub no_room_told : (l : List ℕ) → length l < 768 → (n : ℕ) (o p : List ℕ) → reply_number (replying l n o p) ≡ 25
no_room_told l h n o p = ap reply_number (no_room l h n o p).0

-- The octets stay as many, and those behind the table stay as they are

drop_sets : (xs l : List ℕ) (at m : ℕ) → at + length xs ≤ m → drop m (sets l at xs) ≡ drop m l
drop_sets [] l at m h = refl
drop_sets (x ∷ xs) l at m h = drop_sets xs (set l at x) (suc at) m (omega (arith, h)) ∙ drop-set-lt m l at x (omega (arith, h))

done_length : (l o p : List ℕ) (d : Result Deed TableRefusal) → length (octets_done l o p d) ≡ length l
unfolding octets_done
done_length l o p (Err k) = refl
done_length l o p (Ok (Deed.Opens i s)) = length-sets l (i * 12) (entry_octets s o p)
done_length l o p (Ok (Deed.Keeps i)) = refl
done_length l o p (Ok (Deed.Activates i)) = length-set l (i * 12) 3
done_length l o p (Ok (Deed.Learns i)) = length-sets l (i * 12) (entry_octets State.Active o p)
done_length l o p (Ok (Deed.Closes i)) = length-sets l (i * 12) blank_octets

done_behind : (l o p : List ℕ) (d : Result Deed TableRefusal) → Doable o p d → drop 768 (octets_done l o p d) ≡ drop 768 l
unfolding octets_done
done_behind l o p (Err k) w = refl
done_behind l o p (Ok (Deed.Opens i s)) w = drop_sets (entry_octets s o p) l (i * 12) 768 (omega (arith, w.inside))
done_behind l o p (Ok (Deed.Keeps i)) w = refl
done_behind l o p (Ok (Deed.Activates i)) w = drop-set-lt 768 l (i * 12) 3 (omega (arith, w.inside))
done_behind l o p (Ok (Deed.Learns i)) w = drop_sets (entry_octets State.Active o p) l (i * 12) 768 (omega (arith, w.inside))
done_behind l o p (Ok (Deed.Closes i)) w = drop_sets blank_octets l (i * 12) 768 (omega (arith, w.inside))

pub length_stays : (l : List ℕ) (n : ℕ) (o p : List ℕ) → length (leaving l n o p) ≡ length l
unfolding leaving
length_stays l n o p = by_size (ltb (length l) 768) refl
  where
    by_size : (b : Bool) → ltb (length l) 768 ≡ b → length (leaving l n o p) ≡ length l
    by_size true e = rw e
    by_size false e = rw e (done_length l o (told_by (event_in n) p) (deed_of (entries_in l) (event_in n) o p))

pub behind_stays : (l : List ℕ) (n : ℕ) (o p : List ℕ) → drop 768 (leaving l n o p) ≡ drop 768 l
unfolding leaving
behind_stays l n o p = by_size (ltb (length l) 768) refl
  where
    by_size : (b : Bool) → ltb (length l) 768 ≡ b → drop 768 (leaving l n o p) ≡ drop 768 l
    by_size true e = rw e
    by_size false e = rw e (done_behind l o (told_by (event_in n) p) (deed_of (entries_in l) (event_in n) o p) (deed_doable (entries_in l) (event_in n) o p (length_entries l 64 0)))

-- A history on octets that began as zeros: their table is the one that is reached

pub record Told : Type 0 where
  pub number : ℕ
  pub ours : List ℕ
  pub partner : List ℕ

abbrev pub happening : Told → Happening
happening h = record { event = event_in h.number; ours = h.ours; partner = h.partner }

unfoldable pub octets_from : List ℕ → List Told → List ℕ
octets_from l [] = l
octets_from l (h ∷ hs) = octets_from (leaving l h.number h.ours h.partner) hs

from_alike : (l : List ℕ) → 768 ≤ length l → (hs : List Told) → table_in (octets_from l hs) ≡ table_from (table_in l) (map happening hs)
unfolding octets_from table_from
from_alike l h [] = refl
from_alike l h (x ∷ hs) =
    from_alike (leaving l x.number x.ours x.partner) (omega (arith, h, length_stays l x.number x.ours x.partner)) hs ∙
    ap (λ (t : Table). table_from t (map happening hs)) (steps_alike l h x.number x.ours x.partner)

pub history_alike : (rest : List ℕ) (hs : List Told) → table_in (octets_from (replicate 768 0 ++ rest) hs) ≡ reached (map happening hs)
history_alike rest hs =
    from_alike (replicate 768 0 ++ rest) (omega (arith, length-append (replicate 768 0) rest, length-replicate {A = ℕ} 768 0)) hs ∙
    ap (λ (t : Table). table_from t (map happening hs)) (zeros_empty rest)

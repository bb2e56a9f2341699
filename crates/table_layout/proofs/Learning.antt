-- A partner's ID is put beside ours, which stands there. Assumes nothing.
use Rattle.std.specs.Prelude.{Option as Optional, Some, None, Ok}
use Prim.Native.Nat.{ℕ, suc, ◌+◌, ◌*◌, ◌<◌, ◌≤◌}
use native.Mathlib.Omega.{arith}
use mathlib.Core.Path.{◌≡◌, refl, sym, ◌∙◌}
use mathlib.Core.Logic.{◌⊎◌, inl, inr}
use mathlib.Core.Bool.{Bool, true, false, cond, false≢true}
use mathlib.Core.List.{List, [], ◌∷◌}
use lib.ListN.{length, get_or, set, drop}
use lib.Seq.{sets, get_or-drop, get_or-set_other, set-get_or}
use lib.Dec.{eqb}
use borrow.Author.Tests.{eqb-true}
use Rattle.transaction_states.specs.declared.{State.State, Event.Event, Move.Move, Deed.Deed}
use Rattle.transaction_states.specs.Events.{state_in, is_open, move_of, begins_of, ids_ok, opening, moving}
use Rattle.open_transactions.specs.Table.{blank_entry, is_free, holds, same_id, find_from, begin_deed, other_deed, found_deed, deed_of}
use Rattle.open_transactions.proofs.Counting.{first_of_lem}
use Rattle.entry_octets.specs.Entries.{four_of, entry_octets}
use Rattle.entry_octets.specs.inner.Words.{partner_put}
use Rattle.table_layout.specs.Octets.{entry_of, entries_in, octets_done}
use Rattle.table_layout.specs.inner.Steps.{HoldsOurs}
use Rattle.table_layout.proofs.Entries.{length_entries, entry_at}
use Rattle.entry_octets.proofs.Putting.{header}

-- What is known of our ID in its entry

both_true : (a b : Bool) → cond a b false ≡ true → (a ≡ true) × (b ≡ true)
both_true true b e = (refl, e)
both_true false b e = absurd (false≢true e)

pub record Stands (l : List ℕ) (n : ℕ) (o : List ℕ) : Type 0 where
  pub one : get_or l (n + 4) 0 ≡ get_or o 0 0
  pub two : get_or l (n + 5) 0 ≡ get_or o 1 0
  pub three : get_or l (n + 6) 0 ≡ get_or o 2 0
  pub four : get_or l (n + 7) 0 ≡ get_or o 3 0

held_stands : (l : List ℕ) (n : ℕ) (o : List ℕ) → holds o (entry_of (drop n l)) ≡ true → Stands l n o
unfolding holds same_id entry_of
held_stands l n o e =
    let a = (both_true (is_open (state_in (get_or (drop n l) 0 0))) _ e).1 in
    let b = (both_true (eqb (get_or (drop n l) 1 0) (length o)) _ a).1 in
    let c = both_true (eqb (get_or (drop n l) 4 0) (get_or o 0 0)) _ b in
    let d = both_true (eqb (get_or (drop n l) 5 0) (get_or o 1 0)) _ c.1 in
    let f = both_true (eqb (get_or (drop n l) 6 0) (get_or o 2 0)) _ d.1 in
    record {
      one = sym (get_or-drop n l 4 0) ∙ eqb-true _ _ c.0;
      two = sym (get_or-drop n l 5 0) ∙ eqb-true _ _ d.0;
      three = sym (get_or-drop n l 6 0) ∙ eqb-true _ _ f.0;
      four = sym (get_or-drop n l 7 0) ∙ eqb-true _ _ f.1;
    }

-- octets outside those that are set stay
pub outside : (xs l : List ℕ) (at m : ℕ) → ((m < at) ⊎ (at + length xs ≤ m)) → get_or (sets l at xs) m 0 ≡ get_or l m 0
outside [] l at m h = refl
outside (x ∷ xs) l at m h = outside xs (set l at x) (suc at) m (further h) ∙ get_or-set_other l at m x 0 (λ e. apart h e)
  where
    further : ((m < at) ⊎ (at + suc (length xs) ≤ m)) → ((m < suc at) ⊎ (suc at + length xs ≤ m))
    further (inl g) = inl (omega (arith, g))
    further (inr g) = inr (omega (arith, g))

    apart : ((m < at) ⊎ (at + suc (length xs) ≤ m)) → m ≡ at → ⊥
    apart (inl g) e = omega (arith, g, e)
    apart (inr g) e = omega (arith, g, e)

-- an octet that stands need not be put
stands : (m : List ℕ) (n x : ℕ) (xs : List ℕ) → get_or m n 0 ≡ x → sets m n (x ∷ xs) ≡ sets m (suc n) xs
stands m n x xs e = let z : set m n x ≡ m = rw (← e) (set-get_or m n 0) in rw z

stands_four : (m : List ℕ) (n a b c d : ℕ) (xs : List ℕ) → get_or m n 0 ≡ a → get_or m (suc n) 0 ≡ b → get_or m (suc (suc n)) 0 ≡ c → get_or m (suc (suc (suc n))) 0 ≡ d → sets m n (a ∷ b ∷ c ∷ d ∷ xs) ≡ sets m (suc (suc (suc (suc n)))) xs
stands_four m n a b c d xs e f g h =
    stands m n a (b ∷ c ∷ d ∷ xs) e ∙ stands m (suc n) b (c ∷ d ∷ xs) f ∙ stands m (suc (suc n)) c (d ∷ xs) g ∙ stands m (suc (suc (suc n))) d xs h

beside : (l : List ℕ) (n : ℕ) (o p : List ℕ) → Stands l n o → partner_put l n o p ≡ sets l n (entry_octets State.Active o p)
beside l n o p s =
    let a : suc (suc (suc (suc n))) ≡ n + 4 = omega arith in
    let b : suc (suc (suc (suc (suc n)))) ≡ n + 5 = omega arith in
    let c : suc (suc (suc (suc (suc (suc n))))) ≡ n + 6 = omega arith in
    let d : suc (suc (suc (suc (suc (suc (suc n)))))) ≡ n + 7 = omega arith in
    let e : suc (suc (suc (suc (suc (suc (suc (suc n))))))) ≡ n + 8 = omega arith in
    sym
    (stands_four
    (sets l n (header o p))
    (suc (suc (suc (suc n))))
    (get_or o 0 0)
    (get_or o 1 0)
    (get_or o 2 0)
    (get_or o 3 0)
    (four_of p)
    (outside (header o p) l n (suc (suc (suc (suc n)))) (inr (omega arith)) ∙ rw a s.one)
    (outside (header o p) l n (suc (suc (suc (suc (suc n))))) (inr (omega arith)) ∙ rw b s.two)
    (outside (header o p) l n (suc (suc (suc (suc (suc (suc n)))))) (inr (omega arith)) ∙ rw c s.three)
    (outside (header o p) l n (suc (suc (suc (suc (suc (suc (suc n))))))) (inr (omega arith)) ∙ rw d s.four) ∙
    rw e)

pub learns_done : (l o p : List ℕ) (i : ℕ) (d : Deed) {m : List ℕ} → d ≡ Deed.Learns i → HoldsOurs l o (Ok d) → m ≡ partner_put l (i * 12) o p → m ≡ octets_done l o p (Ok d)
unfolding octets_done
learns_done l o p i d e k q =
    let h : holds o (entry_of (drop (i * 12) l)) ≡ true = rw e at k in
    rw e (q ∙ beside l (i * 12) o p (held_stands l (i * 12) o h))

-- A deed of that kind comes of an entry under our ID

module _ (l : List ℕ) (e : Event) (o p : List ℕ) where
  moving_known : (i : ℕ) (v : Move) → holds o (entry_of (drop (i * 12) l)) ≡ true → HoldsOurs l o (moving i v)
  moving_known i Move.Barred h = tt
  moving_known i Move.Stay h = tt
  moving_known i Move.Activate h = tt
  moving_known i Move.Learn h = h
  moving_known i Move.Close h = tt

  opening_known : (s : State) (r : Optional ℕ) → HoldsOurs l o (opening s r)
  opening_known s None = tt
  opening_known s (Some i) = tt

  found_known : (b : Optional State) (r : Optional ℕ) → find_from (holds o) 0 (entries_in l) ≡ r → HoldsOurs l o (found_deed (entries_in l) e b r)
  unfolding found_deed begin_deed other_deed
  found_known (Some s) (Some i) q = tt
  found_known (Some s) None q = opening_known s (find_from is_free 0 (entries_in l))
  found_known None None q = tt
  found_known None (Some i) q =
      let f = first_of_lem (holds o) i (entries_in l) q in
      let z : i < 64 = omega (arith, f.within, length_entries l 64 0) in
      moving_known i (move_of e (get_or (entries_in l) i blank_entry).state) (rw (entry_at l i blank_entry z) at f.passes)

  pub deed_known : HoldsOurs l o (deed_of (entries_in l) e o p)
  unfolding deed_of
  deed_known = by_ids (ids_ok e o p) refl
    where
      by_ids : (b : Bool) → ids_ok e o p ≡ b → HoldsOurs l o (deed_of (entries_in l) e o p)
      by_ids true q = rw q (found_known (begins_of e) (find_from (holds o) 0 (entries_in l)) refl)
      by_ids false q = rw q tt

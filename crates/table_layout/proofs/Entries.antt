-- The entries that octets hold, one at a time, and the code's comparison of an ID. Assumes nothing.
use Rattle.std.specs.Prelude.{Some, None}
use Prim.Native.Nat.{ℕ, zero, suc, ◌+◌, ◌*◌, ◌<◌, ◌≤◌}
use native.Mathlib.Omega.{arith}
use native.Mathlib.Nat.{add-zero}
use mathlib.Core.Path.{◌≡◌, refl, sym, ◌∙◌}
use mathlib.Core.Bool.{Bool, true, false, cond, not}
use mathlib.Core.List.{List}
use lib.ListN.{length, get_or, drop}
use lib.Seq.{get_or-drop}
use lib.Dec.{eqb}
use borrow.Author.Tests.{eqb-true, eqb-false, eq-eqb, ne_eqb}
use Rattle.transaction_states.specs.declared.{State.State}
use Rattle.open_transactions.specs.declared.{Entry.Entry}
use Rattle.transaction_states.specs.Events.{state_in, is_open}
use Rattle.open_transactions.specs.Table.{blank_entry, is_free, holds, same_id, find_from}
use Rattle.open_transactions.proofs.Finding.{find_here, find_next, find_none}
use Rattle.entry_octets.proofs.Putting.{Octet}
use Rattle.entry_octets.specs.inner.Words.{word_from, word_of, held_in}
use Rattle.table_layout.specs.Octets.{entry_of, entries_from, entries_in}

-- The entry in a room

pub length_entries : (l : List ℕ) (n i : ℕ) → length (entries_from l n i) ≡ n
unfolding entries_from
length_entries l zero i = refl
length_entries l (suc n) i = let h = length_entries l n (suc i) in omega (arith, h)

entry_from : (l : List ℕ) (n k i : ℕ) (d : Entry) → i < n → get_or (entries_from l n k) i d ≡ entry_of (drop ((k + i) * 12) l)
unfolding entries_from
entry_from l zero k i d h = absurd (omega arith)
entry_from l (suc n) k zero d h = rw add-zero
entry_from l (suc n) k (suc i) d h = let e : k + suc i ≡ suc k + i = omega arith in rw e (entry_from l n (suc k) i d (omega arith))

pub entry_at : (l : List ℕ) (i : ℕ) (d : Entry) → i < 64 → get_or (entries_in l) i d ≡ entry_of (drop (i * 12) l)
entry_at l i d h = let e : 0 + i ≡ i = omega arith in entry_from l 64 0 i d h ∙ rw e

module _ (t : Entry → Bool) (l : List ℕ) (i : ℕ) where
  pub at_here : i < 64 → t (entry_of (drop (i * 12) l)) ≡ true → find_from t i (drop i (entries_in l)) ≡ Some i
  at_here h e = find_here t (entries_in l) i blank_entry (omega (arith, h, length_entries l 64 0)) (rw (entry_at l i blank_entry h) e)

  pub at_next : i < 64 → t (entry_of (drop (i * 12) l)) ≡ false → find_from t i (drop i (entries_in l)) ≡ find_from t (i + 1) (drop (i + 1) (entries_in l))
  at_next h e = find_next t (entries_in l) i blank_entry (omega (arith, h, length_entries l 64 0)) (rw (entry_at l i blank_entry h) e)

  pub at_none : 64 ≤ i → find_from t i (drop i (entries_in l)) ≡ None
  at_none h = find_none t (entries_in l) i blank_entry (omega (arith, h, length_entries l 64 0))

-- The state of an entry

pub state_at : (l : List ℕ) (n : ℕ) → (entry_of (drop n l)).state ≡ state_in (get_or l n 0)
unfolding entry_of
state_at l n = rw (get_or-drop, add-zero)

pub free_at : (l : List ℕ) (n : ℕ) {s : State} {b c : Bool} → s ≡ state_in (get_or l n 0) → b ≡ is_open s → not b ≡ c → is_free (entry_of (drop n l)) ≡ c
unfolding is_free
free_at l n q h e = rw (state_at l n, ← q, ← h) e

-- Four octets as one number

low_same : (x y a b : ℕ) → x < 256 → a < 256 → x + y * 256 ≡ a + b * 256 → (x ≡ a) × (y ≡ b)
low_same x y a b h k e = (omega arith, omega arith)

pub record Fours (a b c d : ℕ) : Type 0 where
  pub one : a < 256
  pub two : b < 256
  pub three : c < 256
  pub four : d < 256

pub record Alike (a b c d e f g h : ℕ) : Type 0 where
  pub one : a ≡ e
  pub two : b ≡ f
  pub three : c ≡ g
  pub four : d ≡ h

word_alike : (a b c d e f g h : ℕ) → Fours a b c d → Fours e f g h → word_from a b c d ≡ word_from e f g h → Alike a b c d e f g h
word_alike a b c d e f g h p q w =
    let x = low_same a (b + (c * 256 + d * 65536)) e (f + (g * 256 + h * 65536)) p.one q.one (omega (arith, w)) in
    let y = low_same b (c + d * 256) f (g + h * 256) p.two q.two (omega (arith, x.1)) in
    let z = low_same c d g h p.three q.three y.1 in
    record { one = x.0; two = y.0; three = z.0; four = z.1 }

abbrev each : ℕ → ℕ → ℕ → ℕ → ℕ → ℕ → ℕ → ℕ → Bool
each a b c d e f g h = cond (eqb a e) (cond (eqb b f) (cond (eqb c g) (eqb d h) false) false) false

module _ (a b c d e f g h : ℕ) (p : Fours a b c d) (q : Fours e f g h) where
  differ : (Alike a b c d e f g h → ⊥) → eqb (word_from a b c d) (word_from e f g h) ≡ false
  differ n = ne_eqb (word_from a b c d) (word_from e f g h) (λ w. n (word_alike a b c d e f g h p q w))

  by_four : (t : Bool) → eqb d h ≡ t → eqb a e ≡ true → eqb b f ≡ true → eqb c g ≡ true → eqb (word_from a b c d) (word_from e f g h) ≡ each a b c d e f g h
  by_four true r x y z =
      rw (x, y, z, r) (eq-eqb (word_from a b c d) (word_from e f g h) (omega (arith, eqb-true a e x, eqb-true b f y, eqb-true c g z, eqb-true d h r)))
  by_four false r x y z = rw (x, y, z, r) (differ (λ n. eqb-false d h r n.four))

  by_three : (t : Bool) → eqb c g ≡ t → eqb a e ≡ true → eqb b f ≡ true → eqb (word_from a b c d) (word_from e f g h) ≡ each a b c d e f g h
  by_three true r x y = by_four (eqb d h) refl x y r
  by_three false r x y = rw (x, y, r) (differ (λ n. eqb-false c g r n.three))

  by_two : (t : Bool) → eqb b f ≡ t → eqb a e ≡ true → eqb (word_from a b c d) (word_from e f g h) ≡ each a b c d e f g h
  by_two true r x = by_three (eqb c g) refl x r
  by_two false r x = rw (x, r) (differ (λ n. eqb-false b f r n.two))

  by_one : (t : Bool) → eqb a e ≡ t → eqb (word_from a b c d) (word_from e f g h) ≡ each a b c d e f g h
  by_one true r = by_two (eqb b f) refl r
  by_one false r = rw r (differ (λ n. eqb-false a e r n.one))

  word_same : eqb (word_from a b c d) (word_from e f g h) ≡ each a b c d e f g h
  word_same = by_one (eqb a e) refl

-- The code's order of the tests against the definition's

in_order : (w n s : Bool) → cond w (cond n s false) false ≡ cond s (cond n w false) false
in_order true true true = refl
in_order true true false = refl
in_order true false true = refl
in_order true false false = refl
in_order false true true = refl
in_order false true false = refl
in_order false false true = refl
in_order false false false = refl

module _ (c id : List ℕ) (h : Octet c) (k : Octet id) where
  pub held_holds : held_in c (word_of id) (length id) ≡ holds id (entry_of c)
  unfolding held_in holds same_id entry_of
  held_holds =
      rw
      (word_same (get_or c 4 0) (get_or c 5 0) (get_or c 6 0) (get_or c 7 0) (get_or id 0 0) (get_or id 1 0) (get_or id 2 0) (get_or id 3 0)
      (record { one = (h 4).fits; two = (h 5).fits; three = (h 6).fits; four = (h 7).fits })
      (record { one = (k 0).fits; two = (k 1).fits; three = (k 2).fits; four = (k 3).fits }))
      (in_order
      (each (get_or c 4 0) (get_or c 5 0) (get_or c 6 0) (get_or c 7 0) (get_or id 0 0) (get_or id 1 0) (get_or id 2 0) (get_or id 3 0))
      (eqb (get_or c 1 0) (length id))
      (is_open (state_in (get_or c 0 0))))

pub dropped : (l : List ℕ) (n : ℕ) → Octet l → Octet (drop n l)
dropped l n h i = rw get_or-drop (h (n + i))

pub held_at : (l id : List ℕ) (n : ℕ) {w : ℕ} {part : List ℕ} {b c : Bool} → Octet l → Octet id → w ≡ word_of id → part ≡ drop n l → b ≡ held_in part w (length id) → b ≡ c → holds id (entry_of (drop n l)) ≡ c
held_at l id n h k q e r t = sym (held_holds (drop n l) id (dropped l n h) k) ∙ sym (rw (q, e) at r) ∙ t

-- Which entry holds which ID. Assumes nothing.
use Prim.Native.Nat.{ℕ, zero, suc, ◌<◌}
use native.Mathlib.Omega.{arith}
use mathlib.Core.Path.{◌≡◌, refl, sym, ◌∙◌}
use mathlib.Core.Bool.{Bool, true, false, cond, false≢true}
use mathlib.Core.List.{List, [], ◌∷◌}
use lib.ListN.{length, get_or, take, drop}
use lib.Seq.{ext_get_or}
use lib.Dec.{eqb}
use borrow.Author.Tests.{eqb-true, eq-eqb}
use Rattle.transaction_states.specs.declared.{State.State}
use Rattle.open_transactions.specs.declared.{Entry.Entry}
use Rattle.transaction_states.specs.Events.{is_open}
use Rattle.open_transactions.specs.Table.{blank_entry, is_free, same_id, holds, partner_of, entry_for, active_now}
use Rattle.open_transactions.specs.History.{partner_in, given}

-- two tests that both hold
both : (a b : Bool) → cond a b false ≡ true → (a ≡ true) × (b ≡ true)
both true b e = (refl, e)
both false b e = absurd (false≢true e)

-- so many octets, and the same ones
pub record Same (e : Entry) (id : List ℕ) : Type 0 where
  pub len : e.ours.0.octets.len ≡ length id
  pub octet : (k : ℕ) → k < 4 → get_or e.octets k 0 ≡ get_or id k 0

first_four : (P : ℕ → Type 0) → P 0 → P 1 → P 2 → P 3 → (k : ℕ) → k < 4 → P k
first_four P a b c d zero h = a
first_four P a b c d (suc zero) h = b
first_four P a b c d (suc (suc zero)) h = c
first_four P a b c d (suc (suc (suc zero))) h = d
first_four P a b c d (suc (suc (suc (suc k)))) h = absurd (omega (arith, h))

same_of : (e : Entry) (id : List ℕ) → same_id e id ≡ true → Same e id
unfolding same_id
same_of e id h =
    let a = both (eqb e.ours.0.octets.len (length id)) _ h in
    let b = both (eqb (get_or e.octets 0 0) (get_or id 0 0)) _ a.1 in
    let c = both (eqb (get_or e.octets 1 0) (get_or id 1 0)) _ b.1 in
    let d = both (eqb (get_or e.octets 2 0) (get_or id 2 0)) _ c.1 in
    record {
      len = eqb-true _ _ a.0;
      octet = first_four (λ k. get_or e.octets k 0 ≡ get_or id k 0) (eqb-true _ _ b.0) (eqb-true _ _ c.0) (eqb-true _ _ d.0) (eqb-true _ _ d.1);
    }

pub record Held (e : Entry) (id : List ℕ) : Type 0 where
  pub live : is_open e.state ≡ true
  pub same : Same e id

pub held_of : (id : List ℕ) (e : Entry) → holds id e ≡ true → Held e id
unfolding holds
held_of id e h = let a = both (is_open e.state) _ h in record { live = a.0; same = same_of e id a.1 }

-- an entry holds one ID only: 05 and 00 05 differ, by their length
pub one_id : (e : Entry) (o id : List ℕ) → length o < 5 → holds o e ≡ true → holds id e ≡ true → id ≡ o
one_id e o id s h k =
    let a = held_of o e h in
    let b = held_of id e k in
    let n : length id ≡ length o = sym b.same.len ∙ a.same.len in
    ext_get_or 0 id o n (λ i l. sym (b.same.octet i (omega (arith, s, n, l))) ∙ a.same.octet i (omega (arith, s, n, l)))

-- two entries that hold one ID hold the same ones
pub same_holders : (a b : Entry) (o id : List ℕ) → length o < 5 → holds o a ≡ true → holds o b ≡ true → holds id a ≡ holds id b
same_holders a b o id s h k = by_test (holds id a) refl (holds id b) refl
  where
    by_test : (x : Bool) → holds id a ≡ x → (y : Bool) → holds id b ≡ y → holds id a ≡ holds id b
    by_test true p true q = p ∙ sym q
    by_test true p false q = absurd (false≢true (sym q ∙ rw (one_id a o id s h p) k))
    by_test false p true q = absurd (false≢true (sym p ∙ rw (one_id b o id s k q) h))
    by_test false p false q = p ∙ sym q

pub other_id : (e : Entry) (o id : List ℕ) → length o < 5 → (id ≡ o → ⊥) → holds o e ≡ true → holds id e ≡ false
other_id e o id s n h = by_test (holds id e) refl
  where
    by_test : (b : Bool) → holds id e ≡ b → holds id e ≡ false
    by_test true q = absurd (n (one_id e o id s h q))
    by_test false q = q

-- free room holds nothing
pub blank_holds : (id : List ℕ) → holds id blank_entry ≡ false
unfolding holds
blank_holds id = refl

pub free_shut : (e : Entry) → is_free e ≡ true → is_open e.state ≡ false
unfolding is_free
free_shut e h = by_test (is_open e.state) refl
  where
    by_test : (b : Bool) → is_open e.state ≡ b → is_open e.state ≡ false
    by_test true q = absurd (false≢true (rw q at h))
    by_test false q = q

pub free_holds : (id : List ℕ) (e : Entry) → is_free e ≡ true → holds id e ≡ false
unfolding holds
free_holds id e h = rw (free_shut e h)

-- an entry holds the ID that it was made for
pub made_holds : (s : State) (o p : List ℕ) → is_open s ≡ true → holds o (entry_for s o p) ≡ true
unfolding holds same_id entry_for
made_holds s o p h = rw (h, eq-eqb (length o) (length o) refl, eq-eqb (get_or o 0 0) (get_or o 0 0) refl, eq-eqb (get_or o 1 0) (get_or o 1 0) refl, eq-eqb (get_or o 2 0) (get_or o 2 0) refl, eq-eqb (get_or o 3 0) (get_or o 3 0) refl)

pub active_holds : (o : List ℕ) (e : Entry) → holds o e ≡ true → holds o (active_now e) ≡ true
unfolding holds same_id
active_holds o e h = (both (is_open e.state) (same_id e o) h).1

-- our ID stands in the entry as it was given
abbrev pub ours_in : Entry → List ℕ
ours_in e = take e.ours.0.octets.len (drop e.ours.0.octets.place e.octets)

pub ours_stands : (s : State) (o p : List ℕ) → length o < 5 → ours_in (entry_for s o p) ≡ o
unfolding entry_for
ours_stands s [] p h = refl
ours_stands s (a ∷ []) p h = refl
ours_stands s (a ∷ b ∷ []) p h = refl
ours_stands s (a ∷ b ∷ c ∷ []) p h = refl
ours_stands s (a ∷ b ∷ c ∷ d ∷ []) p h = refl
ours_stands s (a ∷ b ∷ c ∷ d ∷ e ∷ r) p h = absurd (omega (arith, h))

-- the partner's ID stands in the entry as it was given
pub partner_stands : (s : State) (o p : List ℕ) → length p < 5 → partner_in (entry_for s o p).octets (entry_for s o p).partner ≡ given p
unfolding entry_for partner_of
partner_stands s o [] h = refl
partner_stands s o (a ∷ []) h = refl
partner_stands s o (a ∷ b ∷ []) h = refl
partner_stands s o (a ∷ b ∷ c ∷ []) h = refl
partner_stands s o (a ∷ b ∷ c ∷ d ∷ []) h = refl
partner_stands s o (a ∷ b ∷ c ∷ d ∷ e ∷ r) h = absurd (omega (arith, h))

-- The refusal of a fault, from its number and what is told of it. Assumes nothing.
use Rattle.tcap.specs.declared.OrigTransactionId.{OrigTransactionId}
use Rattle.std.specs.Prelude.{Option as Optional, Some, None}
use Prim.Native.Nat.{ℕ, ◌%◌, ◌≤◌}
use native.Mathlib.Omega.{arith}
use mathlib.Core.Path.{◌≡◌, refl, sym, ap, ◌∙◌}
use mathlib.Core.Bool.{Bool, true, false}
use mathlib.Core.List.{List, [], ◌∷◌}
use mathlib.Core.Option.{none}
use lib.ListN.{length, get_or}
use lib.Dec.{leb}
use lib.IntN.{ℤ}
use borrow.Author.Tests.{eq-eqb, ne_eqb, leb-true}
use Rattle.base.specs.Number.{signed_at}
use Rattle.primitive.proofs.Integers.{signed_one}
use Rattle.element.specs.declared.FaultKind.{FaultKind}
use Rattle.element.specs.Fault.{Text, Owner, Fault, fault}
use Rattle.element.specs.Ask.{Got, got, bad, check}
use Rattle.tcap.specs.declared.{Answer.Answer, Ground.Ground}
use Rattle.tcap.specs.Meaning.{Message}
use Rattle.tcap.specs.WellFormed.{the93}
use Rattle.tcap.specs.Record.{id_field}
use Rattle.tcap.specs.Reading.{located_up_to, ground_of, by_owner, answer_for, refusal_of}
use Rattle.tcap.proofs.FaultPlaces.{place_of}
use Rattle.tcap.proofs.Places.{fault_placed}
use Rattle.read_place.specs.Places.{opening, Placed}
use Rattle.read_place.specs.Blames.{owner_in, id_in, Blames}
use Rattle.read_fault.specs.Faults.{kind_from}
use Rattle.read_fault.proofs.Numbers.{kind_told, place_told}
use Rattle.read_message.specs.Messages.{Answers}
use Rattle.read_refusal.specs.Refusals.{id_told, OrigTold, Blamed, RefusedAs}

-- The answer, by the owner told

module _ (flag octet : ℕ) where
  pub id_null : flag ≡ 0 → None ≡ id_field (id_told flag octet)
  unfolding id_told
  id_null e = rw (eq-eqb flag 0 e)

  pub id_known : (flag ≡ 0 → ⊥) → (z : ℤ) → z ≡ signed_at 255 octet → Some z ≡ id_field (id_told flag octet)
  unfolding id_told
  id_known e z is = rw (ne_eqb flag 0 e) (ap Some (is ∙ signed_one (octet ∷ []) octet refl refl))

module _ (l : List ℕ) (problem cause : ℕ) where
  pub by_portion : get_or l 0 0 ≡ 0 → Answer.AbortCause cause ≡ by_owner problem cause (owner_in l) (id_in l)
  unfolding by_owner owner_in
  by_portion e = rw (eq-eqb (get_or l 0 0) 0 e)

  module _ (a : get_or l 0 0 ≡ 0 → ⊥) where
    pub by_dialogue : get_or l 0 0 ≡ 1 → Answer.AbortCause 3 ≡ by_owner problem cause (owner_in l) (id_in l)
    unfolding by_owner owner_in
    by_dialogue e = rw (ne_eqb (get_or l 0 0) 0 a, eq-eqb (get_or l 0 0) 1 e)

    pub by_component : (get_or l 0 0 ≡ 1 → ⊥) → (i : Optional ℤ) → i ≡ id_field (id_told (get_or l 2 0) (get_or l 3 0)) → Answer.RejectProblem problem (get_or l 1 0) i ≡ by_owner problem cause (owner_in l) (id_in l)
    unfolding by_owner owner_in id_in id_told
    by_component b i is = rw (ne_eqb (get_or l 0 0) 0 a, ne_eqb (get_or l 0 0) 1 b, is)

-- The refusal

module _ (m : List ℕ) where
  place_low : (f : Fault) → located_up_to the93 m ≡ bad f → place_of f ≤ 65535
  place_low f e = go (leb (length m) 255) refl
    where
      go : (b : Bool) → leb (length m) 255 ≡ b → place_of f ≤ 65535
      go true q = let p = (fault_placed the93 (omega arith) m f e).place in omega (arith, p, leb-true (length m) 255 q)
      go false q = unfold located_up_to check in (let z : fault FaultKind.Overlong 255 Owner.portion none none ≡ f = cc in rw (← z) (omega arith))

  module _ (out : List ℕ) (r : ℕ) (number : Answers m (located_up_to the93 m) r) (told : Blamed (located_up_to the93 m) out) where
    pub refused_as : (k : FaultKind) → k ≡ kind_from r → (o : Optional OrigTransactionId) → OrigTold o (located_up_to the93 m) → (g : Ground) → g ≡ ground_of k → (a : Answer) → a ≡ answer_for g (owner_in out) (id_in out)
        → RefusedAs (record { kind = k; place = r % opening; orig = o; answer = a }) (located_up_to the93 m)
    unfolding Placed Blamed Blames OrigTold RefusedAs refusal_of
    refused_as k is o carries g ground a answer = go (located_up_to the93 m) refl number told carries
      where
        go : (x : Got (Message Text)) → located_up_to the93 m ≡ x → Answers m x r → Blamed x out → OrigTold o x → RefusedAs (record { kind = k; place = r % opening; orig = o; answer = a }) x
        go (got v n) e number told carries = tt
        go (bad (fault j p w i t)) e number told carries =
            let low = place_low (fault j p w i t) e in
            let kind : k ≡ j = is ∙ ap kind_from number ∙ kind_told (fault j p w i t) low in
            let place : r % opening ≡ p = ap (λ (n : ℕ). n % opening) number ∙ place_told (fault j p w i t) low in
            let sent : a ≡ answer_for (ground_of j) w i = answer ∙ rw (ground, kind) (sym (told (ground_of j))) in
            rw (kind, place, carries, sent)

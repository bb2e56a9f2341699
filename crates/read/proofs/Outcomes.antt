-- The outcome of a reading, and the octets that are left. Assumes nothing.
use Rattle.tcap.specs.Reading.{outcome_of}
use Rattle.std.specs.Prelude.{Ok, Err}
use Prim.Native.Nat.{ℕ}
use native.Mathlib.Omega.{arith}
use mathlib.Core.Path.{◌≡◌, refl, ap}
use mathlib.Core.List.{List}
use lib.ListN.{replicate}
use Rattle.element.specs.Fault.{Text, Fault}
use Rattle.element.specs.Ask.{Got, got, bad}
use Rattle.tcap.specs.declared.{Refusal.Refusal}
use Rattle.tcap.specs.Meaning.{Message}
use Rattle.tcap.specs.WellFormed.{the93}
use Rattle.tcap.specs.Reading.{located_up_to, answered, reading_up_to, reading}
use Rattle.tcap.proofs.Promises.{located_reads}
use Rattle.read_place.specs.Places.{Near, Far, Placed}
use Rattle.read_place.specs.Laying.{lay_accepted}
use Rattle.read_place.specs.Leaves.{Left}
use Rattle.read_place.specs.Blames.{Blames}
use Rattle.read_place.proofs.Answers.{far_fault}
use Rattle.read_message.specs.Messages.{Answers}
use Rattle.read_refusal.specs.Refusals.{Blamed, RefusedAs}
use Rattle.read.specs.Octets.{Held}
use Rattle.read.proofs.Accepted.{accepted_held}

-- The outcome, and what is left in the octets

module _ (m : List ℕ) (r : ℕ) (number : Answers m (located_up_to the93 m) r) where
  pub left_blamed : (old new : List ℕ) → Left lay_accepted Blames (located_up_to the93 m) old new → Blamed (located_up_to the93 m) new
  unfolding Left Blamed
  left_blamed old new e = go (located_up_to the93 m) e
    where
      go : (x : Got (Message Text)) → Left lay_accepted Blames x old new → Blamed x new
      go (got v n) e = tt
      go (bad f) e = e

  -- a message that is accepted has at most 255 octets
  got_near : (v : Message Text) (n : ℕ) → located_up_to the93 m ≡ got v n → Near r
  unfolding Placed
  got_near v n e = let short = (located_reads the93 (omega arith) m v n e).short in let i : Answers m (got v n) r = rw e at number in omega (arith, i, short)

  bad_far : (f : Fault) → located_up_to the93 m ≡ bad f → Far r
  unfolding Placed
  bad_far f e = let i : Answers m (bad f) r = rw e at number in omega (arith, i, far_fault f)

  pub refused : Far r → (q : Refusal) → RefusedAs q (located_up_to the93 m) → (new : List ℕ) → (Err q ≡ outcome_of (reading m)) × Held (reading m) new
  unfolding RefusedAs Held reading reading_up_to answered
  refused far q e new = go (located_up_to the93 m) refl e
    where
      go : (x : Got (Message Text)) → located_up_to the93 m ≡ x → RefusedAs q x → (Err q ≡ outcome_of (answered x)) × Held (answered x) new
      go (got v n) i e = absurd (omega (arith, got_near v n i, far))
      go (bad g) i e = (ap Err e, tt)

  pub accepted : Near r → (old new : List ℕ) → old ≡ replicate 428 0 → Left lay_accepted Blames (located_up_to the93 m) old new → (Ok tt ≡ outcome_of (reading m)) × Held (reading m) new
  unfolding Left Held reading reading_up_to answered
  accepted near old new blank e = go (located_up_to the93 m) refl e
    where
      go : (x : Got (Message Text)) → located_up_to the93 m ≡ x → Left lay_accepted Blames x old new → (Ok tt ≡ outcome_of (answered x)) × Held (answered x) new
      go (got v n) i e = (refl, rw (e, blank) (accepted_held m v n i))
      go (bad g) i e = absurd (omega (arith, bad_far g i, near))

-- What octet 0 tells of a fault of the transaction portion or of the dialogue. Assumes nothing.
use Prim.Native.Nat.{ℕ}
use mathlib.Core.Path.{◌≡◌, refl}
use mathlib.Core.List.{List}
use mathlib.Core.Option.{Option}
use native.Mathlib.Omega.{arith}
use lib.ListN.{length, set}
use lib.Seq.{get_or-set_same}
use lib.IntN.{ℤ}
use Rattle.element.specs.declared.FaultKind.{FaultKind}
use Rattle.element.specs.Fault.{Owner, portion, dialogue, fault, Text}
use Rattle.element.specs.Ask.{Got, got, bad}
use Rattle.tcap.specs.declared.Ground.{Ground}
use Rattle.tcap.specs.Reading.{by_owner, answer_for}
use Rattle.read_place.specs.Places.{Far, Near, Placed}
use Rattle.read_place.specs.Leaves.{Left, untold}
use Rattle.read_place.specs.Blames.{owner_in, id_in, Blames}
use Rattle.read_place.proofs.Answers.{far_fault}

-- whom the fault belongs to, if there is one
unfoldable pub Belongs : {A : Type 0} → Owner → Got A → Type 0
Belongs w (got a n) = Unit {0}
Belongs w (bad (fault k q o i t)) = o ≡ w

-- The answers to a fault of the transaction portion or of the dialogue do not ask for an invoke ID

portion_any : (g : Ground) (i j : Option ℤ) → answer_for g portion i ≡ answer_for g portion j
unfolding answer_for by_owner
portion_any Ground.UnknownMessage i j = refl
portion_any Ground.TooManyComponents i j = refl
portion_any Ground.UnknownComponent i j = refl
portion_any Ground.WrongPart i j = refl
portion_any Ground.BadForm i j = refl

dialogue_any : (g : Ground) (i j : Option ℤ) → answer_for g dialogue i ≡ answer_for g dialogue j
unfolding answer_for by_owner
dialogue_any Ground.UnknownMessage i j = refl
dialogue_any Ground.TooManyComponents i j = refl
dialogue_any Ground.UnknownComponent i j = refl
dialogue_any Ground.WrongPart i j = refl
dialogue_any Ground.BadForm i j = refl

-- every fault of an owner is told rightly
abbrev pub Says : Owner → List ℕ → Type 0
Says w l = (k : FaultKind) (q : ℕ) (i : Option ℤ) (t : Option Text) → Blames (fault k q w i t) l

module _ (l : List ℕ) (long : length l ≡ 428) where
  pub says_portion : Says portion (set l 0 0)
  unfolding Blames owner_in
  says_portion k q i t g = rw (get_or-set_same l 0 0 0 (omega (arith, long))) (portion_any g i (id_in (set l 0 0)))

  pub says_dialogue : Says dialogue (set l 0 1)
  unfolding Blames owner_in
  says_dialogue k q i t g = rw (get_or-set_same l 0 1 0 (omega (arith, long))) (dialogue_any g i (id_in (set l 0 1)))

-- Of a reader that answered a fault, and of one that answered a place

module _ {A : Type 0} (lay : A → List ℕ → List ℕ) (w : Owner) (x : Got A) (old new : List ℕ) (mine : Belongs w x) (says : Says w new) where
  pub told_far : (p end r : ℕ) → Placed p end x r → Near end → Far r → Left lay Blames x old new
  unfolding Placed Left Belongs
  told_far p end r e b f = go x mine e
    where
      go : (x : Got A) → Belongs w x → Placed p end x r → Left lay Blames x old new
      go (got a n) t e = absurd (omega (arith, e, b, f))
      go (bad (fault k q o i s)) t e = rw t (says k q i s)

pub told_near : {A : Type 0} (lay : A → List ℕ → List ℕ) (x : Got A) (old new : List ℕ) (p end r : ℕ) → Placed p end x r → Near r → Left lay untold x old new → Left lay Blames x old new
unfolding Placed Left
told_near lay (got a n) old new p end r e f q = q
told_near lay (bad g) old new p end r e f q = absurd (omega (arith, e, f, far_fault g))

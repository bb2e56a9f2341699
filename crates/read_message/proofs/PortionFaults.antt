-- Faults that belong to the transaction portion. Assumes nothing.
use Prim.Native.Nat.{ℕ, ◌+◌}
use mathlib.Core.Path.{◌≡◌, refl}
use mathlib.Core.Bool.{Bool, true, false}
use mathlib.Core.List.{List}
use native.Mathlib.Omega.{arith}
use lib.ListN.{length, take, drop, set}
use Rattle.element.specs.declared.FaultKind.{FaultKind}
use Rattle.element.specs.declared.EndRead.{EndRead}
use Rattle.element.specs.declared.TagRead.{TagRead}
use Rattle.element.specs.declared.LengthRead.{LengthRead}
use Rattle.element.specs.Element.{constructor_of}
use Rattle.element.specs.Fault.{portion, fault, Text, at, with_orig_id}
use Rattle.element.specs.Head.{end_of, length_of}
use Rattle.element.specs.inner.Fronts.{front_of}
use Rattle.element.specs.Ask.{Got, got, bad, next, check, blamed, Head, head, definite, indefinite, ask_length, at_end, ask}
use Rattle.element.specs.Parts.{Item, level, leaf_contents, leaf_item}
use Rattle.tcap.specs.Meaning.{Originating, orig}
use Rattle.tcap.specs.Productions.{carried}
use Rattle.read_place.specs.Places.{Far, Near, until, finite, part, front, nothing, Finishes, Closing, Shut}
use Rattle.read_place.specs.Leaves.{Left, unlaid}
use Rattle.read_place.specs.Blames.{Blames}
use Rattle.read_place.proofs.Answers.{far_fault}
use Rattle.read_place.proofs.Fronts.{by_front, ask_front}
use Rattle.read_place.proofs.Asked.{blamed_same}
use Rattle.read_place.proofs.Leaves.{Stays}
use Rattle.read_row.proofs.Pairs.{DoesAll}
use Rattle.read_dialogue.proofs.Told.{Belongs, says_portion}

-- What belongs to the transaction portion: a primitive, whatever it is called, and what must not come any more

leaf_plain : (fits : List ℕ → Bool) (h : Head) (p : ℕ) (part : List ℕ) → Belongs portion (leaf_contents fits h p part)
unfolding leaf_contents Belongs check
leaf_plain fits (head a u (definite n)) p part = go (fits (take n (drop u part)))
  where
    go : (b : Bool) → Belongs {A = Text} portion (check b (at FaultKind.BadContents p) (got (p + u, take n (drop u part)) (u + n)))
    go true = tt
    go false = refl
leaf_plain fits (head a u indefinite) p part = refl

module _ {A : Type 0} (x : Item A) (d : Bool) (p : ℕ) (part : List ℕ) (plain : (h : Head) → Belongs portion (x.contents h p part)) where
  plain_same : (z : Got A) → Belongs portion z → Belongs portion (blamed (λ f. f) z)
  plain_same z e = rw (blamed_same z) e

  plain_length : (a s : ℕ) (l : LengthRead) → Belongs portion (ask_length (front (level 1) FaultKind.Another x) d p part a s l)
  unfolding ask_length
  plain_length a s (LengthRead.Fault k) = unfold Belongs in refl
  plain_length a s (LengthRead.Definite k n) = plain_same _ (plain (head a (s + k) (definite n)))
  plain_length a s LengthRead.Indefinite = plain_same _ (plain (head a (s + 1) indefinite))

  plain_check : (b : Bool) (k : FaultKind) (z : Got A) → Belongs portion z → Belongs portion (check b (at k p) z)
  unfolding check
  plain_check true k z e = e
  plain_check false k z e = unfold Belongs in refl

  plain_front : (e : EndRead) (t : TagRead) → Belongs portion (by_front (front (level 1) FaultKind.Another x) d p part e t)
  unfolding by_front at_end
  plain_front EndRead.Ended t = unfold Belongs in refl
  plain_front EndRead.Unfinished t = unfold Belongs in refl
  plain_front EndRead.More (TagRead.Fault k) = unfold Belongs in refl
  plain_front EndRead.More (TagRead.Tag a s) = plain_check (x.mine a) FaultKind.Another _ (plain_length a s (length_of (drop s part) (constructor_of a)))

  plain_item : Belongs portion (ask (front (level 1) FaultKind.Another x) d p part)
  plain_item = rw (ask_front (front (level 1) FaultKind.Another x) d p part refl refl) (plain_front (end_of d part) (front_of 1 part))

pub plain_leaf : (tag : ℕ) (fits : List ℕ → Bool) (d : Bool) (p : ℕ) (part : List ℕ) → Belongs portion (ask (front (level 1) FaultKind.Another (leaf_item tag fits)) d p part)
plain_leaf tag fits d p part = plain_item (leaf_item tag fits) d p part (λ h. leaf_plain fits h p part)

pub plain_map : {A B : Type 0} (f : A → B) (x : Got A) → Belongs portion x → Belongs portion (next x (λ a n. got (f a) n))
unfolding Belongs next
plain_map f (got a n) e = e
plain_map f (bad (fault k q o i t)) e = e

module _ (d : Bool) (p : ℕ) (part : List ℕ) where
  plain_end : (e : EndRead) (t : TagRead) → Belongs portion (by_front nothing d p part e t)
  unfolding by_front at_end check Belongs
  plain_end EndRead.Ended t = tt
  plain_end EndRead.Unfinished t = refl
  plain_end EndRead.More (TagRead.Fault k) = refl
  plain_end EndRead.More (TagRead.Tag a s) = refl

  pub plain_nothing : Belongs portion (ask nothing d p part)
  plain_nothing = rw (ask_front nothing d p part refl refl) (plain_end (end_of d part) (front_of 1 part))

-- the end of contents, or the fault there
module _ (m : List ℕ) (at stop r : ℕ) (e : Finishes nothing m at stop r) (old : List ℕ) where
  pub end_there : Near r → DoesAll Blames unlaid nothing m at stop r old old
  unfolding Closing Left
  end_there f = (e, go (finite stop) (ask nothing (finite stop) at (part m at stop)) e)
    where
      go : (d : Bool) (x : Got ℕ) → Closing d at (until stop) x r → Left unlaid Blames x old old
      go d (got a n) e = refl
      go d (bad g) e = absurd (omega (arith, e, f, far_fault g))

  pub end_fault : Far r → length old ≡ 428 → (s : ℕ) → s ≡ r → (new : List ℕ) → new ≡ set old 0 0 → DoesAll Blames unlaid nothing m at stop s old new
  unfolding Closing Shut Left Belongs
  end_fault f long s z new i = rw (z, i) (e, go (finite stop) (ask nothing (finite stop) at (part m at stop)) (plain_nothing (finite stop) at (part m at stop)) e)
    where
      go : (d : Bool) (x : Got ℕ) → Belongs portion x → Closing d at (until stop) x r → Left unlaid Blames x old (set old 0 0)
      go true (got a n) t e = absurd (omega (arith, e, f))
      go false (got a n) t e = absurd (omega (arith, e, f))
      go d (bad (fault k q o j u)) t e = rw t (says_portion old long k q j u)

-- the originating ID does not change what is told
pub carried_stays : (o : Originating Text) → Stays Blames (carried o)
unfolding with_orig_id Blames
carried_stays (orig i) (fault k q o j t) l e = e

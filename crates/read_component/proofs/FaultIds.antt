-- Which invoke ID a fault in a component carries: the one that was read before it, or none. Assumes nothing.
use Prim.Native.Nat.{ℕ, ◌+◌, ◌-◌, ◌≤◌}
use mathlib.Core.Path.{◌≡◌, refl, ap}
use mathlib.Core.Bool.{Bool, true, false}
use mathlib.Core.List.{List, [], ◌∷◌}
use mathlib.Core.Option.{Option, none, some}
use native.Mathlib.Omega.{arith}
use lib.ListN.{length, get_or, drop, take}
use lib.Dec.{eqb, ltb}
use Rattle.element.specs.declared.FaultKind.{FaultKind}
use Rattle.element.specs.declared.EndRead.{EndRead}
use Rattle.element.specs.declared.TagRead.{TagRead}
use Rattle.element.specs.declared.LengthRead.{LengthRead}
use Rattle.element.specs.Element.{constructor_of}
use Rattle.element.specs.Fault.{fault, at, Text, with_invoke_id}
use Rattle.element.specs.Head.{end_of, length_of}
use Rattle.element.specs.inner.Fronts.{front_of}
use Rattle.element.specs.Ask.{Got, got, bad, next, check, blamed, definite, indefinite, Head, head, Body, ask_length, at_end, ask}
use Rattle.element.specs.Parts.{map_item, leaf_item, level, leaf_contents, bind_body, integer_item}
use Rattle.read_place.specs.Places.{part, finite, Placed, front, Reads, until, Far, Near}
use Rattle.read_place.proofs.Fronts.{by_front, ask_front}
use Rattle.read_place.proofs.Bodies.{placed_where}
use Rattle.read_place.proofs.Asked.{ask_bind, blamed_same}
use Rattle.tcap.specs.Productions.{noted}
use lib.IntN.{ℤ}
use Rattle.read_place.proofs.Answers.{far_fault}
use Rattle.element.proofs.Asking.{Then, the_fact}
use Rattle.primitive.specs.Primitive.{integer_ok, signed_of}
use Rattle.read_component.specs.Components.{Carries}
use Rattle.read_component.proofs.Values.{value_id, id_placed, id_is}

carries_known : {A : Type 0} (j : Option ℤ) (x : Got A) → Carries j (blamed (with_invoke_id j) x)
unfolding Carries blamed with_invoke_id
carries_known j (got b n) = tt
carries_known j (bad (fault k q o i t)) = refl

-- under another name, however many octets it took
pub carries_map : {A B : Type 0} (f : A → B) (size : ℕ → ℕ) (j : Option ℤ) (x : Got A) → Carries j x → Carries j (next x (λ a n. got (f a) (size n)))
unfolding Carries next
carries_map f size j (got a n) e = tt
carries_map f size j (bad (fault k q o i t)) e = e

carries_over : {A : Type 0} (b : Bool) (k : FaultKind) (p : ℕ) (x : Got A) → Carries none x → Carries none (check b (at k p) x)
unfolding Carries check
carries_over true k p x e = e
carries_over false k p x e = refl

pub far_carries : {A B : Type 0} (z : Got A) (k : A → ℕ → Got B) (p end r : ℕ) → Placed p end z r → Near end → Far r → Carries none z → Carries none (next z k)
unfolding Placed next Carries
far_carries (got a n) k p end r e b f c = absurd (omega (arith, e, b, f))
far_carries (bad (fault j q o i t)) k p end r e b f c = c

-- what was read tells the ID of later faults
pub near_carries : {A B : Type 0} (tells : A → Option ℤ) (z : Got A) (k : A → ℕ → Got B) (p end r : ℕ) → Placed p end z r → Near r → (P : A → ℕ → Type 0) → Then P z → (v : Option ℤ) → ((a : A) → P a (r - p) → tells a ≡ v)
    → Carries v (next z (λ a n. blamed (with_invoke_id (tells a)) (k a n)))
unfolding Placed next
near_carries tells (got a n) k p end r e f P t v g = let i : n ≡ r - p = omega (arith, e) in rw (← (g a (rw i at (the_fact t)))) (carries_known (tells a) (k a n))
near_carries tells (bad b) k p end r e f P t v g = absurd (omega (arith, e, f, far_fault b))

-- a fault of a primitive's own element carries none
module _ {B : Type 0} (f : Text → B) (tag : ℕ) (fits : List ℕ → Bool) (l : ℕ) (d : Bool) (p : ℕ) (part : List ℕ) where
  plain_leaf : (h : Head) → Carries none ((map_item f (leaf_item tag fits)).contents h p part)
  unfolding leaf_contents Carries
  plain_leaf (head a u (definite n)) = carries_map f (λ n. n) none _ (carries_over (fits (take n (drop u part))) FaultKind.BadContents p (got (p + u, take n (drop u part)) (u + n)) tt)
  plain_leaf (head a u indefinite) = carries_map f (λ n. n) none _ (carries_over false FaultKind.BadLength p (got (p, []) 0) tt)

  plain_length : (a s : ℕ) (r : LengthRead) → Carries none (ask_length (front (level l) FaultKind.Another (map_item f (leaf_item tag fits))) d p part a s r)
  unfolding ask_length
  plain_length a s (LengthRead.Fault k) = unfold Carries in refl
  plain_length a s (LengthRead.Definite k n) = rw (blamed_same ((map_item f (leaf_item tag fits)).contents (head a (s + k) (definite n)) p part)) (plain_leaf (head a (s + k) (definite n)))
  plain_length a s LengthRead.Indefinite = rw (blamed_same ((map_item f (leaf_item tag fits)).contents (head a (s + 1) indefinite) p part)) (plain_leaf (head a (s + 1) indefinite))

  plain_front : (e : EndRead) (t : TagRead) → Carries none (by_front (front (level l) FaultKind.Another (map_item f (leaf_item tag fits))) d p part e t)
  unfolding by_front at_end
  plain_front EndRead.Ended t = unfold Carries in refl
  plain_front EndRead.Unfinished t = unfold Carries in refl
  plain_front EndRead.More (TagRead.Fault k) = unfold Carries in refl
  plain_front EndRead.More (TagRead.Tag a s) = carries_over (eqb a tag) FaultKind.Another p _ (plain_length a s (length_of (drop s part) (constructor_of a)))

  pub plain_id : ltb 0 l ≡ true → Carries none (ask (front (level l) FaultKind.Another (map_item f (leaf_item tag fits))) d p part)
  plain_id deep = rw (ask_front (front (level l) FaultKind.Another (map_item f (leaf_item tag fits))) d p part refl deep) (plain_front (end_of d part) (front_of 1 part))

-- so of a component's contents: none before the ID was read, and that ID after it
module _ {B : Type 0} (y : ℤ → Body B) (m : List ℕ) (at stop r : ℕ) (h : until stop ≤ length m) (id : Reads (integer_item 2 1) m at stop r) where
  pub carries_none : Far r → Carries none (ask (bind_body (level 13) noted (integer_item 2 1) y) (finite stop) at (part m at stop))
  carries_none f =
      rw (ask_bind (level 13) (integer_item 2 1) (finite stop) at (part m at stop) noted y)
      (far_carries _ _ at (until stop) r (placed_where (integer_item 2 1) FaultKind.Another (level 13) (λ f. refl) (finite stop) at (part m at stop) (until stop) r refl id) (omega arith) f
      (plain_id (λ v. signed_of v.1) 2 (integer_ok 1) 13 (finite stop) at (part m at stop) refl))

  pub carries_id : Near r → Carries (some (signed_of (get_or m (at + 2) 0 ∷ []))) (ask (bind_body (level 13) noted (integer_item 2 1) y) (finite stop) at (part m at stop))
  carries_id f =
      rw (ask_bind (level 13) (integer_item 2 1) (finite stop) at (part m at stop) noted y)
      (near_carries (λ i. some i) _ _ at (until stop) r (id_placed m at stop r h id f) f _ (value_id (level 13) (finite stop) at (part m at stop)) _ (λ a q. ap (λ (i : ℤ). some i) (id_is m at stop r h id f a q)))

-- a null is none, and so is its own fault
pub null_carries : {B : Type 0} (z : Got (Option ℤ)) (k : Option ℤ → ℕ → Got B) → Carries none z → Then (λ a n. a ≡ none) z → Carries none (next z (λ a n. blamed (with_invoke_id a) (k a n)))
unfolding next Carries
null_carries (got a n) k c t = rw (the_fact t) (carries_known none (k none n))
null_carries (bad (fault j q o i t)) k c e = c

-- What was read stands between the places that the readers told: values from places. Assumes nothing.
use Prim.Native.Nat.{ℕ, zero, suc, ◌+◌, ◌-◌, ◌%◌, ◌≤◌}
use mathlib.Core.Path.{◌≡◌, refl, sym, ap}
use mathlib.Core.Bool.{Bool, true, false, false≢true}
use mathlib.Core.List.{List, [], ◌∷◌}
use mathlib.Core.Option.{some}
use native.Mathlib.Omega.{arith}
use lib.ListN.{length, drop, take, length-drop}
use lib.Dec.{eqb}
use borrow.Author.Tests.{eqb-true}
use Rattle.element.specs.declared.FaultKind.{FaultKind}
use Rattle.element.specs.declared.EndRead.{EndRead}
use Rattle.element.specs.declared.TagRead.{TagRead}
use Rattle.element.specs.declared.LengthRead.{LengthRead}
use Rattle.element.specs.Element.{constructor_of, extended_of, IsTag}
use Rattle.element.specs.Fault.{Text}
use lib.Seq.{length-take-le}
use Rattle.element.specs.Head.{end_of, tag_of}
use Rattle.element.specs.Ask.{Got, got, bad, next, Head, Body, ask}
use Rattle.element.specs.Parts.{Item, Where, leaf_contents, leaf_item, inside, first_of, done, last_body, map_body}
use Rattle.element.proofs.Heads.{TagIs, tag_sound, LengthIs, length_sound}
use Rattle.element.proofs.Reading.{definite_size}
use Rattle.read_place.specs.Places.{part, finite, Placed, front, Leads, until, Near}
use Rattle.read_place.proofs.Answers.{far_fault}
use Rattle.read_place.proofs.Asked.{ask_last, ask_map}
use Rattle.read_place.proofs.Items.{stands_short, take_head}
use Rattle.element.specs.Walk.{walk_item, walk_contents, walk_pick}
use Rattle.element.proofs.Asking.{Then, fact, void, the_fact, then_next, then_check, then_blamed, HeadOf, finite as finite-head, unended, ask_sound}
use Rattle.element.proofs.Views.{span_drop}

-- a place that was told, and what is known of whatever was got
module _ {A : Type 0} (x : Got A) (p end r : ℕ) (P : A → ℕ → Type 0) where
  pub placed_got : Placed p end x r → Near r → Then P x → (a : A) × (x ≡ got a (r - p)) × P a (r - p)
  unfolding Placed
  placed_got e f h = go x e h
    where
      go : (x : Got A) → Placed p end x r → Then P x → (a : A) × (x ≡ got a (r - p)) × P a (r - p)
      go (got a n) e h = let z : n ≡ r - p = omega (arith, e) in (a, ap (λ (k : ℕ). got a k) z, rw (← z) (the_fact h))
      go (bad g) e h = absurd (omega (arith, e, f, far_fault g))

next_value : {A : Type 0} (x : Got A) (f : ℕ → Text) → Then (λ v n. v ≡ f n) (next x (λ a n. got (f n) n))
unfolding next
next_value (got a n) f = fact refl
next_value (bad g) f = void

pick_value : (c : Bool) (s : ℕ → Body (List Text)) (h : Head) (p : ℕ) (part : List ℕ) → Then (λ v n. v ≡ (p, take n part)) (walk_pick c s h p part)
unfolding walk_pick
pick_value true s h p part = next_value (inside s h p part) (λ n. (p, take n part))
pick_value false s h p part = next_value (leaf_contents (λ c. true) h p part) (λ n. (p, take n part))

contents_value : (l : ℕ) (h : Head) (p : ℕ) (part : List ℕ) → Then (λ v n. v ≡ (p, take n part)) (walk_contents l h p part)
unfolding walk_contents
contents_value zero h p part = void
contents_value (suc l) h p part = pick_value _ _ h p part

-- a walked element is the octets between its two places
pub value_walk : (l : ℕ) (w : Where) (d : Bool) (p : ℕ) (part : List ℕ) → Then (λ v n. v ≡ (p, take n part)) (ask (front w FaultKind.Another (walk_item l)) d p part)
value_walk l w d p part = ask_sound (λ v n. v ≡ (p, take n part)) (front w FaultKind.Another (walk_item l)) d p part (λ v e f. let z : ◌≡◌ {A = ℕ} 0 1 = cc in absurd (omega arith)) (λ h i m. then_blamed w.owner (by_level l h))
  where
    by_level : (l : ℕ) (h : Head) → Then (λ v n. v ≡ (p, take n part)) (walk_contents l h p part)
    by_level l h = contents_value l h p part

-- the contents of a primitive with few octets stand two octets on
module _ (tag most : ℕ) (fits : List ℕ → Bool) (leads : Leads tag) (few : most ≤ 127) (sized : (c : List ℕ) → fits c ≡ true → (1 ≤ length c) × (length c ≤ most)) (p : ℕ) (part : List ℕ) where
  abbrev Stood : Text → ℕ → Type 0
  Stood v n = (3 ≤ n) × (v ≡ (p + 2, take (n - 2) (drop 2 part))) × (n ≤ most + 2)

  one_octet_tag : (a s : ℕ) → tag_of part ≡ TagRead.Tag a s → a ≡ tag → s ≡ 1
  unfolding TagIs IsTag extended_of
  one_octet_tag a s e q = let (x, r, i, j, z) : TagIs part (TagRead.Tag a s) = rw e at (tag_sound part) in go x j z
    where
      go : (x : List ℕ) → IsTag a x → s ≡ suc (length x) → s ≡ 1
      go [] j z = z
      go (y ∷ []) j z = absurd (omega (arith, eqb-true (a % 32) 31 j.0, q, leads))
      go (y ∷ u ∷ []) j z = absurd (omega (arith, eqb-true (a % 32) 31 j.0, q, leads))
      go (y ∷ u ∷ v ∷ []) j z = absurd (omega (arith, eqb-true (a % 32) 31 j.0, q, leads))
      go (y ∷ u ∷ v ∷ w ∷ r) j z = absurd j

  pub leaf_stood : (h : Head) → HeadOf part h → eqb (first_of h) tag ≡ true → Then Stood (leaf_contents fits h p part)
  unfolding leaf_contents LengthIs
  leaf_stood h (finite-head a s k n t z l) m =
      then_check (fits (take n (drop (s + k) part))) _ λ f.
      let one : s ≡ 1 = one_octet_tag a s t (eqb-true a tag m) in
      let (st, room) : LengthIs (drop s part) (constructor_of a) (LengthRead.Definite k n) = rw l at (length_sound (drop s part) (constructor_of a)) in
      let long : length (take n (drop (s + k) part)) ≡ n = length-take-le n (drop (s + k) part) (omega (arith, length-drop (s + k) part, length-drop s part, room)) in
      let w = sized (take n (drop (s + k) part)) f in
      let d = definite_size (drop s part) (constructor_of a) k n (LengthRead.Definite k n) (sym l) refl in
      let t = take_head k (drop s part) n (stands_short (take k (drop s part)) n st (omega (arith, w, long, few))) d.0 (omega (arith, d)) in
      let u : s + k ≡ 2 = omega (arith, one, t.0) in
      let v : 2 + n - 2 ≡ n = omega arith in
      fact (rw u (omega (arith, w, long), rw v, omega (arith, w, long)))
  leaf_stood h (unended a s t z l) m = then_check false _ λ f. absurd (false≢true f)

  pub value_leaf : (w : Where) (d : Bool) → Then Stood (ask (front w FaultKind.Another (leaf_item tag fits)) d p part)
  value_leaf w d = ask_sound Stood (front w FaultKind.Another (leaf_item tag fits)) d p part (λ v e f. let z : ◌≡◌ {A = ℕ} 0 1 = cc in absurd (omega arith)) (λ h i m. then_blamed w.owner (leaf_stood h i m))

-- Values of contents put together: that of the first element stands up to the place that was told, the rest's from there on

module _ {A : Type 0} (w : Where) (x : Item A) (m : List ℕ) (at stop r : ℕ) (e : Placed at (until stop) (ask (front w FaultKind.Another x) (finite stop) at (part m at stop)) r) (near : Near r)
    (P : A → ℕ → Type 0) (known : Then P (ask (front w FaultKind.Another x) (finite stop) at (part m at stop))) where
  pub step : {C : Type 0} (R : C → ℕ → Type 0) (k : A → ℕ → Got C) → ((a : A) (n : ℕ) → P a (r - at) → r ≡ at + n → Then R (k a n)) → Then R (next (ask (front w FaultKind.Another x) (finite stop) at (part m at stop)) k)
  unfolding Placed next
  step {C} R k h = go (ask (front w FaultKind.Another x) (finite stop) at (part m at stop)) e known
    where
      go : (z : Got A) → Placed at (until stop) z r → Then P z → Then R (next z k)
      go (got a n) e q = let i : n ≡ r - at = omega (arith, e) in h a n (rw i at (the_fact q)) e.0
      go (bad f) e q = absurd (omega (arith, e, near, far_fault f))

  pub behind_value : {B C : Type 0} (y : Body B) (f : B → C) (n : ℕ) → r ≡ at + n → (Q : B → Type 0) (R : C → Type 0) → ((b : B) → Q b → R (f b)) → Then (λ b k. Q b) (ask y (finite stop) r (part m r stop))
      → Then (λ c k. R c) (next (ask y (finite stop) (at + n) (drop n (part m at stop))) (λ b k. got (f b) (n + k)))
  behind_value y f n z Q R g h = rw (span_drop m at (until stop) n) (then_next (rw z at h) (λ b k q. fact (g b q)))

  pub done_value : (a : A) (d : Bool) (p : ℕ) (l : List ℕ) → Then (λ b k. b ≡ a) (ask (done w a) d p l)
  done_value a d p l = ask_sound (λ b k. b ≡ a) (done w a) d p l (λ v e f. cc) (λ h i m. absurd (false≢true m))

  pub last_value : (end_of (finite stop) (part m at stop) ≡ EndRead.Ended → ⊥) → (Q : A → Type 0) → ((a : A) → P a (r - at) → Q a) → Then (λ v n. (a : A) × (v ≡ some a) × Q a) (ask (last_body w x) (finite stop) at (part m at stop))
  last_value there Q h =
      rw (ask_last w x (finite stop) at (part m at stop) there) (step (λ v n. (a : A) × (v ≡ some a) × Q a) _ (λ a n q z. behind_value (done w a) (λ b. some a) n z (λ b. b ≡ a) (λ v. (a : A) × (v ≡ some a) × Q a) (λ b i. (a, refl, h a q)) (done_value a (finite stop) r (part m r stop))))

pub map_value : {A B : Type 0} (f : A → B) (b : Body A) (d : Bool) (p : ℕ) (l : List ℕ) (Q : A → Type 0) (R : B → Type 0) → ((a : A) → Q a → R (f a)) → Then (λ a n. Q a) (ask b d p l) → Then (λ v n. R v) (ask (map_body f b) d p l)
map_value f b d p l Q R g h = rw (ask_map f b d p l) (then_next h (λ a n q. fact (g a q)))

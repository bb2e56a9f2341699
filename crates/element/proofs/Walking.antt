-- What the walkers answer, from what their code was told on the way: an element is opened, a series is its first element and the rest.
-- Assumes nothing.
use Prim.Native.Nat.{ℕ, zero, suc, ◌+◌, ◌-◌, ◌≤◌}
use mathlib.Core.Path.{◌≡◌, refl, sym, ap, ◌∙◌}
use mathlib.Core.Bool.{Bool, true, false, not, false≢true}
use mathlib.Core.List.{List, [], ◌∷◌}
use mathlib.Core.Option.{Option, none, some}
use native.Mathlib.Omega.{arith}
use native.Mathlib.Nat.{add-zero, zero-add, add_assoc}
use native.Mathlib.Numerals.{sub-one}
use lib.ListN.{length, take, drop, length-drop, length-take}
use lib.Seq.{drop-drop}
use lib.Dec.{ltb}
use Rattle.element.specs.Element.{constructor_of, code_zero}
use Rattle.element.specs.Fault.{fault, at, Text}
use Rattle.element.specs.Head.{end_of, tag_of, length_of}
use Rattle.element.specs.Ask.{Got, got, bad, next, check, blamed, Size, definite, indefinite, Head, head, Body, ask_length, ask_tag, ask_end, ask}
use Rattle.element.specs.Parts.{level, leaf_contents, inside, place, onward, silently, series_body}
use Rattle.element.specs.Walk.{walk_pick, walk_contents}
use Rattle.element.specs.Answers.{wanted_item, walk_of, element_walk, series_walk}
use Rattle.element.specs.inner.Fronts.{front_of}
use Rattle.element.specs.declared.FaultKind.{FaultKind}
use Rattle.element.specs.declared.FaultKind.TheVariants.{CutOff, BadLength, TooDeep, CodeZero, Another}
use Rattle.element.specs.declared.EndRead.{EndRead}
use Rattle.element.specs.declared.EndRead.TheVariants.{Ended, Unfinished, More}
use Rattle.element.specs.declared.TagRead.{TagRead}
use Rattle.element.specs.declared.TagRead.TheVariants.{Fault as tag_fault, Tag}
use Rattle.element.specs.declared.LengthRead.{LengthRead}
use Rattle.element.specs.declared.LengthRead.TheVariants.{Fault as length_fault, Definite, Indefinite}
use Rattle.element.specs.declared.Walk.{Walk}
use Rattle.element.specs.declared.Walk.TheVariants.{Fault as walk_fault, Whole}
use Rattle.element.proofs.Asking.{ask_ends, ask_unfinished}
use Rattle.element.proofs.Reading.{FrontIs, front_says, front_refused, indefinite_size}
use Rattle.element.proofs.WalkedWhole.{wanted_tag, wanted_is, wanted_body, wanted_bodies, element_size}

-- a walk that goes on after its octets; a walk after n octets
unfoldable pub then_walk : Walk → (ℕ → Walk) → Walk
then_walk (walk_fault k p) f = walk_fault k p
then_walk (Whole n) f = f n

unfoldable pub grown : ℕ → Walk → Walk
grown n (walk_fault k p) = walk_fault k p
grown n (Whole m) = Whole (n + m)

pub then_same : (w : Walk) (f g : ℕ → Walk) → ((n : ℕ) → w ≡ Whole n → f n ≡ g n) → then_walk w f ≡ then_walk w g
unfolding then_walk
then_same (walk_fault k p) f g h = refl
then_same (Whole n) f g h = h n refl

-- the walk of what is got step by step
pub walk_next : {A B : Type 0} (x : Got A) (f : A → ℕ → Got B) (g : ℕ → Walk) → ((a : A) (n : ℕ) → walk_of (f a n) ≡ g n) → walk_of (next x f) ≡ then_walk (walk_of x) g
unfolding walk_of next then_walk
walk_next (got a n) f g h = h a n
walk_next (bad (fault k p o i t)) f g h = refl

walk_twice : {A B C : Type 0} (x : Got A) (f : A → ℕ → Got B) (g : B → ℕ → Got C) (h : ℕ → Walk) → ((a : A) (n : ℕ) → walk_of (next (f a n) g) ≡ h n) → walk_of (next (next x f) g) ≡ then_walk (walk_of x) h
unfolding walk_of next then_walk
walk_twice (got a n) f g h e = e a n
walk_twice (bad (fault k p o i t)) f g h e = refl

walk_blamed : {A : Type 0} (x : Got A) → walk_of (blamed (λ f. f) x) ≡ walk_of x
unfolding blamed
walk_blamed (got a n) = refl
walk_blamed (bad f) = refl

walk_grown : {A B : Type 0} (n : ℕ) (x : Got A) (f : A → B) → walk_of (next x (λ a k. got (f a) (n + k))) ≡ grown n (walk_of x)
unfolding walk_of next grown
walk_grown n (got a k) f = refl
walk_grown n (bad (fault k p o i t)) f = refl

pub walk_onward : {A B C : Type 0} (x : Got A) (y : Body B) (f : A → B → C) (d : Bool) (p : ℕ) (part : List ℕ)
    → walk_of (onward (λ f. f) x silently (λ a. y) f d p part) ≡ then_walk (walk_of x) (λ n. grown n (walk_of (ask y d (p + n) (drop n part))))
unfolding onward
walk_onward x y f d p part =
    walk_next (blamed (λ f. f) x) _ (λ n. grown n (walk_of (ask y d (p + n) (drop n part)))) (λ a n. walk_blamed _ ∙ walk_grown n (ask y d (p + n) (drop n part)) (f a))
    ∙ rw (walk_blamed x)

-- Two bodies that ask the same of an element: if what they then do is the same but for F, so are their walks
module _ {A B : Type 0} (F : Walk → Walk) (l : ℕ) (mine : ℕ → Bool) (x : Option A) (y : Option B) (f : Bool → Head → ℕ → List ℕ → Got A) (g : Bool → Head → ℕ → List ℕ → Got B)
    (d e : Bool) (p q : ℕ) (part : List ℕ) (faults : (k : FaultKind) → walk_fault k p ≡ F (walk_fault k q)) (goes : (h : Head) → walk_of (f d h p part) ≡ F (walk_of (g e h q part))) where
  length_by_lem : (a s : ℕ) (r : LengthRead) → walk_of (ask_length (place (level l) x mine Another f) d p part a s r) ≡ F (walk_of (ask_length (place (level l) y mine Another g) e q part a s r))
  unfolding ask_length walk_of
  length_by_lem a s (length_fault k) = faults k
  length_by_lem a s (Definite k n) = goes (head a (s + k) (definite n))
  length_by_lem a s Indefinite = goes (head a (s + 1) indefinite)

  check_by : (b : Bool) (k : FaultKind) (u : Got A) (v : Got B) → walk_of u ≡ F (walk_of v) → walk_of (check b (at k p) u) ≡ F (walk_of (check b (at k q) v))
  unfolding check walk_of
  check_by true k u v h = h
  check_by false k u v h = faults k

  pub tag_by_lem : (t : TagRead) → walk_of (ask_tag (place (level l) x mine Another f) d p part t) ≡ F (walk_of (ask_tag (place (level l) y mine Another g) e q part t))
  unfolding ask_tag walk_of
  tag_by_lem (tag_fault k) = faults k
  tag_by_lem (Tag a s) =
      check_by (not (code_zero a)) CodeZero _ _ (check_by (ltb 0 l) TooDeep _ _ (check_by (mine a) Another _ _ (length_by_lem a s (length_of (drop s part) (constructor_of a)))))

-- another element begins only where there are octets
pub not_more : (d : Bool) (part : List ℕ) → length part ≤ 0 → end_of d part ≡ More → ⊥
unfolding end_of
not_more true [] h e = let z : ◌≡◌ {A = ℕ} 0 1 = cc in omega arith
not_more false [] h e = let z : ◌≡◌ {A = ℕ} 0 1 = cc in omega arith
not_more d (x ∷ r) h e = omega arith

-- A series: an element takes octets, so more of them than there are octets do not matter
module _ (t l : ℕ) where
  room_ended : (room k : ℕ) (d : Bool) (p : ℕ) (part : List ℕ) → end_of d part ≡ Ended → walk_of (ask (wanted_bodies t l room k) d p part) ≡ Whole 0
  unfolding series_body walk_of
  room_ended zero k d p part e = ap walk_of (ask_ends (wanted_bodies t l zero k) d p part [] e refl)
  room_ended (suc room) k d p part e = ap walk_of (ask_ends (wanted_bodies t l (suc room) k) d p part [] e refl)

  room_unfinished : (room k : ℕ) (d : Bool) (p : ℕ) (part : List ℕ) → end_of d part ≡ Unfinished → walk_of (ask (wanted_bodies t l room k) d p part) ≡ walk_fault CutOff p
  unfolding walk_of
  room_unfinished room k d p part e = ap walk_of (ask_unfinished (wanted_bodies t l room k) d p part e)

  room_more : (room k : ℕ) (d : Bool) (p : ℕ) (part : List ℕ) → end_of d part ≡ More
      → walk_of (ask (wanted_bodies t l (suc room) k) d p part) ≡ then_walk (element_walk t l p part) (λ n. grown n (walk_of (ask (wanted_bodies t l room (suc k)) d (p + n) (drop n part))))
  unfolding series_body ask ask_end check element_walk then_walk
  room_more room k d p part e =
      rw e (tag_by_lem (λ w. then_walk w (λ n. grown n (walk_of (ask (wanted_bodies t l room (suc k)) d (p + n) (drop n part))))) l (wanted_item t l).mine (some []) none _ _ d true p p part
      (λ k. refl) (λ h. walk_onward ((wanted_item t l).contents h p part) (wanted_bodies t l room (suc k)) (λ a ws. a ∷ ws) d p part) (tag_of part))

  by_end : (j k i m : ℕ) (d : Bool) (p : ℕ) (part : List ℕ) → (end_of d part ≡ More → walk_of (ask (wanted_bodies t l j i) d p part) ≡ walk_of (ask (wanted_bodies t l k m) d p part))
      → (e : EndRead) → end_of d part ≡ e → walk_of (ask (wanted_bodies t l j i) d p part) ≡ walk_of (ask (wanted_bodies t l k m) d p part)
  by_end j k i m d p part h Ended e = room_ended j i d p part e ∙ sym (room_ended k m d p part e)
  by_end j k i m d p part h Unfinished e = room_unfinished j i d p part e ∙ sym (room_unfinished k m d p part e)
  by_end j k i m d p part h More e = h e

  enough : (j k i m : ℕ) (d : Bool) (p : ℕ) (part : List ℕ) → length part ≤ j → length part ≤ k → walk_of (ask (wanted_bodies t l j i) d p part) ≡ walk_of (ask (wanted_bodies t l k m) d p part)
  enough zero k i m d p part h g = by_end zero k i m d p part (λ e. absurd (not_more d part h e)) (end_of d part) refl
  enough (suc j) zero i m d p part h g = by_end (suc j) zero i m d p part (λ e. absurd (not_more d part g e)) (end_of d part) refl
  enough (suc j) (suc k) i m d p part h g =
      by_end (suc j) (suc k) i m d p part (λ e. room_more j i d p part e
      ∙ then_same (element_walk t l p part) _ _ (λ n w. let z = element_size t l p part n w in
      ap (grown n) (enough j k (suc i) (suc m) d (p + n) (drop n part) (omega (arith, z, length-drop n part)) (omega (arith, z, length-drop n part))))
      ∙ sym (room_more k m d p part e)) (end_of d part) refl

  -- the series opened
  pub series_ended : (d : Bool) (p : ℕ) (part : List ℕ) → end_of d part ≡ Ended → series_walk t l d p part ≡ Whole 0
  unfolding series_walk
  series_ended d p part e = room_ended (length part) 0 d p part e

  pub series_unfinished : (d : Bool) (p : ℕ) (part : List ℕ) → end_of d part ≡ Unfinished → series_walk t l d p part ≡ walk_fault CutOff p
  unfolding series_walk
  series_unfinished d p part e = room_unfinished (length part) 0 d p part e

  pub series_more : (d : Bool) (p : ℕ) (part : List ℕ) → end_of d part ≡ More → series_walk t l d p part ≡ then_walk (element_walk t l p part) (λ n. grown n (series_walk t l d (p + n) (drop n part)))
  unfolding series_walk
  series_more d p part e =
      let j : ℕ = length part in
      enough j (suc j) 0 0 d p part (omega arith) (omega arith) ∙ room_more j 0 d p part e
      ∙ then_same (element_walk t l p part) _ _ (λ n w. ap (grown n) (enough j (length (drop n part)) 1 0 d (p + n) (drop n part) (omega (arith, length-drop n part)) (omega arith)))

-- The contents of an element, `inner` being the walk of what is inside

unfoldable pub contents_walk : Bool → (Bool → ℕ → List ℕ → Walk) → ℕ → Size → ℕ → List ℕ → Walk
contents_walk true inner u (definite n) p part = then_walk (inner true (p + u) (take n (drop u part))) (λ k. Whole (u + n))
contents_walk true inner u indefinite p part = then_walk (inner false (p + u) (drop u part)) (λ k. Whole (u + (k + 2)))
contents_walk false inner u (definite n) p part = Whole (u + n)
contents_walk false inner u indefinite p part = walk_fault BadLength p

abbrev Walked : (ℕ → Body (List Text)) → (Bool → ℕ → List ℕ → Walk) → Type 0
Walked b inner = (n : ℕ) (d : Bool) (p : ℕ) (part : List ℕ) → length part ≤ n → walk_of (ask (b n) d p part) ≡ inner d p part

pub pick_walk : (b : ℕ → Body (List Text)) (inner : Bool → ℕ → List ℕ → Walk) → Walked b inner
    → (c : Bool) (a u : ℕ) (z : Size) (p : ℕ) (part : List ℕ) → walk_of (walk_pick c b (head a u z) p part) ≡ contents_walk c inner u z p part
unfolding walk_pick inside contents_walk leaf_contents check walk_of next then_walk
pick_walk b inner is true a u (definite n) p part =
    walk_twice (ask (b n) true (p + u) (take n (drop u part))) _ _ (λ k. Whole (u + n)) (λ v k. refl) ∙ rw (is n true (p + u) (take n (drop u part)) (omega (arith, length-take n (drop u part))))
pick_walk b inner is true a u indefinite p part =
    walk_twice (ask (b (length (drop u part))) false (p + u) (drop u part)) _ _ (λ k. Whole (u + (k + 2))) (λ v k. refl) ∙ rw (is (length (drop u part)) false (p + u) (drop u part) (omega arith))
pick_walk b inner is false a u (definite n) p part = refl
pick_walk b inner is false a u indefinite p part = refl

pub contents_walk_lem : (l : ℕ) → ltb 0 l ≡ true → (a u : ℕ) (z : Size) (p : ℕ) (part : List ℕ) → walk_of (walk_contents l (head a u z) p part) ≡ contents_walk (constructor_of a) (series_walk 0 (l - 1)) u z p part
unfolding walk_contents series_walk wanted_item
contents_walk_lem zero h a u z p part = absurd (false≢true h)
contents_walk_lem (suc l) h a u z p part =
    rw (sub-one (suc l)) (pick_walk (λ n. wanted_bodies 0 l n 0) (series_walk 0 l) (λ n d p part h. enough 0 l n (length part) 0 0 d p part h (omega arith)) (constructor_of a) a u z p part)

-- One element of any tag

pub element_fault : (l p : ℕ) (part : List ℕ) (k : FaultKind) → tag_fault k ≡ front_of l part → walk_fault k p ≡ element_walk 0 l p part
unfolding element_walk walk_of
element_fault l p part k e = rw (front_refused (wanted_body 0 l) true p part k (sym e))

-- its tag takes s octets, and behind them stands q
module _ (l p : ℕ) (part : List ℕ) (a s : ℕ) (tag : Tag a s ≡ front_of l part) (q : List ℕ) (c : Bool) (is-rest : q ≡ drop s part) (is_c : c ≡ constructor_of a) where
  opened : (n : LengthRead) → n ≡ length_of q c → element_walk 0 l p part ≡ walk_of (ask_length (wanted_body 0 l) true p part a s n)
  unfolding element_walk ask_tag check FrontIs wanted_tag
  opened n is-n = let (e, z, d) : FrontIs l part (Tag a s) = front_says l part a s (Tag a s) tag refl in rw (e, z, d, wanted_is 0 l, z, is-n, is-rest, is_c)

  contents_of_lem : (u : ℕ) (z : Size) → walk_of ((wanted_item 0 l).contents (head a u z) p part) ≡ contents_walk c (series_walk 0 (l - 1)) u z p part
  unfolding FrontIs
  contents_of_lem u z = let (e, y, d) : FrontIs l part (Tag a s) = front_says l part a s (Tag a s) tag refl in rw (wanted_is 0 l, is_c) (contents_walk_lem l d a u z p part)

  pub element_length : (k : FaultKind) → length_fault k ≡ length_of q c → walk_fault k p ≡ element_walk 0 l p part
  unfolding ask_length walk_of
  element_length k e = rw (opened (length_fault k) e)

  module _ (k n : ℕ) (len : Definite k n ≡ length_of q c) where
    definite_is : element_walk 0 l p part ≡ contents_walk c (series_walk 0 (l - 1)) (s + k) (definite n) p part
    unfolding ask_length
    definite_is = opened (Definite k n) len ∙ contents_of_lem (s + k) (definite n)

    pub element_primitive : c ≡ false → Whole (s + k + n) ≡ element_walk 0 l p part
    unfolding contents_walk
    element_primitive f = rw (definite_is, f)

    pub element_definite : c ≡ true → element_walk 0 l p part ≡ then_walk (series_walk 0 (l - 1) true (p + (s + k)) (take n (drop (s + k) part))) (λ j. Whole (s + k + n))
    unfolding contents_walk
    element_definite f = rw (definite_is, f)

  pub element_indefinite : Indefinite ≡ length_of q c → element_walk 0 l p part ≡ then_walk (series_walk 0 (l - 1) false (p + (s + 1)) (drop (s + 1) part)) (λ j. Whole (s + 1 + (j + 2)))
  unfolding ask_length contents_walk
  element_indefinite e = opened Indefinite e ∙ contents_of_lem (s + 1) indefinite ∙ rw (indefinite_size q c Indefinite e refl).1

-- A series of which `at` octets are walked

pub grown_zero : (w : Walk) → grown 0 w ≡ w
unfolding grown
grown_zero (walk_fault k p) = refl
grown_zero (Whole m) = ap (λ (k : ℕ). Whole k) (zero-add m)

pub grown_grown : (j k : ℕ) (w : Walk) → grown j (grown k w) ≡ grown (j + k) w
unfolding grown
grown_grown j k (walk_fault n p) = refl
grown_grown j k (Whole m) = ap (λ (k : ℕ). Whole k) (sym (add_assoc j k m))

unfoldable pub Left : ℕ → ℕ → Bool → ℕ → List ℕ → ℕ → Type 0
Left t l d p part at = series_walk t l d p part ≡ grown at (series_walk t l d (p + at) (drop at part))

pub loop_start : (t l : ℕ) (d : Bool) (p : ℕ) (part : List ℕ) → Left t l d p part 0
unfolding Left
loop_start t l d p part = rw (add-zero p) (sym (grown_zero (series_walk t l d p part)))

module _ (t l : ℕ) (d : Bool) (p : ℕ) (part : List ℕ) (at : ℕ) (q : List ℕ) (e : EndRead) (inv : Left t l d p part at) (is-rest : q ≡ drop at part) (is : e ≡ end_of d q) where
  pub loop_ended : e ≡ Ended → Whole at ≡ series_walk t l d p part
  unfolding Left grown
  loop_ended f = rw (inv, ← is-rest, series_ended t l d (p + at) q (sym is ∙ f), add-zero at)

  module _ (more : e ≡ More) (w : Walk) (again : List ℕ) (is-again : again ≡ drop at part) (is-first : w ≡ element_walk t l (p + at) again) where
    one_more : series_walk t l d p part ≡ grown at (then_walk w (λ n. grown n (series_walk t l d (p + at + n) (drop n q))))
    unfolding Left
    one_more = rw (inv, is-first, is-again, ← is-rest, series_more t l d (p + at) q (sym is ∙ more))

    pub loop_fault : (k : FaultKind) (found : ℕ) → w ≡ walk_fault k found → walk_fault k found ≡ series_walk t l d p part
    unfolding then_walk grown
    loop_fault k found f = rw (one_more, f)

    pub loop_next : (n : ℕ) → w ≡ Whole n → Left t l d p part (at + n)
    unfolding Left then_walk
    loop_next n f = rw (one_more, f, is-rest, drop-drop n at part, grown_grown, add_assoc p at n)

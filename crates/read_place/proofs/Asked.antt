-- How a body that is put together is asked: its first element, then the rest. Assumes nothing.
use Prim.Native.Nat.{ℕ, ◌+◌}
use mathlib.Core.Path.{◌≡◌, refl, ap, ◌∙◌}
use mathlib.Core.Bool.{Bool, true, false, not}
use mathlib.Core.List.{List}
use mathlib.Core.Option.{Option, none, some, map}
use lib.ListN.{drop}
use lib.Dec.{ltb}
use Rattle.element.specs.declared.FaultKind.{FaultKind}
use Rattle.element.specs.declared.EndRead.{EndRead}
use Rattle.element.specs.declared.TagRead.{TagRead}
use Rattle.element.specs.declared.LengthRead.{LengthRead}
use Rattle.element.specs.Element.{constructor_of, code_zero}
use Rattle.element.specs.Fault.{Fault}
use Rattle.element.specs.Head.{end_of, tag_of, length_of}
use Rattle.element.specs.Ask.{Got, got, bad, next, check, blamed, Body, ask_length, ask_tag, at_end, ask_end, ask}
use Rattle.element.specs.Parts.{Item, Where, done, onward, bind_body, silently, then_body, only_body, last_body, map_body}
use Rattle.read_place.specs.Places.{part, front}

-- A body that goes on after another: the same questions, the same faults

check_over : {A : Type 0} (t : Bool) (f : Fault) {x y : Got A} → x ≡ y → check t f x ≡ check t f y
check_over t f e = ap (λ z. check t f z) e

pub next_check : {A B : Type 0} (t : Bool) (f : Fault) (x : Got A) (k : A → ℕ → Got B) → check t f (next x k) ≡ next (check t f x) k
unfolding check next
next_check true f x k = refl
next_check false f x k = refl

pub blamed_same : {A : Type 0} (x : Got A) → blamed (λ f. f) x ≡ x
unfolding blamed
blamed_same (got a n) = refl
blamed_same (bad f) = refl

module _ {A B : Type 0} (c : Body A) (ends : Option B) (K : Bool → ℕ → List ℕ → A → ℕ → Got B) where
  abbrev pub onto : Body B
  onto = record { ends = ends; full = c.full; owner = c.owner; left = c.left; mine = c.mine; other = c.other; goes = λ d h p part. next (c.goes d h p part) (K d p part) }

  module _ (d : Bool) (p : ℕ) (part : List ℕ) where
    length_onto : (a s : ℕ) (l : LengthRead) → ask_length onto d p part a s l ≡ next (ask_length c d p part a s l) (K d p part)
    unfolding ask_length next
    length_onto a s (LengthRead.Fault k) = refl
    length_onto a s (LengthRead.Definite k n) = refl
    length_onto a s LengthRead.Indefinite = refl

    tag_onto : (t : TagRead) → ask_tag onto d p part t ≡ next (ask_tag c d p part t) (K d p part)
    unfolding ask_tag
    tag_onto (TagRead.Fault k) = unfold next in refl
    tag_onto (TagRead.Tag a s) =
        check_over (not (code_zero a)) _ (check_over (ltb 0 c.left) _ (check_over (c.mine a) _ (length_onto a s (length_of (drop s part) (constructor_of a)))
        ∙ next_check (c.mine a) _ _ (K d p part)) ∙ next_check (ltb 0 c.left) _ _ (K d p part)) ∙ next_check (not (code_zero a)) _ _ (K d p part)

    end_onto : (e : EndRead) → (e ≡ EndRead.Ended → at_end onto d p part ends ≡ next (at_end c d p part c.ends) (K d p part)) → ask_end onto d p part e ≡ next (ask_end c d p part e) (K d p part)
    unfolding ask_end
    end_onto EndRead.Ended h = h refl
    end_onto EndRead.Unfinished h = unfold next in refl
    end_onto EndRead.More h = check_over (not c.full) _ (tag_onto (tag_of part)) ∙ next_check (not c.full) _ _ (K d p part)

    pub ask_onto : (end_of d part ≡ EndRead.Ended → at_end onto d p part ends ≡ next (at_end c d p part c.ends) (K d p part)) → ask onto d p part ≡ next (ask c d p part) (K d p part)
    unfolding ask
    ask_onto h = end_onto (end_of d part) h

-- The rest of a body, after a value a of n octets
abbrev pub rest : {A B C : Type 0} → (A → Body B) → (A → B → C) → Bool → ℕ → List ℕ → A → ℕ → Got C
rest y f d p part a n = next (ask (y a) d (p + n) (drop n part)) (λ b k. got (f a b) (n + k))

pub missing_both : {A B : Type 0} (x : Body A) (y : Body B) (d : Bool) (p : ℕ) (part : List ℕ) (k : A → ℕ → Got B) → at_end y d p part none ≡ next (at_end x d p part none) k
unfolding at_end next
missing_both x y d p part k = refl

module _ {A : Type 0} (w : Where) (x : Item A) (d : Bool) (p : ℕ) (part : List ℕ) where
  pub ask_bind : {B : Type 0} (note : A → Fault → Fault) (y : A → Body B) → ask (bind_body w note x y) d p part ≡ next (ask (front w FaultKind.Another x) d p part) (λ a n. blamed (note a) (rest y (λ a b. (a, b)) d p part a n))
  unfolding onward
  ask_bind note y = ask_onto (front w FaultKind.Another x) none (λ d p part a n. blamed (note a) (rest y (λ a b. (a, b)) d p part a n)) d p part (λ e. missing_both (front w FaultKind.Another x) _ d p part _)

  quiet : {B : Type 0} (z : Got A) (k : A → ℕ → Got B) → next z (λ a n. blamed (silently a) (k a n)) ≡ next z k
  unfolding next
  quiet (got a n) k = blamed_same (k a n)
  quiet (bad f) k = refl

  pub ask_then : {B : Type 0} (y : Body B) → ask (then_body w x y) d p part ≡ next (ask (front w FaultKind.Another x) d p part) (rest (λ a. y) (λ a b. (a, b)) d p part)
  ask_then y = ask_bind silently (λ a. y) ∙ quiet _ _

  pub ask_only : ask (only_body w x) d p part ≡ next (ask (front w FaultKind.Another x) d p part) (rest (λ a. done w a) (λ a b. a) d p part)
  unfolding onward
  ask_only =
      ask_onto (front w FaultKind.Another x) none (λ d p part a n. blamed (silently a) (rest (λ a. done w a) (λ a b. a) d p part a n)) d p part (λ e. missing_both (front w FaultKind.Another x) _ d p part _)
      ∙ quiet _ _

  -- one that may be left out: nothing, at the end
  pub ask_last_ended : end_of d part ≡ EndRead.Ended → ask (last_body w x) d p part ≡ got none 0
  unfolding ask ask_end at_end
  ask_last_ended e = rw e

  pub ask_last : (end_of d part ≡ EndRead.Ended → ⊥) → ask (last_body w x) d p part ≡ next (ask (front w FaultKind.Another x) d p part) (rest (λ a. done w a) (λ a b. some a) d p part)
  unfolding onward
  ask_last h =
      ask_onto (front w FaultKind.Another x) (some none) (λ d p part a n. blamed (silently a) (rest (λ a. done w a) (λ a b. some a) d p part a n)) d p part (λ e. absurd (h e))
      ∙ quiet _ _

-- under another name
map_ends : {A B : Type 0} (f : A → B) (b : Body A) (d : Bool) (p : ℕ) (part : List ℕ) (o : Option A) → at_end (map_body f b) d p part (map f o) ≡ next (at_end b d p part o) (λ a n. got (f a) n)
unfolding at_end next
map_ends f b d p part none = refl
map_ends f b d p part (some a) = refl

pub ask_map : {A B : Type 0} (f : A → B) (b : Body A) (d : Bool) (p : ℕ) (part : List ℕ) → ask (map_body f b) d p part ≡ next (ask b d p part) (λ a n. got (f a) n)
ask_map f b d p part = ask_onto b (map f b.ends) (λ d p part a n. got (f a) n) d p part (λ e. map_ends f b d p part b.ends)

-- The answers of readers put together: for each way to put contents together one law for the fault and one for the place. Assumes nothing.
use Prim.Native.Nat.{ℕ, ◌+◌, ◌≤◌}
use mathlib.Core.Path.{◌≡◌, refl, sym, ◌∙◌}
use mathlib.Core.Bool.{Bool, true, false}
use mathlib.Core.List.{List}
use mathlib.Core.Option.{none, some}
use native.Mathlib.Omega.{arith}
use lib.ListN.{length, drop}
use lib.Dec.{ltb}
use Rattle.element.specs.declared.FaultKind.{FaultKind}
use Rattle.element.specs.declared.EndRead.{EndRead}
use Rattle.element.specs.declared.TagRead.{TagRead}
use Rattle.element.specs.declared.LengthRead.{LengthRead}
use Rattle.element.specs.Element.{constructor_of}
use Rattle.element.specs.Fault.{Fault, at}
use Rattle.element.specs.Head.{end_of, length_of}
use Rattle.element.specs.inner.Fronts.{front_of}
use Rattle.element.specs.Ask.{Got, got, next, check, definite, indefinite, head, Body, ask_length, at_end, ask}
use Rattle.element.specs.Parts.{Item, Where, level, done, bind_body, silently, then_body, only_body, last_body, map_body}
use Rattle.element.proofs.Views.{span_drop}
use Rattle.read_place.specs.Places.{part, finite, behind_of, Placed, Closing, Closed, front, nothing, until, Far, Near}
use Rattle.read_place.proofs.Answers.{Keeps, close_far, close_near, closing_map, placed_blamed, closing_blamed, closing_rest}
use Rattle.read_place.proofs.Fronts.{by_front, ask_front, closed_ends}
use Rattle.read_place.proofs.Asked.{ask_bind, ask_only, ask_last, ask_map, blamed_same}

-- Whom faults belong to, and how many levels are left, if any, does not change an answer

module _ {A : Type 0} (x : Item A) (o : FaultKind) (w : Where) (keeps : Keeps w.owner) (d : Bool) (p : ℕ) (part : List ℕ) (end r : ℕ) where
  where_length : (a s : ℕ) (l : LengthRead) → Placed p end (ask_length (front (level 1) o x) d p part a s l) r → Placed p end (ask_length (front w o x) d p part a s l) r
  unfolding ask_length Placed
  where_length a s (LengthRead.Fault k) e = e ∙ sym (keeps (at k p))
  where_length a s (LengthRead.Definite k n) e = placed_blamed w.owner keeps _ p end r (rw (blamed_same (x.contents (head a (s + k) (definite n)) p part)) at e)
  where_length a s LengthRead.Indefinite e = placed_blamed w.owner keeps _ p end r (rw (blamed_same (x.contents (head a (s + 1) indefinite) p part)) at e)

  where_check : (b : Bool) (k : FaultKind) (u v : Got A) → (Placed p end u r → Placed p end v r) → Placed p end (check b (at k p) u) r → Placed p end (check b (w.owner (at k p)) v) r
  unfolding check Placed
  where_check true k u v h e = h e
  where_check false k u v h e = e ∙ sym (keeps (at k p))

  where_front : (e : EndRead) (t : TagRead) → Placed p end (by_front (front (level 1) o x) d p part e t) r → Placed p end (by_front (front w o x) d p part e t) r
  unfolding by_front at_end
  where_front EndRead.Ended t e = e
  where_front EndRead.Unfinished t e = e
  where_front EndRead.More (TagRead.Fault k) e = unfold Placed in (e ∙ sym (keeps (at k p)))
  where_front EndRead.More (TagRead.Tag a s) e = where_check (x.mine a) o _ _ (where_length a s (length_of (drop s part) (constructor_of a))) e

  pub placed_where : ltb 0 w.left ≡ true → Placed p end (ask (front (level 1) o x) d p part) r → Placed p end (ask (front w o x) d p part) r
  placed_where deep e = rw (ask_front (front w o x) d p part refl deep) (where_front (end_of d part) (front_of 1 part) (rw (ask_front (front (level 1) o x) d p part refl refl) at e))

-- the same of the end, whatever was read before it
module _ {A : Type 0} (w : Where) (keeps : Keeps w.owner) (v : A) (d : Bool) (p : ℕ) (part : List ℕ) (q end r : ℕ) where
  done_front : (e : EndRead) (t : TagRead) → Closing d q end (by_front nothing d p part e t) r → Closing d q end (by_front (done w v) d p part e t) r
  unfolding by_front at_end Closing check
  done_front EndRead.Ended t e = e
  done_front EndRead.Unfinished t e = e
  done_front EndRead.More (TagRead.Fault k) e = e ∙ sym (keeps (at k p))
  done_front EndRead.More (TagRead.Tag a s) e = e ∙ sym (keeps (at FaultKind.TooMany p))

  pub closed_done : ltb 0 w.left ≡ true → Closing d q end (ask nothing d p part) r → Closing d q end (ask (done w v) d p part) r
  closed_done deep e = rw (ask_front (done w v) d p part refl deep) (done_front (end_of d part) (front_of 1 part) (rw (ask_front nothing d p part refl refl) at e))

-- Contents put together: the first element is asked at its place, and the rest behind it

module _ {A : Type 0} (w : Where) (x : Item A) (m : List ℕ) (at stop r : ℕ) (e : Placed at (until stop) (ask (front w FaultKind.Another x) (finite stop) at (part m at stop)) r) where
  -- the rest, at its place
  behind_it : {B C : Type 0} (y : Body B) (f : B → C) (s n : ℕ) → r ≡ at + n → Closed r stop (ask y (finite stop) r (part m r stop)) s
      → Closed at stop (next (ask y (finite stop) (at + n) (drop n (part m at stop))) (λ b k. got (f b) (n + k))) s
  behind_it y f s n z h = rw (span_drop m at (until stop) n) (closing_rest f (finite stop) (ask y (finite stop) (at + n) (part m (at + n) stop)) at n (until stop) s (rw z at h))

  module _ {B : Type 0} (note : A → Fault → Fault) (keeps : (a : A) → Keeps (note a)) (y : A → Body B) where
    pub bind_far : Far r → Closed at stop (ask (bind_body w note x y) (finite stop) at (part m at stop)) r
    bind_far h = rw (ask_bind w x (finite stop) at (part m at stop) note y) (close_far _ _ at (until stop) r e (finite stop) at (until stop) (omega arith) h)

    pub bind_near : (s : ℕ) → Near r → ((a : A) → Closed r stop (ask (y a) (finite stop) r (part m r stop)) s) → Closed at stop (ask (bind_body w note x y) (finite stop) at (part m at stop)) s
    bind_near s h g =
        rw (ask_bind w x (finite stop) at (part m at stop) note y) (close_near _ _ at (until stop) r e (finite stop) at (until stop) s h (λ a n i z.
        closing_blamed (note a) (keeps a) (finite stop) _ at (until stop) s (behind_it (y a) (λ b. (a, b)) s n z (g a))))

  module _ {B : Type 0} (y : Body B) where
    pub then_far : Far r → Closed at stop (ask (then_body w x y) (finite stop) at (part m at stop)) r
    then_far h = bind_far silently (λ a f. refl) (λ a. y) h

    pub then_near : (s : ℕ) → Near r → Closed r stop (ask y (finite stop) r (part m r stop)) s → Closed at stop (ask (then_body w x y) (finite stop) at (part m at stop)) s
    then_near s h g = bind_near silently (λ a f. refl) (λ a. y) s h (λ a. g)

  pub only_far : Far r → Closed at stop (ask (only_body w x) (finite stop) at (part m at stop)) r
  only_far h = rw (ask_only w x (finite stop) at (part m at stop)) (close_far _ _ at (until stop) r e (finite stop) at (until stop) (omega arith) h)

  pub only_near : Keeps w.owner → ltb 0 w.left ≡ true → (s : ℕ) → Near r → Closed r stop (ask nothing (finite stop) r (part m r stop)) s → Closed at stop (ask (only_body w x) (finite stop) at (part m at stop)) s
  only_near keeps deep s h g =
      rw (ask_only w x (finite stop) at (part m at stop)) (close_near _ _ at (until stop) r e (finite stop) at (until stop) s h (λ a n i z.
      behind_it (done w a) (λ b. a) s n z (closed_done w keeps a (finite stop) r (part m r stop) r (until stop) s deep g)))

  -- one that may be left out and is not
  module _ (some_here : end_of (finite stop) (part m at stop) ≡ EndRead.Ended → ⊥) where
    pub last_far : Far r → Closed at stop (ask (last_body w x) (finite stop) at (part m at stop)) r
    last_far h = rw (ask_last w x (finite stop) at (part m at stop) some_here) (close_far _ _ at (until stop) r e (finite stop) at (until stop) (omega arith) h)

    pub last_near : Keeps w.owner → ltb 0 w.left ≡ true → (s : ℕ) → Near r → Closed r stop (ask nothing (finite stop) r (part m r stop)) s → Closed at stop (ask (last_body w x) (finite stop) at (part m at stop)) s
    last_near keeps deep s h g =
        rw (ask_last w x (finite stop) at (part m at stop) some_here) (close_near _ _ at (until stop) r e (finite stop) at (until stop) s h (λ a n i z.
        behind_it (done w a) (λ b. some a) s n z (closed_done w keeps a (finite stop) r (part m r stop) r (until stop) s deep g)))

pub last_none : {A : Type 0} (w : Where) (x : Item A) (m : List ℕ) (at stop : ℕ) → at ≤ until stop → until stop ≤ length m → end_of (finite stop) (part m at stop) ≡ EndRead.Ended → Closed at stop (ask (last_body w x) (finite stop) at (part m at stop)) (behind_of at stop)
last_none w x m at stop g h e = closed_ends (last_body w x) none m at stop refl g h e

-- under another name
pub map_closed : {A B : Type 0} (f : A → B) (b : Body A) (m : List ℕ) (at stop r : ℕ) → Closed at stop (ask b (finite stop) at (part m at stop)) r → Closed at stop (ask (map_body f b) (finite stop) at (part m at stop)) r
map_closed f b m at stop r e = rw (ask_map f b (finite stop) at (part m at stop)) (closing_map f (finite stop) (ask b (finite stop) at (part m at stop)) at (until stop) r e)

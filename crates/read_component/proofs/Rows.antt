-- A series at a place, and a component in it: what is asked there, and whom it belongs to. Assumes nothing.
use Prim.Native.Nat.{ℕ, zero, suc, ◌+◌, ◌-◌, ◌≤◌, ◌<◌}
use mathlib.Core.Path.{◌≡◌, refl, sym, ◌∙◌}
use mathlib.Core.Bool.{Bool, true, false}
use mathlib.Core.List.{List, [], ◌∷◌}
use mathlib.Core.Option.{Option, none, some}
use native.Mathlib.Omega.{arith}
use lib.ListN.{length, get_or, drop}
use lib.Dec.{ltb}
use borrow.Author.Tests.{eq-eqb}
use Rattle.element.specs.declared.{FaultKind.FaultKind, EndRead.EndRead, TagRead.TagRead, LengthRead.LengthRead}
use Rattle.element.specs.Element.{constructor_of}
use Rattle.element.specs.Fault.{fault, Text, at, in_component}
use Rattle.element.specs.Head.{end_of, length_of}
use Rattle.element.specs.inner.Fronts.{front_of}
use Rattle.element.specs.Ask.{Got, got, bad, next, check, blamed, definite, indefinite, head, ask_length, at_end, ask_end, ask}
use Rattle.element.specs.Parts.{Item, Where, level, onward, silently, series_body}
use Rattle.element.proofs.Views.{end_by, end_view}
use Rattle.tcap.specs.Meaning.{Component}
use Rattle.tcap.specs.WellFormed.{the93}
use Rattle.tcap.specs.Productions.{component_at, component_item}
use Rattle.read_place.specs.Places.{Near, until, finite, part, fault_place, front, Placed, ended_of, unfinished_of}
use Rattle.read_place.proofs.Answers.{Keeps, placed_near}
use Rattle.read_place.proofs.Fronts.{by_front, ask_front, not_ended, more_here}
use Rattle.read_place.proofs.Asked.{blamed_same, rest, ask_onto}
use Rattle.read_place.proofs.Bodies.{placed_where}
use Rattle.read_row.specs.Component.{ReadsComponent}
use Rattle.read_component.specs.Components.{ends_at, rows_body}

-- A series at a place: its end, no room, one more

module _ {A : Type 0} (w : ℕ → Where) (o : FaultKind) (x : Item A) (k : ℕ) (d : Bool) (p : ℕ) (part : List ℕ) where
  pub series_missing : (room : ℕ) → end_of d part ≡ EndRead.Ended → ask (series_body w o x none room k) d p part ≡ bad (at FaultKind.Missing p)
  unfolding series_body ask ask_end at_end
  series_missing zero e = rw e
  series_missing (suc room) e = rw e

  pub series_whole : (room : ℕ) → end_of d part ≡ EndRead.Ended → ask (series_body w o x (some []) room k) d p part ≡ got [] 0
  unfolding series_body ask ask_end at_end
  series_whole zero e = rw e
  series_whole (suc room) e = rw e

  pub series_cut : (e : Option (List A)) (room : ℕ) → end_of d part ≡ EndRead.Unfinished → ask (series_body w o x e room k) d p part ≡ bad (at FaultKind.CutOff p)
  unfolding series_body ask ask_end
  series_cut e zero q = rw q
  series_cut e (suc room) q = rw q

  pub series_full : (e : Option (List A)) → end_of d part ≡ EndRead.More → ask (series_body w o x e zero k) d p part ≡ bad (at FaultKind.Seventeenth p)
  unfolding series_body ask ask_end check
  series_full e q = rw q

  hushed : (z : Got A) (f : A → ℕ → Got (List A)) → next z (λ a n. blamed (silently a) (f a n)) ≡ next z f
  unfolding next
  hushed (got a n) f = blamed_same (f a n)
  hushed (bad g) f = refl

  series_more : (e : Option (List A)) (room : ℕ) → (end_of d part ≡ EndRead.Ended → ⊥) → ask (series_body w o x e (suc room) k) d p part ≡ next (ask (front (w k) o x) d p part) (rest (λ a. series_body w o x (some []) room (suc k)) (λ a ws. a ∷ ws) d p part)
  unfolding series_body onward
  series_more e room h =
      ask_onto (front (w k) o x) e (λ d p part a n. blamed (silently a) (rest (λ a. series_body w o x (some []) room (suc k)) (λ a ws. a ∷ ws) d p part a n)) d p part (λ q. absurd (h q))
      ∙ hushed _ _

-- An element belongs to its owner from its tag to the end of its contents

module _ {A : Type 0} (w : Where) (o : FaultKind) (x : Item A) (d : Bool) (p : ℕ) (part : List ℕ) where
  owned_length : (a s : ℕ) (l : LengthRead) → ask_length (front w o x) d p part a s l ≡ blamed w.owner (ask_length (front (level 1) o x) d p part a s l)
  unfolding ask_length
  owned_length a s (LengthRead.Fault k) = unfold blamed in refl
  owned_length a s (LengthRead.Definite k n) = rw (blamed_same (x.contents (head a (s + k) (definite n)) p part))
  owned_length a s LengthRead.Indefinite = rw (blamed_same (x.contents (head a (s + 1) indefinite) p part))

  owned_check : (b : Bool) (k : FaultKind) (u v : Got A) → u ≡ blamed w.owner v → check b (w.owner (at k p)) u ≡ blamed w.owner (check b (at k p) v)
  unfolding check
  owned_check true k u v e = e
  owned_check false k u v e = unfold blamed in refl

  owned_front : (t : TagRead) → by_front (front w o x) d p part EndRead.More t ≡ blamed w.owner (by_front (front (level 1) o x) d p part EndRead.More t)
  unfolding by_front
  owned_front (TagRead.Fault k) = unfold blamed in refl
  owned_front (TagRead.Tag a s) = owned_check (x.mine a) o _ _ (owned_length a s (length_of (drop s part) (constructor_of a)))

  front_owned : end_of d part ≡ EndRead.More → ltb 0 w.left ≡ true → ask (front w o x) d p part ≡ blamed w.owner (ask (front (level 1) o x) d p part)
  front_owned e deep = rw (ask_front (front w o x) d p part refl deep, ask_front (front (level 1) o x) d p part refl refl, e) (owned_front (front_of 1 part))

component_keeps : (k : ℕ) → Keeps (in_component k)
unfolding in_component fault_place
component_keeps k (fault j q o i t) = refl

abbrev pub kinds : Item (Component Text)
kinds = component_item the93

abbrev pub wheres : ℕ → Where
wheres = component_at the93

-- one more stands here and there is room for it
module _ (m : List ℕ) (stop k at : ℕ) (b c : Bool) (is : b ≡ ended_of (end_of (finite stop) (part m at stop))) (also : c ≡ unfinished_of (end_of (finite stop) (part m at stop))) (no : b ≡ false) (nor : c ≡ false) where
  pub more : end_of (finite stop) (part m at stop) ≡ EndRead.More
  more = more_here (end_of (finite stop) (part m at stop)) b c is also no nor

  pub owned_here : ask (front (wheres k) FaultKind.UnknownComponent kinds) (finite stop) at (part m at stop) ≡ blamed (in_component k) (ask (front (level 1) FaultKind.UnknownComponent kinds) (finite stop) at (part m at stop))
  owned_here = front_owned (wheres k) FaultKind.UnknownComponent kinds (finite stop) at (part m at stop) more refl

  module _ (most : k ≤ 16) (unfull : k ≡ 16 → ⊥) (r : ℕ) (e : ReadsComponent m at stop r) where
    pub here : Placed at (until stop) (ask (front (wheres k) FaultKind.UnknownComponent kinds) (finite stop) at (part m at stop)) r
    here = placed_where kinds FaultKind.UnknownComponent (wheres k) (component_keeps k) (finite stop) at (part m at stop) (until stop) r refl e

    pub one_more : ask (rows_body (16 - k) k) (finite stop) at (part m at stop) ≡ next (ask (front (wheres k) FaultKind.UnknownComponent kinds) (finite stop) at (part m at stop)) (rest (λ a. rows_body (16 - suc k) (suc k)) (λ a ws. a ∷ ws) (finite stop) at (part m at stop))
    unfolding ends_at
    one_more =
        let room : 16 - k ≡ suc (16 - suc k) = omega (arith, most, unfull) in
        rw room (series_more wheres FaultKind.UnknownComponent kinds k (finite stop) at (part m at stop) (ends_at k) (16 - suc k) (not_ended (end_of (finite stop) (part m at stop)) b is no))

    pub rows_to : Near r → r ≤ until stop
    rows_to f = (placed_near (ask (front (wheres k) FaultKind.UnknownComponent kinds) (finite stop) at (part m at stop)) at (until stop) r here f).1

-- where neither the end nor a missing end pair stands, an octet does
ended_more : EndRead.Ended ≡ EndRead.More → ⊥
ended_more e = let z : ◌≡◌ {A = ℕ} 0 1 = cc in omega arith

unfinished_more : EndRead.Unfinished ≡ EndRead.More → ⊥
unfinished_more e = let z : ◌≡◌ {A = ℕ} 0 1 = cc in omega arith

none_here : (d : Bool) (n a b : ℕ) → n ≡ 0 → end_by d n a b ≡ EndRead.More → ⊥
unfolding end_by
none_here true n a b z e = ended_more (rw (eq-eqb n 0 z) at e)
none_here false n a b z e = unfinished_more (rw (eq-eqb n 0 z) at e)

pub some_here : (m : List ℕ) (at stop : ℕ) (b c : Bool) → at ≤ until stop → until stop ≤ length m → b ≡ ended_of (end_of (finite stop) (part m at stop)) → c ≡ unfinished_of (end_of (finite stop) (part m at stop)) → b ≡ false → c ≡ false → at < until stop
some_here m at stop b c g h is also not_over not-cut =
    let more : end_by (finite stop) (until stop - at) (get_or m at 0) (get_or m (at + 1) 0) ≡ EndRead.More = sym (end_view m at (until stop) h (finite stop)) ∙ more_here (end_of (finite stop) (part m at stop)) b c is also not_over not-cut in
    let there : until stop - at ≡ 0 → ⊥ = λ z. none_here (finite stop) (until stop - at) (get_or m at 0) (get_or m (at + 1) 0) z more in
    omega (arith, there, g)

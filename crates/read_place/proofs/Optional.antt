-- A walked element in contents; one that may be left out; what stands in a constructor. Assumes nothing.
use Prim.Native.Nat.{ℕ, ◌+◌, ◌≤◌, ◌<◌}
use mathlib.Core.Path.{◌≡◌, refl, sym, ap, ap₂, ◌∙◌}
use mathlib.Core.Bool.{Bool, true, false, ◌||◌}
use mathlib.Core.List.{List}
use mathlib.Core.Option.{Option, none, some, map}
use native.Mathlib.Omega.{arith}
use lib.ListN.{length, get_or, drop}
use lib.Dec.{eqb, ltb}
use borrow.Author.Tests.{lt-ltb, eq-eqb}
use Rattle.element.specs.declared.FaultKind.{FaultKind}
use Rattle.element.specs.declared.EndRead.{EndRead}
use Rattle.element.specs.declared.TagRead.{TagRead}
use Rattle.element.specs.declared.LengthRead.{LengthRead}
use Rattle.element.specs.Element.{constructor_of}
use Rattle.element.specs.Fault.{fault, at}
use Rattle.element.specs.Head.{end_of, tag_of, length_of}
use Rattle.element.specs.Answers.{wanted_item, walk_of, element_walk}
use Rattle.element.specs.inner.Fronts.{front_of, length_size}
use Rattle.element.specs.Ask.{Got, got, bad, next, check, blamed, definite, indefinite, head, Body, ask_length, ask_tag, at_end, ask_end, ask}
use Rattle.element.specs.Parts.{Item, Where, level, around_item, onward, silently, only_body, last_body, opt_pick, opt_body}
use Rattle.read_place.specs.Places.{base, fault_place, part, finite, ended_of, unfinished_of, behind_of, Placed, Closing, front, nothing, stands_of, entry_place, Leads, Walked, Reads, Finishes, until, Far, Near, cut_off, missing}
use Rattle.read_place.proofs.Answers.{Keeps, close_far, close_near, closing_map, closing_rest, placed_near}
use Rattle.read_place.proofs.Fronts.{by_front, ask_front, ended_is, not_ended, more_here}
use Rattle.read_place.proofs.Bodies.{placed_where, only_far, only_near, last_far, last_near, last_none}
use Rattle.read_place.proofs.Asked.{rest, blamed_same, next_check}
use Rattle.read_place.proofs.Items.{lead_more, stands_here, stands_only, stands_other, around_near, entered, entry_far}
use Rattle.read_place.proofs.Walks.{unfinished_is, length_inside, length_stands}
use Rattle.element.specs.Walk.{walk_item}
use Rattle.element.proofs.Walking.{tag_by_lem}
use Rattle.element.proofs.Views.{span_drop}

-- A walked element in contents

pub walked_placed : {A : Type 0} (x : Got A) (p end r : ℕ) → Walked p end (walk_of x) r → Placed p end x r
unfolding walk_of Walked Placed fault_place
walked_placed (got a n) p end r e = e
walked_placed (bad (fault k q o i t)) p end r e = e

same_walk : {A : Type 0} (x : Got A) → walk_of (blamed (λ f. f) x) ≡ walk_of x
same_walk x = ap walk_of (blamed_same x)

pub walk_placed : (l : ℕ) (d : Bool) (p end r : ℕ) (part : List ℕ) → end_of d part ≡ EndRead.More → Walked p end (element_walk 0 l p part) r → Placed p end (ask (front (level l) FaultKind.Another (walk_item l)) d p part) r
unfolding ask ask_end check element_walk wanted_item
walk_placed l d p end r part e w =
    rw e (walked_placed (ask_tag (front (level l) FaultKind.Another (walk_item l)) d p part (tag_of part)) p end r
    (rw (tag_by_lem (λ u. u) l (walk_item l).mine none none (λ d h p part. blamed (λ f. f) ((walk_item l).contents h p part)) (λ d. (walk_item l).contents) d true p p part (λ k. refl) (λ h. same_walk ((walk_item l).contents h p part)) (tag_of part)) w))

pub deep_enough : (l : ℕ) → 1 ≤ l → ltb 0 l ≡ true
deep_enough l h = lt-ltb 0 l (omega (arith, h))

-- contents that lack their end pair
pub cut_here : {A : Type 0} (b : Body A) (m : List ℕ) (at stop : ℕ) (c : Bool) → c ≡ unfinished_of (end_of (finite stop) (part m at stop)) → c ≡ true → Finishes b m at stop (cut_off + at)
unfolding ask ask_end Closing fault_place base
cut_here b m at stop c is t = rw (unfinished_is (end_of (finite stop) (part m at stop)) c is t)

module _ (m : List ℕ) (at stop left : ℕ) (b : Bool) (is : b ≡ ended_of (end_of (finite stop) (part m at stop))) where
  pub last_ended : at ≤ until stop → until stop ≤ length m → b ≡ true → (r : ℕ) → r ≡ behind_of at stop → Finishes (last_body (level left) (walk_item left)) m at stop r
  last_ended g h t r e = rw e (last_none (level left) (walk_item left) m at stop g h (ended_is (end_of (finite stop) (part m at stop)) b is t))

  module _ (c : Bool) (also : c ≡ unfinished_of (end_of (finite stop) (part m at stop))) where
    module _ (no : b ≡ false) (nor : c ≡ false) (r : ℕ) (walked : Walked at (until stop) (element_walk 0 left at (part m at stop)) r) where
      pub here_placed : Placed at (until stop) (ask (front (level left) FaultKind.Another (walk_item left)) (finite stop) at (part m at stop)) r
      here_placed = walk_placed left (finite stop) at (until stop) r (part m at stop) (more_here (end_of (finite stop) (part m at stop)) b c is also no nor) walked

      pub last_walk_far : Far r → Finishes (last_body (level left) (walk_item left)) m at stop r
      last_walk_far f = last_far (level left) (walk_item left) m at stop r here_placed (not_ended (end_of (finite stop) (part m at stop)) b is no) f

      pub last_walk : 1 ≤ left → Near r → (s : ℕ) → Finishes nothing m r stop s → Finishes (last_body (level left) (walk_item left)) m at stop s
      last_walk l f s e = last_near (level left) (walk_item left) m at stop r here_placed (not_ended (end_of (finite stop) (part m at stop)) b is no) (λ f. refl) (deep_enough left l) s f e

-- One that may be left out, and then the rest

module _ {A B : Type 0} (x : Item A) (y : Body B) (full : y.full ≡ false) (deep : ltb 0 y.left ≡ true) (d : Bool) (p : ℕ) (part : List ℕ) where
  abbrev none_first : B → ℕ → Got (Option A × B)
  none_first b n = got (none, b) n

  absent_length : (a s : ℕ) → x.mine a ≡ false → (l : LengthRead) → ask_length (opt_body x y) d p part a s l ≡ next (ask_length y d p part a s l) none_first
  unfolding ask_length opt_pick
  absent_length a s e (LengthRead.Fault k) = unfold next in refl
  absent_length a s e (LengthRead.Definite k n) = rw e
  absent_length a s e LengthRead.Indefinite = rw e

  absent_end : (o : Option B) → at_end (opt_body x y) d p part (map (λ b. (none, b)) o) ≡ next (at_end y d p part o) none_first
  unfolding at_end next
  absent_end none = refl
  absent_end (some b) = refl

  absent_front : (e : EndRead) (t : TagRead) → ((a s : ℕ) → t ≡ TagRead.Tag a s → x.mine a ≡ false) → by_front (opt_body x y) d p part e t ≡ next (by_front y d p part e t) none_first
  unfolding by_front
  absent_front EndRead.Ended t h = absent_end y.ends
  absent_front EndRead.Unfinished t h = unfold next in refl
  absent_front EndRead.More (TagRead.Fault k) h = unfold next in refl
  absent_front EndRead.More (TagRead.Tag a s) h =
      ap₂ (λ (q : Bool) (z : Got (Option A × B)). check q (y.owner (at y.other p)) z) (ap (λ (q : Bool). q || y.mine a) (h a s refl)) (absent_length a s (h a s refl) (length_of (drop s part) (constructor_of a))) ∙ next_check (y.mine a) _ _ none_first

  pub opt_absent : ((a s : ℕ) → front_of 1 part ≡ TagRead.Tag a s → x.mine a ≡ false) → ask (opt_body x y) d p part ≡ next (ask y d p part) none_first
  opt_absent h = ask_front (opt_body x y) d p part full deep ∙ absent_front (end_of d part) (front_of 1 part) h ∙ ap (λ (z : Got B). next z none_first) (sym (ask_front y d p part full deep))

  abbrev its : Where
  its = record { left = y.left; owner = y.owner }

  abbrev then_rest : A → ℕ → Got (Option A × B)
  then_rest = rest (λ a. y) (λ a b. (some a, b)) d p part

  quietly : (z : Got A) → next z (λ a n. blamed (silently a) (then_rest a n)) ≡ next z then_rest
  unfolding next
  quietly (got a n) = blamed_same (then_rest a n)
  quietly (bad f) = refl

  present_length : (a s : ℕ) → x.mine a ≡ true → (l : LengthRead) → ask_length (opt_body x y) d p part a s l ≡ next (ask_length (front its y.other x) d p part a s l) then_rest
  unfolding ask_length opt_pick onward
  present_length a s e (LengthRead.Fault k) = unfold next in refl
  present_length a s e (LengthRead.Definite k n) = rw e (quietly (blamed y.owner (x.contents (head a (s + k) (definite n)) p part)))
  present_length a s e LengthRead.Indefinite = rw e (quietly (blamed y.owner (x.contents (head a (s + 1) indefinite) p part)))

  present_front : (t : TagRead) → ((a s : ℕ) → t ≡ TagRead.Tag a s → x.mine a ≡ true) → by_front (opt_body x y) d p part EndRead.More t ≡ next (by_front (front its y.other x) d p part EndRead.More t) then_rest
  unfolding by_front
  present_front (TagRead.Fault k) h = unfold next in refl
  present_front (TagRead.Tag a s) h =
      let e = h a s refl in
      ap₂ (λ (q : Bool) (z : Got (Option A × B)). check q (y.owner (at y.other p)) z) (ap (λ (q : Bool). q || y.mine a) e ∙ sym e) (present_length a s e (length_of (drop s part) (constructor_of a))) ∙ next_check (x.mine a) _ _ then_rest

  opt_present : end_of d part ≡ EndRead.More → ((a s : ℕ) → front_of 1 part ≡ TagRead.Tag a s → x.mine a ≡ true) → ask (opt_body x y) d p part ≡ next (ask (front its y.other x) d p part) then_rest
  opt_present m h =
      ask_front (opt_body x y) d p part full deep ∙ ap (λ (e : EndRead). by_front (opt_body x y) d p part e (front_of 1 part)) m ∙ present_front (front_of 1 part) h
      ∙ ap (λ (z : Got A). next z then_rest) (sym (ask_front (front its y.other x) d p part refl deep ∙ ap (λ (e : EndRead). by_front (front its y.other x) d p part e (front_of 1 part)) m))

-- by its tag, which stands here or does not
module _ {A B : Type 0} (tag : ℕ) (x : Item A) (only : (a : ℕ) → x.mine a ≡ eqb a tag) (y : Body B) (full : y.full ≡ false) (deep : ltb 0 y.left ≡ true) (another : y.other ≡ FaultKind.Another) (keeps : Keeps y.owner) (leads : Leads tag)
    (m : List ℕ) (at stop : ℕ) (g : at ≤ until stop) (h : until stop ≤ length m) (b : Bool) (is : b ≡ stands_of m at stop tag) where
  pub opt_none : b ≡ false → (r : ℕ) → Finishes y m at stop r → Finishes (opt_body x y) m at stop r
  opt_none t r e = rw (opt_absent x y full deep (finite stop) at (part m at stop) (λ a s z. only a ∙ stands_other m at stop tag h (sym is ∙ t) a s z)) (closing_map (λ v. (none, v)) (finite stop) (ask y (finite stop) at (part m at stop)) at (until stop) r e)

  module _ (t : b ≡ true) (r : ℕ) (e : Reads x m at stop r) where
    pub opened : ask (opt_body x y) (finite stop) at (part m at stop) ≡ next (ask (front (record { left = y.left; owner = y.owner }) FaultKind.Another x) (finite stop) at (part m at stop)) (rest (λ a. y) (λ a b. (some a, b)) (finite stop) at (part m at stop))
    opened =
        let z = stands_here m at stop tag h g (sym is ∙ t) in
        opt_present x y full deep (finite stop) at (part m at stop) (lead_more m at (until stop) tag z.0 h z.1 leads (finite stop)) (λ a s q. only a ∙ eq-eqb a tag (stands_only m at stop tag h (sym is ∙ t) a s q)) ∙ rw another

    pub lifted : Placed at (until stop) (ask (front (record { left = y.left; owner = y.owner }) FaultKind.Another x) (finite stop) at (part m at stop)) r
    lifted = placed_where x FaultKind.Another (record { left = y.left; owner = y.owner }) keeps (finite stop) at (part m at stop) (until stop) r deep e

    pub opt_far : Far r → Finishes (opt_body x y) m at stop r
    opt_far f = rw opened (close_far _ _ at (until stop) r lifted (finite stop) at (until stop) (omega arith) f)

    pub opt_near : Near r → (s : ℕ) → Finishes y m r stop s → Finishes (opt_body x y) m at stop s
    opt_near f s q =
        rw opened (close_near _ _ at (until stop) r lifted (finite stop) at (until stop) s f (λ a n i z.
        rw (span_drop m at (until stop) n) (closing_rest (λ b. (some a, b)) (finite stop) (ask y (finite stop) (at + n) (part m (at + n) stop)) at n (until stop) s (rw z at q))))

-- one last element that must come
module _ (m : List ℕ) (at stop left : ℕ) (b : Bool) (is : b ≡ ended_of (end_of (finite stop) (part m at stop))) where
  pub sole_missing : b ≡ true → Finishes (only_body (level left) (walk_item left)) m at stop (missing + at)
  unfolding ask ask_end at_end Closing fault_place base
  sole_missing t = rw (ended_is (end_of (finite stop) (part m at stop)) b is t)

  module _ (c : Bool) (also : c ≡ unfinished_of (end_of (finite stop) (part m at stop))) where
    pub sole_cut : c ≡ true → Finishes (only_body (level left) (walk_item left)) m at stop (cut_off + at)
    sole_cut t = cut_here (only_body (level left) (walk_item left)) m at stop c also t

    module _ (no : b ≡ false) (nor : c ≡ false) (r : ℕ) (walked : Walked at (until stop) (element_walk 0 left at (part m at stop)) r) where
      pub sole_walk_far : Far r → Finishes (only_body (level left) (walk_item left)) m at stop r
      sole_walk_far f = only_far (level left) (walk_item left) m at stop r (here_placed m at stop left b is c also no nor r walked) f

      pub sole_walk : 1 ≤ left → Near r → (s : ℕ) → Finishes nothing m r stop s → Finishes (only_body (level left) (walk_item left)) m at stop s
      sole_walk l f s e = only_near (level left) (walk_item left) m at stop r (here_placed m at stop left b is c also no nor r walked) (λ f. refl) (deep_enough left l) s f e

pub reads_within : {A : Type 0} (x : Item A) (m : List ℕ) (at stop r : ℕ) → Reads x m at stop r → Near r → r ≤ until stop
reads_within x m at stop r e f = (placed_near (ask (front (level 1) FaultKind.Another x) (finite stop) at (part m at stop)) at (until stop) r e f).1

-- the contents of a constructor stand within the whole
module _ (m : List ℕ) (at stop tag inner : ℕ) (g : at ≤ until stop) (h : until stop ≤ length m) (entry : inner ≡ entry_place true m at stop tag) (near : Near inner) where
  pub entry_inside : at + 1 < length m
  entry_inside = let i = entered true m at stop tag inner g h entry near in length_inside m at (at + 1) (until stop) inner h (i.answer ∙ rw (← i.len_is)) near

  module _ (top : length m ≤ 65535) (st : ℕ) (start : st ≡ at + 1 + length_size (get_or m (at + 1) 0)) where
    entry_stands_in : (at + 1 < st) × (st ≤ until inner) × (until inner ≤ until stop)
    entry_stands_in = let i = entered true m at stop tag inner g h entry near in length_stands m at (at + 1) (until stop) inner st (omega (arith, i.here)) h top (i.answer ∙ rw (← i.len_is)) near start

    pub entry_from : st ≤ until inner
    entry_from = entry_stands_in.1

    pub entry_to : until inner ≤ length m
    entry_to = let z = entry_stands_in in omega (arith, z.2, h)

-- A component: its tag, its length, its contents
module _ {A : Type 0} (tag : ℕ) (leads : Leads tag) (kind : constructor_of tag ≡ true) (b : Body A) (m : List ℕ) (at stop inner : ℕ) (g : at ≤ until stop) (h : until stop ≤ length m) (entry : inner ≡ entry_place true m at stop tag) where
  pub around_entry : Far inner → Reads (around_item tag b) m at stop inner
  around_entry f = entry_far true m at stop tag inner g h entry (around_item tag b) leads kind (λ a. refl) f

  pub around_read : length m ≤ 65535 → Near inner → (st : ℕ) → st ≡ at + 1 + length_size (get_or m (at + 1) 0) → (r : ℕ) → Finishes b m st inner r → Reads (around_item tag b) m at stop r
  around_read top near st start r e = around_near b m at stop tag inner st r g h top leads kind entry near start e

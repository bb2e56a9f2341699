-- What stands at a place, asked as the code asks it. Assumes nothing.
use Prim.Native.Nat.{ℕ, ◌+◌, ◌≤◌, ◌<◌}
use mathlib.Core.Path.{◌≡◌, refl, sym, ap, ◌∙◌}
use mathlib.Core.Bool.{Bool, true, false, cond, not, false≢true}
use mathlib.Core.List.{List, [], ◌∷◌}
use mathlib.Core.Option.{none, some}
use native.Mathlib.Omega.{arith}
use native.Mathlib.Nat.{add-zero}
use lib.ListN.{length, get_or, drop}
use lib.Dec.{eqb, ltb}
use borrow.Author.Tests.{eqb-false, le-leb, lt-leb, lt-ltb, eq-eqb, ne_eqb}
use Rattle.element.specs.declared.FaultKind.{FaultKind}
use Rattle.element.specs.declared.EndRead.{EndRead}
use Rattle.element.specs.declared.TagRead.{TagRead}
use Rattle.element.specs.Element.{constructor_of, code_zero}
use Rattle.element.specs.Fault.{at}
use Rattle.element.specs.Head.{end_of, tag_of, length_of}
use Rattle.element.specs.inner.Fronts.{fronted, front_of, span}
use Rattle.element.specs.Ask.{Got, got, bad, check, Body, ask_length, ask_tag, at_end, ask_end, ask}
use Rattle.element.proofs.Reading.{tag_size, tag_first}
use Rattle.element.proofs.Views.{span_length, span_get}
use Rattle.read_place.specs.Places.{base, fault_place, part, finite, ended_of, unfinished_of, behind_of, tag_place, length_place, Placed, Shut, Closing, Closed, nothing, asked_place, wrong_place, stands_of, entry_place, bad_place, until, Far, Near, Finite, opening, faults, cut_off, bad_contents, missing, too_many}
use Rattle.read_place.proofs.Views.{ended_closed, length_open}
use Rattle.walk.proofs.Views.{length_short}
use Rattle.read_place.proofs.Answers.{far, Keeps}

-- The questions of `ask` in the order of the code: the end, the front (tag, code 0), the expected tag

module _ {A : Type 0} (b : Body A) (d : Bool) (p : ℕ) (part : List ℕ) where
  unfoldable pub by_front : EndRead → TagRead → Got A
  by_front EndRead.Ended t = at_end b d p part b.ends
  by_front EndRead.Unfinished t = bad (at FaultKind.CutOff p)
  by_front EndRead.More (TagRead.Fault k) = bad (b.owner (at k p))
  by_front EndRead.More (TagRead.Tag a s) = check (b.mine a) (b.owner (at b.other p)) (ask_length b d p part a s (length_of (drop s part) (constructor_of a)))

  module _ (full : b.full ≡ false) (deep : ltb 0 b.left ≡ true) where
    tag_front : (t : TagRead) → ask_tag b d p part t ≡ by_front EndRead.More (fronted 1 t)
    unfolding ask_tag fronted by_front check
    tag_front (TagRead.Fault k) = refl
    tag_front (TagRead.Tag a s) = by_zero (code_zero a)
      where
        by_zero : (z : Bool) → check (not z) (b.owner (at FaultKind.CodeZero p)) (check (ltb 0 b.left) (b.owner (at FaultKind.TooDeep p)) (check (b.mine a) (b.owner (at b.other p)) (ask_length b d p part a s (length_of (drop s part) (constructor_of a)))))
            ≡ by_front EndRead.More (cond z (TagRead.Fault FaultKind.CodeZero) (cond (ltb 0 1) (TagRead.Tag a s) (TagRead.Fault FaultKind.TooDeep)))
        by_zero true = refl
        by_zero false = rw deep

    end_front : (e : EndRead) → ask_end b d p part e ≡ by_front e (front_of 1 part)
    unfolding ask_end by_front check front_of
    end_front EndRead.Ended = refl
    end_front EndRead.Unfinished = refl
    end_front EndRead.More = ap (λ (t : Bool). check (not t) (at FaultKind.Seventeenth p) (ask_tag b d p part (tag_of part))) full ∙ tag_front (tag_of part)

    pub ask_front : ask b d p part ≡ by_front (end_of d part) (front_of 1 part)
    unfolding ask
    ask_front = end_front (end_of d part)

  -- nothing that stands here is expected
  wrong_front : Keeps b.owner → (top : ℕ) (e : EndRead) (t : TagRead) → (e ≡ EndRead.Ended → b.ends ≡ none) → ((a s : ℕ) → t ≡ TagRead.Tag a s → b.mine a ≡ false)
      → Placed p top (by_front e t) (asked_place (λ a. false) (λ s. 0) (base b.other) p e t)
  unfolding by_front asked_place Placed check at_end fault_place
  wrong_front keeps top EndRead.Ended t h g = rw (h refl)
  wrong_front keeps top EndRead.Unfinished t h g = refl
  wrong_front keeps top EndRead.More (TagRead.Fault k) h g = sym (keeps (at k p))
  wrong_front keeps top EndRead.More (TagRead.Tag a s) h g = rw (g a s refl) (sym (keeps (at b.other p)))

  pub wrong_ask : Keeps b.owner → b.full ≡ false → ltb 0 b.left ≡ true → (top : ℕ) → (end_of d part ≡ EndRead.Ended → b.ends ≡ none) → ((a s : ℕ) → front_of 1 part ≡ TagRead.Tag a s → b.mine a ≡ false)
      → Placed p top (ask b d p part) (asked_place (λ a. false) (λ s. 0) (base b.other) p (end_of d part) (front_of 1 part))
  wrong_ask keeps full deep top h g = rw (ask_front full deep) (wrong_front keeps top (end_of d part) (front_of 1 part) h g)

-- What `wrong_at` answers

module _ (mine : ℕ → Bool) (goes : ℕ → ℕ) (other at : ℕ) where
  pub asked_ended : (e : EndRead) (t : TagRead) (b : Bool) → b ≡ ended_of e → b ≡ true → missing + at ≡ asked_place mine goes other at e t
  unfolding ended_of asked_place base
  asked_ended EndRead.Ended t b is h = refl
  asked_ended EndRead.Unfinished t b is h = absurd (false≢true (sym is ∙ h))
  asked_ended EndRead.More t b is h = absurd (false≢true (sym is ∙ h))

  pub asked_unfinished : (e : EndRead) (t : TagRead) (b : Bool) → b ≡ unfinished_of e → b ≡ true → cut_off + at ≡ asked_place mine goes other at e t
  unfolding unfinished_of asked_place base
  asked_unfinished EndRead.Ended t b is h = absurd (false≢true (sym is ∙ h))
  asked_unfinished EndRead.Unfinished t b is h = refl
  asked_unfinished EndRead.More t b is h = absurd (false≢true (sym is ∙ h))

pub more_here : (e : EndRead) (b c : Bool) → b ≡ ended_of e → c ≡ unfinished_of e → b ≡ false → c ≡ false → e ≡ EndRead.More
unfolding ended_of unfinished_of
more_here EndRead.Ended b c i j h k = absurd (false≢true (sym h ∙ i))
more_here EndRead.Unfinished b c i j h k = absurd (false≢true (sym k ∙ j))
more_here EndRead.More b c i j h k = refl

pub asked_far : (mine : ℕ → Bool) (goes : ℕ → ℕ) (other at : ℕ) (e : EndRead) (t : TagRead) → Far other → ((a : ℕ) → mine a ≡ false) → Far (asked_place mine goes other at e t)
unfolding asked_place
asked_far mine goes other at EndRead.Ended t h n = omega (arith, far FaultKind.Missing)
asked_far mine goes other at EndRead.Unfinished t h n = omega (arith, far FaultKind.CutOff)
asked_far mine goes other at EndRead.More (TagRead.Fault k) h n = omega (arith, far k)
asked_far mine goes other at EndRead.More (TagRead.Tag a s) h n = rw (n a) (omega (arith, h))

pub wrong_is_far : (m : List ℕ) (at stop other : ℕ) → Far other → Far (wrong_place m at stop other)
wrong_is_far m at stop other h = asked_far (λ a. false) (λ s. 0) other at (end_of (finite stop) (part m at stop)) (front_of 1 (part m at stop)) h (λ a. refl)

pub behind_near : (at stop : ℕ) → at ≤ 65535 → Near (behind_of at stop)
unfolding behind_of
behind_near at stop h = go (finite stop)
  where
    go : (b : Bool) → Near (cond b at (at + 2))
    go true = omega (arith, h)
    go false = omega (arith, h)

-- a tag whose answer is a place is read from its first octet
pub record TagHere (m : List ℕ) (at end r : ℕ) : Type 0 where
  pub size : ℕ
  pub is : tag_of (span m at end) ≡ TagRead.Tag (get_or m at 0) size
  pub place : r ≡ at + size
  pub some : 1 ≤ size
  pub room : at + size ≤ end

module _ (m : List ℕ) (at end r : ℕ) (g : at ≤ end) (h : end ≤ length m) where
  tag_here_by : (t : TagRead) → tag_of (span m at end) ≡ t → r ≡ tag_place at t → Near r → TagHere m at end r
  unfolding tag_place
  tag_here_by (TagRead.Fault k) e is l = absurd (omega (arith, is, l, far k))
  tag_here_by (TagRead.Tag a s) e is l =
      let z = tag_size (span m at end) a s e in
      let room : at + s ≤ end = omega (arith, z, span_length m at end h, g) in
      let q : get_or m at 0 ≡ a = sym (rw add-zero at (span_get m at end 0 (omega (arith, room, z)))) ∙ tag_first (span m at end) a s e in
      record { size = s; is = rw q e; place = is; some = z.0; room = room }

  pub tag_here : r ≡ tag_place at (tag_of (span m at end)) → Near r → TagHere m at end r
  tag_here is l = tag_here_by (tag_of (span m at end)) refl is l

  pub tag_room : r ≡ tag_place at (tag_of (span m at end)) → Near r → (at < end) × (at < r) × (r ≤ end)
  tag_room is l = let t = tag_here is l in omega (arith, t.some, t.room, t.place)

module _ (m : List ℕ) (at stop other : ℕ) (g : at ≤ until stop) (h : until stop ≤ length m) (more : end_of (finite stop) (part m at stop) ≡ EndRead.More) (r : ℕ) (is : r ≡ tag_place at (tag_of (part m at stop))) where
  pub wrong_tag : Far r → r ≡ wrong_place m at stop other
  unfolding front_of tag_place fronted asked_place
  wrong_tag f = rw more (go (tag_of (part m at stop)) refl is)
    where
      go : (t : TagRead) → tag_of (part m at stop) ≡ t → r ≡ tag_place at t → r ≡ asked_place (λ a. false) (λ s. 0) other at EndRead.More (fronted 1 t)
      go (TagRead.Fault k) e q = q
      go (TagRead.Tag a s) e q = let z = tag_size (part m at stop) a s e in absurd (omega (arith, f, q, z, span_length m at (until stop) h, g))

  module _ (l : Near r) where
    pub wrong_zero : get_or m at 0 ≡ 0 → 458752 + at ≡ wrong_place m at stop other
    unfolding front_of fronted code_zero asked_place base
    wrong_zero z = let t = tag_here m at (until stop) r g h is l in rw (more, t.is, z)

    pub wrong_code : get_or m at 0 ≡ 32 → 458752 + at ≡ wrong_place m at stop other
    unfolding front_of fronted code_zero asked_place base
    wrong_code z = let t = tag_here m at (until stop) r g h is l in rw (more, t.is, z)

    pub wrong_other : (get_or m at 0 ≡ 0 → ⊥) → (get_or m at 0 ≡ 32 → ⊥) → other + at ≡ wrong_place m at stop other
    unfolding front_of fronted code_zero asked_place
    wrong_other z y = let t = tag_here m at (until stop) r g h is l in rw (more, t.is, ne_eqb (get_or m at 0) 0 z, ne_eqb (get_or m at 0) 32 y)

pub tag_inside : (m : List ℕ) (at end r : ℕ) → at ≤ end → end ≤ length m → r ≡ tag_place at (tag_of (span m at end)) → Near r → at < length m
tag_inside m at end r g h is l = omega (arith, (tag_room m at end r g h is l).0, h)

pub stands_inside : (m : List ℕ) (at stop tag : ℕ) (b : Bool) → at ≤ until stop → b ≡ stands_of m at stop tag → b ≡ true → at + 1 ≤ until stop
unfolding stands_of
stands_inside m at stop tag b g is h = go (eqb at (until stop)) refl (sym is ∙ h)
  where
    go : (c : Bool) → eqb at (until stop) ≡ c → cond c false (eqb (get_or m at 0) tag) ≡ true → at + 1 ≤ until stop
    go true e h = absurd (false≢true h)
    go false e h = omega (arith, g, eqb-false at (until stop) e)

pub entry_stands : (c : Bool) (m : List ℕ) (at stop tag r : ℕ) (b : Bool) → b ≡ stands_of m at stop tag → b ≡ true → r ≡ length_place at (at + 1) (until stop) (length_of (part m (at + 1) stop) c) → r ≡ entry_place c m at stop tag
unfolding entry_place
entry_stands c m at stop tag r b is h e = rw (← is, h) e

pub entry_wrong : (c : Bool) (m : List ℕ) (at stop tag r : ℕ) (b : Bool) → b ≡ stands_of m at stop tag → b ≡ false → r ≡ wrong_place m at stop 786432 → r ≡ entry_place c m at stop tag
unfolding entry_place base
entry_wrong c m at stop tag r b is h e = rw (← is, h) e

-- most constructors have a length of one octet
module _ (m : List ℕ) (at stop tag : ℕ) (h : until stop ≤ length m) where
  stands_first : at + 2 ≤ until stop → get_or m at 0 ≡ tag → stands_of m at stop tag ≡ true
  unfolding stands_of
  stands_first g e = rw (ne_eqb at (until stop) (λ z. omega (arith, z, g)), eq-eqb (get_or m at 0) tag e)

  module _ (g : at + 2 ≤ until stop) (first : get_or m at 0 ≡ tag) where
    pub entry_open : get_or m (at + 1) 0 ≡ 128 → opening + until stop ≡ entry_place true m at stop tag
    unfolding entry_place length_place
    entry_open e = rw (stands_first g first, length_open m (at + 1) (until stop) true h (omega (arith, g)) e refl)

    pub entry_short : get_or m (at + 1) 0 < 128 → at + 2 + get_or m (at + 1) 0 ≤ until stop → at + 2 + get_or m (at + 1) 0 ≡ entry_place true m at stop tag
    unfolding entry_place length_place
    entry_short low room = rw (stands_first g first, length_short m (at + 1) (until stop) true h (omega (arith, g)) low (omega (arith, room))) (omega arith)

pub bad_far : (m : List ℕ) (at stop tag r : ℕ) → r ≡ entry_place false m at stop tag → Far r → r ≡ bad_place m at stop tag
unfolding bad_place
bad_far m at stop tag r e h = rw (← e, le-leb faults r h)

pub bad_near : (m : List ℕ) (at stop tag r : ℕ) → r ≡ entry_place false m at stop tag → Near r → bad_contents + at ≡ bad_place m at stop tag
unfolding bad_place base
bad_near m at stop tag r e h = rw (← e, lt-leb faults r h)

-- What `leave` answers: nothing more may come, whatever was read and to whomever it belongs
pub ended_is : (e : EndRead) (b : Bool) → b ≡ ended_of e → b ≡ true → e ≡ EndRead.Ended
unfolding ended_of
ended_is EndRead.Ended b i h = refl
ended_is EndRead.Unfinished b i h = absurd (false≢true (sym i ∙ h))
ended_is EndRead.More b i h = absurd (false≢true (sym i ∙ h))

-- contents that end at a place end behind it, and there an end pair has its two octets
pair_room : (m : List ℕ) (at end : ℕ) → end ≤ length m → at ≤ end → end_of false (span m at end) ≡ EndRead.Ended → at + 2 ≤ end
unfolding end_of
pair_room m at end h g e = go (span m at end) refl e
  where
    go : (l : List ℕ) → span m at end ≡ l → end_of false l ≡ EndRead.Ended → at + 2 ≤ end
    go [] q e = let z : ◌≡◌ {A = ℕ} 0 1 = cc in absurd (omega arith)
    go (x ∷ []) q e = absurd (one (eqb x 0) e)
      where
        one : (b : Bool) → cond b EndRead.Unfinished EndRead.More ≡ EndRead.Ended → ⊥
        one true e = let z : ◌≡◌ {A = ℕ} 0 1 = cc in omega arith
        one false e = let z : ◌≡◌ {A = ℕ} 0 1 = cc in omega arith
    go (x ∷ y ∷ r) q e = omega (arith, span_length m at end h, ap length q)

all_read : (m : List ℕ) (at end : ℕ) → end ≤ length m → at ≤ end → end_of true (span m at end) ≡ EndRead.Ended → at ≡ end
unfolding end_of
all_read m at end h g e = go (span m at end) refl e
  where
    go : (l : List ℕ) → span m at end ≡ l → end_of true l ≡ EndRead.Ended → at ≡ end
    go [] q e = omega (arith, g, span_length m at end h, ap length q)
    go (x ∷ r) q e = let z : ◌≡◌ {A = ℕ} 0 1 = cc in absurd (omega arith)

pub shut_here : (m : List ℕ) (at stop : ℕ) (d : Bool) → finite stop ≡ d → at ≤ until stop → until stop ≤ length m → end_of d (part m at stop) ≡ EndRead.Ended → Shut d at (until stop) 0 (behind_of at stop)
unfolding Shut behind_of
shut_here m at stop true f g h e = rw f (all_read m at (until stop) h g e)
shut_here m at stop false f g h e = rw f (omega arith, pair_room m at (until stop) h g e)

pub closed_ends : {A : Type 0} (b : Body A) (v : A) (m : List ℕ) (at stop : ℕ) → b.ends ≡ some v → at ≤ until stop → until stop ≤ length m → end_of (finite stop) (part m at stop) ≡ EndRead.Ended
    → Closed at stop (ask b (finite stop) at (part m at stop)) (behind_of at stop)
unfolding ask ask_end at_end Closing
closed_ends b v m at stop i g h e = rw (e, i) (shut_here m at stop (finite stop) refl g h e)

-- a fault is the same number whether it is found in an element or in contents
pub placed_closed : {A : Type 0} (x : Got A) (d : Bool) (p end q top r : ℕ) → Placed p end x r → Near end → Far r → Closing d q top x r
unfolding Placed Closing
placed_closed (got a n) d p end q top r e b h = absurd (omega (arith, e, b, h))
placed_closed (bad f) d p end q top r e b h = e

pub wrong_closed : {A : Type 0} (b : Body A) (d : Bool) (p q top : ℕ) (l : List ℕ) → Keeps b.owner → b.full ≡ false → ltb 0 b.left ≡ true → (end_of d l ≡ EndRead.Ended → b.ends ≡ none) → ((a s : ℕ) → front_of 1 l ≡ TagRead.Tag a s → b.mine a ≡ false)
    → Closing d q top (ask b d p l) (asked_place (λ a. false) (λ s. 0) (base b.other) p (end_of d l) (front_of 1 l))
wrong_closed {A} b d p q top l keeps full deep h g = go (ask b d p l) (wrong_ask b d p l keeps full deep 0 h g)
  where
    go : (x : Got A) → Placed p 0 x (asked_place (λ a. false) (λ s. 0) (base b.other) p (end_of d l) (front_of 1 l)) → Closing d q top x (asked_place (λ a. false) (λ s. 0) (base b.other) p (end_of d l) (front_of 1 l))
    go x e = placed_closed x d p 0 q top _ e (omega arith) (asked_far (λ a. false) (λ s. 0) (base b.other) p (end_of d l) (front_of 1 l) (far b.other) (λ a. refl))

pub not_ended : (e : EndRead) (b : Bool) → b ≡ ended_of e → b ≡ false → e ≡ EndRead.Ended → ⊥
unfolding ended_of
not_ended EndRead.Ended b i h e = false≢true (sym h ∙ i)
not_ended EndRead.Unfinished b i h e = let z : ◌≡◌ {A = ℕ} 0 1 = cc in omega arith
not_ended EndRead.More b i h e = let z : ◌≡◌ {A = ℕ} 0 1 = cc in omega arith

module _ (m : List ℕ) (at stop r : ℕ) (b : Bool) (is : b ≡ ended_of (end_of (finite stop) (part m at stop))) where
  pub leave_ended : at ≤ until stop → until stop ≤ length m → b ≡ true → r ≡ behind_of at stop → Closed at stop (ask nothing (finite stop) at (part m at stop)) r
  leave_ended g h t e = rw e (closed_ends nothing 0 m at stop refl g h (ended_is (end_of (finite stop) (part m at stop)) b is t))

  pub leave_wrong : b ≡ false → r ≡ wrong_place m at stop too_many → Closed at stop (ask nothing (finite stop) at (part m at stop)) r
  unfolding base
  leave_wrong t e = rw e (wrong_closed nothing (finite stop) at at (until stop) (part m at stop) (λ f. refl) refl refl (λ z. absurd (not_ended (end_of (finite stop) (part m at stop)) b is t z)) (λ a s z. refl))

-- a place that is the stop: it is below the opening, and contents end there
pub leave_here : (m : List ℕ) (at stop : ℕ) → at ≤ until stop → until stop ≤ length m → length m ≤ 65535 → at ≡ stop → Closed at stop (ask nothing (finite stop) at (part m at stop)) at
unfolding behind_of
leave_here m at stop g h top e =
    let low : Finite stop = omega (arith, e, g, h, top) in
    leave_ended m at stop at true (sym (eq-eqb at stop e) ∙ ended_closed m at stop h g low) g h refl (rw (lt-ltb stop opening low))

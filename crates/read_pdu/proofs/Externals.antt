-- User information: the elements in BE, each 28, and BE that may be left out. Assumes nothing.
use Prim.Native.Nat.{ℕ, zero, suc, ◌+◌, ◌-◌, ◌≤◌, ◌<◌}
use mathlib.Core.Path.{◌≡◌, refl, sym, ap, ap₂, ◌∙◌}
use mathlib.Core.{Bool.Bool, Bool.true, Bool.false, Bool.cond, List.List, List.[], List.◌∷◌, Option.some}
use native.{Mathlib.Omega.arith, Mathlib.Nat.add-zero}
use lib.{ListN.length, ListN.get_or, ListN.drop, ListN.take, ListN.set, Dec.leb}
use borrow.Author.Tests.{lt-ltb, le-ltb}
use Rattle.element.specs.{declared.FaultKind.FaultKind, declared.EndRead.EndRead, declared.TagRead.TagRead, declared.LengthRead.LengthRead, declared.Walk.Walk}
use Rattle.element.specs.{Element.constructor_of, Element.code_zero, Fault.Text, Fault.at, Head.end_of, Head.length_of, inner.Fronts.front_of, Answers.element_walk, inner.Fronts.length_size}
use Rattle.element.specs.Ask.{Got, got, bad, next, check, blamed, Body, ask_length, at_end, ask_end, ask}
use Rattle.element.specs.{Parts.level, Parts.onward, Parts.silently, Parts.inside, Parts.kept_item, Parts.series_body, Walk.walk_item, Walk.walk_tag_item}
use Rattle.element.proofs.{Asking.Then, Asking.fact, Asking.void, Walking.not_more, WalkedWhole.element_size, Reading.definite_size, Reading.indefinite_size}
use Rattle.element.proofs.Views.{span_length, span_get, span_drop, span_take, span_cut, SizeIs, length_sized}
use Rattle.tcap.specs.{WellFormed.the93, Productions.info_body}
use Rattle.read_place.specs.Places.{Far, Near, until, finite, part, base, fault_place, front, Placed, Closing, Shut, nothing, Reads, Finishes, Leads, ended_of, behind_of, asked_place, stands_of, wrong_place, entry_place, length_place, opening, Walked, another}
use Rattle.read_place.specs.{Laying.lay_text, Laying.lay_span, Laying.lay_info, Leaves.untold}
use Rattle.read_place.proofs.Answers.{far, far_fault, close_far, close_near, closing_rest}
use Rattle.read_place.proofs.Fronts.{by_front, ask_front, ended_is, not_ended, shut_here, wrong_closed}
use Rattle.read_place.proofs.{Asked.rest, Asked.blamed_same, Asked.ask_onto, Bodies.placed_where, Bodies.last_far, Bodies.last_near, Bodies.last_none, Walks.walked_near}
use Rattle.read_place.proofs.Items.{Entered, entered, ask_entered, lead_more, lead_front, stands_here, stands_other, entry_far}
use Rattle.read_place.proofs.{Optional.walk_placed, Optional.reads_within, Optional.entry_from, Optional.entry_to, Leaves.left_where, Leaves.last_left, Leaves.last_left_none}
use Rattle.read_pdu.specs.Pdus.{TakesAll, externals_body, text_at, contents_end}
use Rattle.read_pdu.proofs.Taking.{all_far, value_left, same_left, span_laid}

-- the elements from here on: `room` more may come
abbrev from_here : ℕ → ℕ → Body (List Text)
from_here room k = series_body (λ k. level 10) FaultKind.Another (walk_tag_item 40 10) (some []) room k

abbrev one28 : Body Text
one28 = front (level 10) FaultKind.Another (walk_tag_item 40 10)

abbrev any28 : Body Text
any28 = front (level 10) FaultKind.Another (walk_item 10)

module _ (k : ℕ) (d : Bool) (p : ℕ) (part : List ℕ) where
  none_more : (room : ℕ) → end_of d part ≡ EndRead.Ended → ask (from_here room k) d p part ≡ got [] 0
  unfolding series_body ask ask_end at_end
  none_more zero e = rw e
  none_more (suc room) e = rw e

  hushed : (z : Got Text) (f : Text → ℕ → Got (List Text)) → next z (λ a n. blamed (silently a) (f a n)) ≡ next z f
  unfolding next
  hushed (got a n) f = blamed_same (f a n)
  hushed (bad g) f = refl

  one_more : (room : ℕ) → (end_of d part ≡ EndRead.Ended → ⊥) → ask (from_here (suc room) k) d p part ≡ next (ask one28 d p part) (rest (λ a. from_here room (suc k)) (λ a ws. a ∷ ws) d p part)
  unfolding series_body onward
  one_more room h =
      ask_onto one28 (some []) (λ d p part a n. blamed (silently a) (rest (λ a. from_here room (suc k)) (λ a ws. a ∷ ws) d p part a n)) d p part (λ q. absurd (h q))
      ∙ hushed _ _

-- where 28 stands, any element that is walked is one
module _ (d : Bool) (p : ℕ) (part : List ℕ) where
  tagged_length : (a s : ℕ) (l : LengthRead) → ask_length one28 d p part a s l ≡ ask_length any28 d p part a s l
  unfolding ask_length
  tagged_length a s (LengthRead.Fault k) = refl
  tagged_length a s (LengthRead.Definite k n) = refl
  tagged_length a s LengthRead.Indefinite = refl

  tagged : end_of d part ≡ EndRead.More → front_of 1 part ≡ TagRead.Tag 40 1 → ask one28 d p part ≡ ask any28 d p part
  unfolding by_front check code_zero
  tagged e f = rw (ask_front one28 d p part refl refl, ask_front any28 d p part refl refl, e, f) (tagged_length 40 1 (length_of (drop 1 part) (constructor_of 40)))

-- The loop stands at `at`: what is answered from here is the answer

pub record Going (m : List ℕ) (from stop at : ℕ) : Type 0 where
  pub room : ℕ
  pub count : ℕ
  pub enough : length (part m at stop) ≤ room
  pub on : (r : ℕ) → Finishes (from_here room count) m at stop r → Finishes (externals_body (length (part m from stop))) m from stop r

pub going_start : (m : List ℕ) (from stop : ℕ) → Going m from stop from
going_start m from stop = record { room = length (part m from stop); count = 0; enough = omega arith; on = λ r e. e }

module _ (m : List ℕ) (from stop at : ℕ) (going : Going m from stop at) (b : Bool) (is : b ≡ ended_of (end_of (finite stop) (part m at stop))) where
  abbrev Answers : ℕ → Type 0
  Answers r = Finishes (externals_body (length (part m from stop))) m from stop r

  pub externals_ended : at ≤ until stop → until stop ≤ length m → b ≡ true → (r : ℕ) → r ≡ behind_of at stop → Answers r
  unfolding Closing
  externals_ended g h t r e =
      let over : end_of (finite stop) (part m at stop) ≡ EndRead.Ended = ended_is (end_of (finite stop) (part m at stop)) b is t in
      going.on r (rw (e, none_more going.count (finite stop) at (part m at stop) going.room over) (shut_here m at stop (finite stop) refl g h over))

  module _ (no : b ≡ false) (c : Bool) (asked : c ≡ stands_of m at stop 40) (g : at ≤ until stop) (h : until stop ≤ length m) where
    some_more : end_of (finite stop) (part m at stop) ≡ EndRead.Ended → ⊥
    some_more = not_ended (end_of (finite stop) (part m at stop)) b is no

    wrong_by : (room k : ℕ) → length (part m at stop) ≤ room → c ≡ false → Finishes (from_here room k) m at stop (wrong_place m at stop another)
    unfolding series_body base ask ask_end Closing fault_place asked_place
    wrong_by zero k l t = go (end_of (finite stop) (part m at stop)) refl
      where
        go : (e : EndRead) → end_of (finite stop) (part m at stop) ≡ e → Finishes (from_here zero k) m at stop (wrong_place m at stop another)
        go EndRead.Ended e = absurd (some_more e)
        go EndRead.Unfinished e = rw e
        go EndRead.More e = absurd (not_more (finite stop) (part m at stop) l e)
    wrong_by (suc room) k l t = wrong_closed (from_here (suc room) k) (finite stop) at at (until stop) (part m at stop) (λ f. refl) refl refl (λ z. absurd (some_more z)) (λ a s z. stands_other m at stop 40 h (sym asked ∙ t) a s z)

    pub externals_wrong : c ≡ false → (r : ℕ) → r ≡ wrong_place m at stop another → Answers r
    externals_wrong t r e = going.on r (rw e (wrong_by going.room going.count going.enough t))

    module _ (t : c ≡ true) (r : ℕ) (walked : Walked at (until stop) (element_walk 0 10 at (part m at stop)) r) where
      more : end_of (finite stop) (part m at stop) ≡ EndRead.More
      more = let z = stands_here m at stop 40 h g (sym asked ∙ t) in lead_more m at (until stop) 40 z.0 h z.1 (omega arith, omega arith, omega arith) (finite stop)

      here : Placed at (until stop) (ask one28 (finite stop) at (part m at stop)) r
      here =
          let z = stands_here m at stop 40 h g (sym asked ∙ t) in
          rw (tagged (finite stop) at (part m at stop) more (lead_front m at (until stop) 40 z.0 h z.1 (omega arith, omega arith, omega arith))) (walk_placed 10 (finite stop) at (until stop) r (part m at stop) more walked)

      far_by : (room k : ℕ) → length (part m at stop) ≤ room → Far r → Finishes (from_here room k) m at stop r
      far_by zero k l f = absurd (not_more (finite stop) (part m at stop) l more)
      far_by (suc room) k l f = rw (one_more k (finite stop) at (part m at stop) room some_more) (close_far _ _ at (until stop) r here (finite stop) at (until stop) (omega arith) f)

      pub externals_far : Far r → Answers r
      externals_far f = going.on r (far_by going.room going.count going.enough f)

      some_octets : (w : Walk) → element_walk 0 10 at (part m at stop) ≡ w → Walked at (until stop) w r → Near r → at < r
      unfolding Walked
      some_octets (Walk.Fault k q) e o f = absurd (omega (arith, o, f, far k))
      some_octets (Walk.Whole n) e o f = let z = element_size 0 10 at (part m at stop) n e in omega (arith, o, z)

      pub externals_to : Near r → r ≤ until stop
      externals_to f = walked_near at (until stop) r (element_walk 0 10 at (part m at stop)) walked f

      pub externals_less : Near r → until stop - r < until stop - at
      externals_less f = omega (arith, some_octets (element_walk 0 10 at (part m at stop)) refl walked f, externals_to f)

      near_by : (room k : ℕ) → length (part m at stop) ≤ room → ((q : ℕ) → Finishes (from_here room k) m at stop q → Answers q) → Near r → Going m from stop r
      near_by zero k l on f = absurd (not_more (finite stop) (part m at stop) l more)
      near_by (suc room) k l on f =
          record {
            room = room;
            count = suc k;
            enough = omega (arith, l, span_length m at (until stop) h, span_length m r (until stop) h, some_octets (element_walk 0 10 at (part m at stop)) refl walked f, externals_to f);
            on = λ q y.
                on q (rw (one_more k (finite stop) at (part m at stop) room some_more) (close_near _ _ at (until stop) r here (finite stop) at (until stop) q f (λ a n i z.
                rw (span_drop m at (until stop) n) (closing_rest (λ ws. a ∷ ws) (finite stop) (ask (from_here room (suc k)) (finite stop) (at + n) (part m (at + n) stop)) at n (until stop) q (rw z at y)))));
          }

      pub externals_on : Near r → Going m from stop r
      externals_on f = near_by going.room going.count going.enough going.on f

-- One that is kept as its contents octets, whose body depends on how many there are

-- how many octets a length takes is told by its first
pub size_is : (m : List ℕ) (at stop : ℕ) → until stop ≤ length m → (c : Bool) (n : LengthRead) → length_of (part m (at + 1) stop) c ≡ n → 1 ≤ length (part m (at + 1) stop) → SizeIs (get_or m (at + 1) 0) n
size_is m at stop h c n e l =
    let q : get_or (part m (at + 1) stop) 0 0 ≡ get_or m (at + 1) 0 = rw add-zero at (span_get m (at + 1) (until stop) 0 (omega (arith, l, span_length m (at + 1) (until stop) h))) in
    rw (e, q) at (length_sized (part m (at + 1) stop) c)

-- the place behind it and the octets, by where its contents are shut
shut_kept : {A : Type 0} (d : Bool) (x : Got A) (t : ℕ → Text) (u : ℕ → ℕ) (p end at stop r : ℕ) (w : Text) → Closing d p end x r → ((k : ℕ) → Shut d p end k r → (r ≡ at + u k) × (r ≤ until stop) × (t k ≡ w))
    → Placed at (until stop) (blamed (λ f. f) (next {A = A × Text} (next x (λ v k. got (v, t k) (u k))) (λ v n. got v.1 n))) r × Then (λ a n. a ≡ w) (blamed (λ f. f) (next {A = A × Text} (next x (λ v k. got (v, t k) (u k))) (λ v n. got v.1 n)))
unfolding Closing Placed blamed next
shut_kept d (got a k) t u p end at stop r w e h = let z = h k e in ((z.0, z.1), fact z.2)
shut_kept d (bad g) t u p end at stop r w e h = (e, void)

module _ {A : Type 0} (tag : ℕ) (leads : Leads tag) (kind : constructor_of tag ≡ true) (b : ℕ → Body A) (m : List ℕ) (at stop inner : ℕ) (g : at ≤ until stop) (h : until stop ≤ length m) (entry : inner ≡ entry_place true m at stop tag)
    (top : length m ≤ 65535) (near : Near inner) (st : ℕ) (start : st ≡ at + 1 + length_size (get_or m (at + 1) 0)) (r : ℕ) (f : Finishes (b (length (part m st inner))) m st inner r) where
  abbrev Kept : Type 0
  Kept = Reads (kept_item tag b) m at stop r × Then (λ a n. a ≡ text_at m st (contents_end inner r)) (ask (front (level 1) FaultKind.Another (kept_item tag b)) (finite stop) at (part m at stop))

  kept_by : (i : Entered true m at stop tag inner) (n : LengthRead) → i.len ≡ n → Kept
  unfolding length_place ask_length inside SizeIs Shut contents_end
  kept_by i (LengthRead.Fault k) e = absurd (omega (arith, near, far k, (i.answer ∙ ap (length_place at (at + 1) (until stop)) e)))
  kept_by i (LengthRead.Definite k n) e =
      let q : length_of (part m (at + 1) stop) true ≡ LengthRead.Definite k n = i.len_is ∙ e in
      let a : inner ≡ at + 1 + (k + n) = i.answer ∙ ap (length_place at (at + 1) (until stop)) e in
      let z = definite_size (part m (at + 1) stop) true k n (LengthRead.Definite k n) (sym q) refl in
      let room : at + 1 + (k + n) ≤ until stop = omega (arith, z, span_length m (at + 1) (until stop) h, i.here) in
      let size : k ≡ length_size (get_or m (at + 1) 0) = size_is m at stop h true (LengthRead.Definite k n) q (omega (arith, z)) in
      let from : st ≡ at + (1 + k) = omega (arith, start, size) in
      let low : inner < opening = omega (arith, a, room, h, top) in
      let same : until inner ≡ inner = omega (arith, low) in
      let held : length (part m st inner) ≡ n = span_length m st (until inner) (omega (arith, same, a, room, h)) ∙ omega (arith, same, a, from) in
      let long : until inner - st ≡ n = omega (arith, same, from, a) in
      let within : part m st inner ≡ take n (drop (1 + k) (part m at stop)) =
      rw (span_take m at (until stop) (1 + k) n (omega (arith, room)) h, ← from) (span_cut m st (until inner) (omega (arith, same, from, a)) (omega (arith, same, a, room, h)) ∙ ap (λ (j : ℕ). take j (drop st m)) long) in
      rw (ask_entered true m at stop tag inner g h entry (kept_item tag b) leads kind (λ a. refl) i, e, lt-ltb inner opening low)
      (shut_kept true _ _ _ (at + (1 + k)) (until inner) at stop r (st, take (r - st) (drop st m)) (rw (held, lt-ltb inner opening low, within, from) at f) (λ j w.
      let count : n ≡ r - st = omega (arith, w, same, a, from) in
      (omega (arith, w, same, a), omega (arith, w, same, a, room), ap₂ (λ (x : ℕ) (y : List ℕ). (x, y)) (sym from) (span_take m at (until stop) (1 + k) n (omega (arith, room)) h ∙ rw (← from, count)))))
  kept_by i LengthRead.Indefinite e =
      let q : length_of (part m (at + 1) stop) true ≡ LengthRead.Indefinite = i.len_is ∙ e in
      let a : inner ≡ opening + until stop = i.answer ∙ ap (length_place at (at + 1) (until stop)) e in
      let z = indefinite_size (part m (at + 1) stop) true LengthRead.Indefinite (sym q) refl in
      let size : 1 ≡ length_size (get_or m (at + 1) 0) = size_is m at stop h true LengthRead.Indefinite q z.0 in
      let from : st ≡ at + 2 = omega (arith, start, size) in
      let high : opening ≤ inner = omega (arith, a) in
      let same : until inner ≡ until stop = omega (arith, a) in
      let held : part m st inner ≡ drop 2 (part m at stop) = rw (same, from) (sym (span_drop m at (until stop) 2)) in
      rw (ask_entered true m at stop tag inner g h entry (kept_item tag b) leads kind (λ a. refl) i, e, le-ltb inner opening high)
      (shut_kept false _ _ _ (at + 2) (until inner) at stop r (st, take (r - 2 - st) (drop st m)) (rw (held, le-ltb inner opening high, from) at f) (λ j w.
      let count : j ≡ r - 2 - st = omega (arith, w, from) in
      (omega (arith, w), omega (arith, w, same), ap₂ (λ (x : ℕ) (y : List ℕ). (x, y)) (sym from) (span_take m at (until stop) 2 j (omega (arith, w, same)) h ∙ rw (← from, count)))))

  pub kept : Kept
  kept = let i = entered true m at stop tag inner g h entry near in kept_by i i.len refl

-- where its contents end
closed_room : {A : Type 0} (m : List ℕ) (st inner r : ℕ) → Near r → (d : Bool) (x : Got A) → finite inner ≡ d → Closing d st (until inner) x r → st ≤ until inner → (st ≤ contents_end inner r) × (contents_end inner r ≤ until inner) × (st ≤ r)
unfolding Closing Shut contents_end
closed_room m st inner r near true (got a n) f q from = rw f (omega (arith, q, from), omega (arith, q), omega (arith, q, from))
closed_room m st inner r near false (got a n) f q from = rw f (omega (arith, q), omega (arith, q), omega (arith, q))
closed_room m st inner r near d (bad g) f q from = absurd (omega (arith, q, near, far_fault g))

-- a length takes an octet at least
size_some : (b : ℕ) → 1 ≤ length_size b
unfolding length_size
size_some b = by_test (leb b 128)
  where
    by_test : (t : Bool) → 1 ≤ cond t 1 (1 + (b - 128))
    by_test true = omega arith
    by_test false = omega arith

-- BE, or nothing

abbrev lay_one : Text → List ℕ → List ℕ
lay_one t l = lay_span 32 t (set l 40 1)

module _ (m : List ℕ) (at stop : ℕ) (g : at ≤ until stop) (h : until stop ≤ length m) (b : Bool) (is : b ≡ ended_of (end_of (finite stop) (part m at stop))) where
  pub info_none : b ≡ true → (r : ℕ) → r ≡ behind_of at stop → (old : List ℕ) → TakesAll lay_info (info_body the93) m at stop r old old
  unfolding lay_info
  info_none t r e old =
      let over : end_of (finite stop) (part m at stop) ≡ EndRead.Ended = ended_is (end_of (finite stop) (part m at stop)) b is t in
      record { closes = rw e (last_none (level 11) (kept_item 190 externals_body) m at stop g h over); left = last_left_none untold (level 11) (kept_item 190 externals_body) lay_info m at stop old (λ l. refl) over }

  module _ (no : b ≡ false) (inner : ℕ) (entry : inner ≡ entry_place true m at stop 190) where
    not_over : end_of (finite stop) (part m at stop) ≡ EndRead.Ended → ⊥
    not_over = not_ended (end_of (finite stop) (part m at stop)) b is no

    held_here : (r : ℕ) → Reads (kept_item 190 externals_body) m at stop r → Placed at (until stop) (ask (front (level 11) FaultKind.Another (kept_item 190 externals_body)) (finite stop) at (part m at stop)) r
    held_here r e = placed_where (kept_item 190 externals_body) FaultKind.Another (level 11) (λ f. refl) (finite stop) at (part m at stop) (until stop) r refl e

    info_bad : (r : ℕ) (old new : List ℕ) → Reads (kept_item 190 externals_body) m at stop r → Far r → TakesAll lay_info (info_body the93) m at stop r old new
    info_bad r old new e f = all_far lay_info (info_body the93) m at stop r old new (last_far (level 11) (kept_item 190 externals_body) m at stop r (held_here r e) not_over f) f

    pub info_entry : Far inner → (old new : List ℕ) → TakesAll lay_info (info_body the93) m at stop inner old new
    unfolding constructor_of
    info_entry f old new = info_bad inner old new (entry_far true m at stop 190 inner g h entry (kept_item 190 externals_body) (omega arith, omega arith, omega arith) refl (λ a. refl) f) f

    module _ (top : length m ≤ 65535) (near : Near inner) (st : ℕ) (start : st ≡ at + 1 + length_size (get_or m (at + 1) 0)) (r : ℕ) (e : Finishes (externals_body (length (part m st inner))) m st inner r) where
      info_held : Reads (kept_item 190 externals_body) m at stop r × Then (λ a n. a ≡ text_at m st (contents_end inner r)) (ask (front (level 1) FaultKind.Another (kept_item 190 externals_body)) (finite stop) at (part m at stop))
      unfolding constructor_of
      info_held = kept 190 (omega arith, omega arith, omega arith) refl externals_body m at stop inner g h entry top near st start r e

      pub info_far : Far r → (old new : List ℕ) → TakesAll lay_info (info_body the93) m at stop r old new
      info_far f old new = info_bad r old new info_held.0 f

      module _ (found : Near r) where
        info_room : (st ≤ contents_end inner r) × (contents_end inner r ≤ until inner) × (st ≤ r)
        info_room = closed_room m st inner r found (finite inner) _ refl e (entry_from m at stop 190 inner g h entry near top st start)

        pub info_from : (last : ℕ) → last ≡ contents_end inner r → st ≤ last
        info_from last e = let z = info_room in omega (arith, z.0, e)

        pub info_two : 2 ≤ r
        info_two = let z = info_room in omega (arith, z.2, start, size_some (get_or m (at + 1) 0))

        pub info_within : r ≤ until stop
        info_within = reads_within (kept_item 190 externals_body) m at stop r info_held.0 found

        pub info : (s : ℕ) → Finishes nothing m r stop s → (last : ℕ) → last ≡ contents_end inner r → (old new : List ℕ) → new ≡ lay_text 32 st (last - st) (set old 40 1) → TakesAll lay_info (info_body the93) m at stop s old new
        unfolding lay_info
        info s q last ends old new z =
            let k = info_room in
            let to : contents_end inner r ≤ length m = omega (arith, k.1, entry_to m at stop 190 inner g h entry near top st start) in
            let left = value_left lay_one _ (text_at m st (contents_end inner r)) old new info_held.1 (z ∙ span_laid m st (contents_end inner r) 32 (last - st) (set old 40 1) to (ap (λ (j : ℕ). j - st) ends)) in
            record {
              closes = last_near (level 11) (kept_item 190 externals_body) m at stop r (held_here r info_held.0) not_over (λ f. refl) refl s found q;
              left = last_left untold (level 11) (kept_item 190 externals_body) m at stop r (held_here r info_held.0) lay_one old (λ f l t. tt) refl not_over lay_info (λ a l. refl) new found
                  (left_where untold lay_one (kept_item 190 externals_body) FaultKind.Another (level 11) (λ f l t. tt) (finite stop) at (part m at stop) old new refl left) (same_left _ new);
            }

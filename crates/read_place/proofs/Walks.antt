-- What the walkers answer. Assumes nothing.
use Prim.Native.Nat.{ℕ, ◌+◌, ◌-◌, ◌/◌, ◌%◌, ◌≤◌, ◌<◌}
use mathlib.Core.Path.{◌≡◌, refl, sym, ap, ◌∙◌}
use mathlib.Core.Bool.{Bool, true, false, false≢true}
use mathlib.Core.List.{List, []}
use mathlib.Core.Option.{none}
use native.Mathlib.Omega.{arith}
use native.Mathlib.Nat.{add-zero}
use lib.ListN.{length, get_or, drop, take, drop_of_length-le}
use lib.Dec.{eqb}
use borrow.Author.Tests.{eqb-true, eqb-false, lt-ltb, le-ltb, le-leb, eq-eqb, ne_eqb}
use Rattle.element.specs.declared.FaultKind.{FaultKind}
use Rattle.element.specs.declared.EndRead.{EndRead}
use Rattle.element.specs.declared.TagRead.{TagRead}
use Rattle.element.specs.declared.LengthRead.{LengthRead}
use Rattle.element.specs.Element.{constructor_of, code_zero, extended_of}
use Rattle.element.specs.Fault.{at}
use Rattle.walk.proofs.Views.{length_short}
use Rattle.walk.proofs.Wholes.{odd}
use lib.Seq.{length-take-le}
use Rattle.element.specs.Head.{end_of, tag_of, length_of}
use Rattle.element.specs.Answers.{wanted_item, walk_of, element_walk, series_walk}
use Rattle.element.specs.inner.Fronts.{fronted, front_of, span, length_size}
use Rattle.element.specs.Ask.{next, check, ask_tag}
use Rattle.element.specs.Parts.{level, place}
use Rattle.element.proofs.Reading.{tag_size, definite_size, indefinite_size}
use Rattle.read_place.specs.Places.{base, part, finite, ended_of, unfinished_of, behind_of, tag_place, length_place, Shut, Walked, WalkedOut, until, Far, Near, Finite, opening, cut_off}
use Rattle.element.proofs.Views.{span_inner, tag_view, tag_by, span_length, span_get, span_drop, length_sized, SizeIs}
use Rattle.read_place.proofs.Answers.{far}
use Rattle.read_place.proofs.Fronts.{ended_is, TagHere, tag_here, shut_here, more_here}
use Rattle.element.specs.declared.Walk.{Walk}
use Rattle.element.proofs.WalkedWhole.{element_size}
use Rattle.element.proofs.Walking.{then_walk, grown, grown_zero, grown_grown, element_length, element_primitive, element_definite, element_indefinite, series_ended, series_unfinished, series_more}

-- how many octets a length takes
pub size_of : (m : List ℕ) (next end : ℕ) → end ≤ length m → (n : LengthRead) → n ≡ length_of (span m next end) true → 1 ≤ length (span m next end) → SizeIs (get_or m next 0) n
size_of m next end h n e l = let q : get_or (span m next end) 0 0 ≡ get_or m next 0 = rw add-zero at (span_get m next end 0 (omega (arith, l, span_length m next end h))) in rw (← e, q) at (length_sized (span m next end) true)

module _ (m : List ℕ) (at end left next : ℕ) (g : at ≤ end) (h : end ≤ length m) (top : length m ≤ 65535) (is : next ≡ tag_place at (tag_of (span m at end))) where
  pub any_tag_lem : Far next → Walked at end (element_walk 0 left at (span m at end)) next
  unfolding element_walk ask_tag walk_of Walked tag_place
  any_tag_lem f = go (tag_of (span m at end)) refl is
    where
      go : (t : TagRead) → tag_of (span m at end) ≡ t → next ≡ tag_place at t → Walked at end (walk_of (ask_tag (place (level left) none (wanted_item 0 left).mine FaultKind.Another (λ d. (wanted_item 0 left).contents)) true at (span m at end) t)) next
      go (TagRead.Fault k) e q = q
      go (TagRead.Tag a s) e q = let z = tag_size (span m at end) a s e in absurd (omega (arith, f, q, z, span_length m at end h, g, top, h))

  module _ (near : Near next) where
    pub tag_next : next ≤ end
    tag_next = let t = tag_here m at end next g h is near in omega (arith, t.place, t.room)

    abbrev here : TagHere m at end next
    here = tag_here m at end next g h is near

    pub any_zero : get_or m at 0 ≡ 0 → Walked at end (element_walk 0 left at (span m at end)) (458752 + at)
    unfolding element_walk ask_tag check code_zero walk_of Walked base
    any_zero z = let t = here in rw (t.is, z)

    pub any_code : get_or m at 0 ≡ 32 → Walked at end (element_walk 0 left at (span m at end)) (458752 + at)
    unfolding element_walk ask_tag check code_zero walk_of Walked base
    any_code z = let t = here in rw (t.is, z)

    module _ (z : get_or m at 0 ≡ 0 → ⊥) (y : get_or m at 0 ≡ 32 → ⊥) where
      pub any_deep : left ≡ 0 → Walked at end (element_walk 0 left at (span m at end)) (393216 + at)
      unfolding element_walk ask_tag check code_zero walk_of Walked base
      any_deep e = let t = here in rw (t.is, ne_eqb (get_or m at 0) 0 z, ne_eqb (get_or m at 0) 32 y, le-ltb 0 left (omega (arith, e)))

      module _ (deep : left ≡ 0 → ⊥) where
        any_front : TagRead.Tag (get_or m at 0) here.size ≡ front_of left (span m at end)
        unfolding front_of fronted code_zero
        any_front = let t = here in rw (t.is, ne_eqb (get_or m at 0) 0 z, ne_eqb (get_or m at 0) 32 y, lt-ltb 0 left (omega (arith, deep)))

        -- a primitive, or a length that is none
        length_walk : (c : Bool) → c ≡ constructor_of (get_or m at 0) → (n : LengthRead) → n ≡ length_of (span m next end) c → (r : ℕ) → r ≡ length_place at next end n → (c ≡ true → Far r) → Walked at end (element_walk 0 left at (span m at end)) r
        unfolding length_place Walked
        length_walk c is_c (LengthRead.Fault k) e r q f =
            let t = here in
            rw (← (element_length left at (span m at end) (get_or m at 0) t.size any_front (span m next end) c (sym (span_drop m at end t.size ∙ rw (← t.place))) is_c k e)) q
        length_walk false is_c (LengthRead.Definite k n) e r q f =
            let t = here in
            let w = definite_size (span m next end) false k n (LengthRead.Definite k n) e refl in
            rw (← (element_primitive left at (span m at end) (get_or m at 0) t.size any_front (span m next end) false (sym (span_drop m at end t.size ∙ rw (← t.place))) is_c k n e refl))
            (omega (arith, q, t.place), omega (arith, q, w, span_length m next end h, t.place, t.room))
        length_walk true is_c (LengthRead.Definite k n) e r q f =
            let t = here in
            let w = definite_size (span m next end) true k n (LengthRead.Definite k n) e refl in
            absurd (omega (arith, f refl, q, w, span_length m next end h, t.place, t.room, near, top, h))
        length_walk false is_c LengthRead.Indefinite e r q f = absurd (false≢true (indefinite_size (span m next end) false LengthRead.Indefinite e refl).1)
        length_walk true is_c LengthRead.Indefinite e r q f = absurd (omega (arith, f refl, q, near, top, h))

        pub any_leaf : get_or m at 0 / 32 % 2 ≡ 0 → (r : ℕ) → r ≡ length_place at next end (length_of (span m next end) false) → Walked at end (element_walk 0 left at (span m at end)) r
        unfolding constructor_of
        any_leaf k r e = length_walk false (sym (ne_eqb (get_or m at 0 / 32 % 2) 1 (λ q. omega (arith, q, k)))) (length_of (span m next end) false) refl r e (λ q. absurd (false≢true q))

        module _ (kind : get_or m at 0 / 32 % 2 ≡ 0 → ⊥) where
          built : true ≡ constructor_of (get_or m at 0)
          unfolding constructor_of
          built = sym (eq-eqb (get_or m at 0 / 32 % 2) 1 (odd (get_or m at 0 / 32) kind))

          pub any_open_far : (r : ℕ) → r ≡ length_place at next end (length_of (span m next end) true) → Far r → Walked at end (element_walk 0 left at (span m at end)) r
          any_open_far r e f = length_walk true built (length_of (span m next end) true) refl r e (λ q. f)

          module _ (stop st : ℕ) (stop_is : stop ≡ length_place at next end (length_of (span m next end) true)) (open-below : Near stop) (start : st ≡ next + length_size (get_or m next 0)) where
            rest_is : span m next end ≡ drop here.size (span m at end)
            rest_is = let t = here in sym (span_drop m at end t.size ∙ rw (← t.place))

            inner_definite : (k n : ℕ) → LengthRead.Definite k n ≡ length_of (span m next end) true → span m (at + (here.size + k)) stop ≡ take n (drop (here.size + k) (span m at end))
                → element_walk 0 left at (span m at end) ≡ then_walk (series_walk 0 (left - 1) true (at + (here.size + k)) (span m (at + (here.size + k)) stop)) (λ j. Walk.Whole (here.size + k + n))
            inner_definite k n e held = rw held (element_definite left at (span m at end) (get_or m at 0) here.size any_front (span m next end) true rest_is built k n e refl)

            inner_indefinite : LengthRead.Indefinite ≡ length_of (span m next end) true
                → element_walk 0 left at (span m at end) ≡ then_walk (series_walk 0 (left - 1) false (at + (here.size + 1)) (span m (at + (here.size + 1)) end)) (λ j. Walk.Whole (here.size + 1 + (j + 2)))
            inner_indefinite e = rw (← (span_drop m at end (here.size + 1))) (element_indefinite left at (span m at end) (get_or m at 0) here.size any_front (span m next end) true rest_is built e)

            definite_case : (k n r : ℕ) → LengthRead.Definite k n ≡ length_of (span m next end) true → span m (at + (here.size + k)) stop ≡ take n (drop (here.size + k) (span m at end)) → at + (here.size + k) + n ≡ stop → stop ≤ end
                → (i : Walk) → i ≡ series_walk 0 (left - 1) true (at + (here.size + k)) (span m (at + (here.size + k)) stop) → WalkedOut true (at + (here.size + k)) stop i r → Walked at end (element_walk 0 left at (span m at end)) r
            unfolding Walked WalkedOut Shut then_walk
            definite_case k n r e held to room (Walk.Fault j f) is-i o = rw (inner_definite k n e held, ← is-i) o
            definite_case k n r e held to room (Walk.Whole j) is-i o = rw (inner_definite k n e held, ← is-i) (omega (arith, o, to), omega (arith, o, room))

            indefinite_case : (r : ℕ) → LengthRead.Indefinite ≡ length_of (span m next end) true
                → (i : Walk) → i ≡ series_walk 0 (left - 1) false (at + (here.size + 1)) (span m (at + (here.size + 1)) end) → WalkedOut false (at + (here.size + 1)) end i r → Walked at end (element_walk 0 left at (span m at end)) r
            unfolding Walked WalkedOut Shut then_walk
            indefinite_case r e (Walk.Fault j f) is-i o = rw (inner_indefinite e, ← is-i) o
            indefinite_case r e (Walk.Whole j) is-i o = rw (inner_indefinite e, ← is-i) (omega (arith, o), omega (arith, o))

            -- the contents are walked, and the element is
            inner_walk : (n : LengthRead) → n ≡ length_of (span m next end) true → (r : ℕ) → WalkedOut (finite stop) st (until stop) (series_walk 0 (left - 1) (finite stop) st (part m st stop)) r → Walked at end (element_walk 0 left at (span m at end)) r
            unfolding length_place SizeIs
            inner_walk (LengthRead.Fault k) e r o = absurd (omega (arith, far k, open-below, (stop_is ∙ ap (length_place at next end) (sym e))))
            inner_walk (LengthRead.Definite k n) e r o =
                let t = here in
                let a : stop ≡ next + (k + n) = stop_is ∙ ap (length_place at next end) (sym e) in
                let w = definite_size (span m next end) true k n (LengthRead.Definite k n) e refl in
                let room : next + (k + n) ≤ end = omega (arith, w, span_length m next end h, t.place, t.room) in
                let size : k ≡ length_size (get_or m next 0) = size_of m next end h (LengthRead.Definite k n) e (omega (arith, w)) in
                let low : Finite stop = omega (arith, a, room, h, top) in
                let same : until stop ≡ stop = omega (arith, low) in
                let from : st ≡ at + (t.size + k) = omega (arith, start, size, t.place) in
                let to : at + (t.size + k) + n ≡ stop = omega (arith, a, t.place) in
                let held : span m (at + (t.size + k)) stop ≡ take n (drop (t.size + k) (span m at end)) = rw (← to) (sym (span_inner m at end (t.size + k) n (omega (arith, room, t.place)) h)) in
                definite_case k n r e held to (omega (arith, a, room)) (series_walk 0 (left - 1) true (at + (t.size + k)) (span m (at + (t.size + k)) stop)) refl (rw (lt-ltb stop opening low, same, from) at o)
            inner_walk LengthRead.Indefinite e r o =
                let t = here in
                let a : stop ≡ opening + end = stop_is ∙ ap (length_place at next end) (sym e) in
                let size : 1 ≡ length_size (get_or m next 0) = size_of m next end h LengthRead.Indefinite e (indefinite_size (span m next end) true LengthRead.Indefinite e refl).0 in
                let same : until stop ≡ end = omega (arith, a, h, top) in
                let from : st ≡ at + (t.size + 1) = omega (arith, start, size, t.place) in
                indefinite_case r e (series_walk 0 (left - 1) false (at + (t.size + 1)) (span m (at + (t.size + 1)) end)) refl (rw (le-ltb stop opening (omega (arith, a)), same, from) at o)

            pub any_open : (r : ℕ) → WalkedOut (finite stop) st (until stop) (series_walk 0 (left - 1) (finite stop) st (part m st stop)) r → Walked at end (element_walk 0 left at (span m at end)) r
            any_open r o = inner_walk (length_of (span m next end) true) refl r o

pub walked_near : (p end r : ℕ) (w : Walk) → Walked p end w r → Near r → r ≤ end
unfolding Walked
walked_near p end r (Walk.Fault k q) e l = absurd (omega (arith, e, l, far k))
walked_near p end r (Walk.Whole n) e l = e.1

pub unfinished_is : (e : EndRead) (b : Bool) → b ≡ unfinished_of e → b ≡ true → e ≡ EndRead.Unfinished
unfolding unfinished_of
unfinished_is EndRead.Ended b i h = absurd (false≢true (sym i ∙ h))
unfinished_is EndRead.Unfinished b i h = refl
unfinished_is EndRead.More b i h = absurd (false≢true (sym i ∙ h))

-- The loop over a series, which stands at `at`

unfoldable pub Going : List ℕ → ℕ → ℕ → ℕ → ℕ → Type 0
Going m from stop left at = series_walk 0 left (finite stop) from (part m from stop) ≡ grown (at - from) (series_walk 0 left (finite stop) at (part m at stop))

pub going_start : (m : List ℕ) (from stop left : ℕ) → Going m from stop left from
unfolding Going
going_start m from stop left = let z : from - from ≡ 0 = omega arith in rw z (sym (grown_zero (series_walk 0 left (finite stop) from (part m from stop))))

module _ (m : List ℕ) (from stop left at : ℕ) (l : from ≤ at) (g : at ≤ until stop) (h : until stop ≤ length m) (going : Going m from stop left at) where
  pub going_ended : (b : Bool) (r : ℕ) → b ≡ ended_of (end_of (finite stop) (part m at stop)) → b ≡ true → r ≡ behind_of at stop → WalkedOut (finite stop) from (until stop) (series_walk 0 left (finite stop) from (part m from stop)) r
  unfolding Going grown WalkedOut Shut
  going_ended b r is t e =
      let z : end_of (finite stop) (part m at stop) ≡ EndRead.Ended = ended_is (end_of (finite stop) (part m at stop)) b is t in
      rw (going, series_ended 0 left (finite stop) at (part m at stop) z, e) (go (finite stop) (shut_here m at stop (finite stop) refl g h z))
    where
      go : (d : Bool) → Shut d at (until stop) 0 (behind_of at stop) → Shut d from (until stop) (at - from + 0) (behind_of at stop)
      go true o = o
      go false o = (omega (arith, o, l), o.1)

  pub going_unfinished : (b : Bool) → b ≡ unfinished_of (end_of (finite stop) (part m at stop)) → b ≡ true → WalkedOut (finite stop) from (until stop) (series_walk 0 left (finite stop) from (part m from stop)) (cut_off + at)
  unfolding Going grown WalkedOut base
  going_unfinished b is t = rw (going, series_unfinished 0 left (finite stop) at (part m at stop) (unfinished_is (end_of (finite stop) (part m at stop)) b is t))

  module _ (b c : Bool) (is : b ≡ ended_of (end_of (finite stop) (part m at stop))) (also : c ≡ unfinished_of (end_of (finite stop) (part m at stop))) (no : b ≡ false) (nor : c ≡ false) (r : ℕ)
      (walked : Walked at (until stop) (element_walk 0 left at (part m at stop)) r) where
    more : end_of (finite stop) (part m at stop) ≡ EndRead.More
    more = more_here (end_of (finite stop) (part m at stop)) b c is also no nor

    far_by : (w : Walk) → element_walk 0 left at (part m at stop) ≡ w → Walked at (until stop) w r → Far r → WalkedOut (finite stop) from (until stop) (series_walk 0 left (finite stop) from (part m from stop)) r
    unfolding Going grown then_walk Walked WalkedOut
    far_by (Walk.Fault k q) e o f = rw (going, series_more 0 left (finite stop) at (part m at stop) more, e) o
    far_by (Walk.Whole n) e o f = absurd (omega (arith, o, f))

    pub going_far : Far r → WalkedOut (finite stop) from (until stop) (series_walk 0 left (finite stop) from (part m from stop)) r
    going_far f = far_by (element_walk 0 left at (part m at stop)) refl walked f

    near_by : (w : Walk) → element_walk 0 left at (part m at stop) ≡ w → Walked at (until stop) w r → Near r → (at < r) × (r ≤ until stop) × Going m from stop left r
    unfolding Going then_walk Walked
    near_by (Walk.Fault k q) e o f = absurd (omega (arith, o, f, far k))
    near_by (Walk.Whole n) e o f =
        let z = element_size 0 left at (part m at stop) n e in
        let j : at - from + n ≡ r - from = omega (arith, o, l) in
        (omega (arith, z, o), o.1, rw (going, series_more 0 left (finite stop) at (part m at stop) more, e, grown_grown, span_drop m at (until stop) n, ← o.0, j))

    pub going_near : Near r → (at < r) × (r ≤ until stop) × Going m from stop left r
    going_near f = near_by (element_walk 0 left at (part m at stop)) refl walked f

    pub going_less : Near r → until stop - r < until stop - at
    going_less f = let z = going_near f in omega (arith, z.0, z.1)

    pub going_from : Near r → from ≤ r
    going_from f = let z = going_near f in omega (arith, z.0, l)

    pub going_to : Near r → r ≤ until stop
    going_to f = (going_near f).1

    pub going_on : Near r → Going m from stop left r
    going_on f = (going_near f).2

-- a length that is good has an octet, and contents that lie behind it within the end
pub length_inside : (m : List ℕ) (at next end stop : ℕ) → end ≤ length m → stop ≡ length_place at next end (length_of (span m next end) true) → Near stop → next < length m
unfolding length_place
length_inside m at next end stop h e l = go (length_of (span m next end) true) refl e
  where
    go : (n : LengthRead) → n ≡ length_of (span m next end) true → stop ≡ length_place at next end n → next < length m
    go (LengthRead.Fault k) q e = absurd (omega (arith, far k, e, l))
    go (LengthRead.Definite k n) q e = let w = definite_size (span m next end) true k n (LengthRead.Definite k n) q refl in omega (arith, w, span_length m next end h, h)
    go LengthRead.Indefinite q e = let w = indefinite_size (span m next end) true LengthRead.Indefinite q refl in omega (arith, w.0, span_length m next end h, h)

pub length_stands : (m : List ℕ) (at next end stop st : ℕ) → next ≤ end → end ≤ length m → length m ≤ 65535 → stop ≡ length_place at next end (length_of (span m next end) true) → Near stop → st ≡ next + length_size (get_or m next 0) → (next < st) × (st ≤ until stop) × (until stop ≤ end)
unfolding length_place SizeIs
length_stands m at next end stop st g h top e l start = go (length_of (span m next end) true) refl e
  where
    go : (n : LengthRead) → n ≡ length_of (span m next end) true → stop ≡ length_place at next end n → (next < st) × (st ≤ until stop) × (until stop ≤ end)
    go (LengthRead.Fault k) q e = absurd (omega (arith, far k, e, l))
    go (LengthRead.Definite k n) q e =
        let w = definite_size (span m next end) true k n (LengthRead.Definite k n) q refl in
        let size : k ≡ length_size (get_or m next 0) = size_of m next end h (LengthRead.Definite k n) q (omega (arith, w)) in
        let same : until stop ≡ stop = omega (arith, e, w, span_length m next end h, h, top) in
        (omega (arith, w, start, size), omega (arith, same, e, start, size), omega (arith, same, e, w, span_length m next end h, g))
    go LengthRead.Indefinite q e =
        let w = indefinite_size (span m next end) true LengthRead.Indefinite q refl in
        let size : 1 ≡ length_size (get_or m next 0) = size_of m next end h LengthRead.Indefinite q w.0 in
        let same : until stop ≡ end = omega (arith, e, h, top) in
        (omega (arith, start, size), omega (arith, same, start, size, w.0, span_length m next end h), omega (arith, same))

-- A short element: its tag and its length take an octet each

module _ (m : List ℕ) (at end left : ℕ) (g : at ≤ end) (h : end ≤ length m) (top : length m ≤ 65535) (deep : 0 < left) (two : at + 2 ≤ end)
    (plain : get_or m at 0 % 32 ≡ 31 → ⊥) (z : get_or m at 0 ≡ 0 → ⊥) (y : get_or m at 0 ≡ 32 → ⊥) where
  short_tag : at + 1 ≡ tag_place at (tag_of (span m at end))
  unfolding tag_place tag_by extended_of
  short_tag = rw (tag_view m at end h, ne_eqb (end - at) 0 (λ z. omega (arith, z, two)), ne_eqb (get_or m at 0 % 32) 31 plain)

  pub short_leaf : get_or m at 0 / 32 % 2 ≡ 0 → get_or m (at + 1) 0 < 128 → at + 2 + get_or m (at + 1) 0 ≤ end → Walked at end (element_walk 0 left at (span m at end)) (at + 2 + get_or m (at + 1) 0)
  unfolding length_place
  short_leaf kind low room =
      any_leaf m at end left (at + 1) g h top short_tag (omega (arith, two, h, top)) z y (λ e. omega (arith, e, deep)) kind (at + 2 + get_or m (at + 1) 0)
      (rw (length_short m (at + 1) end false h (omega (arith, two)) low (omega (arith, room))) (omega arith))

  pub short_empty : get_or m (at + 1) 0 ≡ 0 → Walked at end (element_walk 0 left at (span m at end)) (at + 2)
  unfolding length_place length_size WalkedOut Shut end_of
  short_empty e = by (eqb (get_or m at 0 / 32 % 2) 0) refl
    where
      by : (b : Bool) → eqb (get_or m at 0 / 32 % 2) 0 ≡ b → Walked at end (element_walk 0 left at (span m at end)) (at + 2)
      by true k = let s : at + 2 + get_or m (at + 1) 0 ≡ at + 2 = omega (arith, e) in rw s at (short_leaf (eqb-true (get_or m at 0 / 32 % 2) 0 k) (omega (arith, e)) (omega (arith, e, two)))
      by false k =
          let low : at + 2 < opening = omega (arith, two, h, top) in
          let same : until (at + 2) ≡ at + 2 = omega (arith, low) in
          let empty : span m (at + 2) (at + 2) ≡ [] = drop_of_length-le (take (at + 2) m) {i = at + 2} (omega (arith, length-take-le (at + 2) m (omega (arith, two, h)))) in
          any_open m at end left (at + 1) g h top short_tag (omega (arith, two, h, top)) z y (λ z. omega (arith, z, deep)) (eqb-false (get_or m at 0 / 32 % 2) 0 k) (at + 2) (at + 2)
          (rw (length_short m (at + 1) end true h (omega (arith, two)) (omega (arith, e)) (omega (arith, e, two))) (omega (arith, e))) (omega (arith, low)) (rw (le-leb (get_or m (at + 1) 0) 128 (omega (arith, e))) (omega arith)) (at + 2)
          (rw (lt-ltb (at + 2) opening low, same, empty, series_ended 0 (left - 1) true (at + 2) [] refl))

-- What the walkers answer. Assumes nothing.
use Rattle.std.specs.Prelude.{Option as Optional, Some, None}
use Prim.Native.Nat.{ℕ, zero, suc, ◌+◌, ◌-◌, ◌/◌, ◌%◌, ◌≤◌, ◌<◌}
use mathlib.Core.Path.{◌≡◌, refl, sym, ap, ◌∙◌}
use mathlib.Core.Bool.{Bool, true, false, false≢true}
use mathlib.Core.List.{List}
use native.Mathlib.Omega.{arith}
use native.Mathlib.Nat.{add-zero}
use lib.ListN.{length, get_or, drop}
use lib.Dec.{eqb}
use borrow.Author.Tests.{eqb-true, eqb-false, lt-ltb, eq-eqb, ne_eqb}
use Rattle.element.specs.declared.FaultKind.{FaultKind}
use Rattle.element.specs.declared.EndRead.{EndRead}
use Rattle.element.specs.declared.TagRead.{TagRead}
use Rattle.element.specs.declared.LengthRead.{LengthRead}
use Rattle.element.specs.declared.Walk.{Walk}
use Rattle.element.specs.Element.{constructor_of, IsElement}
use Rattle.element.specs.Head.{end_of, tag_of, length_of}
use Rattle.element.specs.Answers.{element_walk, series_walk}
use Rattle.element.specs.inner.Fronts.{fronted, front_of, span, length_size}
use Rattle.element.proofs.Reading.{FrontIs, front_says, tag_first, front_size, definite_size, indefinite_size}
use Rattle.element.proofs.WalkedWhole.{Wanted, element_sound, element_size, series_all, series_before_pair}
use Rattle.element.proofs.Walking.{then_walk, grown, element_fault, element_length, element_primitive, element_definite, element_indefinite, series_ended, series_more}
use Rattle.walk.specs.Walks.{tag_end, length_end, whole_place, pair_place}
use Rattle.element.proofs.Views.{span_length, span_get, span_drop, span_inner, end_by, end_view, length_by, length_view, SizeIs, length_sized}
use Rattle.walk.proofs.Views.{length_short, front_zero, front_one}

-- how a place behind a series answers for a fault, and for elements in front of it
pub record Places (place : ℕ → Walk → Optional ℕ) : Type 0 where
  faulty : (at : ℕ) (k : FaultKind) (q : ℕ) → place at (Walk.Fault k q) ≡ None
  grows : (at n : ℕ) (w : Walk) → place at (grown n w) ≡ place (at + n) w

pub whole_places : Places whole_place
unfolding whole_place grown
whole_places = record { faulty = λ at k q. refl; grows = grows }
  where
    grows : (at n : ℕ) (w : Walk) → whole_place at (grown n w) ≡ whole_place (at + n) w
    grows at n (Walk.Fault k q) = refl
    grows at n (Walk.Whole j) = ap Some (omega arith)

pub pair_places : Places pair_place
unfolding pair_place grown
pair_places = record { faulty = λ at k q. refl; grows = grows }
  where
    grows : (at n : ℕ) (w : Walk) → pair_place at (grown n w) ≡ pair_place (at + n) w
    grows at n (Walk.Fault k q) = refl
    grows at n (Walk.Whole j) = ap Some (omega arith)

bad_place_lem : (place : ℕ → Walk → Optional ℕ) → Places place → (at : ℕ) (w : Walk) → ((n : ℕ) → w ≡ Walk.Whole n → ⊥) → None ≡ place at w
bad_place_lem place by at (Walk.Fault k q) never = sym (by.faulty at k q)
bad_place_lem place by at (Walk.Whole n) never = absurd (never n refl)

no_level : (l p n : ℕ) (part : List ℕ) → l ≡ 0 → element_walk 0 l p part ≡ Walk.Whole n → ⊥
unfolding Wanted IsElement
no_level zero p n part e w = (element_sound 0 zero p part n w).1.2
no_level (suc l) p n part e w = omega (arith, e)

-- the levels do not matter for a tag, if one is left
front_any : (left : ℕ) (p : List ℕ) → (left ≡ 0 → ⊥) → front_of left p ≡ front_of 1 p
unfolding front_of fronted
front_any zero p deep = absurd (deep refl)
front_any (suc l) p deep = go (tag_of p)
  where
    go : (t : TagRead) → fronted (suc l) t ≡ fronted 1 t
    go (TagRead.Fault k) = refl
    go (TagRead.Tag a s) = rw (lt-ltb 0 (suc l) (omega arith))

reached : (a b : ℕ) → Some a ≡ Some b → a ≡ b
reached a b e = cc

pub odd : (k : ℕ) → (k % 2 ≡ 0 → ⊥) → k % 2 ≡ 1
odd k d = omega (arith, d)

-- the tag here, of one octet or more
record Tagged (m : List ℕ) (at end left from : ℕ) : Type 0 where
  size : ℕ
  some : 1 ≤ size
  place : from ≡ at + size
  room : at + size ≤ end
  is : TagRead.Tag (get_or m at 0) size ≡ front_of left (span m at end)

-- what the tag leaves: a place behind it, and there a length
module _ (m : List ℕ) (at end from : ℕ) (g : at ≤ end) (h : end ≤ length m) (told : Some from ≡ tag_end at (front_of 1 (span m at end))) where
  pub tag_room : (at < from) × (from ≤ end)
  unfolding tag_end
  tag_room = go (front_of 1 (span m at end)) refl told
    where
      go : (t : TagRead) → t ≡ front_of 1 (span m at end) → Some from ≡ tag_end at t → (at < from) × (from ≤ end)
      go (TagRead.Fault k) e q = absurd (cc)
      go (TagRead.Tag a s) e q = let z = front_size 1 (span m at end) a s (TagRead.Tag a s) e refl in let p : from ≡ at + s = reached from (at + s) q in omega (arith, z, p, span_length m at end h, g)

  pub first_inside : at < length m
  first_inside = omega (arith, tag_room, h)

  module _ (inner : from ≡ end → ⊥) where
    pub length_before : (at < from) × (from < end)
    length_before = let t = tag_room in (t.0, omega (arith, t, inner))

    pub length_inside : from < length m
    length_inside = omega (arith, length_before, h)

-- One element

module _ (m : List ℕ) (at end left : ℕ) (g : at ≤ end) (h : end ≤ length m) where
  pub whole_deep : left ≡ 0 → None ≡ whole_place at (element_walk 0 left at (span m at end))
  whole_deep e = bad_place_lem whole_place whole_places at (element_walk 0 left at (span m at end)) (λ n w. no_level left at n (span m at end) e w)

  module _ (deep : left ≡ 0 → ⊥) where
    pub whole_tag : None ≡ tag_end at (front_of 1 (span m at end)) → None ≡ whole_place at (element_walk 0 left at (span m at end))
    unfolding tag_end whole_place
    whole_tag told = go (front_of left (span m at end)) refl (told ∙ ap (tag_end at) (sym (front_any left (span m at end) deep)))
      where
        go : (t : TagRead) → t ≡ front_of left (span m at end) → None ≡ tag_end at t → None ≡ whole_place at (element_walk 0 left at (span m at end))
        go (TagRead.Fault k) e q = rw (← (element_fault left at (span m at end) k e))
        go (TagRead.Tag a s) e q = absurd (cc)

    module _ (from : ℕ) (told : Some from ≡ tag_end at (front_of 1 (span m at end))) where
      tagged : Tagged m at end left from
      unfolding tag_end FrontIs
      tagged = go (front_of left (span m at end)) refl (told ∙ ap (tag_end at) (sym (front_any left (span m at end) deep)))
        where
          go : (t : TagRead) → t ≡ front_of left (span m at end) → Some from ≡ tag_end at t → Tagged m at end left from
          go (TagRead.Fault k) e q = absurd (cc)
          go (TagRead.Tag a s) e q =
              let z = front_size left (span m at end) a s (TagRead.Tag a s) e refl in
              let f : FrontIs left (span m at end) (TagRead.Tag a s) = front_says left (span m at end) a s (TagRead.Tag a s) e refl in
              let p : from ≡ at + s = reached from (at + s) q in
              let room : at + s ≤ end = omega (arith, z, span_length m at end h, g) in
              let o : get_or m at 0 ≡ a = sym (rw add-zero at (span_get m at end 0 (omega (arith, room, z)))) ∙ tag_first (span m at end) a s f.0 in
              record { size = s; some = z.0; place = p; room = room; is = rw o e }

      rest_is : span m from end ≡ drop tagged.size (span m at end)
      rest_is = let t = tagged in sym (span_drop m at end t.size ∙ rw (← t.place))

      length_bad : (c : Bool) → c ≡ constructor_of (get_or m at 0) → (k : FaultKind) → LengthRead.Fault k ≡ length_of (span m from end) c → None ≡ whole_place at (element_walk 0 left at (span m at end))
      unfolding whole_place
      length_bad c is_c k e = let t = tagged in rw (← (element_length left at (span m at end) (get_or m at 0) t.size t.is (span m from end) c rest_is is_c k e))

      pub whole_cut : from ≡ end → None ≡ whole_place at (element_walk 0 left at (span m at end))
      unfolding length_by
      whole_cut e = length_bad (constructor_of (get_or m at 0)) refl FaultKind.CutOff (sym (length_view m from end (constructor_of (get_or m at 0)) h ∙ rw (eq-eqb (end - from) 0 (omega (arith, e)))))

      primitive : get_or m at 0 / 32 % 2 ≡ 0 → false ≡ constructor_of (get_or m at 0)
      unfolding constructor_of
      primitive k = sym (ne_eqb (get_or m at 0 / 32 % 2) 1 (λ q. omega (arith, q, k)))

      built : (get_or m at 0 / 32 % 2 ≡ 0 → ⊥) → true ≡ constructor_of (get_or m at 0)
      unfolding constructor_of
      built k = sym (eq-eqb (get_or m at 0 / 32 % 2) 1 (odd (get_or m at 0 / 32) k))

      module _ (inner : from ≡ end → ⊥) where
        before : end - from ≡ 0 → ⊥
        before z = inner (omega (arith, z, (tag_room m at end from g h told).1))

        -- contents without an end of their own
        module _ (b : get_or m from 0 ≡ 128) where
          pub whole_unended : get_or m at 0 / 32 % 2 ≡ 0 → None ≡ whole_place at (element_walk 0 left at (span m at end))
          unfolding length_by
          whole_unended k = length_bad false (primitive k) FaultKind.BadLength (sym (length_view m from end false h ∙ rw (ne_eqb (end - from) 0 before, b)))

          pub whole_open : (get_or m at 0 / 32 % 2 ≡ 0 → ⊥) → (r : Optional ℕ) → r ≡ pair_place (from + 1) (series_walk 0 (left - 1) false (from + 1) (span m (from + 1) end)) → r ≡ whole_place at (element_walk 0 left at (span m at end))
          unfolding length_by whole_place pair_place then_walk
          whole_open k r e =
              let t = tagged in
              let f : from + 1 ≡ at + (t.size + 1) = omega (arith, t.place) in
              let len : LengthRead.Indefinite ≡ length_of (span m from end) true = sym (length_view m from end true h ∙ rw (ne_eqb (end - from) 0 before, b)) in
              rw (element_indefinite left at (span m at end) (get_or m at 0) t.size t.is (span m from end) true rest_is (built k) len, span_drop m at end (t.size + 1), ← f)
              (e ∙ go (series_walk 0 (left - 1) false (from + 1) (span m (from + 1) end)) f)
            where
              go : (i : Walk) → from + 1 ≡ at + (tagged.size + 1) → pair_place (from + 1) i ≡ whole_place at (then_walk i (λ j. Walk.Whole (tagged.size + 1 + (j + 2))))
              go (Walk.Fault j q) f = refl
              go (Walk.Whole j) f = ap Some (omega (arith, f))

        -- contents that end with their octets
        module _ (b : get_or m from 0 ≡ 128 → ⊥) where
          either_form : (c : Bool) → length_of (span m from end) false ≡ length_of (span m from end) c
          unfolding length_by
          either_form c = rw (length_view m from end false h, length_view m from end c h, ne_eqb (get_or m from 0) 128 b)

          pub whole_stopped : None ≡ length_end from (length_of (span m from end) false) → None ≡ whole_place at (element_walk 0 left at (span m at end))
          unfolding length_end
          whole_stopped until = go (length_of (span m from end) false) refl until
            where
              go : (n : LengthRead) → n ≡ length_of (span m from end) false → None ≡ length_end from n → None ≡ whole_place at (element_walk 0 left at (span m at end))
              go (LengthRead.Fault k) e q = length_bad (constructor_of (get_or m at 0)) refl k (e ∙ either_form (constructor_of (get_or m at 0)))
              go (LengthRead.Definite k n) e q = absurd (cc)
              go LengthRead.Indefinite e q = absurd (false≢true (indefinite_size (span m from end) false LengthRead.Indefinite e refl).1)

          module _ (stop : ℕ) (until : Some stop ≡ length_end from (length_of (span m from end) false)) where
            pub whole_leaf : get_or m at 0 / 32 % 2 ≡ 0 → Some stop ≡ whole_place at (element_walk 0 left at (span m at end))
            unfolding length_end whole_place
            whole_leaf kind = go (length_of (span m from end) false) refl until
              where
                go : (n : LengthRead) → n ≡ length_of (span m from end) false → Some stop ≡ length_end from n → Some stop ≡ whole_place at (element_walk 0 left at (span m at end))
                go (LengthRead.Fault k) e q = absurd (cc)
                go (LengthRead.Definite k n) e q =
                    let t = tagged in
                    let p : stop ≡ from + (k + n) = reached stop (from + (k + n)) q in
                    rw (← (element_primitive left at (span m at end) (get_or m at 0) t.size t.is (span m from end) false rest_is (primitive kind) k n e refl)) (ap Some (omega (arith, p, t.place)))
                go LengthRead.Indefinite e q = absurd (cc)

            -- the length is definite
            lasts : (k : ℕ) × (n : ℕ) × (LengthRead.Definite k n ≡ length_of (span m from end) false) × (k ≡ length_size (get_or m from 0)) × (stop ≡ from + (k + n)) × (1 ≤ k) × (stop ≤ end)
            unfolding length_end SizeIs
            lasts = go (length_of (span m from end) false) refl until
              where
                go : (n : LengthRead) → n ≡ length_of (span m from end) false → Some stop ≡ length_end from n → (k : ℕ) × (n : ℕ) × (LengthRead.Definite k n ≡ length_of (span m from end) false) × (k ≡ length_size (get_or m from 0)) × (stop ≡ from + (k + n)) × (1 ≤ k) × (stop ≤ end)
                go (LengthRead.Fault k) e q = absurd (cc)
                go (LengthRead.Definite k n) e q =
                    let w = definite_size (span m from end) false k n (LengthRead.Definite k n) e refl in
                    let o : get_or (span m from end) 0 0 ≡ get_or m from 0 = rw add-zero at (span_get m from end 0 (omega (arith, w, span_length m from end h))) in
                    let s : SizeIs (get_or m from 0) (LengthRead.Definite k n) = rw (← e, o) at (length_sized (span m from end) false) in
                    let p : stop ≡ from + (k + n) = reached stop (from + (k + n)) q in
                    (k, n, e, s, p, w.0, omega (arith, p, w, span_length m from end h))
                go LengthRead.Indefinite e q = absurd (cc)

            module _ (st : ℕ) (start : st ≡ from + length_size (get_or m from 0)) where
              pub shut_room : (at < st) × (st ≤ stop) × (stop ≤ end)
              shut_room = let (k, n, e, s, q, o, l) = lasts in omega (arith, s, q, o, l, start, tag_room m at end from g h told)

              pub whole_shut : (get_or m at 0 / 32 % 2 ≡ 0 → ⊥) → (r : Optional ℕ) → r ≡ whole_place st (series_walk 0 (left - 1) true st (span m st stop)) → r ≡ whole_place at (element_walk 0 left at (span m at end))
              unfolding whole_place then_walk
              whole_shut kind r e =
                  let (k, n, len, s, q, o, l) = lasts in
                  let t = tagged in
                  let f : st ≡ at + (t.size + k) = omega (arith, start, s, t.place) in
                  let to : stop ≡ at + (t.size + k) + n = omega (arith, q, t.place) in
                  rw (element_definite left at (span m at end) (get_or m at 0) t.size t.is (span m from end) true rest_is (built kind) k n (len ∙ either_form true) refl, span_inner m at end (t.size + k) n (omega (arith, l, to)) h, ← to, ← f)
                  (e ∙ go (series_walk 0 (left - 1) true st (span m st stop)) refl (t.size + k + n) (omega (arith, f, to)) (omega (arith, l, h)))
                where
                  go : (i : Walk) → series_walk 0 (left - 1) true st (span m st stop) ≡ i → (all : ℕ) → (stop ≡ at + all) → stop ≤ length m → whole_place st i ≡ whole_place at (then_walk i (λ j. Walk.Whole all))
                  go (Walk.Fault j q) is-i all to l = refl
                  go (Walk.Whole j) is-i all to l = ap Some (omega (arith, to, series_all 0 (left - 1) st (span m st stop) j is-i, span_length m st stop l, shut_room))

-- A primitive whose tag and length take an octet each

pub short_walk : (m : List ℕ) (at end left n : ℕ) → n ≡ get_or m (at + 1) 0 → at ≤ end → end ≤ length m → 0 < left → 2 ≤ end - at → (get_or m at 0 % 32 ≡ 31 → ⊥) → (get_or m at 0 ≡ 0 → ⊥) → get_or m at 0 / 32 % 2 ≡ 0 → n < 128 → n ≤ end - at - 2
    → Some (at + 2 + n) ≡ whole_place at (element_walk 0 left at (span m at end))
unfolding length_end
short_walk m at end left n is-n g h deep two plain some leaf low room =
    let y : get_or m at 0 ≡ 32 → ⊥ = λ e. omega (arith, leaf, e) in
    let tag = front_one m at end h (omega (arith, two)) some y plain in
    let len : Some (at + 2 + n) ≡ length_end (at + 1) (length_of (span m (at + 1) end) false) = rw (length_short m (at + 1) end false h (omega (arith, two)) (omega (arith, is-n, low)) (omega (arith, is-n, room, two))) (ap Some (omega (arith, is-n))) in
    whole_leaf m at end left g h (λ e. omega (arith, e, deep)) (at + 1) tag (λ e. omega (arith, e, two)) (λ e. omega (arith, e, is-n, low)) (at + 2 + n) len leaf

-- A series, of which the elements from `from` to `at` are walked

unfoldable pub Going : (ℕ → Walk → Optional ℕ) → Bool → List ℕ → ℕ → ℕ → ℕ → ℕ → Type 0
Going place d m from end left at = place from (series_walk 0 left d from (span m from end)) ≡ place at (series_walk 0 left d at (span m at end))

pub going_start : (place : ℕ → Walk → Optional ℕ) (d : Bool) (m : List ℕ) (from end left : ℕ) → Going place d m from end left from
unfolding Going
going_start place d m from end left = refl

module _ (place : ℕ → Walk → Optional ℕ) (by : Places place) (d : Bool) (m : List ℕ) (from end left at : ℕ) (l : from ≤ at) (g : at ≤ end) (h : end ≤ length m) (going : Going place d m from end left at)
    (more : end_of d (span m at end) ≡ EndRead.More) where
  pub going_bad : None ≡ whole_place at (element_walk 0 left at (span m at end)) → None ≡ place from (series_walk 0 left d from (span m from end))
  unfolding Going whole_place then_walk
  going_bad is = go (element_walk 0 left at (span m at end)) refl is
    where
      go : (w : Walk) → element_walk 0 left at (span m at end) ≡ w → None ≡ whole_place at w → None ≡ place from (series_walk 0 left d from (span m from end))
      go (Walk.Fault k q) e o = rw (going, series_more 0 left d at (span m at end) more, e, by.faulty at k q)
      go (Walk.Whole n) e o = absurd (cc)

  module _ (r : ℕ) (is : Some r ≡ whole_place at (element_walk 0 left at (span m at end))) where
    going_on : (at < r) × (r ≤ end) × Going place d m from end left r
    unfolding Going whole_place then_walk
    going_on = go (element_walk 0 left at (span m at end)) refl is
      where
        go : (w : Walk) → element_walk 0 left at (span m at end) ≡ w → Some r ≡ whole_place at w → (at < r) × (r ≤ end) × (place from (series_walk 0 left d from (span m from end)) ≡ place r (series_walk 0 left d r (span m r end)))
        go (Walk.Fault k q) e o = absurd (cc)
        go (Walk.Whole n) e o =
            let p : r ≡ at + n = reached r (at + n) o in
            let s = element_size 0 left at (span m at end) n e in
            (omega (arith, p, s), omega (arith, p, s, span_length m at end h, g), rw (going, series_more 0 left d at (span m at end) more, e, by.grows, span_drop m at end n, ← p))

    pub going_less : end - r < end - at
    going_less = let o = going_on in omega (arith, o.0, o.1)

    pub going_from : from ≤ r
    going_from = omega (arith, going_on.0, l)

    pub going_to : r ≤ end
    going_to = going_on.1

    pub going_again : Going place d m from end left r
    going_again = going_on.2

-- definite contents
abbrev pub Shutting : List ℕ → ℕ → ℕ → ℕ → ℕ → Type 0
Shutting m from end left at = Going whole_place true m from end left at

module _ (m : List ℕ) (from end left at : ℕ) (l : from ≤ at) (g : at ≤ end) (h : end ≤ length m) (going : Shutting m from end left at) where
  pub shut_ended : at ≡ end → Some end ≡ whole_place from (series_walk 0 left true from (span m from end))
  unfolding Going whole_place end_by
  shut_ended e = rw (going, series_ended 0 left true at (span m at end) (end_view m at end h true ∙ rw (eq-eqb (end - at) 0 (omega (arith, e))))) (ap Some (omega (arith, e)))

  module _ (inner : at ≡ end → ⊥) where
    pub shut_more : end_of true (span m at end) ≡ EndRead.More
    unfolding end_by
    shut_more = end_view m at end h true ∙ rw (ne_eqb (end - at) 0 (λ z. inner (omega (arith, z, g))))

    pub shut_bad : None ≡ whole_place at (element_walk 0 left at (span m at end)) → None ≡ whole_place from (series_walk 0 left true from (span m from end))
    shut_bad is = going_bad whole_place whole_places true m from end left at l g h going shut_more is

-- indefinite contents
abbrev pub Opening : List ℕ → ℕ → ℕ → ℕ → ℕ → Type 0
Opening m from end left at = Going pair_place false m from end left at

module _ (m : List ℕ) (from end left at : ℕ) (l : from ≤ at) (g : at ≤ end) (h : end ≤ length m) (going : Opening m from end left at) where
  pub open_cut : end - at < 2 → None ≡ pair_place from (series_walk 0 left false from (span m from end))
  unfolding Going
  open_cut e = rw going (bad_place_lem pair_place pair_places at (series_walk 0 left false at (span m at end)) (λ n w. omega (arith, e, series_before_pair 0 left at (span m at end) n w, span_length m at end h)))

  module _ (two : 2 ≤ end - at) where
    some : end - at ≡ 0 → ⊥
    some z = omega (arith, z, two)

    single : end - at ≡ 1 → ⊥
    single z = omega (arith, z, two)

    module _ (zeroed : get_or m at 0 ≡ 0) where
      pub open_ended : get_or m (at + 1) 0 ≡ 0 → Some (at + 2) ≡ pair_place from (series_walk 0 left false from (span m from end))
      unfolding Going pair_place end_by
      open_ended e = rw (going, series_ended 0 left false at (span m at end) (end_view m at end h false ∙ rw (ne_eqb (end - at) 0 some, eq-eqb (get_or m at 0) 0 zeroed, ne_eqb (end - at) 1 single, eq-eqb (get_or m (at + 1) 0) 0 e))) (ap Some (omega arith))

      -- 00 and another octet is an element of code 0
      code_zero_lem : None ≡ whole_place at (element_walk 0 left at (span m at end))
      code_zero_lem = go (eqb left 0) refl
        where
          go : (b : Bool) → eqb left 0 ≡ b → None ≡ whole_place at (element_walk 0 left at (span m at end))
          go true e = whole_deep m at end left g h (eqb-true left 0 e)
          go false e = whole_tag m at end left g h (eqb-false left 0 e) (front_zero m at end h (omega (arith, two)) zeroed)

      pub open_zero : (get_or m (at + 1) 0 ≡ 0 → ⊥) → None ≡ pair_place from (series_walk 0 left false from (span m from end))
      unfolding end_by
      open_zero e = going_bad pair_place pair_places false m from end left at l g h going (end_view m at end h false ∙ rw (ne_eqb (end - at) 0 some, eq-eqb (get_or m at 0) 0 zeroed, ne_eqb (end - at) 1 single, ne_eqb (get_or m (at + 1) 0) 0 e)) code_zero_lem

    module _ (first : get_or m at 0 ≡ 0 → ⊥) where
      pub open_more : end_of false (span m at end) ≡ EndRead.More
      unfolding end_by
      open_more = end_view m at end h false ∙ rw (ne_eqb (end - at) 0 some, ne_eqb (get_or m at 0) 0 first)

      pub open_bad : None ≡ whole_place at (element_walk 0 left at (span m at end)) → None ≡ pair_place from (series_walk 0 left false from (span m from end))
      open_bad is = going_bad pair_place pair_places false m from end left at l g h going open_more is

-- The answers of readers of one element: by its tag, its length, its contents; one of several; one that may be left out. Assumes nothing.
use Prim.Native.Nat.{ℕ, ◌+◌, ◌-◌, ◌%◌, ◌≤◌, ◌<◌}
use mathlib.Core.Path.{◌≡◌, refl, sym, ap, ap₂, ◌∙◌, fun_ext}
use mathlib.Core.Bool.{Bool, true, false, cond, false≢true}
use mathlib.Core.List.{List, [], ◌∷◌}
use mathlib.Core.Option.{none}
use native.Mathlib.Omega.{arith}
use native.Mathlib.Nat.{add-zero}
use lib.ListN.{length, get_or, drop, take, length-drop}
use lib.Dec.{eqb, ltb, leb}
use borrow.Author.Tests.{ltb-false, leb-true, leb-false, eqb-true, eqb-false, lt-ltb, le-ltb, le-leb, eq-eqb, ne_eqb}
use Rattle.element.specs.declared.FaultKind.{FaultKind}
use Rattle.element.specs.declared.EndRead.{EndRead}
use Rattle.element.specs.declared.TagRead.{TagRead}
use Rattle.element.specs.declared.LengthRead.{LengthRead}
use Rattle.element.specs.Element.{constructor_of, code_zero, extended_of}
use Rattle.element.specs.Fault.{Fault, fault, at, Text, portion}
use Rattle.element.specs.Form.{StandsFor}
use Rattle.element.proofs.Shortest.{long_only}
use mathlib.Core.Logic.{inl, inr}
use lib.Seq.{length-take-le, get_or-take}
use Rattle.element.specs.Head.{end_of, within, length_of}
use Rattle.element.specs.inner.Fronts.{fronted, front_of, span, length_size}
use Rattle.element.specs.Ask.{Got, got, bad, next, check, blamed, definite, indefinite, Head, head, Body, ask_length, at_end, ask}
use Rattle.element.specs.Parts.{Item, Where, level, leaf_contents, leaf_item, inside, around_item, map_item, or_item, place}
use Rattle.element.proofs.Heads.{LengthIs, length_sound}
use Rattle.element.proofs.Reading.{FrontIs, front_says, tag_size, definite_size, indefinite_size, tag_first}
use Rattle.element.proofs.Views.{span_length, span_get, span_drop, span_take, span_inner, end_view, end_by, tag_view, tag_by, length_view, length_by, SizeIs, length_sized}
use Rattle.read_place.specs.Places.{base, fault_place, part, finite, length_place, Placed, Shut, Closing, Closed, front, wrong_place, stands_of, entry_place, bad_place, count_of, Leads, until, Far, Near, opening, faults, bad_contents}
use Rattle.read_place.proofs.Answers.{far, placed_map}
use Rattle.read_place.proofs.Fronts.{by_front, ask_front, wrong_ask, asked_far}
use Rattle.read_place.proofs.Asked.{ask_onto, missing_both, blamed_same}

-- The tag that stands here

module _ (m : List ℕ) (at end tag : ℕ) (g : at < end) (h : end ≤ length m) (is : get_or m at 0 ≡ tag) (leads : Leads tag) where
  pub lead_more : (d : Bool) → end_of d (span m at end) ≡ EndRead.More
  unfolding end_by
  lead_more true = rw (end_view m at end h true, ne_eqb (end - at) 0 (λ z. omega (arith, z, g)))
  lead_more false = rw (end_view m at end h false, ne_eqb (end - at) 0 (λ z. omega (arith, z, g)), ne_eqb (get_or m at 0) 0 (λ z. omega (arith, z, is, leads)))

  pub lead_front : front_of 1 (span m at end) ≡ TagRead.Tag tag 1
  unfolding front_of fronted tag_by extended_of code_zero
  lead_front = rw (tag_view m at end h, ne_eqb (end - at) 0 (λ z. omega (arith, z, g)), is, ne_eqb (tag % 32) 31 (λ z. omega (arith, z, leads)), ne_eqb tag 0 (λ z. omega (arith, z, leads)), ne_eqb tag 32 (λ z. omega (arith, z, leads)))

pub front_octet : (m : List ℕ) (at end a s : ℕ) → end ≤ length m → front_of 1 (span m at end) ≡ TagRead.Tag a s → (at < end) × (get_or m at 0 ≡ a)
unfolding FrontIs
front_octet m at end a s h e =
    let (i, z, d) : FrontIs 1 (span m at end) (TagRead.Tag a s) = front_says 1 (span m at end) a s (TagRead.Tag a s) (sym e) refl in
    let q = tag_size (span m at end) a s i in
    let l : at < end = omega (arith, q, span_length m at end h) in
    (l, sym (rw add-zero at (span_get m at end 0 (omega (arith, l)))) ∙ tag_first (span m at end) a s i)

module _ (m : List ℕ) (at stop tag : ℕ) (h : until stop ≤ length m) where
  pub stands_here : at ≤ until stop → stands_of m at stop tag ≡ true → (at < until stop) × (get_or m at 0 ≡ tag)
  unfolding stands_of
  stands_here g e = go (eqb at (until stop)) refl e
    where
      go : (b : Bool) → eqb at (until stop) ≡ b → cond b false (eqb (get_or m at 0) tag) ≡ true → (at < until stop) × (get_or m at 0 ≡ tag)
      go true q e = absurd (false≢true e)
      go false q e = (omega (arith, g, eqb-false at (until stop) q), eqb-true (get_or m at 0) tag e)

  pub stands_only : stands_of m at stop tag ≡ true → (a s : ℕ) → front_of 1 (part m at stop) ≡ TagRead.Tag a s → a ≡ tag
  unfolding stands_of
  stands_only e a s f = let (l, q) = front_octet m at (until stop) a s h f in sym q ∙ eqb-true (get_or m at 0) tag (rw (ne_eqb at (until stop) (λ z. omega (arith, z, l))) at e)

  pub stands_other : stands_of m at stop tag ≡ false → (a s : ℕ) → front_of 1 (part m at stop) ≡ TagRead.Tag a s → eqb a tag ≡ false
  unfolding stands_of
  stands_other e a s f = let (l, q) = front_octet m at (until stop) a s h f in rw q at (rw (ne_eqb at (until stop) (λ z. omega (arith, z, l))) at e)

-- The length: how many octets it takes is told by its first

-- An element of one tag that must stand here

pub entry_of : (c : Bool) (m : List ℕ) (at stop tag : ℕ) (n : LengthRead) → at < until stop → get_or m at 0 ≡ tag → length_of (part m (at + 1) stop) c ≡ n → length_place at (at + 1) (until stop) n ≡ entry_place c m at stop tag
unfolding entry_place stands_of
entry_of c m at stop tag n l i e = rw (ne_eqb at (until stop) (λ z. omega (arith, z, l)), eq-eqb (get_or m at 0) tag i, e)

-- its tag stands here, and its length is this
pub record Entered (c : Bool) (m : List ℕ) (at stop tag r : ℕ) : Type 0 where
  pub here : at < until stop
  pub first : get_or m at 0 ≡ tag
  pub len : LengthRead
  pub len_is : length_of (part m (at + 1) stop) c ≡ len
  pub answer : r ≡ length_place at (at + 1) (until stop) len

module _ (c : Bool) (m : List ℕ) (at stop tag r : ℕ) (g : at ≤ until stop) (h : until stop ≤ length m) (is : r ≡ entry_place c m at stop tag) where
  wrong_far : Far (wrong_place m at stop (base FaultKind.Another))
  wrong_far = asked_far (λ a. false) (λ s. 0) (base FaultKind.Another) at (end_of (finite stop) (part m at stop)) (front_of 1 (part m at stop)) (far FaultKind.Another) (λ a. refl)

  pub entered : Near r → Entered c m at stop tag r
  unfolding entry_place
  entered l = go (stands_of m at stop tag) refl is
    where
      go : (b : Bool) → stands_of m at stop tag ≡ b → r ≡ cond b (length_place at (at + 1) (until stop) (length_of (part m (at + 1) stop) c)) (wrong_place m at stop (base FaultKind.Another)) → Entered c m at stop tag r
      go true b e = let z = stands_here m at stop tag h g b in record { here = z.0; first = z.1; len = length_of (part m (at + 1) stop) c; len_is = refl; answer = e }
      go false b e = absurd (omega (arith, wrong_far, e, l))

  module _ {A : Type 0} (x : Item A) (leads : Leads tag) (kind : constructor_of tag ≡ c) (only : (a : ℕ) → x.mine a ≡ eqb a tag) where
    ask_tag_lem : (at < until stop) → get_or m at 0 ≡ tag → ask (front (level 1) FaultKind.Another x) (finite stop) at (part m at stop) ≡ ask_length (front (level 1) FaultKind.Another x) (finite stop) at (part m at stop) tag 1 (length_of (part m (at + 1) stop) c)
    unfolding by_front check
    ask_tag_lem l i =
        rw (ask_front (front (level 1) FaultKind.Another x) (finite stop) at (part m at stop) refl refl, lead_more m at (until stop) tag l h i leads (finite stop), lead_front m at (until stop) tag l h i leads, only tag, eq-eqb tag tag refl, kind, span_drop m at (until stop) 1)

    pub ask_entered : (i : Entered c m at stop tag r) → ask (front (level 1) FaultKind.Another x) (finite stop) at (part m at stop) ≡ ask_length (front (level 1) FaultKind.Another x) (finite stop) at (part m at stop) tag 1 i.len
    ask_entered i = ask_tag_lem i.here i.first ∙ rw i.len_is

    length_far : (n : LengthRead) → length_of (part m (at + 1) stop) c ≡ n → at < until stop → r ≡ length_place at (at + 1) (until stop) n → Far r
        → Placed at (until stop) (ask_length (front (level 1) FaultKind.Another x) (finite stop) at (part m at stop) tag 1 n) r
    unfolding length_place ask_length Placed fault_place
    length_far (LengthRead.Fault k) q l e f = e
    length_far (LengthRead.Definite k n) q l e f =
        let z = definite_size (part m (at + 1) stop) c k n (LengthRead.Definite k n) (sym q) refl in
        absurd (omega (arith, z, span_length m (at + 1) (until stop) h, e, f, l))
    length_far LengthRead.Indefinite q l e f = absurd (omega (arith, e, f))

    -- a fault: nothing that is expected stands here, or its length is none
    pub entry_far : Far r → Placed at (until stop) (ask (front (level 1) FaultKind.Another x) (finite stop) at (part m at stop)) r
    unfolding entry_place
    entry_far f = go (stands_of m at stop tag) refl is
      where
        go : (b : Bool) → stands_of m at stop tag ≡ b → r ≡ cond b (length_place at (at + 1) (until stop) (length_of (part m (at + 1) stop) c)) (wrong_place m at stop (base FaultKind.Another))
            → Placed at (until stop) (ask (front (level 1) FaultKind.Another x) (finite stop) at (part m at stop)) r
        go true b e = let z = stands_here m at stop tag h g b in rw (ask_tag_lem z.0 z.1) (length_far (length_of (part m (at + 1) stop) c) refl z.0 e f)
        go false b e = rw e (wrong_ask (front (level 1) FaultKind.Another x) (finite stop) at (part m at stop) (λ f. refl) refl refl (until stop) (λ z. refl) (λ a s z. only a ∙ stands_other m at stop tag h b a s z))

-- A primitive whose contents pass a test

-- a short one stands here
pub record Counted (m : List ℕ) (at end tag most n : ℕ) : Type 0 where
  pub room : at + 2 + n ≤ end
  pub first : get_or m at 0 ≡ tag
  pub size : get_or m (at + 1) 0 ≡ n
  pub few : n ≤ most

pub counted : (m : List ℕ) (at end tag most n : ℕ) → n ≡ count_of end at (get_or m at 0) (get_or m (at + 1) 0) tag most → 1 ≤ n → Counted m at end tag most n
unfolding count_of
counted m at end tag most n is there =
    by_left (ltb end (at + 3)) (eqb (get_or m at 0) tag) (ltb most (get_or m (at + 1) 0)) (ltb end (at + 2 + get_or m (at + 1) 0)) refl refl refl refl is
  where
    by_left : (a b c d : Bool) → ltb end (at + 3) ≡ a → eqb (get_or m at 0) tag ≡ b → ltb most (get_or m (at + 1) 0) ≡ c → ltb end (at + 2 + get_or m (at + 1) 0) ≡ d
        → n ≡ cond a 0 (cond b (cond c 0 (cond d 0 (get_or m (at + 1) 0))) 0) → Counted m at end tag most n
    by_left true b c d i j k l e = absurd (omega (arith, there, e))
    by_left false false c d i j k l e = absurd (omega (arith, there, e))
    by_left false true true d i j k l e = absurd (omega (arith, there, e))
    by_left false true false true i j k l e = absurd (omega (arith, there, e))
    by_left false true false false i j k l e =
        record {
          room = omega (arith, ltb-false end (at + 2 + get_or m (at + 1) 0) l, e);
          first = eqb-true (get_or m at 0) tag j;
          size = sym e;
          few = omega (arith, ltb-false most (get_or m (at + 1) 0) k, e);
        }

counted_not : (m : List ℕ) (at end tag most n : ℕ) → 1 ≤ n → n ≤ most → at + 2 + n ≤ end → get_or m at 0 ≡ tag → get_or m (at + 1) 0 ≡ n → 0 ≡ count_of end at (get_or m at 0) (get_or m (at + 1) 0) tag most → ⊥
unfolding count_of
counted_not m at end tag most n l f r i z e =
    let q : 0 ≡ n = e ∙ rw (le-ltb end (at + 3) (omega (arith, l, r)), eq-eqb (get_or m at 0) tag i, z, le-ltb most n f, le-ltb end (at + 2 + n) (omega (arith, r))) in
    omega (arith, q, l)

pub stands_short : (l : List ℕ) (n : ℕ) → StandsFor l n → n < 128 → l ≡ n ∷ []
unfolding StandsFor
stands_short l n (inl (h, e)) g = e
stands_short l n (inr (ds, f)) g = absurd (omega (arith, (long_only l ds n f (omega (arith, g))).0, g))

pub take_head : (k : ℕ) (l : List ℕ) (n : ℕ) → take k l ≡ n ∷ [] → 1 ≤ k → k ≤ length l → (k ≡ 1) × (get_or l 0 0 ≡ n)
take_head k l n e h g = (omega (arith, ap length e, length-take-le k l g), sym (get_or-take k l 0 0 (omega (arith, h))) ∙ rw e)

module _ (m : List ℕ) (at stop tag most n : ℕ) (fits : List ℕ → Bool) (g : at ≤ until stop) (h : until stop ≤ length m) (leads : Leads tag) (kind : constructor_of tag ≡ false) (few : most ≤ 127) where
  abbrev here_leaf : Got Text
  here_leaf = ask (front (level 1) FaultKind.Another (leaf_item tag fits)) (finite stop) at (part m at stop)

  module _ (is : n ≡ count_of (until stop) at (get_or m at 0) (get_or m (at + 1) 0) tag most) where
    module _ (there : 1 ≤ n) where
      short_length : length_of (part m (at + 1) stop) false ≡ LengthRead.Definite 1 n
      unfolding length_by within
      short_length =
          let i = counted m at (until stop) tag most n is there in
          rw (length_view m (at + 1) (until stop) false h, ne_eqb (until stop - (at + 1)) 0 (λ z. omega (arith, z, i.room)), i.size, lt-ltb n 128 (omega (arith, i.few, few)), le-leb n (until stop - (at + 1) - 1) (omega (arith, i.room)))

      -- it is got, if the test is passed
      pub leaf_read : here_leaf ≡ check (fits (take n (drop (at + 2) m))) (fault FaultKind.BadContents at portion none none) (got (at + 2, take n (drop (at + 2) m)) (2 + n))
      unfolding ask_length leaf_contents
      leaf_read =
          let i = counted m at (until stop) tag most n is there in
          let e : Entered false m at stop tag (length_place at (at + 1) (until stop) (LengthRead.Definite 1 n)) = record { here = omega (arith, i.room); first = i.first; len = LengthRead.Definite 1 n; len_is = short_length; answer = refl } in
          let q : length_place at (at + 1) (until stop) (LengthRead.Definite 1 n) ≡ entry_place false m at stop tag = entry_of false m at stop tag (LengthRead.Definite 1 n) (omega (arith, i.room)) i.first short_length in
          ask_entered false m at stop tag _ g h q (leaf_item tag fits) leads kind (λ a. refl) e ∙ blamed_same _ ∙ rw (span_take m at (until stop) 2 n (omega (arith, i.room)) h)

      pub leaf_good : fits (take n (drop (at + 2) m)) ≡ true → Placed at (until stop) here_leaf (at + 2 + n)
      unfolding Placed check
      leaf_good t = let i = counted m at (until stop) tag most n is there in rw (leaf_read, t) (omega arith, i.room)

      pub leaf_bad : fits (take n (drop (at + 2) m)) ≡ false → Placed at (until stop) here_leaf (bad_contents + at)
      unfolding Placed check fault_place base
      leaf_bad t = rw (leaf_read, t)

    -- no short one: no contents that have from 1 to `most` octets
    module _ (absent : n ≡ 0) (sized : (c : List ℕ) → fits c ≡ true → (1 ≤ length c) × (length c ≤ most)) where
      not_fit : (k c : ℕ) → Entered false m at stop tag (entry_place false m at stop tag) → length_of (part m (at + 1) stop) false ≡ LengthRead.Definite k c → (b : Bool) → fits (take c (drop (1 + k) (part m at stop))) ≡ b → b ≡ false
      unfolding LengthIs
      not_fit k c i e false q = refl
      not_fit k c i e true q =
          let p : List ℕ = part m (at + 1) stop in
          let (s, r) : LengthIs p false (LengthRead.Definite k c) = rw e at (length_sound p false) in
          let z = definite_size p false k c (LengthRead.Definite k c) (sym e) refl in
          let room : at + 1 + (k + c) ≤ until stop = omega (arith, r, span_length m (at + 1) (until stop) h, i.here) in
          let long : length (take c (drop (1 + k) (part m at stop))) ≡ c = length-take-le c (drop (1 + k) (part m at stop)) (omega (arith, length-drop (1 + k) (part m at stop), span_length m at (until stop) h, room)) in
          let w = sized (take c (drop (1 + k) (part m at stop))) q in
          let t = take_head k p c (stands_short (take k p) c s (omega (arith, w, long, few))) z.0 (omega (arith, z)) in
          let first : get_or m (at + 1) 0 ≡ c = sym (rw add-zero at (span_get m (at + 1) (until stop) 0 (omega (arith, room, z)))) ∙ t.1 in
          absurd (counted_not m at (until stop) tag most c (omega (arith, w, long)) (omega (arith, w, long)) (omega (arith, room, t.0)) i.first first (sym absent ∙ is))

      leaf_len : (i : Entered false m at stop tag (entry_place false m at stop tag)) (l : LengthRead) → i.len ≡ l → entry_place false m at stop tag < faults → Placed at (until stop) here_leaf (bad_contents + at)
      unfolding ask_length length_place leaf_contents Placed check fault_place base blamed
      leaf_len i (LengthRead.Fault k) e b = absurd (omega (arith, b, far k, (i.answer ∙ ap (length_place at (at + 1) (until stop)) e)))
      leaf_len i (LengthRead.Definite k c) e b = rw (ask_entered false m at stop tag _ g h refl (leaf_item tag fits) leads kind (λ a. refl) i, e, not_fit k c i (i.len_is ∙ e) (fits (take c (drop (1 + k) (part m at stop)))) refl)
      leaf_len i LengthRead.Indefinite e b = absurd (false≢true (indefinite_size (part m (at + 1) stop) false LengthRead.Indefinite (sym (i.len_is ∙ e)) refl).1)

      pub leaf_none : (r : ℕ) → r ≡ bad_place m at stop tag → Placed at (until stop) here_leaf r
      unfolding bad_place base
      leaf_none r e = go (leb faults (entry_place false m at stop tag)) refl e
        where
          go : (b : Bool) → leb faults (entry_place false m at stop tag) ≡ b → r ≡ cond b (entry_place false m at stop tag) (bad_contents + at) → Placed at (until stop) here_leaf r
          go true q e = rw e (entry_far false m at stop tag _ g h refl (leaf_item tag fits) leads kind (λ a. refl) (leb-true faults (entry_place false m at stop tag) q))
          go false q e = let l : entry_place false m at stop tag < faults = leb-false faults (entry_place false m at stop tag) q in let i = entered false m at stop tag _ g h refl l in rw e (leaf_len i i.len refl l)

-- Under another name, and one of several

blamed_got : {A B : Type 0} (w : Fault → Fault) (f : A → B) (x : Got A) → blamed w (next x (λ a n. got (f a) n)) ≡ next (blamed w x) (λ a n. got (f a) n)
unfolding blamed next
blamed_got w f (got a n) = refl
blamed_got w f (bad g) = refl

module _ {A B : Type 0} (w : Where) (o : FaultKind) (f : A → B) (x : Item A) (d : Bool) (p : ℕ) (part : List ℕ) where
  same_body : front w o (map_item f x) ≡ place w none x.mine o (λ d h p part. next (blamed w.owner (x.contents h p part)) (λ a n. got (f a) n))
  same_body = ap (λ (g : Bool → Head → ℕ → List ℕ → Got B). place w none x.mine o g) (fun_ext λ d. fun_ext λ h. fun_ext λ p. fun_ext λ part. blamed_got w.owner f (x.contents h p part))

  pub front_map : ask (front w o (map_item f x)) d p part ≡ next (ask (front w o x) d p part) (λ a n. got (f a) n)
  front_map = ap (λ (b : Body B). ask b d p part) same_body ∙ ask_onto (front w o x) none (λ d p part a n. got (f a) n) d p part (λ e. missing_both (front w o x) _ d p part _)

  pub placed_item : (end r : ℕ) → Placed p end (ask (front w o x) d p part) r → Placed p end (ask (front w o (map_item f x)) d p part) r
  placed_item end r e = rw front_map (placed_map f (ask (front w o x) d p part) p end r e)

module _ {A : Type 0} (w : Where) (o : FaultKind) (x y : Item A) (d : Bool) (p : ℕ) (part : List ℕ) (deep : ltb 0 w.left ≡ true) where
  or_length : (a s : ℕ) (q : Bool) → x.mine a ≡ q → (l : LengthRead) → ask_length (front w o (or_item x y)) d p part a s l ≡ ask_length (front w o (cond q x y)) d p part a s l
  unfolding ask_length
  or_length a s true e (LengthRead.Fault k) = refl
  or_length a s true e (LengthRead.Definite k n) = rw e
  or_length a s true e LengthRead.Indefinite = rw e
  or_length a s false e (LengthRead.Fault k) = refl
  or_length a s false e (LengthRead.Definite k n) = rw e
  or_length a s false e LengthRead.Indefinite = rw e

  left_tag : (a s : ℕ) (q : Bool) → x.mine a ≡ q → y.mine a ≡ false → by_front (front w o (or_item x y)) d p part EndRead.More (TagRead.Tag a s) ≡ by_front (front w o x) d p part EndRead.More (TagRead.Tag a s)
  unfolding by_front check
  left_tag a s true e f = rw e (or_length a s true e (length_of (drop s part) (constructor_of a)))
  left_tag a s false e f = rw (e, f)

  right_tag : (a s : ℕ) → x.mine a ≡ false → by_front (front w o (or_item x y)) d p part EndRead.More (TagRead.Tag a s) ≡ by_front (front w o y) d p part EndRead.More (TagRead.Tag a s)
  unfolding by_front
  right_tag a s e = ap₂ (λ (t : Bool) (z : Got A). check t (w.owner (at o p)) z) (rw e) (or_length a s false e (length_of (drop s part) (constructor_of a)))

  left_front : (e : EndRead) (t : TagRead) → ((a s : ℕ) → t ≡ TagRead.Tag a s → y.mine a ≡ false) → by_front (front w o (or_item x y)) d p part e t ≡ by_front (front w o x) d p part e t
  unfolding by_front at_end
  left_front EndRead.Ended t h = refl
  left_front EndRead.Unfinished t h = refl
  left_front EndRead.More (TagRead.Fault k) h = refl
  left_front EndRead.More (TagRead.Tag a s) h = left_tag a s (x.mine a) refl (h a s refl)

  right_front : (e : EndRead) (t : TagRead) → ((a s : ℕ) → t ≡ TagRead.Tag a s → x.mine a ≡ false) → by_front (front w o (or_item x y)) d p part e t ≡ by_front (front w o y) d p part e t
  unfolding by_front at_end
  right_front EndRead.Ended t h = refl
  right_front EndRead.Unfinished t h = refl
  right_front EndRead.More (TagRead.Fault k) h = refl
  right_front EndRead.More (TagRead.Tag a s) h = right_tag a s (h a s refl)

  -- the other's tag does not stand here
  pub or_left : ((a s : ℕ) → front_of 1 part ≡ TagRead.Tag a s → y.mine a ≡ false) → ask (front w o (or_item x y)) d p part ≡ ask (front w o x) d p part
  or_left h = ask_front (front w o (or_item x y)) d p part refl deep ∙ left_front (end_of d part) (front_of 1 part) h ∙ sym (ask_front (front w o x) d p part refl deep)

  pub or_right : ((a s : ℕ) → front_of 1 part ≡ TagRead.Tag a s → x.mine a ≡ false) → ask (front w o (or_item x y)) d p part ≡ ask (front w o y) d p part
  or_right h = ask_front (front w o (or_item x y)) d p part refl deep ∙ right_front (end_of d part) (front_of 1 part) h ∙ sym (ask_front (front w o y) d p part refl deep)

-- A constructor: its contents are read from where they begin to their stop

inside_shut : {A : Type 0} (d : Bool) (x : Got A) (t : A → ℕ → Text) (f : ℕ → ℕ) (at st end r s : ℕ) → ((k : ℕ) → Shut d st r k s → (s ≡ at + f k) × (s ≤ end)) → Closing d st r x s → Placed at end (next {A = A × Text} (next x (λ v k. got (v, t v k) (f k))) (λ v n. got v.0 n)) s
unfolding Closing Placed next
inside_shut d (got a k) t f at st end r s h e = h k e
inside_shut d (bad g) t f at st end r s h e = e

module _ {A : Type 0} (b : Body A) (m : List ℕ) (at stop tag r st s : ℕ) (g : at ≤ until stop) (h : until stop ≤ length m) (top : length m ≤ 65535) (leads : Leads tag) (kind : constructor_of tag ≡ true)
    (is : r ≡ entry_place true m at stop tag) (near : Near r) (start : st ≡ at + 1 + length_size (get_or m (at + 1) 0)) where
  abbrev here_around : Got A
  here_around = ask (front (level 1) FaultKind.Another (around_item tag b)) (finite stop) at (part m at stop)

  first_octet : (n : LengthRead) (k : ℕ) → length_of (part m (at + 1) stop) true ≡ n → 1 ≤ length (part m (at + 1) stop) → SizeIs (get_or m (at + 1) 0) n
  first_octet n k e l =
      let q : get_or (part m (at + 1) stop) 0 0 ≡ get_or m (at + 1) 0 = rw add-zero at (span_get m (at + 1) (until stop) 0 (omega (arith, l, span_length m (at + 1) (until stop) h))) in
      rw (e, q) at (length_sized (part m (at + 1) stop) true)

  around_len : (i : Entered true m at stop tag r) (n : LengthRead) → i.len ≡ n → (st ≤ until r) × (until r ≤ length m) × (Closed st r (ask b (finite r) st (part m st r)) s → Placed at (until stop) here_around s)
  unfolding length_place ask_length inside Shut SizeIs
  around_len i (LengthRead.Fault k) e = absurd (omega (arith, near, far k, (i.answer ∙ ap (length_place at (at + 1) (until stop)) e)))
  around_len i (LengthRead.Definite k n) e =
      let q : length_of (part m (at + 1) stop) true ≡ LengthRead.Definite k n = i.len_is ∙ e in
      let a : r ≡ at + 1 + (k + n) = i.answer ∙ ap (length_place at (at + 1) (until stop)) e in
      let z = definite_size (part m (at + 1) stop) true k n (LengthRead.Definite k n) (sym q) refl in
      let room : at + 1 + (k + n) ≤ until stop = omega (arith, z, span_length m (at + 1) (until stop) h, i.here) in
      let size : k ≡ length_size (get_or m (at + 1) 0) = first_octet (LengthRead.Definite k n) k q (omega (arith, z)) in
      let here : st ≡ at + (1 + k) = omega (arith, start, size) in
      let low : r < opening = omega (arith, a, room, h, top) in
      let same : until r ≡ r = omega (arith, low) in
      let stop_is : at + (1 + k) + n ≡ r = omega (arith, a) in (
        omega (arith, here, same, a),
        omega (arith, same, a, room, h),
        λ c.
            rw (ask_entered true m at stop tag r g h is (around_item tag b) leads kind (λ a. refl) i, e) (rw (blamed_same ((around_item tag b).contents (head tag (1 + k) (definite n)) at (part m at stop))) (
            rw (span_inner m at (until stop) (1 + k) n (omega (arith, room)) h, stop_is) (inside_shut true (ask b true (at + (1 + k)) (span m (at + (1 + k)) r)) _ (λ j. 1 + k + n) at (at + (1 + k)) (until stop) r s (λ j w. (omega (arith, w, a), omega (arith, w, a, room)))
            (rw (lt-ltb r opening low, same, here) at c)))),
      )
  around_len i LengthRead.Indefinite e =
      let q : length_of (part m (at + 1) stop) true ≡ LengthRead.Indefinite = i.len_is ∙ e in
      let a : r ≡ opening + until stop = i.answer ∙ ap (length_place at (at + 1) (until stop)) e in
      let z = indefinite_size (part m (at + 1) stop) true LengthRead.Indefinite (sym q) refl in
      let room : at + 2 ≤ until stop = omega (arith, z.0, span_length m (at + 1) (until stop) h, i.here) in
      let size : 1 ≡ length_size (get_or m (at + 1) 0) = first_octet LengthRead.Indefinite 1 q z.0 in
      let here : st ≡ at + 2 = omega (arith, start, size) in
      let high : opening ≤ r = omega (arith, a) in
      let same : until r ≡ until stop = omega (arith, a) in (
        omega (arith, here, same, room),
        omega (arith, same, h),
        λ c.
            rw (ask_entered true m at stop tag r g h is (around_item tag b) leads kind (λ a. refl) i, e) (rw (blamed_same ((around_item tag b).contents (head tag 2 indefinite) at (part m at stop))) (
            rw (span_drop m at (until stop) 2) (inside_shut false (ask b false (at + 2) (span m (at + 2) (until stop))) _ (λ j. 2 + (j + 2)) at (at + 2) (until stop) (until stop) s (λ j w. (omega (arith, w), omega (arith, w)))
            (rw (le-ltb r opening high, same, here) at c)))),
      )

  -- the contents stand within the whole, and their reader's answer is the constructor's
  pub around_near : Closed st r (ask b (finite r) st (part m st r)) s → Placed at (until stop) here_around s
  around_near c = let i = entered true m at stop tag r g h is near in (around_len i i.len refl).2 c

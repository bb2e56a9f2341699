-- What the walkers take whole are just the elements, and the series of elements, whatever follows them.
-- Assumes nothing.
use Prim.Native.Nat.{ℕ, zero, suc, ◌+◌, ◌≤◌}
use mathlib.Core.Path.{◌≡◌, refl, sym, ap, ◌∙◌}
use mathlib.Core.Logic.Iff
use mathlib.Core.Logic.{inl, inr, ◌↔◌}
use mathlib.Core.Bool.{Bool, true, false, cond}
use mathlib.Core.List.{List, [], ◌∷◌, ◌++◌, append-nil, map}
use mathlib.Core.Option.{none, some}
use native.Mathlib.Omega.{arith}
use lib.ListN.{length, take, drop, length-append, length-drop, take-append-drop}
use lib.Seq.{take_all, take-take, length-take-le}
use lib.Dec.{ltb, eqb}
use borrow.Author.Tests.{eqb-true, eq-eqb, ne_eqb}
use Rattle.base.specs.Value.{Every}
use Rattle.element.specs.Form.{exactly, series_form, Matches, Definite, Unending, document01}
use Rattle.element.specs.Element.{code_zero, IsElement, Element, SeriesOf}
use Rattle.element.specs.Fault.{fault, Text}
use Rattle.element.specs.Head.{end_of, tag_of}
use Rattle.element.specs.Ask.{Got, got, check, Head, Body, ask_length, ask_tag}
use Rattle.element.specs.Parts.{level, first_of, place, series_body}
use Rattle.element.specs.Walk.{element_of, any_tag, walk_contents, walk_item, walk_tag_item}
use Rattle.element.specs.Answers.{wanted_item, walk_of, element_walk, series_walk}
use Rattle.element.specs.declared.FaultKind.TheVariants.{Another}
use Rattle.element.specs.declared.EndRead.TheVariants.{Ended}
use Rattle.element.specs.declared.Walk.TheVariants.{Whole}
use Rattle.element.proofs.Asking.{Then, fact, void, then_weaken, HeadOf, finite, unended, tag_asked}
use Rattle.element.proofs.ItemLaws.{ItemLaws, BodyLaws, Asked, asked_complete, asked_sound, end_definite, end_indefinite}
use Rattle.element.proofs.Reading.{stands_size}
use Rattle.element.proofs.Walker.{enough_laws, deep_enough, walk_laws}

-- a walk that answers whole got something
pub walk_got : {A : Type 0} {P : A → ℕ → Type 0} {x : Got A} {n : ℕ} → Then P x → walk_of x ≡ Whole n → (v : A) × P v n
unfolding walk_of
walk_got {n = n} (fact {a = a} {n = k} h) e = let z : k ≡ n = cc in rw (← z) (a, h)
walk_got (void {f = fault k p o i t}) e = let z : ◌≡◌ {A = ℕ} 0 1 = cc in absurd (omega arith)

walk_of_lem : {A : Type 0} {x : Got A} {v : A} {n : ℕ} → x ≡ got v n → walk_of x ≡ Whole n
unfolding walk_of
walk_of_lem e = rw e

-- Elements of the tags that are wanted

unfoldable pub wanted_tag : ℕ → ℕ → Bool
wanted_tag t a = cond (eqb t 0) (any_tag a) (eqb a t)

-- the octets m are an element that is wanted; a series of those
unfoldable pub Wanted : ℕ → ℕ → List ℕ → Type 0
Wanted t l m = (a : ℕ) × (wanted_tag t a ≡ true) × IsElement l a m

unfoldable pub WantedSeries : ℕ → ℕ → List ℕ → Type 0
WantedSeries t l m = (ws : List (List ℕ)) × Every (Wanted t l) ws × Matches document01 (series_form exactly ws) m

pub wanted_is : (t l : ℕ) → wanted_item t l ≡ element_of (wanted_tag t) (walk_contents l)
unfolding wanted_item wanted_tag
wanted_is t l = by_test (eqb t 0)
  where
    by_test : (b : Bool) → cond b (walk_item l) (walk_tag_item t l) ≡ element_of (λ a. cond b (any_tag a) (eqb a t)) (walk_contents l)
    by_test true = refl
    by_test false = refl

wanted_laws : (t l : ℕ) → ItemLaws (wanted_item t l) (λ v. v.1) exactly (Wanted t l)
unfolding Wanted Matches
wanted_laws t l =
    let laws = walk_laws l in
    rw (wanted_is t l) (record {
      complete = λ e m rest p o q. let w = laws.complete o.0 m rest p (rw (← q) at o.2) in
          record { lead = w.lead; heads = w.heads; mine = rw w.first o.1; value = (p, m); reads = w.reads; means = q };
      sound = λ p part h i m. then_weaken (laws.sound p part h i) λ v n w. record { within = w.0; matches = sym w.1; fine = (first_of h, m, rw w.1 w.2) };
    })

wanted_deep : (t l : ℕ) (m : List ℕ) → Wanted t l m → ltb 0 l ≡ true
unfolding Wanted
wanted_deep t l m o = deep_enough l o.0 m o.2

-- the bodies that the walkers ask: one element; a series in which `room` more may come, the next being number k
abbrev pub wanted_body : ℕ → ℕ → Body Text
wanted_body t l = place (level l) none (wanted_item t l).mine Another (λ d. (wanted_item t l).contents)

abbrev pub wanted_bodies : ℕ → ℕ → ℕ → ℕ → Body (List Text)
wanted_bodies t l room k = series_body (λ k. level l) Another (wanted_item t l) (some []) room k

-- One element

pub tag_head : {A : Type 0} (b : Body A) (d : Bool) (p : ℕ) (part : List ℕ) (h : Head) → HeadOf part h → ltb 0 b.left ≡ true → b.mine (first_of h) ≡ true → ask_tag b d p part (tag_of part) ≡ b.goes d h p part
unfolding ask_tag ask_length check
tag_head b d p part h (finite a s k n t z l) v m = rw (t, z, v, l, m)
tag_head b d p part h (unended a s t z l) v m = rw (t, z, v, l, m)

one_sound : (t l p : ℕ) (part : List ℕ) → Then (λ v n. (n ≤ length part) × Wanted t l (take n part)) (ask_tag (wanted_body t l) true p part (tag_of part))
unfolding Matches
one_sound t l p part =
    tag_asked (λ v n. (n ≤ length part) × Wanted t l (take n part)) (wanted_body t l) true p part
    (λ v e f. let z : ◌≡◌ {A = ℕ} 0 1 = cc in absurd (omega arith))
    (λ h i m. then_weaken ((wanted_laws t l).sound p part h i m) λ v n w. (w.within, rw w.matches w.fine))
    (tag_of part) refl

pub element_sound : (t l p : ℕ) (part : List ℕ) (n : ℕ) → element_walk t l p part ≡ Whole n → (n ≤ length part) × Wanted t l (take n part)
unfolding element_walk
element_sound t l p part n e = (walk_got (one_sound t l p part) e).1

pub element_complete : (t l p : ℕ) (m rest : List ℕ) → Wanted t l m → element_walk t l p (m ++ rest) ≡ Whole (length m)
unfolding element_walk Matches
element_complete t l p m rest o =
    let r = (wanted_laws t l).complete m m rest p o refl in
    walk_of_lem (tag_head (wanted_body t l) true p (m ++ rest) r.lead r.heads (wanted_deep t l m o) r.mine ∙ r.reads)

-- A series

module _ (t l : ℕ) where
  laws_of_series : (n : ℕ) → BodyLaws n (wanted_bodies t l n 0) (map (λ v. v.1)) (series_form exactly) (Every (Wanted t l))
  laws_of_series n = enough_laws (wanted_item t l) (λ v. v.1) exactly (Wanted t l) (wanted_laws t l) (λ k. level l) Another (λ k a o. wanted_deep t l a o) n

  pub series_sound : (d : Bool) (p : ℕ) (part : List ℕ) (n : ℕ) → series_walk t l d p part ≡ Whole n → (n ≤ length part) × WantedSeries t l (take n part) × (end_of d (drop n part) ≡ Ended)
  unfolding series_walk WantedSeries
  series_sound d p part n e =
      let (v, w) = walk_got (asked_sound (length part) (wanted_bodies t l (length part) 0) (map (λ v. v.1)) (series_form exactly) (Every (Wanted t l)) (laws_of_series (length part)) d p part) e in
      (w.0.within, (map (λ v. v.1) v, w.0.fine, w.0.matches), w.1)

  pub series_complete : (d : Bool) (p : ℕ) (m rest : List ℕ) → WantedSeries t l m → end_of d rest ≡ Ended → series_walk t l d p (m ++ rest) ≡ Whole (length m)
  unfolding series_walk WantedSeries Asked
  series_complete d p m rest (ws, o, f) e =
      let k : ℕ = length (m ++ rest) in
      let y : length m ≤ k = omega (arith, length-append m rest) in
      let q : Asked (wanted_bodies t l k 0) (map (λ v. v.1)) ws d p (m ++ rest) (length m) = asked_complete k (wanted_bodies t l k 0) (map (λ v. v.1)) (series_form exactly) (Every (Wanted t l)) (laws_of_series k) ws m rest d p y o f e in
      walk_of_lem q.1

  -- the definite form is taken whole in all its octets or not at all; the indefinite leaves the end pair at least
  pub series_all : (p : ℕ) (part : List ℕ) (n : ℕ) → series_walk t l true p part ≡ Whole n → n ≡ length part
  series_all p part n e =
      let (h, i, j) = series_sound true p part n e in
      omega (arith, length-drop n part, ap length (end_definite (drop n part) j))

  pub series_before_pair : (p : ℕ) (part : List ℕ) (n : ℕ) → series_walk t l false p part ≡ Whole n → n + 2 ≤ length part
  series_before_pair p part n e =
      let (h, i, j) = series_sound false p part n e in
      omega (arith, length-drop n part, ap length (end_indefinite (drop n part) j).1)

-- What is whole stays whole, wherever it stands and whatever follows it

front_same : (n : ℕ) (part q : List ℕ) → take n q ≡ take n part → take n part ++ drop n q ≡ q
front_same n part q e = rw (← e) (take-append-drop n q)

module _ (t l p : ℕ) (part : List ℕ) (n : ℕ) (q : List ℕ) (place : ℕ) (same : take n q ≡ take n part) where
  pub element_local : element_walk t l p part ≡ Whole n → element_walk t l place q ≡ Whole n
  element_local e =
      let (h, o) = element_sound t l p part n e in
      rw (front_same n part q same, length-take-le n part h) at (element_complete t l place (take n part) (drop n q) o)

  pub series_local : (d : Bool) → series_walk t l d p part ≡ Whole n → end_of d (drop n q) ≡ Ended → series_walk t l d place q ≡ Whole n
  series_local d e f =
      let (h, o, j) = series_sound t l d p part n e in
      rw (front_same n part q same, length-take-le n part h) at (series_complete t l d place (take n part) (drop n q) o f)

pub element_alone : (t l p : ℕ) (part : List ℕ) (n place : ℕ) → element_walk t l p part ≡ Whole n → element_walk t l place (take n part) ≡ Whole n
element_alone t l p part n place e = element_local t l p part n (take n part) place (take-take n n part (omega arith)) e

-- An element has a tag and a length at least

definite_least : (a : ℕ) (x c m : List ℕ) → Definite document01 (a ∷ x) c m → 2 ≤ length m
unfolding Definite
definite_least a x c m (l, s, e) = omega (arith, ap length e, length-append (a ∷ x) (l ++ c), length-append l c, stands_size l (length c) s)

pub element_least : (l a : ℕ) (m : List ℕ) → IsElement l a m → 2 ≤ length m
unfolding IsElement Matches Unending
element_least zero a m o = absurd o
element_least (suc l) a m (x, i, z, inl (k, (c, d))) = definite_least a x c m d
element_least (suc l) a m (x, i, z, inr (k, (ws, o, (c, f, inl d)))) = definite_least a x c m d
element_least (suc l) a m (x, i, z, inr (k, (ws, o, (c, f, inr (u, e))))) = omega (arith, ap length e, length-append (a ∷ x) (0x80 ∷ (c ++ (0 ∷ 0 ∷ []))))

pub element_size : (t l p : ℕ) (part : List ℕ) (n : ℕ) → element_walk t l p part ≡ Whole n → (2 ≤ n) × (n ≤ length part)
unfolding Wanted
element_size t l p part n e =
    let (h, o) = element_sound t l p part n e in
    (omega (arith, element_least l o.0 (take n part) o.2, length-take-le n part h), h)

-- Octets are an element, or a series, exactly if the walker takes them all

element_plain : (l a : ℕ) (m : List ℕ) → IsElement l a m → code_zero a ≡ false
unfolding IsElement
element_plain zero a m o = absurd o
element_plain (suc l) a m (x, i, z, s) = z

pub any_wanted : (l : ℕ) (m : List ℕ) → Wanted 0 l m ↔ Element l m
unfolding Wanted Element wanted_tag
any_wanted l m = (λ o. (o.0, o.2), λ o. (o.0, rw (element_plain l o.0 m o.1), o.1))

module _ (t l p : ℕ) (m : List ℕ) where
  pub wanted_walk_is : (element_walk t l p m ≡ Whole (length m)) ↔ Wanted t l m
  wanted_walk_is = (
    λ e. rw (take_all (length m) m (omega arith)) at (element_sound t l p m (length m) e).1,
    λ o. rw append-nil at (element_complete t l p m [] o),
  )

  pub wanted_series_is : (series_walk t l true p m ≡ Whole (length m)) ↔ WantedSeries t l m
  unfolding end_of
  wanted_series_is = (
    λ e. rw (take_all (length m) m (omega arith)) at (series_sound t l true p m (length m) e).1,
    λ o. rw append-nil at (series_complete t l true p m [] o refl),
  )

pub element_walk_is : (l p : ℕ) (m : List ℕ) → (element_walk 0 l p m ≡ Whole (length m)) ↔ Element l m
element_walk_is l p m = Iff.trans (wanted_walk_is 0 l p m) (any_wanted l m)

-- of one tag
module _ (t : ℕ) (named : t ≡ 0 → ⊥) where
  pub tag_wanted : (l : ℕ) (m : List ℕ) → Wanted t l m ↔ IsElement l t m
  unfolding Wanted wanted_tag
  tag_wanted l m =
      (λ o. let e : eqb o.0 t ≡ true = rw (ne_eqb t 0 named) at o.1 in rw (eqb-true o.0 t e) at o.2, λ o. (t, rw (ne_eqb t 0 named) (eq-eqb t t refl), o))

  each_wanted : (l : ℕ) (ws : List (List ℕ)) → Every (Wanted t l) ws ↔ Every (IsElement l t) ws
  unfolding Every
  each_wanted l [] = (λ o. o, λ o. o)
  each_wanted l (w ∷ ws) = Iff.and (tag_wanted l w) (each_wanted l ws)

  series_wanted : (l : ℕ) (m : List ℕ) → WantedSeries t l m ↔ SeriesOf t l m
  unfolding WantedSeries SeriesOf
  series_wanted l m = (λ o. (o.0, (each_wanted l o.0).0 o.1, o.2), λ o. (o.0, (each_wanted l o.0).1 o.1, o.2))

  pub tag_walk_is : (l p : ℕ) (m : List ℕ) → (element_walk t l p m ≡ Whole (length m)) ↔ IsElement l t m
  tag_walk_is l p m = Iff.trans (wanted_walk_is t l p m) (tag_wanted l m)

  pub series_walk_is : (l p : ℕ) (m : List ℕ) → (series_walk t l true p m ≡ Whole (length m)) ↔ SeriesOf t l m
  series_walk_is l p m = Iff.trans (wanted_series_is t l p m) (series_wanted l m)

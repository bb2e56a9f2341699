-- When octets are one element, or a series of 28. Assumes nothing.
use Rattle.std.specs.Prelude.{Option as Optional, Some}
use Rattle.std.specs.Option.{option_eq}
use Prim.Native.Nat.{ℕ, zero, suc, ◌+◌, ◌-◌, ◌≤◌, ◌<◌}
use mathlib.Core.Path.{◌≡◌, refl, sym, ap, ◌∙◌}
use mathlib.Core.Logic.{inl, inr}
use mathlib.Core.Bool.{true, false}
use mathlib.Core.List.{List}
use native.Mathlib.Omega.{arith}
use native.Mathlib.Nat.{add-zero, zero-add}
use lib.ListN.{length, get_or, drop, take, length-drop, take-append-drop, drop_of_length-le}
use lib.Seq.{drop-cons, get_or-drop, get_or-take, length-take-le, take_all}
use lib.Dec.{eqb}
use borrow.Author.Tests.{eq-eqb, eqb-true}
use Rattle.element.specs.declared.EndRead.{EndRead}
use Rattle.element.specs.declared.Walk.{Walk}
use Rattle.element.specs.Form.{Matches, Definite, Unending}
use Rattle.element.specs.Element.{code_zero, IsElement}
use Rattle.element.specs.Head.{end_of}
use Rattle.element.specs.Answers.{element_walk}
use Rattle.element.proofs.WalkedWhole.{Wanted, wanted_tag, element_sound, element_complete, element_size}
use Rattle.element.proofs.Walking.{Left, loop_ended, loop_fault, loop_next}
use Rattle.walk.specs.Walks.{whole_place}
use Rattle.tcap.specs.Verdict.{took_all, is_element, is_series}

-- an element begins with its tag's first octet
element_first : (l a : ℕ) (m : List ℕ) → IsElement l a m → get_or m 0 0 ≡ a
unfolding IsElement Matches Definite Unending
element_first zero a m o = absurd o
element_first (suc l) a m (x, i, z, inl (k, (c, (j, s, e)))) = rw e
element_first (suc l) a m (x, i, z, inr (k, (ws, o, (c, f, inl (j, s, e))))) = rw e
element_first (suc l) a m (x, i, z, inr (k, (ws, o, (c, f, inr (u, e))))) = rw e

module _ (l p n : ℕ) (part : List ℕ) where
  taken_first : (a : ℕ) → IsElement l a (take n part) → 1 ≤ n → get_or part 0 0 ≡ a
  taken_first a o h = sym (get_or-take n part 0 0 h) ∙ element_first l a (take n part) o

  -- any element that begins with 28 is one of 28, and no other is
  tag_taken : get_or part 0 0 ≡ 0x28 → element_walk 0 l p part ≡ Walk.Whole n → element_walk 0x28 l p part ≡ Walk.Whole n
  unfolding Wanted wanted_tag
  tag_taken f e =
      let (h, o) = element_sound 0 l p part n e in
      let z = element_size 0 l p part n e in
      let i : o.0 ≡ 0x28 = sym (taken_first o.0 o.2 (omega (arith, z))) ∙ f in
      rw (take-append-drop n part, length-take-le n part h) at (element_complete 0x28 l p (take n part) (drop n part) (o.0, eq-eqb o.0 0x28 i, o.2))

  taken_tag : element_walk 0x28 l p part ≡ Walk.Whole n → (get_or part 0 0 ≡ 0x28) × (element_walk 0 l p part ≡ Walk.Whole n)
  unfolding Wanted wanted_tag code_zero
  taken_tag e =
      let (h, o) = element_sound 0x28 l p part n e in
      let z = element_size 0x28 l p part n e in
      let i : o.0 ≡ 0x28 = eqb-true o.0 0x28 o.1 in
      (taken_first o.0 o.2 (omega (arith, z)) ∙ i, rw (take-append-drop n part, length-take-le n part h) at (element_complete 0 l p (take n part) (drop n part) (o.0, rw i, o.2)))

-- One element

module _ (l : ℕ) (c : List ℕ) (q : Optional ℕ) (is : q ≡ whole_place 0 (element_walk 0 l 0 (drop 0 (take (length c) c)))) where
  here : q ≡ whole_place 0 (element_walk 0 l 0 c)
  here = rw (take_all (length c) c (omega arith)) at is

  pub element_told : option_eq eqb q (Some (length c)) ≡ is_element l c
  unfolding is_element took_all whole_place
  element_told = go (element_walk 0 l 0 c) refl here
    where
      go : (w : Walk) → element_walk 0 l 0 c ≡ w → q ≡ whole_place 0 w → option_eq eqb q (Some (length c)) ≡ is_element l c
      go (Walk.Fault k p) e i = rw (e, i)
      go (Walk.Whole n) e i = let z : 0 + n ≡ n = omega arith in rw (e, i, z)

-- A series of 28, of which the elements in front of `at` are walked

pub series_done : (l : ℕ) (c : List ℕ) (at : ℕ) → at ≤ length c → length c ≤ at → Left 0x28 l true 0 c at → true ≡ is_series l c
unfolding is_series took_all end_of
series_done l c at g h going =
    let e : EndRead.Ended ≡ end_of true (drop at c) = rw (drop_of_length-le c h) in
    rw (← (loop_ended 0x28 l true 0 c at (drop at c) EndRead.Ended going refl e refl), eq-eqb at (length c) (omega (arith, g, h)))

module _ (l : ℕ) (c : List ℕ) (at : ℕ) (g : at < length c) (going : Left 0x28 l true 0 c at) where
  more : EndRead.More ≡ end_of true (drop at c)
  unfolding end_of
  more = rw (drop-cons c at 0 g)

  first_is : get_or (drop at c) 0 0 ≡ get_or c at 0
  first_is = get_or-drop at c 0 0 ∙ rw add-zero

  stopped : ((n : ℕ) → element_walk 0x28 l at (drop at c) ≡ Walk.Whole n → ⊥) → false ≡ is_series l c
  unfolding is_series took_all
  stopped never = go (element_walk 0x28 l at (drop at c)) refl
    where
      go : (w : Walk) → w ≡ element_walk 0x28 l at (drop at c) → false ≡ is_series l c
      go (Walk.Fault k p) e = rw (← (loop_fault 0x28 l true 0 c at (drop at c) EndRead.More going refl more refl (Walk.Fault k p) (drop at c) refl (rw (zero-add at) e) k p refl))
      go (Walk.Whole n) e = absurd (never n (sym e))

  pub series_other : (get_or c at 0 ≡ 0x28 → ⊥) → false ≡ is_series l c
  series_other f = stopped (λ n e. f (sym first_is ∙ (taken_tag l at n (drop at c) e).0))

  module _ (q : Optional ℕ) (is : q ≡ whole_place at (element_walk 0 l at (drop at (take (length c) c)))) where
    walked : q ≡ whole_place at (element_walk 0 l at (drop at c))
    walked = rw (take_all (length c) c (omega arith)) at is

    pub series_fault : ((r : ℕ) → q ≡ Some r → ⊥) → false ≡ is_series l c
    unfolding whole_place
    series_fault z = stopped (λ n e. let f = (taken_tag l at n (drop at c) e).1 in z (at + n) (walked ∙ ap (whole_place at) f))

    series_on : (r : ℕ) → q ≡ Some r → get_or c at 0 ≡ 0x28 → (at < r) × (r ≤ length c) × Left 0x28 l true 0 c r
    unfolding whole_place
    series_on r z f = go (element_walk 0 l at (drop at c)) refl walked
      where
        go : (w : Walk) → element_walk 0 l at (drop at c) ≡ w → q ≡ whole_place at w → (at < r) × (r ≤ length c) × Left 0x28 l true 0 c r
        go (Walk.Fault k p) e i = absurd cc
        go (Walk.Whole n) e i =
            let s = element_size 0 l at (drop at c) n e in
            let j : r ≡ at + n = cc in
            (omega (arith, j, s), omega (arith, j, s, length-drop at c, g), rw j (loop_next 0x28 l true 0 c at (drop at c) EndRead.More going refl more refl (Walk.Whole n) (drop at c) refl (rw (zero-add at) (sym (tag_taken l at n (drop at c) (first_is ∙ f) e))) n refl))

    pub series_less : (r : ℕ) → q ≡ Some r → get_or c at 0 ≡ 0x28 → length c - r < length c - at
    series_less r z f = let o = series_on r z f in omega (arith, o.0, o.1)

    pub series_to : (r : ℕ) → q ≡ Some r → get_or c at 0 ≡ 0x28 → r ≤ length c
    series_to r z f = (series_on r z f).1

    pub series_again : (r : ℕ) → q ≡ Some r → get_or c at 0 ≡ 0x28 → Left 0x28 l true 0 c r
    series_again r z f = (series_on r z f).2

-- The originating ID of octets that are no message is sought as in a constructor of their tag, whose contents begin with it. Assumes nothing.
use Prim.Native.Nat.{ℕ, ◌+◌, ◌/◌, ◌%◌}
use mathlib.Core.Path.{◌≡◌, refl, sym, ap, fun_ext, ◌∙◌}
use mathlib.Core.Bool.{Bool, true, false, cond, not, ◌&&◌, false≢true}
use mathlib.Core.List.{List}
use mathlib.Core.Option.{none}
use native.Mathlib.Omega.{arith}
use lib.ListN.{take, drop}
use lib.Dec.{eqb}
use borrow.Author.Tests.{eqb-true, eqb-false, eq-eqb}
use Rattle.element.specs.declared.FaultKind.{FaultKind}
use Rattle.element.specs.declared.EndRead.{EndRead}
use Rattle.element.specs.declared.TagRead.{TagRead}
use Rattle.element.specs.declared.LengthRead.{LengthRead}
use Rattle.element.specs.Element.{constructor_of, extended_of, code_zero}
use Rattle.element.specs.Fault.{Text}
use Rattle.element.specs.Head.{end_of, length_of}
use Rattle.element.specs.inner.Fronts.{front_of}
use Rattle.element.specs.Ask.{Got, got, bad, next, check, blamed, definite, indefinite, Head, head, Body, ask_length, at_end, ask}
use Rattle.element.specs.Parts.{level, inside, around_item, place}
use Rattle.tcap.specs.Meaning.{Originating, orig}
use Rattle.tcap.specs.WellFormed.{the93}
use Rattle.tcap.specs.Productions.{orig_item}
use Rattle.tcap.specs.Reading.{foremost, id_first, unknown_tag, unknown_body, text_of}
use Rattle.read_place.specs.Places.{front, Leads}
use Rattle.read_place.proofs.Fronts.{by_front, ask_front}
use Rattle.read_place.proofs.Asked.{blamed_same}
use Rattle.read_refusal.specs.Refusals.{constructor_tag}

-- whatever is counted, and kept beside it, the ID is the same
pub text_next : (x : Got (Originating Text)) (f : ℕ → ℕ) → text_of (next x (λ v k. got v (f k))) ≡ text_of x
unfolding text_of next
text_next (got (orig t) n) f = refl
text_next (bad g) f = refl

text_kept : (x : Got (Originating Text)) (t : ℕ → Text) (f g : ℕ → ℕ) → text_of (next x (λ v k. got v (g k))) ≡ text_of (blamed (λ h. h) (next {A = Originating Text × Text} (next x (λ v k. got (v, t k) (f k))) (λ v n. got v.0 n)))
unfolding text_of next blamed
text_kept (got (orig t) n) u f g = refl
text_kept (bad h) u f g = refl

text_inside : (b : Body (Originating Text)) (h : Head) (p : ℕ) (part : List ℕ) → text_of (foremost b h p part) ≡ text_of (blamed (λ f. f) (next (inside (λ n. b) h p part) (λ v n. got v.0 n)))
unfolding foremost inside
text_inside b (head a u (definite n)) p part = text_kept (ask b true (p + u) (take n (drop u part))) (λ k. (p + u, take n (drop u part))) (λ k. u + n) (λ k. u + k)
text_inside b (head a u indefinite) p part = text_kept (ask b false (p + u) (drop u part)) (λ k. (p + u, take k (drop u part))) (λ k. u + (k + 2)) (λ k. u + k)

-- a tag that is no message's, and whose ID is sought
pub record Strange (tag : ℕ) : Type 0 where
  pub one : unknown_tag tag ≡ true
  pub constructor : constructor_of tag ≡ true
  pub leads : Leads tag

pub strange_of : (tag : ℕ) → constructor_tag tag ≡ true → Strange tag
unfolding constructor_tag constructor_of extended_of
strange_of tag e = go (eqb tag 32) (eqb (tag % 32) 31) (eqb (tag / 32 % 2) 1) refl refl refl e
  where
    go : (z x c : Bool) → eqb tag 32 ≡ z → eqb (tag % 32) 31 ≡ x → eqb (tag / 32 % 2) 1 ≡ c → cond z false (cond x false c) ≡ true → Strange tag
    go true x c i j k e = absurd (false≢true e)
    go false true c i j k e = absurd (false≢true e)
    go false false c i j k e =
        let y : tag / 32 % 2 ≡ 1 = eqb-true (tag / 32 % 2) 1 (k ∙ e) in
        let n = eqb-false tag 32 i in
        let q = eqb-false (tag % 32) 31 j in
        record { one = rw (k, e, j); constructor = k ∙ e; leads = (omega (arith, q), omega (arith, y), omega (arith, y, n)) }

-- no such tag
pub unsought_of : (tag : ℕ) → constructor_tag tag ≡ false → unknown_tag tag && not (code_zero tag) ≡ false
unfolding constructor_tag constructor_of extended_of code_zero
unsought_of tag e = go (eqb tag 0) (eqb tag 32) (eqb (tag % 32) 31) (eqb (tag / 32 % 2) 1) refl refl refl refl e
  where
    go : (o z x c : Bool) → eqb tag 0 ≡ o → eqb tag 32 ≡ z → eqb (tag % 32) 31 ≡ x → eqb (tag / 32 % 2) 1 ≡ c → cond z false (cond x false c) ≡ false → unknown_tag tag && not (code_zero tag) ≡ false
    go o z x false h i j k e = rw k
    go o z true true h i j k e = rw (k, j)
    go true true false true h i j k e = rw (k, j, h)
    go false true false true h i j k e = rw (k, j, h, i)
    go o false false true h i j k e = absurd (false≢true (sym e))

-- 48 first, as the reader of an ID is asked for it
pub first_as : id_first the93 ≡ front (level 15) FaultKind.Another orig_item
first_as = ap (λ (g : Bool → Head → ℕ → List ℕ → Got (Originating Text)). place (level 15) none orig_item.mine FaultKind.Another g) (fun_ext λ d. fun_ext λ h. fun_ext λ p. fun_ext λ part. sym (blamed_same (orig_item.contents h p part)))

module _ (tag : ℕ) (s : Strange tag) (d : Bool) (p : ℕ) (part : List ℕ) where
  abbrev around : Body (Originating Text)
  around = front (level 1) FaultKind.Another (around_item tag (id_first the93))

  same_length : (a u : ℕ) (l : LengthRead) → text_of (ask_length (unknown_body the93) d p part a u l) ≡ text_of (ask_length around d p part a u l)
  unfolding ask_length text_of
  same_length a u (LengthRead.Fault k) = refl
  same_length a u (LengthRead.Definite k n) = text_inside (id_first the93) (head a (u + k) (definite n)) p part
  same_length a u LengthRead.Indefinite = text_inside (id_first the93) (head a (u + 1) indefinite) p part

  same_front : (e : EndRead) (t : TagRead) → ((a u : ℕ) → t ≡ TagRead.Tag a u → a ≡ tag) → text_of (by_front (unknown_body the93) d p part e t) ≡ text_of (by_front around d p part e t)
  unfolding by_front at_end check text_of
  same_front EndRead.Ended t h = refl
  same_front EndRead.Unfinished t h = refl
  same_front EndRead.More (TagRead.Fault k) h = refl
  same_front EndRead.More (TagRead.Tag a u) h = rw (h a u refl, s.one, eq-eqb tag tag refl) (same_length tag u (length_of (drop u part) (constructor_of tag)))

  pub unknown_ask : ((a u : ℕ) → front_of 1 part ≡ TagRead.Tag a u → a ≡ tag) → text_of (ask (unknown_body the93) d p part) ≡ text_of (ask around d p part)
  unknown_ask h =
      ap text_of (ask_front (unknown_body the93) d p part refl refl) ∙ same_front (end_of d part) (front_of 1 part) h ∙ ap text_of (sym (ask_front around d p part refl refl))

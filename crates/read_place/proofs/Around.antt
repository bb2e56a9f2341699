-- A constructor that stands here is asked as its contents are, from where they begin to their stop. Assumes nothing.
use Prim.Native.Nat.{ℕ, ◌+◌, ◌≤◌, ◌<◌}
use mathlib.Core.Path.{◌≡◌, refl, sym, ap, ◌∙◌}
use mathlib.Core.Bool.{Bool, true, false}
use mathlib.Core.List.{List}
use native.Mathlib.Omega.{arith}
use lib.ListN.{length, get_or, drop}
use lib.Dec.{ltb}
use borrow.Author.Tests.{lt-ltb, le-ltb}
use Rattle.element.specs.declared.FaultKind.{FaultKind}
use Rattle.element.specs.declared.EndRead.{EndRead}
use Rattle.element.specs.declared.TagRead.{TagRead}
use Rattle.element.specs.declared.LengthRead.{LengthRead}
use Rattle.element.specs.Element.{constructor_of}
use Rattle.element.specs.Fault.{Text}
use Rattle.element.specs.Head.{end_of, length_of}
use Rattle.element.specs.inner.Fronts.{front_of, span, length_size}
use Rattle.element.specs.Ask.{Got, got, bad, next, check, at_end, definite, indefinite, head, Body, ask_length, ask}
use Rattle.element.specs.Parts.{Item, Where, level, inside, around_item}
use Rattle.element.proofs.Reading.{definite_size, indefinite_size}
use Rattle.element.proofs.Views.{span_length, span_drop, span_inner, SizeIs}
use Rattle.read_place.specs.Places.{Near, until, opening, finite, part, front, Leads, length_place, entry_place}
use Rattle.read_place.proofs.Answers.{far}
use Rattle.read_place.proofs.Items.{Entered, entered, ask_entered}
use Rattle.read_place.proofs.Fronts.{by_front, ask_front}
use Rattle.read_place.proofs.Walks.{size_of}
use Rattle.read_place.proofs.Asked.{blamed_same}

inside_next : {A : Type 0} (x : Got A) (t : A → ℕ → Text) (f : ℕ → ℕ) → next {A = A × Text} (next x (λ v k. got (v, t v k) (f k))) (λ v n. got v.0 n) ≡ next x (λ v k. got v (f k))
unfolding next
inside_next (got a k) t f = refl
inside_next (bad g) t f = refl

module _ {A : Type 0} (b : Body A) (m : List ℕ) (at stop tag r st : ℕ) (g : at ≤ until stop) (h : until stop ≤ length m) (top : length m ≤ 65535) (leads : Leads tag) (kind : constructor_of tag ≡ true)
    (is : r ≡ entry_place true m at stop tag) (near : Near r) (start : st ≡ at + 1 + length_size (get_or m (at + 1) 0)) where
  abbrev Opened : (ℕ → ℕ) → Type 0
  Opened f = ask (front (level 1) FaultKind.Another (around_item tag b)) (finite stop) at (part m at stop) ≡ next (ask b (finite r) st (part m st r)) (λ v k. got v (f k))

  by_length : (i : Entered true m at stop tag r) (n : LengthRead) → i.len ≡ n → (f : ℕ → ℕ) × Opened f
  unfolding length_place ask_length inside SizeIs
  by_length i (LengthRead.Fault k) e = absurd (omega (arith, near, far k, (i.answer ∙ ap (length_place at (at + 1) (until stop)) e)))
  by_length i (LengthRead.Definite k n) e =
      let q : length_of (part m (at + 1) stop) true ≡ LengthRead.Definite k n = i.len_is ∙ e in
      let a : r ≡ at + 1 + (k + n) = i.answer ∙ ap (length_place at (at + 1) (until stop)) e in
      let z = definite_size (part m (at + 1) stop) true k n (LengthRead.Definite k n) (sym q) refl in
      let room : at + 1 + (k + n) ≤ until stop = omega (arith, z, span_length m (at + 1) (until stop) h, i.here) in
      let size : k ≡ length_size (get_or m (at + 1) 0) = size_of m (at + 1) (until stop) h (LengthRead.Definite k n) (sym q) (omega (arith, z)) in
      let here : st ≡ at + (1 + k) = omega (arith, start, size) in
      let low : r < opening = omega (arith, a, room, h, top) in
      let same : until r ≡ r = omega (arith, low) in
      let stop_is : at + (1 + k) + n ≡ r = omega (arith, a) in
      let side : next (ask b true (at + (1 + k)) (span m (at + (1 + k)) r)) (λ v j. got v (1 + k + n)) ≡ next (ask b (finite r) st (part m st r)) (λ v j. got v (1 + k + n)) = rw (lt-ltb r opening low, same, here) in (
        λ j. 1 + k + n,
        rw (ask_entered true m at stop tag r g h is (around_item tag b) leads kind (λ a. refl) i, e) (rw (blamed_same ((around_item tag b).contents (head tag (1 + k) (definite n)) at (part m at stop)))
            (rw (span_inner m at (until stop) (1 + k) n (omega (arith, room)) h, stop_is) (inside_next (ask b true (at + (1 + k)) (span m (at + (1 + k)) r)) _ (λ j. 1 + k + n)) ∙ side)),
      )
  by_length i LengthRead.Indefinite e =
      let q : length_of (part m (at + 1) stop) true ≡ LengthRead.Indefinite = i.len_is ∙ e in
      let a : r ≡ opening + until stop = i.answer ∙ ap (length_place at (at + 1) (until stop)) e in
      let z = indefinite_size (part m (at + 1) stop) true LengthRead.Indefinite (sym q) refl in
      let size : 1 ≡ length_size (get_or m (at + 1) 0) = size_of m (at + 1) (until stop) h LengthRead.Indefinite (sym q) z.0 in
      let here : st ≡ at + 2 = omega (arith, start, size) in
      let high : opening ≤ r = omega (arith, a) in
      let same : until r ≡ until stop = omega (arith, a) in
      let side : next (ask b false (at + 2) (span m (at + 2) (until stop))) (λ v j. got v (2 + (j + 2))) ≡ next (ask b (finite r) st (part m st r)) (λ v j. got v (2 + (j + 2))) = rw (le-ltb r opening high, same, here) in (
        λ j. 2 + (j + 2),
        rw (ask_entered true m at stop tag r g h is (around_item tag b) leads kind (λ a. refl) i, e) (rw (blamed_same ((around_item tag b).contents (head tag 2 indefinite) at (part m at stop)))
            (rw (span_drop m at (until stop) 2) (inside_next (ask b false (at + 2) (span m (at + 2) (until stop))) _ (λ j. 2 + (j + 2))) ∙ side)),
      )

  pub around_ask : (f : ℕ → ℕ) × Opened f
  around_ask = let i = entered true m at stop tag r g h is near in by_length i i.len refl

-- Where an expected tag stands, the fault of another does not matter

module _ {A : Type 0} (w : Where) (o u : FaultKind) (x : Item A) (d : Bool) (p : ℕ) (part : List ℕ) where
  same_length : (a s : ℕ) (l : LengthRead) → ask_length (front w o x) d p part a s l ≡ ask_length (front w u x) d p part a s l
  unfolding ask_length
  same_length a s (LengthRead.Fault k) = refl
  same_length a s (LengthRead.Definite k n) = refl
  same_length a s LengthRead.Indefinite = refl

  same_front : (e : EndRead) (t : TagRead) → ((a s : ℕ) → t ≡ TagRead.Tag a s → x.mine a ≡ true) → by_front (front w o x) d p part e t ≡ by_front (front w u x) d p part e t
  unfolding by_front at_end check
  same_front EndRead.Ended t h = refl
  same_front EndRead.Unfinished t h = refl
  same_front EndRead.More (TagRead.Fault k) h = refl
  same_front EndRead.More (TagRead.Tag a s) h = rw (h a s refl) (same_length a s (length_of (drop s part) (constructor_of a)))

  pub other_ask : ltb 0 w.left ≡ true → ((a s : ℕ) → front_of 1 part ≡ TagRead.Tag a s → x.mine a ≡ true) → ask (front w o x) d p part ≡ ask (front w u x) d p part
  other_ask deep h = ask_front (front w o x) d p part refl deep ∙ same_front (end_of d part) (front_of 1 part) h ∙ sym (ask_front (front w u x) d p part refl deep)

-- What `ask` answers, from what stands at the place; facts of what is got. Assumes nothing.
use Prim.Native.Nat.{ℕ, suc, ◌+◌}
use mathlib.Core.Path.{◌≡◌, refl, sym, ap, ◌∙◌}
use mathlib.Core.Bool.{Bool, true, false, not, ◌||◌, false≢true}
use mathlib.Core.List.{List, [], ◌∷◌, ◌++◌, append_assoc}
use mathlib.Core.Option.{Option, none, some}
use native.Mathlib.Omega.{arith}
use lib.ListN.{length, take, drop, length-append, length-drop, take-append-drop}
use lib.Seq.{drop-append_seam, drop-append-add, length-take-le}
use lib.Dec.{ltb, eqb}
use Rattle.element.specs.Form.{StandsFor}
use Rattle.element.specs.Element.{IsTag, constructor_of, code_zero, Definitely, Endlessly}
use Rattle.element.specs.declared.FaultKind.{FaultKind}
use Rattle.element.specs.Fault.{Fault, at}
use Rattle.element.specs.declared.FaultKind.TheVariants.{CutOff, Missing, CodeZero, TooDeep, Seventeenth}
use Rattle.element.specs.declared.TagRead.{TagRead}
use Rattle.element.specs.declared.TagRead.TheVariants.{Fault as tag_fault, Tag as tag}
use Rattle.element.specs.Head.{tag_of, length_of, end_of}
use Rattle.element.specs.declared.LengthRead.{LengthRead}
use Rattle.element.specs.declared.LengthRead.TheVariants.{Fault as length_fault, Definite as known, Indefinite as endless}
use Rattle.element.specs.declared.EndRead.{EndRead}
use Rattle.element.specs.declared.EndRead.TheVariants.{Ended as ended, Unfinished as unfinished, More as more}
use Rattle.element.specs.Ask.{Got, got, bad, next, check, blamed, definite, indefinite, Head, head, Body, ask_length, ask_tag, at_end, ask_end, ask}
use Rattle.element.specs.Parts.{first_of}
use Rattle.element.proofs.Heads.{tag_complete, TagIs, tag_sound, length_complete, length_endless, LengthIs, length_sound}

-- a fact of what was got: nothing is said of a refusal
pub data Then {A : Type 0} (P : A → ℕ → Type 0) : Got A → Type 0 where
  fact : {a : A} {n : ℕ} → P a n → Then P (got a n)
  void : {f : Fault} → Then P (bad f)

pub the_fact : {A : Type 0} {P : A → ℕ → Type 0} {a : A} {n : ℕ} → Then P (got a n) → P a n
the_fact (fact h) = h

pub then_next : {A B : Type 0} {P : A → ℕ → Type 0} {Q : B → ℕ → Type 0} {x : Got A} {k : A → ℕ → Got B} → Then P x → ((a : A) (n : ℕ) → P a n → Then Q (k a n)) → Then Q (next x k)
unfolding next
then_next (fact {a = a} {n = n} h) f = f a n h
then_next void f = void

pub then_weaken : {A : Type 0} {P Q : A → ℕ → Type 0} {x : Got A} → Then P x → ((a : A) (n : ℕ) → P a n → Q a n) → Then Q x
then_weaken (fact {a = a} {n = n} h) f = fact (f a n h)
then_weaken void f = void

pub then_check : {A : Type 0} {P : A → ℕ → Type 0} (t : Bool) (f : Fault) {x : Got A} → (t ≡ true → Then P x) → Then P (check t f x)
unfolding check
then_check true f h = h refl
then_check false f h = void

pub then_blamed : {A : Type 0} {P : A → ℕ → Type 0} (w : Fault → Fault) {x : Got A} → Then P x → Then P (blamed w x)
unfolding blamed
then_blamed w (fact h) = fact h
then_blamed w void = void

pub next_of : {A B : Type 0} {x : Got A} {a : A} {n : ℕ} (k : A → ℕ → Got B) → x ≡ got a n → next x k ≡ k a n
unfolding next
next_of k e = rw e

pub blamed_of : {A : Type 0} {x : Got A} {a : A} {n : ℕ} (w : Fault → Fault) → x ≡ got a n → blamed w x ≡ got a n
unfolding blamed
blamed_of w e = rw e

-- the part begins with an element of that head
pub data HeadOf (part : List ℕ) : Head → Type 0 where
  finite : (a s k n : ℕ) → tag_of part ≡ tag a s → code_zero a ≡ false → length_of (drop s part) (constructor_of a) ≡ known k n → HeadOf part (head a (s + k) (definite n))
  unended : (a s : ℕ) → tag_of part ≡ tag a s → code_zero a ≡ false → length_of (drop s part) (constructor_of a) ≡ endless → HeadOf part (head a (s + 1) indefinite)

or_left : (a b : Bool) → (a || b) ≡ false → a ≡ false
or_left true b e = e
or_left false b e = refl

not_zero : (a : ℕ) → code_zero a ≡ false → eqb a 0 ≡ false
unfolding code_zero
not_zero a e = or_left (eqb a 0) (eqb a 32) e

pub more_first : (d : Bool) (a : ℕ) (r : List ℕ) → eqb a 0 ≡ false → end_of d (a ∷ r) ≡ more
unfolding end_of
more_first true a r e = refl
more_first false a [] e = rw e
more_first false a (y ∷ r) e = rw e

pub more_at : (d : Bool) (part : List ℕ) (a s : ℕ) → tag_of part ≡ tag a s → code_zero a ≡ false → end_of d part ≡ more
unfolding TagIs
more_at d part a s e z =
    let (x, r, q, i, l) : TagIs part (tag a s) = rw e at (tag_sound part) in
    rw q (more_first d a (x ++ r) (not_zero a z))

pub ask_head : {A : Type 0} (b : Body A) (d : Bool) (p : ℕ) (part : List ℕ) (h : Head) → HeadOf part h → b.full ≡ false → ltb 0 b.left ≡ true → b.mine (first_of h) ≡ true → ask b d p part ≡ b.goes d h p part
unfolding ask ask_end ask_tag ask_length check
ask_head b d p part h (finite a s k n t z l) f v m = rw (more_at d part a s t z, f, t, z, v, l, m)
ask_head b d p part h (unended a s t z l) f v m = rw (more_at d part a s t z, f, t, z, v, l, m)

pub ask_ends : {A : Type 0} (b : Body A) (d : Bool) (p : ℕ) (part : List ℕ) (v : A) → end_of d part ≡ ended → b.ends ≡ some v → ask b d p part ≡ got v 0
unfolding ask ask_end at_end
ask_ends b d p part v e f = rw (e, f)

-- the other answers, one law for each, for the code that asks: what was told up to there, and the fault
module _ {A : Type 0} (b : Body A) (d : Bool) (p : ℕ) (part : List ℕ) where
  pub ask_missing : end_of d part ≡ ended → b.ends ≡ none → ask b d p part ≡ bad (at Missing p)
  unfolding ask ask_end at_end
  ask_missing e f = rw (e, f)

  pub ask_unfinished : end_of d part ≡ unfinished → ask b d p part ≡ bad (at CutOff p)
  unfolding ask ask_end
  ask_unfinished e = rw e

  module _ (m : end_of d part ≡ more) where
    pub ask_full : b.full ≡ true → ask b d p part ≡ bad (at Seventeenth p)
    unfolding ask ask_end check
    ask_full f = rw (m, f)

    module _ (f : b.full ≡ false) where
      pub ask_tag_lem : (k : FaultKind) → tag_of part ≡ tag_fault k → ask b d p part ≡ bad (b.owner (at k p))
      unfolding ask ask_end ask_tag check
      ask_tag_lem k t = rw (m, f, t)

      module _ (a s : ℕ) (t : tag_of part ≡ tag a s) where
        pub ask_zero : code_zero a ≡ true → ask b d p part ≡ bad (b.owner (at CodeZero p))
        unfolding ask ask_end ask_tag check
        ask_zero z = rw (m, f, t, z)

        module _ (z : code_zero a ≡ false) where
          pub ask_deep : ltb 0 b.left ≡ false → ask b d p part ≡ bad (b.owner (at TooDeep p))
          unfolding ask ask_end ask_tag check
          ask_deep v = rw (m, f, t, z, v)

          pub ask_other : ltb 0 b.left ≡ true → b.mine a ≡ false → ask b d p part ≡ bad (b.owner (at b.other p))
          unfolding ask ask_end ask_tag check
          ask_other v o = rw (m, f, t, z, v, o)

          pub ask_length_lem : (k : FaultKind) → ltb 0 b.left ≡ true → b.mine a ≡ true → length_of (drop s part) (constructor_of a) ≡ length_fault k → ask b d p part ≡ bad (b.owner (at k p))
          unfolding ask ask_end ask_tag ask_length check
          ask_length_lem k v o l = rw (m, f, t, z, v, o, l)

pub not_true : (b : Bool) → not b ≡ true → b ≡ false
not_true true e = absurd (false≢true e)
not_true false e = refl

module _ {A : Type 0} (P : A → ℕ → Type 0) (b : Body A) (d : Bool) (p : ℕ) (part : List ℕ)
    (ends : (v : A) → b.ends ≡ some v → end_of d part ≡ ended → P v 0)
    (goes : (h : Head) → HeadOf part h → b.mine (first_of h) ≡ true → Then P (b.goes d h p part)) where
  length_asked : (a s : ℕ) → tag_of part ≡ tag a s → code_zero a ≡ false → b.mine a ≡ true → (l : LengthRead) → length_of (drop s part) (constructor_of a) ≡ l → Then P (ask_length b d p part a s l)
  unfolding ask_length
  length_asked a s t z m (length_fault k) e = void
  length_asked a s t z m (known k n) e = goes (head a (s + k) (definite n)) (finite a s k n t z e) m
  length_asked a s t z m endless e = goes (head a (s + 1) indefinite) (unended a s t z e) m

  pub tag_asked : (t : TagRead) → tag_of part ≡ t → Then P (ask_tag b d p part t)
  unfolding ask_tag
  tag_asked (tag_fault k) e = void
  tag_asked (tag a s) e =
      then_check (not (code_zero a)) _ λ z. then_check (ltb 0 b.left) _ λ v. then_check (b.mine a) _ λ m.
      length_asked a s e (not_true (code_zero a) z) m (length_of (drop s part) (constructor_of a)) refl

  at_end_lem : (o : Option A) → b.ends ≡ o → end_of d part ≡ ended → Then P (at_end b d p part o)
  unfolding at_end
  at_end_lem none f e = void
  at_end_lem (some v) f e = fact (ends v f e)

  end_asked : (e : EndRead) → end_of d part ≡ e → Then P (ask_end b d p part e)
  unfolding ask_end
  end_asked ended e = at_end_lem b.ends refl e
  end_asked unfinished e = void
  end_asked more e = then_check (not b.full) _ λ f. tag_asked (tag_of part) refl

  pub ask_sound : Then P (ask b d p part)
  unfolding ask
  ask_sound = end_asked (end_of d part) refl

-- what a head says of the octets

unfoldable pub Says : List ℕ → Head → Type 0
Says part (head a u (definite n)) = Definitely part a u n
Says part (head a u indefinite) = Endlessly part a u

finite_says : (part : List ℕ) (a s k n : ℕ) → TagIs part (tag a s) → code_zero a ≡ false → length_of (drop s part) (constructor_of a) ≡ known k n → Definitely part a (s + k) n
unfolding TagIs LengthIs
finite_says part a s k n (x, r, q, i, e) z l =
    let g : drop s part ≡ r = rw (q, e) (drop-append_seam (a ∷ x) r) in
    let y : length_of r (constructor_of a) ≡ known k n = rw g at l in
    let j : LengthIs r (constructor_of a) (known k n) = rw y at (length_sound r (constructor_of a)) in
    let f : drop (s + k) part ≡ drop k r = rw (q, e) (drop-append-add (a ∷ x) r k) in
    record {
      ext = x;
      len = take k r;
      is_tag = i;
      plain = z;
      stands = j.0;
      front = rw f (q ∙ ap (λ (v : List ℕ). (a ∷ x) ++ v) (sym (take-append-drop k r)) ∙ sym (append_assoc (a ∷ x) (take k r) (drop k r)));
      used = omega (arith, length-append (a ∷ x) (take k r), length-take-le k r (omega (arith, j.1)));
      room = rw f (omega (arith, length-drop k r, j.1));
    }

unended_says : (part : List ℕ) (a s : ℕ) → TagIs part (tag a s) → code_zero a ≡ false → length_of (drop s part) (constructor_of a) ≡ endless → Endlessly part a (s + 1)
unfolding TagIs LengthIs
unended_says part a s (x, r, q, i, e) z l =
    let g : drop s part ≡ r = rw (q, e) (drop-append_seam (a ∷ x) r) in
    let y : length_of r (constructor_of a) ≡ endless = rw g at l in
    let j : LengthIs r (constructor_of a) endless = rw y at (length_sound r (constructor_of a)) in
    let f : drop (s + 1) part ≡ j.1.0 = rw (q, e) (drop-append-add (a ∷ x) r 1) ∙ ap (drop 1) j.1.1 in
    record {
      ext = x;
      is_tag = i;
      plain = z;
      constructor = j.0;
      front = rw f (q ∙ ap (λ (v : List ℕ). (a ∷ x) ++ v) j.1.1 ∙ sym (append_assoc (a ∷ x) (0x80 ∷ []) j.1.0));
      used = omega (arith, length-append (a ∷ x) (0x80 ∷ []));
    }

pub head_says : (part : List ℕ) (h : Head) → HeadOf part h → Says part h
unfolding Says
head_says part h (finite a s k n t z l) = finite_says part a s k n (rw t at (tag_sound part)) z l
head_says part h (unended a s t z l) = unended_says part a s (rw t at (tag_sound part)) z l

-- and where such octets stand, such a head is read
pub head_definite : (a : ℕ) (x l c rest : List ℕ) → IsTag a x → code_zero a ≡ false → StandsFor l (length c)
    → HeadOf (((a ∷ x) ++ (l ++ c)) ++ rest) (head a (suc (length x) + length l) (definite (length c))) × (drop (suc (length x) + length l) (((a ∷ x) ++ (l ++ c)) ++ rest) ≡ c ++ rest)
head_definite a x l c rest i z s =
    let e : ((a ∷ x) ++ (l ++ c)) ++ rest ≡ (a ∷ x) ++ (l ++ (c ++ rest)) = append_assoc (a ∷ x) (l ++ c) rest ∙ ap (λ (y : List ℕ). (a ∷ x) ++ y) (append_assoc l c rest) in
    rw e (
      finite a (suc (length x)) (length l) (length c) (tag_complete a x (l ++ (c ++ rest)) i) z
          (rw (drop-append_seam (a ∷ x) (l ++ (c ++ rest))) (length_complete l (length c) (c ++ rest) (constructor_of a) s (omega (arith, length-append c rest)))),
      drop-append-add (a ∷ x) (l ++ (c ++ rest)) (length l) ∙ drop-append_seam l (c ++ rest),
    )

pub head_endless : (a : ℕ) (x c rest : List ℕ) → IsTag a x → code_zero a ≡ false → constructor_of a ≡ true
    → HeadOf (((a ∷ x) ++ (0x80 ∷ (c ++ (0 ∷ 0 ∷ [])))) ++ rest) (head a (suc (length x) + 1) indefinite) × (drop (suc (length x) + 1) (((a ∷ x) ++ (0x80 ∷ (c ++ (0 ∷ 0 ∷ [])))) ++ rest) ≡ c ++ (0 ∷ 0 ∷ rest))
head_endless a x c rest i z k =
    let e : ((a ∷ x) ++ (0x80 ∷ (c ++ (0 ∷ 0 ∷ [])))) ++ rest ≡ (a ∷ x) ++ (0x80 ∷ (c ++ (0 ∷ 0 ∷ rest))) =
    append_assoc (a ∷ x) (0x80 ∷ (c ++ (0 ∷ 0 ∷ []))) rest ∙ ap (λ (y : List ℕ). (a ∷ x) ++ (0x80 ∷ y)) (append_assoc c (0 ∷ 0 ∷ []) rest) in
    rw e (
      unended a (suc (length x)) (tag_complete a x (0x80 ∷ (c ++ (0 ∷ 0 ∷ rest))) i) z
          (rw (drop-append_seam (a ∷ x) (0x80 ∷ (c ++ (0 ∷ 0 ∷ rest))), k) (length_endless (c ++ (0 ∷ 0 ∷ rest)))),
      drop-append-add (a ∷ x) (0x80 ∷ (c ++ (0 ∷ 0 ∷ rest))) 1,
    )

-- A claim of the value that is got and a claim of the fault; what `ask` answers has them if they hold at its place and after it.
-- Assumes nothing.
use Prim.Native.Nat.{ℕ, ◌+◌, ◌-◌}
use mathlib.Core.Path.{◌≡◌, refl}
use mathlib.Core.Bool.{Bool, true, false, cond, not, ◌||◌}
use mathlib.Core.List.{List}
use mathlib.Core.Option.{Option, none, some}
use lib.ListN.{length, get_or, drop}
use lib.Dec.{ltb, leb, eqb}
use Rattle.base.proofs.Tests.{cond_all}
use Rattle.element.specs.Form.{fewest_of}
use Rattle.element.specs.Element.{constructor_of, code_zero, extended_of}
use Rattle.element.specs.Fault.{number_of, Fault, at}
use Rattle.element.specs.declared.FaultKind.{FaultKind}
use Rattle.element.specs.declared.FaultKind.TheVariants.{CutOff, CodeZero, TooDeep, Missing, Seventeenth}
use Rattle.element.specs.declared.TagRead.{TagRead}
use Rattle.element.specs.declared.TagRead.TheVariants.{Fault as tag_fault, Tag as tag}
use Rattle.element.specs.declared.LengthRead.{LengthRead}
use Rattle.element.specs.declared.LengthRead.TheVariants.{Fault as length_fault, Definite as known, Indefinite as endless}
use Rattle.element.specs.declared.EndRead.{EndRead}
use Rattle.element.specs.declared.EndRead.TheVariants.{Ended as ended, Unfinished as unfinished, More as more}
use Rattle.element.specs.Head.{first, second, third, tag_of, within, long_of, length_of, end_of}
use Rattle.element.specs.Ask.{Got, got, bad, next, check, blamed, definite, indefinite, Head, head, Body, ask_length, ask_tag, at_end, ask_end, ask}
use Rattle.element.specs.Parts.{first_of}
use Rattle.element.proofs.Asking.{HeadOf, finite, unended, not_true}

pub data Ends {A : Type 0} (P : A → ℕ → Type 0) (Q : Fault → Type 0) : Got A → Type 0 where
  held : {a : A} {n : ℕ} → P a n → Ends P Q (got a n)
  failed : {f : Fault} → Q f → Ends P Q (bad f)

pub the_held : {A : Type 0} {P : A → ℕ → Type 0} {Q : Fault → Type 0} {a : A} {n : ℕ} → Ends P Q (got a n) → P a n
the_held (held h) = h

pub the_failed : {A : Type 0} {P : A → ℕ → Type 0} {Q : Fault → Type 0} {f : Fault} → Ends P Q (bad f) → Q f
the_failed (failed h) = h

pub ends_next : {A B : Type 0} {P : A → ℕ → Type 0} {R : B → ℕ → Type 0} {Q : Fault → Type 0} {x : Got A} {k : A → ℕ → Got B} → Ends P Q x → ((a : A) (n : ℕ) → P a n → Ends R Q (k a n)) → Ends R Q (next x k)
unfolding next
ends_next (held {a = a} {n = n} h) g = g a n h
ends_next (failed h) g = failed h

pub ends_weaken : {A : Type 0} {P R : A → ℕ → Type 0} {Q T : Fault → Type 0} {x : Got A} → Ends P Q x → ((a : A) (n : ℕ) → P a n → R a n) → ((f : Fault) → Q f → T f) → Ends R T x
ends_weaken (held {a = a} {n = n} h) g i = held (g a n h)
ends_weaken (failed {f = f} h) g i = failed (i f h)

pub ends_check : {A : Type 0} {P : A → ℕ → Type 0} {Q : Fault → Type 0} (t : Bool) (f : Fault) {x : Got A} → (t ≡ false → Q f) → (t ≡ true → Ends P Q x) → Ends P Q (check t f x)
unfolding check
ends_check true f g h = h refl
ends_check false f g h = failed (g refl)

pub ends_blamed : {A : Type 0} {P : A → ℕ → Type 0} {Q : Fault → Type 0} (w : Fault → Fault) {x : Got A} → ((f : Fault) → Q f → Q (w f)) → Ends P Q x → Ends P Q (blamed w x)
unfolding blamed
ends_blamed w g (held h) = held h
ends_blamed w g (failed {f = f} h) = failed (g f h)

pub ends_cond : {A : Type 0} {P : A → ℕ → Type 0} {Q : Fault → Type 0} (t : Bool) {x y : Got A} → (t ≡ true → Ends P Q x) → (t ≡ false → Ends P Q y) → Ends P Q (cond t x y)
ends_cond {P = P} {Q = Q} t g h = cond_all (Ends P Q) t _ _ g h

-- 7, 8 and 9 are found before and after a message; a plain fault is none of them
abbrev pub outer : ℕ → Bool
outer n = eqb n 7 || (eqb n 8 || eqb n 9)

abbrev pub Plain : FaultKind → Type 0
Plain k = outer (number_of k) ≡ false

abbrev TagPlain : TagRead → Type 0
TagPlain (tag_fault k) = Plain k
TagPlain (tag a s) = Unit {0}

tag_plain : (part : List ℕ) → TagPlain (tag_of part)
unfolding tag_of first second third number_of
tag_plain part =
    cond_all TagPlain (eqb (length part) 0) _ _ (λ _. refl) λ _.
    cond_all TagPlain (extended_of (get_or part 0 0)) _ _ (λ _.
    cond_all TagPlain (leb (length part) 1) _ _ (λ _. refl) λ _.
    cond_all TagPlain (eqb (get_or part 1 0) 128) _ _ (λ _. refl) λ _.
    cond_all TagPlain (ltb (get_or part 1 0) 31) _ _ (λ _. refl) λ _.
    cond_all TagPlain (ltb (get_or part 1 0) 128) _ _ (λ _. tt) λ _.
    cond_all TagPlain (leb (length part) 2) _ _ (λ _. refl) λ _.
    cond_all TagPlain (ltb (get_or part 2 0) 128) _ _ (λ _. tt) λ _.
    cond_all TagPlain (leb (length part) 3) _ _ (λ _. refl) λ _.
    cond_all TagPlain (ltb (get_or part 3 0) 128) _ _ (λ _. tt) (λ _. refl)) (λ _. tt)

abbrev LengthPlain : LengthRead → Type 0
LengthPlain (length_fault k) = Plain k
LengthPlain (known k n) = Unit {0}
LengthPlain endless = Unit {0}

within_plain : (size n room : ℕ) → LengthPlain (within size n room)
unfolding within number_of
within_plain size n room = cond_all LengthPlain (leb n room) _ _ (λ _. tt) (λ _. refl)

length_plain : (p : List ℕ) (c : Bool) → LengthPlain (length_of p c)
unfolding length_of long_of number_of
length_plain p c =
    cond_all LengthPlain (eqb (length p) 0) _ _ (λ _. refl) λ _.
    cond_all LengthPlain (ltb (get_or p 0 0) 128) _ _ (λ _. within_plain 1 _ _) λ _.
    cond_all LengthPlain (leb 255 (get_or p 0 0)) _ _ (λ _. refl) λ _.
    cond_all LengthPlain (eqb (get_or p 0 0) 128) _ _ (λ _. cond_all LengthPlain c _ _ (λ _. tt) (λ _. refl)) λ _.
    cond_all LengthPlain (ltb (length p - 1) (get_or p 0 0 - 128)) _ _ (λ _. refl) λ _.
    cond_all LengthPlain (fewest_of (get_or p 1 0) (get_or p 0 0 - 128)) _ _ (λ _. within_plain _ _ _) (λ _. refl)

module _ {A : Type 0} {P : A → ℕ → Type 0} {Q : Fault → Type 0} (b : Body A) (d : Bool) (p : ℕ) (part : List ℕ)
    (ends : (v : A) → b.ends ≡ some v → end_of d part ≡ ended → P v 0)
    (found : (k : FaultKind) → Plain k → Q (at k p))
    (owned : b.full ≡ false → (f : Fault) → Q f → Q (b.owner f))
    (other : Q (at b.other p))
    (goes : (h : Head) → HeadOf part h → b.full ≡ false → b.mine (first_of h) ≡ true → Ends P Q (b.goes d h p part)) where
  length_ends : (a s : ℕ) → tag_of part ≡ tag a s → code_zero a ≡ false → b.full ≡ false → b.mine a ≡ true → (l : LengthRead) → length_of (drop s part) (constructor_of a) ≡ l → Ends P Q (ask_length b d p part a s l)
  unfolding ask_length
  length_ends a s t z f m (length_fault k) e = let g : LengthPlain (length_fault k) = rw e at (length_plain (drop s part) (constructor_of a)) in failed (owned f _ (found k g))
  length_ends a s t z f m (known k n) e = goes (head a (s + k) (definite n)) (finite a s k n t z e) f m
  length_ends a s t z f m endless e = goes (head a (s + 1) indefinite) (unended a s t z e) f m

  tag_ends : b.full ≡ false → (t : TagRead) → tag_of part ≡ t → Ends P Q (ask_tag b d p part t)
  unfolding ask_tag number_of
  tag_ends f (tag_fault k) e = let g : TagPlain (tag_fault k) = rw e at (tag_plain part) in failed (owned f _ (found k g))
  tag_ends f (tag a s) e =
      ends_check (not (code_zero a)) _ (λ _. owned f _ (found CodeZero refl)) λ z.
      ends_check (ltb 0 b.left) _ (λ _. owned f _ (found TooDeep refl)) λ v.
      ends_check (b.mine a) _ (λ _. owned f _ other) λ m.
      length_ends a s e (not_true (code_zero a) z) f m (length_of (drop s part) (constructor_of a)) refl

  at_end_ends : (o : Option A) → b.ends ≡ o → end_of d part ≡ ended → Ends P Q (at_end b d p part o)
  unfolding at_end number_of
  at_end_ends none f e = failed (found Missing refl)
  at_end_ends (some v) f e = held (ends v f e)

  end_ends : (e : EndRead) → end_of d part ≡ e → Ends P Q (ask_end b d p part e)
  unfolding ask_end number_of
  end_ends ended e = at_end_ends b.ends refl e
  end_ends unfinished e = failed (found CutOff refl)
  end_ends more e = ends_check (not b.full) _ (λ _. found Seventeenth refl) λ f. tag_ends (not_true b.full f) (tag_of part) refl

  pub ends_ask : Ends P Q (ask b d p part)
  unfolding ask
  ends_ask = end_ends (end_of d part) refl

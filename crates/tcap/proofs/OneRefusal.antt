-- Of two faults that a message is refused for, by the table, neither is another; and what is allowed has none. Assumes nothing.
use Prim.Native.Nat.{ℕ, ◌+◌, ◌*◌, ◌≤◌}
use mathlib.Core.Path.{◌≡◌, refl, sym, ap, ◌∙◌}
use mathlib.Core.Bool.{Bool, true, false, cond, false≢true}
use mathlib.Core.List.{List, [], ◌∷◌, ◌++◌}
use mathlib.Core.Option.{Option, none, some}
use native.Mathlib.Omega.{arith}
use lib.ListN.{length, drop, length-drop, length-append}
use lib.Seq.{drop-drop}
use lib.Dec.{eqb}
use Rattle.element.specs.Element.{Definitely}
use Rattle.element.specs.Fault.{Text, portion, Fault, fault}
use Rattle.element.specs.declared.FaultKind.{FaultKind}
use Rattle.element.specs.declared.EndRead.TheVariants.{Ended as ended, Unfinished as unfinished, More as more}
use Rattle.element.specs.Head.{end_of}
use Rattle.element.proofs.StringPlaces.{nothing_ends}
use Rattle.tcap.specs.Due.{Parts, end, must, Holds, message, find}
use Rattle.tcap.specs.Refused.{Right, primitive, definite as filled, indefinite as endlessly, Fits, nothing, also, Known, OrigOf, without, with, Found, found, after, Refuses, overlong, no_octets, no_message, within, Allowed}
use Rattle.tcap.proofs.Fronts.{first_octet}
use Rattle.tcap.proofs.Found.{same_some}
use Rattle.tcap.proofs.OneFault.{right_head, same_first, none_some, right_one}
use Rattle.tcap.proofs.UnknownType.{unknown_is}
use Rattle.tcap.proofs.OneTrail.{Fails, at_once, within as inside, within_endless, beyond, trail_fails, right_wrong, right_within, right_within_endless, fits_fails, fails_one}
use Rattle.tcap.specs.WellFormed.{Rules}

-- The size of what is right

fits_end : {rules : Rules} {l p k : ℕ} {r : Parts} {d : Bool} {part : List ℕ} → Fits rules l r d p part k → end_of d (drop k part) ≡ ended
fits_end (nothing e m) = e
fits_end {d = d} {part = part} (also {n = n} {k = k} f is u w) = let e : end_of d (drop k (drop n part)) ≡ ended = fits_end w in rw (← drop-drop) e

two_left : (q : List ℕ) → end_of false q ≡ ended → 2 ≤ length q
unfolding end_of
two_left [] e = let z : ◌≡◌ {A = ℕ} 0 1 = cc in absurd (omega arith)
two_left (x ∷ []) e = by_test (eqb x 0) e
  where
    by_test : (b : Bool) → cond b unfinished more ≡ ended → 2 ≤ length (x ∷ [])
    by_test true e = let z : ◌≡◌ {A = ℕ} 0 1 = cc in absurd (omega arith)
    by_test false e = let z : ◌≡◌ {A = ℕ} 0 1 = cc in absurd (omega arith)
two_left (x ∷ y ∷ q) e = omega arith

none_left : (q : List ℕ) → end_of true q ≡ ended → length q ≡ 0
unfolding end_of
none_left [] e = refl
none_left (x ∷ q) e = let z : ◌≡◌ {A = ℕ} 0 1 = cc in absurd (omega arith)

definite_size : {part : List ℕ} {a u n : ℕ} → Definitely part a u n → u + n ≤ length part
definite_size {part} {a} {u} s = omega (arith, s.room, s.used, ap length s.front, length-append ((a ∷ s.ext) ++ s.len) (drop u part))

right_size : {rules : Rules} {l a p n : ℕ} {h : Holds} {part : List ℕ} {x : Text} → Right rules l a h p part n x → n ≤ length part
right_size (primitive j s c f) = definite_size s
right_size (filled j s c w) = definite_size s
right_size {part = part} (endlessly {a = a} {u = u} {k = k} j s c w) =
    omega (arith, two_left (drop k (drop u part)) (fits_end w), length-drop k (drop u part), s.used, ap length s.front, length-append ((a ∷ s.ext) ++ (0x80 ∷ [])) (drop u part))

-- One fault, or none

-- a message that is right has no fault inside
right_alone : {rules : Rules} {a n : ℕ} {m : List ℕ} {h : Holds} {s : Known} {x : Text} {f : Fault} → find message a ≡ some h → Right rules 1 a h 0 m n x → Fails rules 1 true (must message end) s 0 m f → ⊥
right_alone is u (at_once w) = right_wrong u (λ e. nothing_ends e) is w
right_alone is u (inside j free is' z y x) = right_within (must message end) u is is' z y x
right_alone is u (within_endless j free is' z y x) = right_within_endless (must message end) u is is' z y x
right_alone is u (beyond j free is' u' x) = absurd (omega arith)

one_orig : {rules : Rules} {r : Parts} {x : Text} {t t' : Option Text} → OrigOf rules r x t → OrigOf rules r x t' → t ≡ t'
one_orig (without e) (without f) = refl
one_orig (without e) (with f u) = absurd (none_some e f)
one_orig (with e u) (without f) = absurd (none_some f e)
one_orig {x = x} (with e u) (with f v) = ap some (right_one (2 * length x.1) (omega arith) u v).1

same_after : {n n' : ℕ} {t t' : Option Text} → n ≡ n' → t ≡ t' → fault FaultKind.OctetsAfter n portion none t ≡ fault FaultKind.OctetsAfter n' portion none t'
same_after e f = rw (e, f) refl

found_one : {rules : Rules} {m : List ℕ} {f g : Fault} → Found rules m f → Found rules m g → f ≡ g
found_one (found w x) (found w' x') = fails_one (trail_fails w (at_once x)) (trail_fails w' (at_once x'))
found_one (found w x) (after is z u n o) = absurd (right_alone is u (trail_fails w (at_once x)))
found_one (after is z u n o) (found w x) = absurd (right_alone is u (trail_fails w (at_once x)))
found_one {m = m} (after is z u n o) (after is' z' u' n' o') =
    let a = same_first u u' in
    let h = same_some (sym is ∙ (rw (← a) at is')) in
    let r = same_some (sym z ∙ (rw (← h) at z')) in
    let e = right_one (2 * length m) (omega arith) u (rw (← a, ← h) at u') in
    same_after e.0 (one_orig o (rw (← r, ← e.1) at o'))

empty_first : {m : List ℕ} {a : ℕ} {q : List ℕ} → m ≡ [] → m ≡ a ∷ q → ⊥
empty_first e f = let z : ◌≡◌ {A = ℕ} 0 1 = cc in omega arith

pub same_front : {m : List ℕ} {a b : ℕ} {q r : List ℕ} → m ≡ a ∷ q → m ≡ b ∷ r → a ≡ b
same_front e f = let z : _ ≡ _ = sym e ∙ f in cc

-- no second fault
pub refuses_one : {rules : Rules} {m : List ℕ} {f g : Fault} → Refuses rules m f → Refuses rules m g → f ≡ g
refuses_one (overlong b) (overlong c) = refl
refuses_one (overlong b) (no_octets e) = absurd (omega (arith, b, ap length e))
refuses_one (overlong b) (no_message c e z u) = absurd (omega arith)
refuses_one (overlong b) (within c e z x) = absurd (omega arith)
refuses_one (no_octets e) (overlong b) = absurd (omega (arith, b, ap length e))
refuses_one (no_octets e) (no_octets f) = refl
refuses_one (no_octets e) (no_message c f z u) = absurd (empty_first e f)
refuses_one (no_octets e) (within c f z x) = absurd (empty_first e f)
refuses_one (no_message c e z u) (overlong b) = absurd (omega arith)
refuses_one (no_message c e z u) (no_octets f) = absurd (empty_first f e)
refuses_one (no_message c e z u) (no_message d f y v) = rw (sym (unknown_is _ _ u) ∙ unknown_is _ _ v) refl
refuses_one (no_message c e z u) (within d f y x) = absurd (none_some z (rw (← (same_front e f)) at y))
refuses_one (within d f y x) (overlong b) = absurd (omega arith)
refuses_one (within d f y x) (no_octets e) = absurd (empty_first e f)
refuses_one (within d f y x) (no_message c e z u) = absurd (none_some z (rw (← (same_front e f)) at y))
refuses_one (within d f y x) (within c e z w) = found_one x w

-- what is allowed has none
fits_alone : {rules : Rules} {k : ℕ} {m : List ℕ} → Fits rules 1 (must message end) true 0 m k → (a : ℕ) × (h : Holds) × (n : ℕ) × (x : Text) × (find message a ≡ some h) × Right rules 1 a h 0 m n x × (n ≡ length m)
fits_alone (nothing e z) = absurd (false≢true z)
fits_alone {m = m} (also {a = a} {n = n} {h = h} {x = x} free is u (nothing e z)) = (a, h, n, x, is, u, omega (arith, right_size u, none_left (drop n m) e, length-drop n m))
fits_alone (also free is u (also free' is' u' w)) = nothing_ends is'

first_of_lem : {rules : Rules} {l a p n : ℕ} {h : Holds} {part : List ℕ} {x : Text} → Right rules l a h p part n x → (q : List ℕ) × (part ≡ a ∷ q)
first_of_lem u = let (k, i, e) = right_head u in let (q, f) = first_octet _ k i in (q, rw e at f)

pub allowed_refuses : {rules : Rules} {m : List ℕ} {f : Fault} → Allowed rules m → Refuses rules m f → ⊥
allowed_refuses a (overlong b) = omega (arith, a.short)
allowed_refuses a (no_octets e) = let (b, h, n, x, is, u, k) = fits_alone a.fits in empty_first e (first_of_lem u).1
allowed_refuses a (no_message c e z w) = let (b, h, n, x, is, u, k) = fits_alone a.fits in none_some z (rw (same_front (first_of_lem u).1 e) at is)
allowed_refuses {m = m} a (within c e z (found w x)) = fits_fails (2 * length m + 1) (omega arith) a.fits (trail_fails w (at_once x))
allowed_refuses {m = m} a (within c e z (after is z' u n o)) =
    let (b, h, k, x, is', u', s) = fits_alone a.fits in
    let f = same_first u u' in
    let g = same_some (sym is ∙ (rw (← f) at is')) in
    n ((right_one (2 * length m) (omega arith) u (rw (← f, ← g) at u')).0 ∙ s)

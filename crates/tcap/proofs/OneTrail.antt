-- From a place on, contents that fit have no fault, and others one. Assumes nothing.
use Prim.Native.Nat.{ℕ, zero, suc, ◌+◌, ◌*◌, ◌≤◌}
use mathlib.Core.Path.{◌≡◌, refl, sym, ap, ◌∙◌}
use mathlib.Core.Bool.{Bool, true, false, false≢true}
use mathlib.Core.List.{List}
use mathlib.Core.Option.{Option, none, some}
use native.Mathlib.Omega.{arith}
use lib.ListN.{length, take, drop, length-drop, length-take}
use lib.IntN.{ℤ}
use Rattle.element.specs.Element.{Definitely, Endlessly}
use Rattle.element.specs.Fault.{Text, Owner, portion, Fault, fault}
use Rattle.element.specs.declared.FaultKind.{FaultKind}
use Rattle.element.specs.declared.EndRead.TheVariants.{Ended as ended}
use Rattle.element.specs.Head.{end_of}
use Rattle.element.specs.Ask.{Got, got, definite, indefinite, Head, head}
use Rattle.element.specs.Parts.{first_of}
use Rattle.element.proofs.Asking.{ask_ends}
use Rattle.tcap.specs.Due.{Parts, end, must, Holds, message, due, behind, may_end, position, contents_of}
use Rattle.tcap.specs.Refused.{Right, primitive, definite as filled, indefinite as endlessly, Fits, nothing, also, Known, known, whose, inside, told, Trail, top, into, into_endless, past, Wrong}
use Rattle.tcap.proofs.Fronts.{endless_some, definite_some, right_some}
use Rattle.tcap.proofs.Found.{same_some}
use Rattle.tcap.proofs.OneFront.{definite_head, endless_head}
use Rattle.tcap.proofs.OneFault.{Shown, around, here, contents, one_shown, asked, wrong_shown, wrong_head, one_head, right_head, same_first, not_ended, same_head, same_endless, other_head, none_some, right_one}
use Rattle.tcap.specs.WellFormed.{Rules}

-- a fault from a place on: at this place, in the contents of an element here, or behind an element here
pub data Fails (rules : Rules) : ℕ → Bool → Parts → Known → ℕ → List ℕ → Fault → Type 0 where
  at_once : {l p : ℕ} {d : Bool} {r : Parts} {c o w : Owner} {i : Option ℤ} {t : Option Text} {k : FaultKind} {part : List ℕ} → Wrong rules l d r part c (whose (position r) o) k w → Fails rules l d r (known c o i t) p part (fault k p w i t)
  within : {l a u n p : ℕ} {d : Bool} {r q : Parts} {h : Holds} {c o : Owner} {i : Option ℤ} {t : Option Text} {part : List ℕ} {f : Fault} → l ≤ rules.limit → (position r ≡ some 16 → ⊥) → due r a ≡ some h → contents_of h ≡ some q → Definitely part a u n
      → Fails rules (suc l) true q (known (whose (position r) o) (inside h (whose (position r) o)) i t) (p + u) (take n (drop u part)) f → Fails rules l d r (known c o i t) p part f
  within_endless : {l a u p : ℕ} {d : Bool} {r q : Parts} {h : Holds} {c o : Owner} {i : Option ℤ} {t : Option Text} {part : List ℕ} {f : Fault} → l ≤ rules.limit → (position r ≡ some 16 → ⊥) → due r a ≡ some h → contents_of h ≡ some q → Endlessly part a u
      → Fails rules (suc l) false q (known (whose (position r) o) (inside h (whose (position r) o)) i t) (p + u) (drop u part) f → Fails rules l d r (known c o i t) p part f
  beyond : {l a p n : ℕ} {d : Bool} {r : Parts} {h : Holds} {s : Known} {part : List ℕ} {x : Text} {f : Fault} → 2 ≤ l → (position r ≡ some 16 → ⊥) → due r a ≡ some h → Right rules l a h p part n x
      → Fails rules l d (behind r a x.1) (told h x s) (p + n) (drop n part) f → Fails rules l d r s p part f

-- a trail and a fault at its end
pub trail_fails : {rules : Rules} {m : List ℕ} {l p : ℕ} {d : Bool} {r : Parts} {s : Known} {part : List ℕ} {f : Fault} → Trail rules m l d r s p part → Fails rules l d r s p part f → Fails rules 1 true (must message end) (known portion portion none none) 0 m f
trail_fails top x = x
trail_fails (into w j free is z y) x = trail_fails w (within j free is z y x)
trail_fails (into_endless w j free is z y) x = trail_fails w (within_endless j free is z y x)
trail_fails (past w j free is u) x = trail_fails w (beyond j free is u x)

-- an element that is right is not wrong
pub right_wrong : {rules : Rules} {l a p n : ℕ} {d : Bool} {r : Parts} {h : Holds} {c o w : Owner} {k : FaultKind} {part : List ℕ} {x : Text} → Right rules l a h p part n x → (position r ≡ some 16 → ⊥) → due r a ≡ some h → Wrong rules l d r part c o k w → ⊥
right_wrong {rules} {l} {p = p} {d = d} {r = r} {c = c} {o = o} {part = part} (primitive {a = a} {u = u} {n = n} {h = h} j s z f) free is w =
    let (y, (u', n', e, g)) = wrong_head rules l d r p part c o (head a u (definite n)) h w (definite_head s) j free is in
    let q = same_head e in
    false≢true (sym (rw (← q.1, ← q.2) at g) ∙ f)
right_wrong {rules} {l} {p = p} {d = d} {r = r} {c = c} {o = o} {part = part} (filled {a = a} {u = u} {n = n} {h = h} j s z f) free is w = none_some (wrong_head rules l d r p part c o (head a u (definite n)) h w (definite_head s) j free is).0 z
right_wrong {rules} {l} {p = p} {d = d} {r = r} {c = c} {o = o} {part = part} (endlessly {a = a} {u = u} {h = h} j s z f) free is w = none_some (wrong_head rules l d r p part c o (head a u indefinite) h w (endless_head s) j free is).0 z

-- where contents end and may end, nothing is wrong
shown_none : {r : Parts} {p : ℕ} {part : List ℕ} {c o w : Owner} {k : FaultKind} {x : Got (Option Head)} → Shown r p part c o k w x → x ≡ got none 0 → ⊥
shown_none around e = let z : ◌≡◌ {A = ℕ} 0 1 = cc in omega arith
shown_none here e = let z : ◌≡◌ {A = ℕ} 0 1 = cc in omega arith
shown_none (contents a b c) e = let z : ◌≡◌ {A = ℕ} 0 1 = cc in omega arith

end_right : {rules : Rules} {l : ℕ} (d : Bool) {r : Parts} {c o w : Owner} {k : FaultKind} {part : List ℕ} → end_of d part ≡ ended → may_end r ≡ true → Wrong rules l d r part c o k w → ⊥
end_right {rules} {l} d {r = r} {c = c} {o = o} {part = part} e m w = shown_none (wrong_shown rules l d r 0 part c o w) (ask_ends (asked rules l r) d 0 part none e (rw m))

-- what was read before, in two ways, was the same
module _ (r : Parts) {rules : Rules} {l a a' p n n' : ℕ} {h h' : Holds} {part : List ℕ} {x x' : Text} (is : due r a ≡ some h) (is' : due r a' ≡ some h') (u : Right rules l a h p part n x) (u' : Right rules l a' h' p part n' x') where
  same_due : a ≡ a' → h ≡ h'
  same_due e = same_some (sym is ∙ (rw (← e) at is'))

  same_right : (a ≡ a') × (h ≡ h') × (n ≡ n') × (x ≡ x')
  same_right =
      let e = same_first u u' in
      let g = same_due e in
      let y = right_one (2 * length part) (omega arith) u (rw (← e, ← g) at u') in
      (e, g, y.0, y.1)

-- an element whose contents have a fault is not right; contents that fit have none
mutual
  pub right_in : (fuel : ℕ) {rules : Rules} {l a p n u k : ℕ} {h : Holds} {q : Parts} {s : Known} {part : List ℕ} {x : Text} {f : Fault} → 2 * length part ≤ fuel → Right rules l a h p part n x → contents_of h ≡ some q → Definitely part a u k → Fails rules (suc l) true q s (p + u) (take k (drop u part)) f → ⊥
  right_in zero b v z y x = absurd (omega (arith, b, (right_some v).1))
  right_in (suc fuel) b (primitive j s c f) z y x = none_some c z
  right_in (suc fuel) {part = part} b (filled {u = u} {n = n} j s c w) z y x =
      let e = same_head (one_head (definite_head s) (definite_head y)) in
      let q = same_some (sym c ∙ z) in
      let g = definite_some s in
      fits_fails fuel (omega (arith, b, g.0, g.1, length-drop u part, length-take n (drop u part))) w (rw (← e.1, ← e.2, ← q) at x)
  right_in (suc fuel) b (endlessly j s c w) z y x = other_head (one_head (definite_head y) (endless_head s))

  pub right_in_endless : (fuel : ℕ) {rules : Rules} {l a p n u : ℕ} {h : Holds} {q : Parts} {s : Known} {part : List ℕ} {x : Text} {f : Fault} → 2 * length part ≤ fuel → Right rules l a h p part n x → contents_of h ≡ some q → Endlessly part a u → Fails rules (suc l) false q s (p + u) (drop u part) f → ⊥
  right_in_endless zero b v z y x = absurd (omega (arith, b, (right_some v).1))
  right_in_endless (suc fuel) b (primitive j s c f) z y x = none_some c z
  right_in_endless (suc fuel) b (filled j s c w) z y x = other_head (one_head (definite_head s) (endless_head y))
  right_in_endless (suc fuel) {part = part} b (endlessly {u = u} j s c w) z y x =
      let e = same_endless (one_head (endless_head s) (endless_head y)) in
      let q = same_some (sym c ∙ z) in
      let g = endless_some s in
      fits_fails fuel (omega (arith, b, g.0, g.1, length-drop u part)) w (rw (← e.1, ← q) at x)

  pub fits_fails : (fuel : ℕ) {rules : Rules} {l p k : ℕ} {r : Parts} {d : Bool} {s : Known} {part : List ℕ} {f : Fault} → 2 * length part + 1 ≤ fuel → Fits rules l r d p part k → Fails rules l d r s p part f → ⊥
  fits_fails zero b v x = absurd (omega arith)
  fits_fails (suc fuel) {d = d} b (nothing e m) (at_once w) = end_right d e m w
  fits_fails (suc fuel) {d = d} {part = part} b (nothing e m) (within {a = a} {u = u} {n = n} j free is z y x) = not_ended d part (head a u (definite n)) e (definite_head y)
  fits_fails (suc fuel) {d = d} {part = part} b (nothing e m) (within_endless {a = a} {u = u} j free is z y x) = not_ended d part (head a u indefinite) e (endless_head y)
  fits_fails (suc fuel) {d = d} {part = part} b (nothing e m) (beyond j free is u x) = let y = right_head u in not_ended d part y.0 e y.1
  fits_fails (suc fuel) b (also free is u v) (at_once w) = right_wrong u free is w
  fits_fails (suc fuel) b (also free is u v) (within j free' is' z y x) =
      let k = right_head u in
      let e = sym k.2 ∙ ap first_of (one_head k.1 (definite_head y)) in
      let g = same_some (sym is' ∙ (rw e at is)) in
      right_in fuel (omega arith) u (rw g at z) (rw (← e) at y) (rw g at x)
  fits_fails (suc fuel) b (also free is u v) (within_endless j free' is' z y x) =
      let k = right_head u in
      let e = sym k.2 ∙ ap first_of (one_head k.1 (endless_head y)) in
      let g = same_some (sym is' ∙ (rw e at is)) in
      right_in_endless fuel (omega arith) u (rw g at z) (rw (← e) at y) (rw g at x)
  fits_fails (suc fuel) {r = r} b (also free is u v) (beyond j free' is' u' x) =
      let e = same_right r is is' u u' in
      fits_fails fuel (omega (arith, (right_some u).1)) v (rw (← e.0, ← e.1, ← e.2, ← e.3) at x)

-- the same, where the element is due in two ways
module _ (r : Parts) {rules : Rules} {l a b p n : ℕ} {g h : Holds} {q : Parts} {s : Known} {part : List ℕ} {x : Text} {f : Fault} (u : Right rules l b g p part n x) (is : due r b ≡ some g) (is' : due r a ≡ some h) (z : contents_of h ≡ some q) where
  pub right_within : {v k : ℕ} → Definitely part a v k → Fails rules (suc l) true q s (p + v) (take k (drop v part)) f → ⊥
  right_within y w =
      let k = right_head u in
      let e = sym k.2 ∙ ap first_of (one_head k.1 (definite_head y)) in
      let i = same_some (sym is' ∙ (rw e at is)) in
      right_in (2 * length part) (omega arith) u (rw i at z) (rw (← e) at y) w

  pub right_within_endless : {v : ℕ} → Endlessly part a v → Fails rules (suc l) false q s (p + v) (drop v part) f → ⊥
  right_within_endless y w =
      let k = right_head u in
      let e = sym k.2 ∙ ap first_of (one_head k.1 (endless_head y)) in
      let i = same_some (sym is' ∙ (rw e at is)) in
      right_in_endless (2 * length part) (omega arith) u (rw i at z) (rw (← e) at y) w

-- One fault

same_fault : {k k' : FaultKind} {w w' : Owner} (p : ℕ) (i : Option ℤ) (t : Option Text) → k ≡ k' → w ≡ w' → fault k p w i t ≡ fault k' p w' i t
same_fault p i t e f = rw (e, f) refl

pub fails_one : {rules : Rules} {l p : ℕ} {d : Bool} {r : Parts} {s : Known} {part : List ℕ} {f g : Fault} → Fails rules l d r s p part f → Fails rules l d r s p part g → f ≡ g
fails_one {rules} {l} {p} {d} {r} {part = part} (at_once {c = c} {o = o} {i = i} {t = t} w) (at_once w') =
    let e = one_shown (wrong_shown rules l d r p part c (whose (position r) o) w) (wrong_shown rules l d r p part c (whose (position r) o) w') in same_fault p i t e.0 e.1
fails_one {rules} {l} {p} {d} {r} {part = part} (at_once {c = c} {o = o} w) (within {a = a} {u = u} {n = n} {h = h} j free is z y x) =
    absurd (none_some (wrong_head rules l d r p part c (whose (position r) o) (head a u (definite n)) h w (definite_head y) j free is).0 z)
fails_one {rules} {l} {p} {d} {r} {part = part} (at_once {c = c} {o = o} w) (within_endless {a = a} {u = u} {h = h} j free is z y x) =
    absurd (none_some (wrong_head rules l d r p part c (whose (position r) o) (head a u indefinite) h w (endless_head y) j free is).0 z)
fails_one (at_once w) (beyond j free is u x) = absurd (right_wrong u free is w)
fails_one {rules} {l} {p} {d} {r} {part = part} (within {a = a} {u = u} {n = n} {h = h} {c = c} {o = o} j free is z y x) (at_once w) =
    absurd (none_some (wrong_head rules l d r p part c (whose (position r) o) (head a u (definite n)) h w (definite_head y) j free is).0 z)
fails_one (within j free is z y x) (within j' free' is' z' y' x') =
    let e = same_head (one_head (definite_head y) (definite_head y')) in
    let h = same_some (sym is ∙ (rw (← e.0) at is')) in
    let q = same_some (sym z ∙ (rw (← h) at z')) in
    fails_one x (rw (← e.1, ← e.2, ← h, ← q) at x')
fails_one (within j free is z y x) (within_endless j' free' is' z' y' x') = absurd (other_head (one_head (definite_head y) (endless_head y')))
fails_one {r = r} (within j free is z y x) (beyond j' free' is' u x') = absurd (right_within r u is' is z y x)
fails_one {rules} {l} {p} {d} {r} {part = part} (within_endless {a = a} {u = u} {h = h} {c = c} {o = o} j free is z y x) (at_once w) =
    absurd (none_some (wrong_head rules l d r p part c (whose (position r) o) (head a u indefinite) h w (endless_head y) j free is).0 z)
fails_one (within_endless j free is z y x) (within j' free' is' z' y' x') = absurd (other_head (one_head (definite_head y') (endless_head y)))
fails_one (within_endless j free is z y x) (within_endless j' free' is' z' y' x') =
    let e = same_endless (one_head (endless_head y) (endless_head y')) in
    let h = same_some (sym is ∙ (rw (← e.0) at is')) in
    let q = same_some (sym z ∙ (rw (← h) at z')) in
    fails_one x (rw (← e.1, ← h, ← q) at x')
fails_one {r = r} (within_endless j free is z y x) (beyond j' free' is' u x') = absurd (right_within_endless r u is' is z y x)
fails_one (beyond j free is u x) (at_once w) = absurd (right_wrong u free is w)
fails_one {r = r} (beyond j' free' is' u x') (within j free is z y x) = absurd (right_within r u is' is z y x)
fails_one {r = r} (beyond j' free' is' u x') (within_endless j free is z y x) = absurd (right_within_endless r u is' is z y x)
fails_one {r = r} (beyond j free is u x) (beyond j' free' is' u' x') =
    let e = same_right r is is' u u' in
    fails_one x (rw (← e.0, ← e.1, ← e.2, ← e.3) at x')

-- What is known at a place, and what is not there: the IDs stand where they were due, and where they were due they are known; nothing of 13 to 16 is
-- at place 0, in any message. Assumes nothing.
use Prim.Native.Nat.{ℕ, ◌≤◌}
use mathlib.Core.Path.{◌≡◌, refl, sym, ap, ◌∙◌}
use mathlib.Core.Logic.{◌⊎◌, inl, inr}
use mathlib.Core.Bool.{Bool, true}
use mathlib.Core.List.{List, ◌∷◌}
use mathlib.Core.Option.{Option, none, some}
use native.Mathlib.Omega.{arith}
use lib.IntN.{ℤ}
use Rattle.primitive.specs.Primitive.{signed_of}
use Rattle.element.specs.Fault.{Text, Owner, fault}
use Rattle.element.specs.declared.FaultKind.{FaultKind}
use Rattle.element.specs.declared.EndRead.TheVariants.{Ended as ended}
use Rattle.element.specs.Head.{end_of}
use Rattle.element.proofs.StringPlaces.{nothing_ends}
use Rattle.tcap.specs.Due.{Parts, end, must, tag, Holds, octets, orig_id, invoke_id, parts, dialogue, message, find, due}
use Rattle.tcap.specs.Refused.{Right, Known, known, told, Trail, top, into, into_endless, past, no_pair, missing, seventeenth, element, found, after, Refuses, overlong, no_octets, no_message, within}
use Rattle.tcap.proofs.Fronts.{definite_some, endless_some, right_some}
use Rattle.tcap.proofs.Found.{same_some, tag_held}
use Rattle.tcap.proofs.OneFault.{none_some}
use Rattle.tcap.proofs.OneRefusal.{same_front}
use Rattle.tcap.proofs.Strange.{rank, faulty_strange}
use Rattle.tcap.specs.WellFormed.{Rules}

-- What was read before

abbrev pub orig_known : Known → Option Text
orig_known (known c o i t) = t

abbrev pub invoke_known : Known → Option ℤ
invoke_known (known c o i t) = i

-- an element that holds h stood where it was due, at a place before; x: its contents and their place
pub record Stood (rules : Rules) (m : List ℕ) (h : Holds) (x : Text) : Type 0 where
  pub level : ℕ
  pub definite : Bool
  pub left : Parts
  pub before : Known
  pub place : ℕ
  pub part : List ℕ
  pub first : ℕ
  pub size : ℕ
  pub way : Trail rules m level definite left before place part
  pub was_due : due left first ≡ some h
  pub octets : Right rules level first h place part size x

orig_new : (h : Holds) (y : Text) (s : Known) (x : Text) → orig_known (told h y s) ≡ some x → ((orig_id ≡ h) × (y ≡ x)) ⊎ (orig_known s ≡ some x)
orig_new (octets fits) y (known c o i t) x e = inr e
orig_new orig_id y (known c o i t) x e = inl (refl, same_some e)
orig_new invoke_id y (known c o i t) x e = inr e
orig_new (parts r) y (known c o i t) x e = inr e
orig_new (dialogue r) y (known c o i t) x e = inr e

invoke_new : (h : Holds) (y : Text) (s : Known) (j : ℤ) → invoke_known (told h y s) ≡ some j → ((invoke_id ≡ h) × (signed_of y.1 ≡ j)) ⊎ (invoke_known s ≡ some j)
invoke_new (octets fits) y (known c o i t) j e = inr e
invoke_new orig_id y (known c o i t) j e = inr e
invoke_new invoke_id y (known c o i t) j e = inl (refl, same_some e)
invoke_new (parts r) y (known c o i t) j e = inr e
invoke_new (dialogue r) y (known c o i t) j e = inr e

stood : {rules : Rules} {m : List ℕ} {l a p n : ℕ} {d : Bool} {r : Parts} {h : Holds} {s : Known} {part : List ℕ} {y : Text} (g : Holds) (x : Text) → Trail rules m l d r s p part → due r a ≡ some h → Right rules l a h p part n y → g ≡ h → y ≡ x → Stood rules m g x
stood {l = l} {a = a} {p = p} {n = n} {d = d} {r = r} {s = s} {part = part} g x w is u e f =
    record { level = l; definite = d; left = r; before = s; place = p; part = part; first = a; size = n; way = w; was_due = is ∙ ap some (sym e); octets = rw (← f, e) u }

-- an originating ID that is known stood where it was due: 1 to 4 octets
pub orig_stands : {rules : Rules} {m : List ℕ} {l p : ℕ} {d : Bool} {r : Parts} {s : Known} {part : List ℕ} (x : Text) → Trail rules m l d r s p part → orig_known s ≡ some x → Stood rules m orig_id x
orig_stands x top e = nothing_ends e
orig_stands x (into w j free is z y) e = orig_stands x w e
orig_stands x (into_endless w j free is z y) e = orig_stands x w e
orig_stands {rules} {m} x (past {h = h} {s = s} {x = y} w j free is u) e = choose (orig_new h y s x e) (λ f. orig_stands x w f)
  where
    choose : ((orig_id ≡ h) × (y ≡ x)) ⊎ (orig_known s ≡ some x) → (orig_known s ≡ some x → Stood rules m orig_id x) → Stood rules m orig_id x
    choose (inl (f, g)) k = stood orig_id x w is u f g
    choose (inr f) k = k f

-- an invoke ID that is known is the number of octets that stood where it was due: an integer of one octet
pub invoke_stands : {rules : Rules} {m : List ℕ} {l p : ℕ} {d : Bool} {r : Parts} {s : Known} {part : List ℕ} (j : ℤ) → Trail rules m l d r s p part → invoke_known s ≡ some j → (x : Text) × (j ≡ signed_of x.1) × Stood rules m invoke_id x
invoke_stands j top e = nothing_ends e
invoke_stands j (into w k free is z y) e = invoke_stands j w e
invoke_stands j (into_endless w k free is z y) e = invoke_stands j w e
invoke_stands {rules} {m} j (past {h = h} {s = s} {x = y} w k free is u) e = choose (invoke_new h y s j e) (λ f. invoke_stands j w f)
  where
    choose : ((invoke_id ≡ h) × (signed_of y.1 ≡ j)) ⊎ (invoke_known s ≡ some j) → (invoke_known s ≡ some j → (x : Text) × (j ≡ signed_of x.1) × Stood rules m invoke_id x) → (x : Text) × (j ≡ signed_of x.1) × Stood rules m invoke_id x
    choose (inl (f, g)) k = (y, sym g, stood invoke_id y w is u f refl)
    choose (inr f) k = k f

-- And the other way: where contents begin with such an ID, it is not known only at their beginning

-- what was to come where the contents of a place begin
unfoldable pub beginning : {rules : Rules} {m : List ℕ} {l p : ℕ} {d : Bool} {r : Parts} {s : Known} {part : List ℕ} → Trail rules m l d r s p part → Parts
beginning top = must message end
beginning (into {q = q} w j free is z y) = q
beginning (into_endless {q = q} w j free is z y) = q
beginning (past w j free is u) = beginning w

orig_none : (h : Holds) (x : Text) (s : Known) → orig_known (told h x s) ≡ none → (orig_known s ≡ none) × (orig_id ≡ h → ⊥)
orig_none (octets fits) x (known c o i t) e = (e, λ f. let z : ◌≡◌ {A = ℕ} 0 1 = cc in omega arith)
orig_none orig_id x (known c o i t) e = let z : ◌≡◌ {A = ℕ} 0 1 = cc in absurd (omega arith)
orig_none invoke_id x (known c o i t) e = (e, λ f. let z : ◌≡◌ {A = ℕ} 0 1 = cc in omega arith)
orig_none (parts r) x (known c o i t) e = (e, λ f. let z : ◌≡◌ {A = ℕ} 0 1 = cc in omega arith)
orig_none (dialogue r) x (known c o i t) e = (e, λ f. let z : ◌≡◌ {A = ℕ} 0 1 = cc in omega arith)

invoke_none : (h : Holds) (x : Text) (s : Known) → invoke_known (told h x s) ≡ none → (invoke_known s ≡ none) × (invoke_id ≡ h → ⊥)
invoke_none (octets fits) x (known c o i t) e = (e, λ f. let z : ◌≡◌ {A = ℕ} 0 1 = cc in omega arith)
invoke_none orig_id x (known c o i t) e = (e, λ f. let z : ◌≡◌ {A = ℕ} 0 1 = cc in omega arith)
invoke_none invoke_id x (known c o i t) e = let z : ◌≡◌ {A = ℕ} 0 1 = cc in absurd (omega arith)
invoke_none (parts r) x (known c o i t) e = (e, λ f. let z : ◌≡◌ {A = ℕ} 0 1 = cc in omega arith)
invoke_none (dialogue r) x (known c o i t) e = (e, λ f. let z : ◌≡◌ {A = ℕ} 0 1 = cc in omega arith)

-- one law for both: `tells` picks the ID that an element marked h tells, behind the tag b
module _ {A : Type 0} (tells : Known → Option A) (b : ℕ) (h : Holds) (unknown : (g : Holds) (x : Text) (s : Known) → tells (told g x s) ≡ none → (tells s ≡ none) × (h ≡ g → ⊥)) where
  known_behind : {rules : Rules} {m : List ℕ} {l p : ℕ} {d : Bool} {r : Parts} {s : Known} {part : List ℕ} (rest : Parts) (w : Trail rules m l d r s p part) → beginning w ≡ must (tag b h) rest → tells s ≡ none → r ≡ beginning w
  unfolding beginning
  known_behind rest top e f = refl
  known_behind rest (into w j free is z y) e f = refl
  known_behind rest (into_endless w j free is z y) e f = refl
  known_behind rest (past {a = a} {r = r} {h = g} {s = s} {x = x} w j free is u) e f =
      let k = unknown g x s f in
      let same : r ≡ must (tag b h) rest = known_behind rest w e k.0 ∙ e in
      absurd (k.1 (tag_held a b h g (ap (λ (r : Parts). due r a) (sym same) ∙ is)).1)

-- of a Begin or Continue
pub orig_told : {rules : Rules} {m : List ℕ} {l p : ℕ} {d : Bool} {r : Parts} {s : Known} {part : List ℕ} (rest : Parts) (w : Trail rules m l d r s p part) → beginning w ≡ must (tag 0x48 orig_id) rest → orig_known s ≡ none → r ≡ beginning w
orig_told = known_behind orig_known 0x48 orig_id orig_none

-- of every component but a Reject, which may begin with 05 00
pub invoke_told : {rules : Rules} {m : List ℕ} {l p : ℕ} {d : Bool} {r : Parts} {s : Known} {part : List ℕ} (rest : Parts) (w : Trail rules m l d r s p part) → beginning w ≡ must (tag 0x02 invoke_id) rest → invoke_known s ≡ none → r ≡ beginning w
invoke_told = known_behind invoke_known 0x02 invoke_id invoke_none

-- At place 0

trail_zero : {rules : Rules} {m : List ℕ} {l p : ℕ} {d : Bool} {r : Parts} {s : Known} {part : List ℕ} → Trail rules m l d r s p part → p ≡ 0 → (part ≡ m) × (d ≡ true) × (r ≡ must message end)
trail_zero top e = (refl, refl, refl)
trail_zero (into w j free is z y) e = let k = definite_some y in absurd (omega (arith, k.0))
trail_zero (into_endless w j free is z y) e = let k = endless_some y in absurd (omega (arith, k.0))
trail_zero (past w j free is u) e = absurd (omega (arith, (right_some u).0))

some_ends : (m : List ℕ) (a : ℕ) (q : List ℕ) → m ≡ a ∷ q → end_of true m ≡ ended → ⊥
unfolding end_of
some_ends m a q e h = let z : end_of true (a ∷ q) ≡ ended = rw e at h in let y : ◌≡◌ {A = ℕ} 0 1 = cc in omega arith

-- no message is refused for 13 to 16 at place 0: there stands the message
pub never_at_0 : {rules : Rules} {m : List ℕ} {p : ℕ} {k : FaultKind} {w : Owner} {i : Option ℤ} {t : Option Text} → p ≡ 0 → 1 ≤ rank k → Refuses rules m (fault k p w i t) → ⊥
unfolding rank
never_at_0 e h (overlong b) = omega arith
never_at_0 e h (no_octets f) = omega arith
never_at_0 e h (no_message b f z u) = omega arith
never_at_0 e h (within b f z (after x y u n o)) = omega arith
never_at_0 e h (within b f z (found way (no_pair x))) = omega arith
never_at_0 e h (within {a = a} {q = q} b f z (found {part = part} way (missing x y))) = let k = trail_zero way e in some_ends part a q (k.0 ∙ f) (rw k.1 at x)
never_at_0 e h (within b f z (found way (seventeenth x y))) = omega arith
never_at_0 e h (within b f z (found way (element x y g))) =
    let k = trail_zero way e in
    let u = faulty_strange g h in
    let v = same_front (sym k.0 ∙ u.sound.octets) f in
    none_some (ap (λ (r : Parts). due r u.tag) (sym k.2) ∙ u.strange) (ap (find message) v ∙ z)

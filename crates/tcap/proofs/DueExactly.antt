-- What 14, 15 and 16 mean, by the table of what is due: missing exactly if .., another exactly if .., too many exactly if .. Assumes nothing.
use Prim.Native.Nat.{ℕ, ◌≤◌}
use mathlib.Core.Path.{◌≡◌, refl, sym, ◌∙◌}
use mathlib.Core.Logic.{◌↔◌}
use mathlib.Core.Bool.{Bool, true, false, false≢true}
use mathlib.Core.List.{List, ◌∷◌}
use mathlib.Core.Option.{Option, none, some}
use native.Mathlib.Omega.{arith}
use lib.ListN.{length}
use lib.IntN.{ℤ}
use borrow.Author.Tests.{eq-eqb}
use Rattle.primitive.specs.Primitive.{identifier_ok}
use Rattle.element.specs.Element.{constructor_of, code_zero}
use Rattle.element.specs.Fault.{Text, Owner, fault}
use Rattle.element.specs.declared.FaultKind.{FaultKind}
use Rattle.element.specs.declared.EndRead.TheVariants.{Ended as ended, More as more}
use Rattle.element.specs.Head.{end_of}
use Rattle.element.specs.Ask.{bad}
use Rattle.element.proofs.Asking.{more_at}
use Rattle.element.proofs.StringPlaces.{nothing_ends}
use Rattle.tcap.specs.Reading.{located_up_to}
use Rattle.tcap.specs.Due.{Parts, end, must, may, name, many, components, Choice, tag, either, any, Holds, octets, message, find, due, may_end, some_may, position}
use Rattle.tcap.specs.Refused.{Known, known, whose, Trail, Tagged, Unfit, another, too_many, unfit, no_pair, missing, seventeenth, element, Found, found, after, Refuses, overlong, no_octets, no_message, within}
use Rattle.tcap.proofs.OneFront.{tagged_tag}
use Rattle.tcap.proofs.OneFault.{none_counts}
use Rattle.tcap.proofs.Strange.{rank, unfit_rank, faulty_strange}
use Rattle.tcap.proofs.FaultExactly.{fault_exactly}
use Rattle.tcap.specs.WellFormed.{Rules}

-- a place that reading comes to, in a message of at most 255 octets with one of the five tags; all before it is right
pub record Reached (rules : Rules) (m : List ℕ) (l : ℕ) (d : Bool) (r : Parts) (s : Known) (p : ℕ) (part : List ℕ) : Type 0 where
  pub short : length m ≤ 255
  pub first : ℕ
  pub rest : List ℕ
  pub holds : Holds
  pub octets : m ≡ first ∷ rest
  pub is_message : find message first ≡ some holds
  pub way : Trail rules m l d r s p part

-- the contents end where something mandatory is due; w: whose the constructor is that has them
pub record MissingAt (rules : Rules) (m : List ℕ) (p : ℕ) (w : Owner) (i : Option ℤ) (t : Option Text) : Type 0 where
  pub level : ℕ
  pub definite : Bool
  pub left : Parts
  pub owner : Owner
  pub part : List ℕ
  pub reached : Reached rules m level definite left (known w owner i t) p part
  pub ends : end_of definite part ≡ ended
  pub mandatory : may_end left ≡ false

-- an element stands, at no component's position, with a sound tag, not code 0 and not too deep, that may not stand there; it belongs to w
pub record StrangeAt (rules : Rules) (m : List ℕ) (p : ℕ) (w : Owner) (i : Option ℤ) (t : Option Text) (other : Bool) : Type 0 where
  pub level : ℕ
  pub definite : Bool
  pub left : Parts
  pub around : Owner
  pub part : List ℕ
  pub tag : ℕ
  pub behind : List ℕ
  pub reached : Reached rules m level definite left (known around w i t) p part
  pub no_component : position left ≡ none
  pub sound : Tagged part tag behind
  pub deep : level ≤ rules.limit
  pub strange : due left tag ≡ none
  -- whether some other may, mandatory or optional
  pub others : some_may left ≡ other

-- `some_may` says so: where it is true some element may stand, where it is false none
choice_some : (x : Choice) → (a : ℕ) × (h : Holds) × (find x a ≡ some h)
unfolding code_zero constructor_of
choice_some (tag t h) = (t, h, rw (eq-eqb t t refl))
choice_some (either x y) = let u = choice_some x in (u.0, u.1, rw u.2)
choice_some any = (2, octets (λ c. true), refl)

pub some_may_lem : (r : Parts) → some_may r ≡ true → (a : ℕ) × (h : Holds) × (due r a ≡ some h)
some_may_lem end e = absurd (false≢true e)
some_may_lem (must x r) e = choice_some x
some_may_lem (may x r) e = let u = choice_some x in (u.0, u.1, rw u.2)
some_may_lem (name r) e = (0x06, octets identifier_ok, refl)
some_may_lem (many x) e = choice_some x
some_may_lem (components x k) e = choice_some x

pub none_may : (r : Parts) → some_may r ≡ false → (a : ℕ) → due r a ≡ none
none_may end e a = refl
none_may (must x r) e a = absurd (false≢true (sym e))
none_may (may x r) e a = absurd (false≢true (sym e))
none_may (name r) e a = absurd (false≢true (sym e))
none_may (many x) e a = absurd (false≢true (sym e))
none_may (components x k) e a = absurd (false≢true (sym e))

tagged_more : {part : List ℕ} {a : ℕ} {q : List ℕ} (d : Bool) → Tagged part a q → end_of d part ≡ more
tagged_more {part = part} {a = a} d t = more_at d part a _ (tagged_tag t).0 t.plain

missing_from : {rules : Rules} {m : List ℕ} {p : ℕ} {w : Owner} {i : Option ℤ} {t : Option Text} → Refuses rules m (fault FaultKind.Missing p w i t) → MissingAt rules m p w i t
unfolding rank
missing_from (within {a = a} {q = q} {h = h} b e z (found {l = l} {d = d} {r = r} {o = o} {part = part} way (missing x y))) =
    record { level = l; definite = d; left = r; owner = o; part = part; reached = record { short = b; first = a; rest = q; holds = h; octets = e; is_message = z; way = way }; ends = x; mandatory = y }
missing_from (within b e z (found way (element x y f))) = let u = faulty_strange f (omega arith) in absurd (omega (arith, unfit_rank u.kind))

strange_from : {rules : Rules} {m : List ℕ} {p : ℕ} {k : FaultKind} {w : Owner} {i : Option ℤ} {t : Option Text} (other : Bool) → 2 ≤ rank k → ((r : Parts) → Unfit r k → (position r ≡ none) × (some_may r ≡ other)) → Refuses rules m (fault k p w i t) → StrangeAt rules m p w i t other
unfolding rank
strange_from other h is (overlong b) = absurd (omega arith)
strange_from other h is (no_octets e) = absurd (omega arith)
strange_from other h is (no_message b e z u) = absurd (omega arith)
strange_from other h is (within b e z (after x y u n o)) = absurd (omega arith)
strange_from other h is (within b e z (found way (no_pair x))) = absurd (omega arith)
strange_from other h is (within b e z (found way (missing x y))) = absurd (omega arith)
strange_from other h is (within b e z (found way (seventeenth x y))) = absurd (omega arith)
strange_from other h is (within {a = a} {q = q} {h = g} b e z (found {l = l} {d = d} {r = r} {c = c} {o = o} {part = part} way (element x y f))) =
    let u = faulty_strange f (omega arith) in
    let v = is r u.kind in
    let n : whose (position r) o ≡ o = rw v.0 refl in
    record {
      level = l;
      definite = d;
      left = r;
      around = c;
      part = part;
      tag = u.tag;
      behind = u.behind;
      reached = record { short = b; first = a; rest = q; holds = g; octets = e; is_message = z; way = rw n way };
      no_component = v.0;
      sound = u.sound;
      deep = u.deep;
      strange = u.strange;
      others = v.1;
    }

another_unfit : (r : Parts) → Unfit r FaultKind.Another → (position r ≡ none) × (some_may r ≡ true)
another_unfit r (another e f) = (e, f)

many_unfit : (r : Parts) → Unfit r FaultKind.TooMany → (position r ≡ none) × (some_may r ≡ false)
many_unfit r (too_many e) = (none_counts r e, e)

module _ (rules : Rules) (m : List ℕ) (p : ℕ) (w : Owner) (i : Option ℤ) (t : Option Text) where
  -- missing: the contents end at the place where something mandatory is due
  pub missing_exactly : (located_up_to rules m ≡ bad (fault FaultKind.Missing p w i t)) ↔ MissingAt rules m p w i t
  missing_exactly = (
    λ e. missing_from ((fault_exactly rules m (fault FaultKind.Missing p w i t)).0 e),
    λ x. let y = x.reached in (fault_exactly rules m (fault FaultKind.Missing p w i t)).1 (within y.short y.octets y.is_message (found y.way (missing x.ends x.mandatory))),
  )

  strange_found : (k : FaultKind) (other : Bool) (x : StrangeAt rules m p w i t other) → Unfit x.left k → located_up_to rules m ≡ bad (fault k p w i t)
  strange_found k other x u =
      let y = x.reached in
      let e : whose (position x.left) w ≡ w = rw x.no_component refl in
      let g : Found rules m (fault k p (whose (position x.left) w) i t) = found y.way (element (tagged_more x.definite x.sound) (λ q. nothing_ends (sym x.no_component ∙ q)) (unfit x.sound x.deep x.strange u)) in
      (fault_exactly rules m (fault k p w i t)).1 (within y.short y.octets y.is_message (rw e at g))

  -- another: it may not stand there, and some other may
  pub another_exactly : (located_up_to rules m ≡ bad (fault FaultKind.Another p w i t)) ↔ StrangeAt rules m p w i t true
  unfolding rank
  another_exactly = (λ e. strange_from true (omega arith) another_unfit ((fault_exactly rules m (fault FaultKind.Another p w i t)).0 e), λ x. strange_found FaultKind.Another true x (another x.no_component x.others))

  -- too many: none may
  pub too_many_exactly : (located_up_to rules m ≡ bad (fault FaultKind.TooMany p w i t)) ↔ StrangeAt rules m p w i t false
  unfolding rank
  too_many_exactly = (λ e. strange_from false (omega arith) many_unfit ((fault_exactly rules m (fault FaultKind.TooMany p w i t)).0 e), λ x. strange_found FaultKind.TooMany false x (too_many x.others))

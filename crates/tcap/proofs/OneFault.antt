-- A message has one fault at most: where a trail ends in something wrong, no other does; and none in a message that is allowed. Assumes nothing.
use Prim.Native.Nat.{ℕ, zero, suc, ◌+◌, ◌-◌, ◌*◌, ◌≤◌}
use mathlib.Core.Path.{◌≡◌, refl, sym, ap, ◌∙◌}
use mathlib.Core.Bool.{Bool, true, false, cond, false≢true}
use mathlib.Core.List.{List}
use mathlib.Core.Option.{Option, none, some}
use native.Mathlib.Omega.{arith}
use lib.ListN.{length, take, drop, length-drop}
use lib.Dec.{eqb}
use borrow.Author.Tests.{lt-ltb, le-ltb, eqb-true}
use Rattle.element.specs.Fault.{Text, Owner, portion, component, fault, in_component}
use Rattle.element.specs.declared.FaultKind.{FaultKind}
use Rattle.element.specs.declared.EndRead.TheVariants.{Ended as ended, More as more}
use Rattle.element.specs.Head.{end_of}
use Rattle.element.specs.Ask.{Got, got, bad, definite, indefinite, Head, head, Body, ask}
use Rattle.element.specs.Parts.{first_of}
use Rattle.element.proofs.Asking.{HeadOf, ask_head, ask_missing, ask_unfinished, ask_full, ask_tag_lem, ask_zero, ask_deep, ask_other, ask_length_lem}
use Rattle.element.proofs.StringPlaces.{nothing_ends}
use Rattle.tcap.specs.Due.{Parts, end, must, may, name, many, components, Holds, due, may_end, some_may, position, passes, contents_of, there}
use Rattle.tcap.specs.Refused.{Right, primitive, definite as filled, indefinite as endlessly, Fits, nothing, also, Unfit, unknown, another, too_many, Faulty, tag_cut, tag_bad, zero_code, too_deep, unfit, length_wrong, bad_contents, Wrong, no_pair, missing, seventeenth, element}
use Rattle.tcap.proofs.Fronts.{endless_some, right_some, head_more}
use Rattle.tcap.proofs.Found.{same_some, there_of}
use Rattle.tcap.proofs.OneFront.{cut_tag, bad_tag_lem, tagged_tag, zero_tag_lem, wrong_length, definite_head, endless_head}
use Rattle.tcap.specs.WellFormed.{Rules}

-- What is wrong at a place is what `ask` answers there: a fault of the contents, one of an element (marked by an owner), or an element that may stand

abbrev pub full_of : Option ℕ → Bool
full_of none = false
full_of (some k) = eqb k 16

abbrev pub other_of : Option ℕ → Bool → FaultKind
other_of (some k) b = FaultKind.UnknownComponent
other_of none true = FaultKind.Another
other_of none false = FaultKind.TooMany

abbrev pub asked : Rules → ℕ → Parts → Body (Option Head)
asked rules l r =
    record { ends = cond (may_end r) (some none) none; full = full_of (position r); owner = in_component 0; left = suc rules.limit - l; mine = λ a. there (due r a); other = other_of (position r) (some_may r); goes = λ d h p part. got (some h) 0 }

full_true : (x : Option ℕ) → x ≡ some 16 → full_of x ≡ true
full_true x e = rw e

full_false : (x : Option ℕ) → (x ≡ some 16 → ⊥) → full_of x ≡ false
full_false none h = refl
full_false (some k) h = by_test (eqb k 16) refl
  where
    by_test : (b : Bool) → eqb k 16 ≡ b → b ≡ false
    by_test true e = absurd (h (ap some (eqb-true k 16 e)))
    by_test false e = refl

pub none_counts : (r : Parts) → some_may r ≡ false → position r ≡ none
none_counts end e = refl
none_counts (must x r) e = refl
none_counts (may x r) e = refl
none_counts (name r) e = refl
none_counts (many x) e = refl
none_counts (components x k) e = absurd (false≢true (sym e))

unfit_other : {r : Parts} {k : FaultKind} → Unfit r k → other_of (position r) (some_may r) ≡ k
unfit_other (unknown e) = rw e
unfit_other (another e f) = rw (e, f)
unfit_other {r = r} (too_many e) = rw (none_counts r e, e)

pub data Shown (r : Parts) (p : ℕ) (part : List ℕ) (c o : Owner) : FaultKind → Owner → Got (Option Head) → Type 0 where
  around : {k : FaultKind} → Shown r p part c o k c (bad (fault k p portion none none))
  here : {k : FaultKind} → Shown r p part c o k o (bad (fault k p (component 0) none none))
  contents : {a u n : ℕ} {h : Holds} → due r a ≡ some h → contents_of h ≡ none → passes h (take n (drop u part)) ≡ false → Shown r p part c o FaultKind.BadContents o (got (some (head a u (definite n))) 0)

one_shown_at : {r : Parts} {p : ℕ} {part : List ℕ} {c o w w' : Owner} {k k' : FaultKind} {x x' : Got (Option Head)} → Shown r p part c o k w x → Shown r p part c o k' w' x' → x ≡ x' → (k ≡ k') × (w ≡ w')
one_shown_at around around e = (cc, refl)
one_shown_at around here e = absurd (cc)
one_shown_at around (contents is z f) e = absurd (cc)
one_shown_at here around e = absurd (cc)
one_shown_at here here e = (cc, refl)
one_shown_at here (contents is z f) e = absurd (cc)
one_shown_at (contents is z f) around e = absurd (cc)
one_shown_at (contents is z f) here e = absurd (cc)
one_shown_at (contents is z f) (contents is' z' f') e = (refl, refl)

pub one_shown : {r : Parts} {p : ℕ} {part : List ℕ} {c o w w' : Owner} {k k' : FaultKind} {x : Got (Option Head)} → Shown r p part c o k w x → Shown r p part c o k' w' x → (k ≡ k') × (w ≡ w')
one_shown a b = one_shown_at a b refl

module _ (rules : Rules) (l : ℕ) (d : Bool) (r : Parts) (p : ℕ) (part : List ℕ) where
  -- an element with that head may stand here
  pub head_asked : (h : Head) (g : Holds) → HeadOf part h → l ≤ rules.limit → (position r ≡ some 16 → ⊥) → due r (first_of h) ≡ some g → ask (asked rules l r) d p part ≡ got (some h) 0
  head_asked h g i j free is = ask_head (asked rules l r) d p part h i (full_false (position r) free) (lt-ltb 0 (suc rules.limit - l) (omega arith)) (there_of is)

  module _ (c o : Owner) where
    faulty_shown : {k : FaultKind} → end_of d part ≡ more → (position r ≡ some 16 → ⊥) → Faulty rules l r part k → Shown r p part c o k o (ask (asked rules l r) d p part)
    unfolding in_component
    faulty_shown e free (tag_cut w) = rw (ask_tag_lem (asked rules l r) d p part e (full_false (position r) free) FaultKind.CutOff (cut_tag w)) here
    faulty_shown e free (tag_bad w) = rw (ask_tag_lem (asked rules l r) d p part e (full_false (position r) free) FaultKind.BadTag (bad_tag_lem w)) here
    faulty_shown e free (zero_code {a = a} f z) = rw (ask_zero (asked rules l r) d p part e (full_false (position r) free) a 1 (zero_tag_lem f z) z) here
    faulty_shown e free (too_deep {a = a} t j) = rw (ask_deep (asked rules l r) d p part e (full_false (position r) free) a _ (tagged_tag t).0 t.plain (le-ltb 0 (suc rules.limit - l) (omega arith))) here
    faulty_shown e free (unfit {a = a} {k = k} t j is u) =
        rw (ask_other (asked rules l r) d p part e (full_false (position r) free) a _ (tagged_tag t).0 t.plain (lt-ltb 0 (suc rules.limit - l) (omega arith)) (rw is), unfit_other u) here
    faulty_shown e free (length_wrong {a = a} {k = k} t j is w) =
        rw (ask_length_lem (asked rules l r) d p part e (full_false (position r) free) a _ (tagged_tag t).0 t.plain k (lt-ltb 0 (suc rules.limit - l) (omega arith)) (there_of is) (rw (tagged_tag t).1 (wrong_length w))) here
    faulty_shown e free (bad_contents {a = a} {u = u} {n = n} {h = g} j is s z f) = rw (head_asked (head a u (definite n)) g (definite_head s) j free is) (contents is z f)

    pub wrong_shown : {k : FaultKind} {w : Owner} → Wrong rules l d r part c o k w → Shown r p part c o k w (ask (asked rules l r) d p part)
    wrong_shown (no_pair e) = rw (ask_unfinished (asked rules l r) d p part e) around
    wrong_shown (missing e f) = rw (ask_missing (asked rules l r) d p part e (rw f)) around
    wrong_shown (seventeenth e f) = rw (ask_full (asked rules l r) d p part e (full_true (position r) f)) around
    wrong_shown (element e free f) = faulty_shown e free f

    -- where such an element stands, only its contents can be wrong
    shown_head : {k : FaultKind} {w : Owner} {x : Got (Option Head)} {h : Head} {g : Holds} → Shown r p part c o k w x → x ≡ got (some h) 0 → due r (first_of h) ≡ some g
        → (contents_of g ≡ none) × ((u : ℕ) × (n : ℕ) × (h ≡ head (first_of h) u (definite n)) × (passes g (take n (drop u part)) ≡ false))
    shown_head around e is = let z : ◌≡◌ {A = ℕ} 0 1 = cc in absurd (omega arith)
    shown_head here e is = let z : ◌≡◌ {A = ℕ} 0 1 = cc in absurd (omega arith)
    shown_head {h = h} {g = g} (contents {a = a} {u = u} {n = n} {h = g'} is' z f) e is =
        let y : h ≡ head a u (definite n) = cc in
        let q : g' ≡ g = same_some (sym is' ∙ (rw y at is)) in
        (rw q at z, (u, n, rw y refl, rw q at f))

    pub wrong_head : {k : FaultKind} {w : Owner} (h : Head) (g : Holds) → Wrong rules l d r part c o k w → HeadOf part h → l ≤ rules.limit → (position r ≡ some 16 → ⊥) → due r (first_of h) ≡ some g
        → (contents_of g ≡ none) × ((u : ℕ) × (n : ℕ) × (h ≡ head (first_of h) u (definite n)) × (passes g (take n (drop u part)) ≡ false))
    wrong_head h g w i j free is = shown_head (wrong_shown w) (head_asked h g i j free is) is

-- One head

abbrev anything : Body Head
anything = record { ends = none; full = false; owner = λ f. f; left = 1; mine = λ a. true; other = FaultKind.Another; goes = λ d h p part. got h 0 }

pub one_head : {part : List ℕ} {h h' : Head} → HeadOf part h → HeadOf part h' → h ≡ h'
one_head {part = part} {h = h} {h' = h'} i j =
    let e : got h 0 ≡ got h' 0 = sym (ask_head anything true 0 part h i refl refl refl) ∙ ask_head anything true 0 part h' j refl refl refl in cc

-- One size

pub right_head : {rules : Rules} {l a p n : ℕ} {h : Holds} {part : List ℕ} {x : Text} → Right rules l a h p part n x → (k : Head) × HeadOf part k × (first_of k ≡ a)
right_head (primitive {a = a} {u = u} {n = n} j s c f) = (head a u (definite n), definite_head s, refl)
right_head (filled {a = a} {u = u} {n = n} j s c w) = (head a u (definite n), definite_head s, refl)
right_head (endlessly {a = a} {u = u} j s c w) = (head a u indefinite, endless_head s, refl)

pub right_level : {rules : Rules} {l a p n : ℕ} {h : Holds} {part : List ℕ} {x : Text} → Right rules l a h p part n x → l ≤ rules.limit
right_level (primitive j s c f) = j
right_level (filled j s c w) = j
right_level (endlessly j s c w) = j

pub same_first : {rules : Rules} {l l' a a' p p' n n' : ℕ} {h h' : Holds} {part : List ℕ} {x x' : Text} → Right rules l a h p part n x → Right rules l' a' h' p' part n' x' → a ≡ a'
same_first u v = let (k, i, e) = right_head u in let (k', j, f) = right_head v in sym e ∙ ap first_of (one_head i j) ∙ f

pub not_ended : (d : Bool) (part : List ℕ) (h : Head) → end_of d part ≡ ended → HeadOf part h → ⊥
not_ended d part h e i = let f : end_of d part ≡ more = head_more d part h i in let z : ◌≡◌ {A = ℕ} 0 1 = cc in omega arith

pub same_head : {a a' u u' n n' : ℕ} → head a u (definite n) ≡ head a' u' (definite n') → (a ≡ a') × (u ≡ u') × (n ≡ n')
same_head e = (cc, cc, cc)

pub same_endless : {a a' u u' : ℕ} → head a u indefinite ≡ head a' u' indefinite → (a ≡ a') × (u ≡ u')
same_endless e = (cc, cc)

pub other_head : {a a' u u' n : ℕ} → head a u (definite n) ≡ head a' u' indefinite → ⊥
other_head e = let z : ◌≡◌ {A = ℕ} 0 1 = cc in omega arith

pub none_some : {A : Type 0} {x : Option A} {v : A} → x ≡ none → x ≡ some v → ⊥
none_some e f = nothing_ends (sym e ∙ f)

-- the fuel is twice the octets, and one more for contents
mutual
  pub right_one : (fuel : ℕ) {rules : Rules} {l a p n n' : ℕ} {h : Holds} {part : List ℕ} {x x' : Text} → 2 * length part ≤ fuel → Right rules l a h p part n x → Right rules l a h p part n' x' → (n ≡ n') × (x ≡ x')
  right_one zero b u v = absurd (omega (arith, b, (right_some u).1))
  right_one (suc fuel) b (primitive j s c f) (primitive j' s' c' f') = let e = same_head (one_head (definite_head s) (definite_head s')) in (rw (e.1, e.2) refl, rw (e.1, e.2) refl)
  right_one (suc fuel) b (primitive j s c f) (filled j' s' c' w') = absurd (none_some c c')
  right_one (suc fuel) b (primitive j s c f) (endlessly j' s' c' w') = absurd (none_some c c')
  right_one (suc fuel) b (filled j s c w) (primitive j' s' c' f') = absurd (none_some c' c)
  right_one (suc fuel) b (filled j s c w) (filled j' s' c' w') = let e = same_head (one_head (definite_head s) (definite_head s')) in (rw (e.1, e.2) refl, rw (e.1, e.2) refl)
  right_one (suc fuel) b (filled j s c w) (endlessly j' s' c' w') = absurd (other_head (one_head (definite_head s) (endless_head s')))
  right_one (suc fuel) b (endlessly j s c w) (primitive j' s' c' f') = absurd (none_some c' c)
  right_one (suc fuel) b (endlessly j s c w) (filled j' s' c' w') = absurd (other_head (one_head (definite_head s') (endless_head s)))
  right_one (suc fuel) {part = part} b (endlessly {u = u} j s c w) (endlessly j' s' c' w') =
      let e = same_endless (one_head (endless_head s) (endless_head s')) in
      let q = same_some (sym c ∙ c') in
      let y = endless_some s in
      let k = fits_one fuel (omega (arith, b, y.0, y.1, length-drop u part)) w (rw (← e.1, ← q) at w') in
      (rw (e.1, k) refl, rw e.1 refl)

  pub fits_one : (fuel : ℕ) {rules : Rules} {l p k k' : ℕ} {r : Parts} {d : Bool} {part : List ℕ} → 2 * length part + 1 ≤ fuel → Fits rules l r d p part k → Fits rules l r d p part k' → k ≡ k'
  fits_one zero b u v = absurd (omega arith)
  fits_one (suc fuel) b (nothing e m) (nothing e' m') = refl
  fits_one (suc fuel) {d = d} {part = part} b (nothing e m) (also f is u w) = let y = right_head u in absurd (not_ended d part y.0 e y.1)
  fits_one (suc fuel) {d = d} {part = part} b (also f is u w) (nothing e m) = let y = right_head u in absurd (not_ended d part y.0 e y.1)
  fits_one (suc fuel) b (also f is u w) (also f' is' u' w') =
      let a = same_first u u' in
      let h = same_some (sym is ∙ (rw (← a) at is')) in
      let e = right_one fuel (omega arith) u (rw (← a, ← h) at u') in
      let k = fits_one fuel (omega (arith, (right_some u).1)) w (rw (← a, ← e.0, ← e.1) at w') in
      rw (e.0, k) refl

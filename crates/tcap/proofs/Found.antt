-- Each combinator finds its faults where they are, and what it reads is right: laws over `ask`, for all productions at once. Assumes nothing.
use Prim.Native.Nat.{ℕ, suc, ◌+◌, ◌-◌, ◌≤◌}
use mathlib.Core.Path.{◌≡◌, refl, sym, ◌∙◌}
use mathlib.Core.Logic.{◌⊎◌, inl, inr}
use mathlib.Core.Bool.{Bool, true, false, cond, not, ◌||◌, ◌&&◌, false≢true}
use mathlib.Core.List.{List}
use mathlib.Core.Option.{Option, none, some}
use native.Mathlib.Omega.{arith}
use lib.ListN.{length, take, drop}
use lib.Seq.{length-take-le}
use lib.Dec.{ltb, eqb}
use lib.IntN.{ℤ}
use borrow.Author.Tests.{ltb-true, ltb-false, eqb-true}
use Rattle.element.specs.Element.{constructor_of, code_zero, Definitely, Endlessly}
use Rattle.element.specs.Fault.{Text, Owner, Fault, fault, at}
use Rattle.element.specs.declared.FaultKind.{FaultKind}
use Rattle.element.specs.declared.TagRead.{TagRead}
use Rattle.element.specs.declared.TagRead.TheVariants.{Fault as tag_fault, Tag as tag}
use Rattle.element.specs.declared.LengthRead.{LengthRead}
use Rattle.element.specs.declared.LengthRead.TheVariants.{Fault as length_fault, Definite as sized, Indefinite as unsized}
use Rattle.element.specs.declared.EndRead.{EndRead}
use Rattle.element.specs.declared.EndRead.TheVariants.{Ended as ended, Unfinished as unfinished, More as more}
use Rattle.element.specs.Head.{tag_of, length_of, end_of}
use Rattle.element.specs.Ask.{definite, indefinite, Head, head, Body, ask_length, ask_tag, at_end, ask_end, ask}
use Rattle.element.specs.Parts.{Item, first_of, leaf_contents, leaf_item, inside as within, around_item, kept_item, map_item, or_item}
use Rattle.element.proofs.Heads.{TagIs, tag_sound}
use Rattle.element.proofs.Asking.{HeadOf, finite, unended, Says, head_says, not_true}
use Rattle.element.proofs.Ends.{Ends, held, failed, ends_next, ends_weaken, ends_check, ends_cond}
use Rattle.tcap.specs.Due.{Parts, Choice, tag as tagged-as, either, any, Holds, octets, orig_id, invoke_id, parts, dialogue, find, due, behind, may_end, position, passes, contents_of, there, or_else}
use Rattle.tcap.specs.Refused.{Right, primitive, definite as filled, indefinite as endlessly, Fits, nothing, Known, known, whose, inside, told, Trail, into, into_endless, Tagged, Unfit, Faulty, tag_cut, tag_bad, zero_code, too_deep, unfit, length_wrong, bad_contents, Wrong, no_pair, missing, seventeenth, element, Found, found}
use Rattle.tcap.proofs.Fronts.{TagSays, cut_off, badly, tag_says, LengthSays, wrong, length_says, tagged, head_more, none_more, is_true}
use Rattle.tcap.specs.WellFormed.{Rules}

-- What may stand or not

pub there_some : {A : Type 0} (x : Option A) → there x ≡ true → (v : A) × (x ≡ some v)
there_some none e = absurd (false≢true e)
there_some (some v) e = (v, refl)

pub there_none : {A : Type 0} (x : Option A) → there x ≡ false → x ≡ none
there_none none e = refl
there_none (some v) e = absurd (false≢true (sym e))

pub there_of : {A : Type 0} {x : Option A} {v : A} → x ≡ some v → there x ≡ true
there_of e = rw e

pub there_else : {A : Type 0} (x y : Option A) → there (or_else x y) ≡ there x || there y
there_else none y = refl
there_else (some v) y = refl

pub else_none : {A : Type 0} (x : Option A) → or_else x none ≡ x
else_none none = refl
else_none (some v) = refl

pub same_some : {A : Type 0} {x y : A} → some x ≡ some y → x ≡ y
same_some e = cc

-- in a choice of two, one of the first or one of the second
pub else_first : {A : Type 0} (x y : Option A) (v : A) → there x ≡ true → or_else x y ≡ some v → x ≡ some v
else_first none y v e f = absurd (false≢true e)
else_first (some w) y v e f = f

pub else_second : {A : Type 0} (x y : Option A) (v : A) → there x ≡ false → or_else x y ≡ some v → y ≡ some v
else_second none y v e f = f
else_second (some w) y v e f = absurd (false≢true (sym e))

-- no ID that a refusal tells is among these
abbrev pub quiet : Choice → Bool
quiet (tagged-as t (octets fits)) = true
quiet (tagged-as t orig_id) = false
quiet (tagged-as t invoke_id) = false
quiet (tagged-as t (parts r)) = true
quiet (tagged-as t (dialogue r)) = true
quiet (either x y) = quiet x && quiet y
quiet any = true

cond_some : (b : Bool) (h g : Holds) → cond b (some h) none ≡ some g → h ≡ g
cond_some true h g e = same_some e
cond_some false h g e = let z : ◌≡◌ {A = ℕ} 0 1 = cc in absurd (omega arith)

quiet_tag : (h g : Holds) (x : Text) (s : Known) (t : ℕ) → quiet (tagged-as t h) ≡ true → h ≡ g → told g x s ≡ s
quiet_tag (octets fits) g x s t q e = rw (← e) refl
quiet_tag orig_id g x s t q e = absurd (false≢true q)
quiet_tag invoke_id g x s t q e = absurd (false≢true q)
quiet_tag (parts r) g x s t q e = rw (← e) refl
quiet_tag (dialogue r) g x s t q e = rw (← e) refl

any_told : (b c : Bool) (h k g : Holds) (x : Text) (s : Known) → told h x s ≡ s → told k x s ≡ s → cond b none (some (cond c h k)) ≡ some g → told g x s ≡ s
any_told true c h k g x s u v e = let z : ◌≡◌ {A = ℕ} 0 1 = cc in absurd (omega arith)
any_told false true h k g x s u v e = let z : h ≡ g = same_some e in rw (← z) u
any_told false false h k g x s u v e = let z : k ≡ g = same_some e in rw (← z) v

both_true : (a b : Bool) → (a && b) ≡ true → (a ≡ true) × (b ≡ true)
both_true true b e = (refl, e)
both_true false b e = absurd (false≢true e)

pub quiet_told : (ch : Choice) (a : ℕ) (g : Holds) (x : Text) (s : Known) → quiet ch ≡ true → find ch a ≡ some g → told g x s ≡ s
quiet_told (tagged-as t h) a g x s q e = quiet_tag h g x s t q (cond_some (eqb a t) h g e)
quiet_told (either y z) a g x s q e = choose (there (find y a)) refl (quiet_told y a g x s (both_true (quiet y) (quiet z) q).0) (quiet_told z a g x s (both_true (quiet y) (quiet z) q).1)
  where
    choose : (b : Bool) → there (find y a) ≡ b → (find y a ≡ some g → told g x s ≡ s) → (find z a ≡ some g → told g x s ≡ s) → told g x s ≡ s
    choose true j u v = u (else_first (find y a) (find z a) g j e)
    choose false j u v = v (else_second (find y a) (find z a) g j e)
quiet_told any a g x s q e = any_told (code_zero a) (constructor_of a) (parts _) (octets _) g x s refl refl e

-- an element of one tag
pub tag_mine : (a t : ℕ) (h : Holds) (b : Bool) → eqb a t ≡ b → b ≡ there (find (tagged-as t h) a)
tag_mine a t h true e = rw e
tag_mine a t h false e = rw e

pub tag_held : (a t : ℕ) (h g : Holds) → find (tagged-as t h) a ≡ some g → (a ≡ t) × (h ≡ g)
tag_held a t h g e = by_test (eqb a t) refl e
  where
    by_test : (b : Bool) → eqb a t ≡ b → cond b (some h) none ≡ some g → (a ≡ t) × (h ≡ g)
    by_test true f e = (eqb-true a t f, same_some e)
    by_test false f e = let z : ◌≡◌ {A = ℕ} 0 1 = cc in absurd (omega arith)

-- What is claimed of contents and of an element at a place of m

module _ (rules : Rules) (m : List ℕ) where
  -- where q is to come, an element with first octet a is as where r is
  pub record Like (q r : Parts) (a : ℕ) : Type 0 where
    pub may : due q a ≡ due r a
    pub rest : (c : List ℕ) → behind q a c ≡ behind r a c
    pub count : position q ≡ position r

  pub like_same : (r : Parts) (a : ℕ) → Like r r a
  like_same r a = record { may = refl; rest = λ c. refl; count = refl }

  -- contents where r is to come; W: what is known of a fault from outside; room: how many octets there are at most; G: what is told of a value by
  -- the place of these octets, and them
  pub record BodyTells {L : Type 0} (b : Body L) (l room : ℕ) (r : Parts) (c o : Owner) (i : Option ℤ) (t : Option Text) (W : Fault → Fault) (G : L → Text → Type 0) : Type 0 where
    pub void : (v : L) → b.ends ≡ some v → (may_end r ≡ true) × ((x : Text) → G v x)
    pub lacks : b.ends ≡ none → may_end r ≡ false
    pub ends : (k : FaultKind) (p : ℕ) → W (at k p) ≡ fault k p c i t
    pub full : b.full ≡ true → (position r ≡ some 16) ⊎ (room ≡ 0)
    pub free : b.full ≡ false → position r ≡ some 16 → ⊥
    pub owned : b.full ≡ false → (k : FaultKind) (p : ℕ) → W (b.owner (at k p)) ≡ fault k p (whose (position r) o) i t
    pub left : b.full ≡ false → b.left ≡ suc rules.limit - l
    pub mine : b.full ≡ false → (a : ℕ) → b.mine a ≡ there (due r a)
    pub other : b.full ≡ false → (d : Bool) (p : ℕ) (part : List ℕ) (a : ℕ) (q : List ℕ) → Trail rules m l d r (known c o i t) p part → Tagged part a q → b.mine a ≡ false → Unfit r b.other
    pub goes : (d : Bool) (q : Parts) (p : ℕ) (part : List ℕ) (h : Head) → length part ≤ room → Trail rules m l d q (known c o i t) p part → Like q r (first_of h) → l ≤ rules.limit → HeadOf part h → b.full ≡ false → b.mine (first_of h) ≡ true
        → Ends (λ v n. Fits rules l q d p part n × G v (p, part)) (λ f. Found rules m (W f)) (b.goes d h p part)

  abbrev pub Untold : {L : Type 0} → L → Text → Type 0
  Untold v x = Unit {0}

  abbrev pub BodyFinds : {L : Type 0} → Body L → ℕ → ℕ → Parts → Owner → Owner → Option ℤ → Option Text → (Fault → Fault) → Type 0
  BodyFinds b l room r c o i t W = BodyTells b l room r c o i t W Untold

  -- a place where an element with first octet a, which holds g and belongs to w, may stand
  pub record Spot (l : ℕ) (w : Owner) (i : Option ℤ) (t : Option Text) (d : Bool) (p : ℕ) (part : List ℕ) (a : ℕ) (g : Holds) : Type 0 where
    pub state : Parts
    pub around : Owner
    pub owner : Owner
    pub way : Trail rules m l d state (known around owner i t) p part
    pub whom : whose (position state) owner ≡ w
    pub free : position state ≡ some 16 → ⊥
    pub may : due state a ≡ some g
    pub level : l ≤ rules.limit

  -- an element of a choice; S: what is told of a value by what its element holds, its contents and their place
  pub record ItemFinds {L : Type 0} (x : Item L) (l : ℕ) (ch : Choice) (w : Owner) (i : Option ℤ) (t : Option Text) (W : Fault → Fault) (S : L → Holds → Text → Type 0) : Type 0 where
    pub mine : (a : ℕ) → x.mine a ≡ there (find ch a)
    pub reads : (d : Bool) (p : ℕ) (part : List ℕ) (h : Head) (g : Holds) → Spot l w i t d p part (first_of h) g → find ch (first_of h) ≡ some g → HeadOf part h
        → Ends (λ v n. (y : Text) × Right rules l (first_of h) g p part n y × S v g y) (λ f. Found rules m (W f)) (x.contents h p part)

  -- The order of questions

  module _ {L : Type 0} {b : Body L} {l room : ℕ} {r : Parts} {c o : Owner} {i : Option ℤ} {t : Option Text} {W : Fault → Fault} {G : L → Text → Type 0} (s : BodyTells b l room r c o i t W G) (d : Bool) (p : ℕ) (part : List ℕ) (big : length part ≤ room) (way : Trail rules m l d r (known c o i t) p part) where
    abbrev Good : L → ℕ → Type 0
    Good v n = Fits rules l r d p part n × G v (p, part)

    here : (f : b.full ≡ false) (k : FaultKind) → end_of d part ≡ more → Faulty rules l r part k → Found rules m (W (b.owner (at k p)))
    here f k e w = rw (s.owned f k p) (found way (element e (s.free f) w))

    around : (k : FaultKind) → Wrong rules l d r part c (whose (position r) o) k c → Found rules m (W (at k p))
    around k w = rw (s.ends k p) (found way w)

    length_finds : (a s' : ℕ) → end_of d part ≡ more → tag_of part ≡ tag a s' → code_zero a ≡ false → b.full ≡ false → b.mine a ≡ true → l ≤ rules.limit → (g : LengthRead) → length_of (drop s' part) (constructor_of a) ≡ g → LengthSays (constructor_of a) (drop s' part) g
        → Ends Good (λ f. Found rules m (W f)) (ask_length b d p part a s' g)
    unfolding ask_length
    length_finds a s' e t z f q j (length_fault k) g (wrong w) = failed (here f k e (length_wrong (tagged part a s' t z) j (there_some (due r a) (sym (s.mine f a) ∙ q)).1 w))
    length_finds a s' e t z f q j (sized k n) g w = s.goes d r p part (head a (s' + k) (definite n)) big way (like_same r a) j (finite a s' k n t z g) f q
    length_finds a s' e t z f q j unsized g w = s.goes d r p part (head a (s' + 1) indefinite) big way (like_same r a) j (unended a s' t z g) f q

    tag_finds : b.full ≡ false → end_of d part ≡ more → (g : TagRead) → tag_of part ≡ g → TagSays part g → Ends Good (λ f. Found rules m (W f)) (ask_tag b d p part g)
    unfolding ask_tag TagIs
    tag_finds f e (tag_fault k) g (cut_off w) = failed (here f FaultKind.CutOff e (tag_cut w))
    tag_finds f e (tag_fault k) g (badly w) = failed (here f FaultKind.BadTag e (tag_bad w))
    tag_finds f e (tag a s') g w =
        let (x, r', q, j, y) : TagIs part (tag a s') = rw g at (tag_sound part) in
        ends_check (not (code_zero a)) _ (λ z. here f FaultKind.CodeZero e (zero_code q (is_true (code_zero a) z))) λ z.
        let whole : Tagged part a (drop s' part) = tagged part a s' g (not_true (code_zero a) z) in
        ends_check (ltb 0 b.left) _ (λ v. here f FaultKind.TooDeep e (too_deep whole (omega (arith, ltb-false 0 b.left v, s.left f)))) λ u.
        let deep : l ≤ rules.limit = omega (arith, ltb-true 0 b.left u, s.left f) in
        ends_check (b.mine a) _ (λ v. here f b.other e (unfit whole deep (there_none (due r a) (sym (s.mine f a) ∙ v)) (s.other f d p part a _ way whole v))) λ v.
        length_finds a s' e g (not_true (code_zero a) z) f v deep (length_of (drop s' part) (constructor_of a)) refl (length_says (drop s' part) (constructor_of a))

    at_end_finds : (g : Option L) → b.ends ≡ g → end_of d part ≡ ended → Ends Good (λ f. Found rules m (W f)) (at_end b d p part g)
    unfolding at_end
    at_end_finds none f e = failed (around FaultKind.Missing (missing e (s.lacks f)))
    at_end_finds (some v) f e = let u = s.void v f in held {a = v} {n = 0} (nothing e u.0, u.1 (p, part))

    full_wrong : (position r ≡ some 16) ⊎ (room ≡ 0) → end_of d part ≡ more → Wrong rules l d r part c (whose (position r) o) FaultKind.Seventeenth c
    full_wrong (inl x) e = seventeenth e x
    full_wrong (inr z) e = absurd (none_more part d (omega (arith, big)) e)

    end_finds : (g : EndRead) → end_of d part ≡ g → Ends Good (λ f. Found rules m (W f)) (ask_end b d p part g)
    unfolding ask_end
    end_finds ended e = at_end_finds b.ends refl e
    end_finds unfinished e = failed (around FaultKind.CutOff (no_pair e))
    end_finds more e = ends_check (not b.full) _ (λ f. around FaultKind.Seventeenth (full_wrong (s.full (is_true b.full f)) e)) λ f. tag_finds (not_true b.full f) e (tag_of part) refl (tag_says part)

    pub ask_finds : Ends Good (λ f. Found rules m (W f)) (ask b d p part)
    unfolding ask
    ask_finds = end_finds (end_of d part) refl

  -- Elements

  -- all faults in an element that belongs to w
  abbrev pub Said : Owner → Option ℤ → Option Text → (Fault → Fault) → Type 0
  Said w i t W = (k : FaultKind) (p : ℕ) → W (at k p) ≡ fault k p w i t

  abbrev pub Silent : {L : Type 0} → L → Holds → Text → Type 0
  Silent v g y = Unit {0}

  module _ {l : ℕ} {w : Owner} {i : Option ℤ} {t : Option Text} {W : Fault → Fault} where
    pub leaf_from : (fits : List ℕ → Bool) (g : Holds) → contents_of g ≡ none → ((c : List ℕ) → passes g c ≡ fits c) → Said w i t W
        → (d : Bool) (p : ℕ) (part : List ℕ) (h : Head) → Spot l w i t d p part (first_of h) g → HeadOf part h → constructor_of (first_of h) ≡ false
        → Ends (λ v n. (y : Text) × Right rules l (first_of h) g p part n y × (v ≡ y)) (λ f. Found rules m (W f)) (leaf_contents fits h p part)
    unfolding leaf_contents Says
    leaf_from fits g z j say d p part (head a u (definite n)) x i c =
        let s : Definitely part a u n = head_says part (head a u (definite n)) i in
        ends_check (fits (take n (drop u part))) _
        (λ e. rw (say FaultKind.BadContents p, ← x.whom) (found x.way (element (head_more d part (head a u (definite n)) i) x.free (bad_contents {h = g} x.level x.may s z (j (take n (drop u part)) ∙ e))))) λ e.
        held {a = (p + u, take n (drop u part))} {n = u + n} ((p + u, take n (drop u part)), primitive x.level s z (j (take n (drop u part)) ∙ e), refl)
    leaf_from fits g z j say d p part (head a u indefinite) x i c = let s : Endlessly part a u = head_says part (head a u indefinite) i in absurd (false≢true (sym c ∙ s.constructor))

    pub leaf_finds : (a : ℕ) (fits : List ℕ → Bool) (g : Holds) → constructor_of a ≡ false → contents_of g ≡ none → ((c : List ℕ) → passes g c ≡ fits c) → Said w i t W → ItemFinds (leaf_item a fits) l (tagged-as a g) w i t W (λ v g' y. (g ≡ g') × (v ≡ y))
    leaf_finds a fits g c z j say = record {
      mine = λ b. tag_mine b a g (eqb b a) refl;
      reads = λ d p part h g' x e i.
          let u = tag_held (first_of h) a g g' e in
          rw (← u.1) (ends_weaken (leaf_from fits g z j say d p part h (rw (← u.1) at x) i (rw u.0 c)) (λ v n k. (k.0, k.1, (refl, k.2))) (λ f k. k));
    }

    pub inside_finds : {L : Type 0} {b : ℕ → Body L} {G : L → Text → Type 0} {q : Parts} (g : Holds) → contents_of g ≡ some q → ((n : ℕ) → BodyTells (b n) (suc l) n q w (inside g w) i t W G)
        → (d : Bool) (p : ℕ) (part : List ℕ) (h : Head) → Spot l w i t d p part (first_of h) g → HeadOf part h
        → Ends (λ v n. (y : Text) × Right rules l (first_of h) g p part n y × G v.0 y) (λ f. Found rules m (W f)) (within b h p part)
    unfolding within Says
    inside_finds g z s d p part (head a u (definite n)) x i =
        let y : Definitely part a u n = head_says part (head a u (definite n)) i in
        ends_next (ask_finds (s n) true (p + u) (take n (drop u part)) (omega (arith, length-take-le n (drop u part) y.room)) (rw x.whom at (into x.way x.level x.free x.may z y))) λ v k f.
        held {a = (v, (p + u, take n (drop u part)))} {n = u + n} ((p + u, take n (drop u part)), filled x.level y z f.0, f.1)
    inside_finds g z s d p part (head a u indefinite) x i =
        let y : Endlessly part a u = head_says part (head a u indefinite) i in
        ends_next (ask_finds (s (length (drop u part))) false (p + u) (drop u part) (omega arith) (rw x.whom at (into_endless x.way x.level x.free x.may z y))) λ v k f.
        held {a = (v, (p + u, take k (drop u part)))} {n = u + (k + 2)} ((p + u, drop u part), endlessly x.level y z f.0, f.1)

    pub around_tells : {L : Type 0} {b : Body L} {G : L → Text → Type 0} {q : Parts} (a : ℕ) (g : Holds) → contents_of g ≡ some q → ((n : ℕ) → BodyTells b (suc l) n q w (inside g w) i t W G) → ItemFinds (around_item a b) l (tagged-as a g) w i t W (λ v g' y. (g ≡ g') × G v y)
    around_tells a g z s = record {
      mine = λ b. tag_mine b a g (eqb b a) refl;
      reads = λ d p part h g' x e i.
          let u = tag_held (first_of h) a g g' e in
          rw (← u.1) (ends_next (inside_finds g z s d p part h (rw (← u.1) at x) i) λ v n f. held {a = v.0} {n = n} (f.0, f.1, (refl, f.2)));
    }

    pub kept_finds : {L : Type 0} {b : ℕ → Body L} {G : L → Text → Type 0} {q : Parts} (a : ℕ) (g : Holds) → contents_of g ≡ some q → ((n : ℕ) → BodyTells (b n) (suc l) n q w (inside g w) i t W G) → ItemFinds (kept_item a b) l (tagged-as a g) w i t W Silent
    kept_finds a g z s = record {
      mine = λ b. tag_mine b a g (eqb b a) refl;
      reads = λ d p part h g' x e i.
          let u = tag_held (first_of h) a g g' e in
          rw (← u.1) (ends_next (inside_finds g z s d p part h (rw (← u.1) at x) i) λ v n f. held {a = v.1} {n = n} (f.0, f.1, tt));
    }

    pub map_finds : {L M : Type 0} {x : Item L} {ch : Choice} {S : L → Holds → Text → Type 0} {T : M → Holds → Text → Type 0} (f : L → M) → ((v : L) (g : Holds) (y : Text) → S v g y → T (f v) g y) → ItemFinds x l ch w i t W S → ItemFinds (map_item f x) l ch w i t W T
    map_finds f k s = record { mine = s.mine; reads = λ d p part h g x e i. ends_next (s.reads d p part h g x e i) λ v n u. held {a = f v} {n = n} (u.0, u.1, k v g u.0 u.2) }

    pub quietly : {L M : Type 0} {x : Item L} {ch : Choice} {S : L → Holds → Text → Type 0} (f : L → M) → ItemFinds x l ch w i t W S → ItemFinds (map_item f x) l ch w i t W Silent
    quietly f s = map_finds f (λ v g y u. tt) s

    pub silence : {L : Type 0} {x : Item L} {ch : Choice} {S : L → Holds → Text → Type 0} → ItemFinds x l ch w i t W S → ItemFinds x l ch w i t W Silent
    silence s = record { mine = s.mine; reads = λ d p part h g x e i. ends_weaken (s.reads d p part h g x e i) (λ v n u. (u.0, u.1, tt)) (λ f u. u) }

    pub or_finds : {L : Type 0} {x y : Item L} {ch dh : Choice} {S : L → Holds → Text → Type 0} → ItemFinds x l ch w i t W S → ItemFinds y l dh w i t W S → ItemFinds (or_item x y) l (either ch dh) w i t W S
    or_finds {x = x} {ch = ch} {dh = dh} s r =
        record {
          mine = λ a. rw (s.mine a, r.mine a) (sym (there_else (find ch a) (find dh a)));
          reads = λ d p part h g z e i. ends_cond (x.mine (first_of h)) (λ j. s.reads d p part h g z (else_first (find ch (first_of h)) (find dh (first_of h)) g (sym (s.mine (first_of h)) ∙ j) e) i)
              (λ j. r.reads d p part h g z (else_second (find ch (first_of h)) (find dh (first_of h)) g (sym (s.mine (first_of h)) ∙ j) e) i);
        }

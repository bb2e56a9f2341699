-- Contents find their faults where they are: one element after another, optional ones, series, any element. Assumes nothing.
use Prim.Native.Nat.{ℕ, zero, suc, ◌+◌, ◌-◌, ◌≤◌}
use mathlib.Core.Path.{◌≡◌, refl, sym, ap, ◌∙◌}
use mathlib.Core.Logic.{◌⊎◌, inl, inr}
use mathlib.Core.Bool.{Bool, true, false, cond, not, ◌||◌, false≢true}
use mathlib.Core.List.{List, [], ◌∷◌}
use mathlib.Core.Option.{map, Option, none, some}
use native.Mathlib.Omega.{arith}
use lib.ListN.{length, take, drop}
use lib.IntN.{ℤ}
use Rattle.element.specs.Element.{constructor_of, code_zero}
use Rattle.element.specs.Fault.{Text, Owner, Fault, fault, at}
use Rattle.element.specs.declared.FaultKind.{FaultKind}
use Rattle.element.specs.Ask.{Got, Head, Body}
use Rattle.element.specs.Parts.{Item, Where, level, first_of, place, done, onward, silently, bind_body, then_body, only_body, last_body, opt_pick, opt_body, map_body, series_body}
use Rattle.element.specs.Walk.{walk_pick, element_of, any_tag, walk_contents}
use Rattle.element.proofs.Asking.{HeadOf}
use Rattle.element.proofs.StringPlaces.{nothing_ends}
use Rattle.element.proofs.Ends.{Ends, held, ends_next}
use Rattle.tcap.specs.Due.{Parts, end, must, may, many, Choice, any, Holds, octets, parts, find, due, behind, may_end, position, there}
use Rattle.tcap.specs.Refused.{Right, Fits, also, Known, known, whose, told, Trail, past, Unfit, another, too_many, Found}
use Rattle.tcap.proofs.Fronts.{right_some, ends_blame}
use Rattle.tcap.proofs.Found.{there_some, there_none, there_else, else_none, quiet, quiet_told, Like, BodyTells, Untold, BodyFinds, Spot, ItemFinds, ask_finds, Said, Silent, leaf_from, inside_finds}
use Rattle.tcap.specs.WellFormed.{Rules}

map_some : {A B : Type 0} (f : A → B) (x : Option A) (v : B) → map f x ≡ some v → (u : A) × (x ≡ some u) × (f u ≡ v)
map_some f none v e = nothing_ends e
map_some f (some u) v e = (u, refl, cc)

map_none : {A B : Type 0} (f : A → B) (x : Option A) → map f x ≡ none → x ≡ none
map_none f none e = refl
map_none f (some u) e = let z : ◌≡◌ {A = ℕ} 0 1 = cc in absurd (omega arith)

any_holds : (a : ℕ) (g : Holds) (q : Bool) → constructor_of a ≡ q → find any a ≡ some g → cond q (parts (many any)) (octets (λ c. true)) ≡ g
any_holds a g q e f = by_zero (code_zero a) (rw e at f)
  where
    by_zero : (z : Bool) → cond z none (some (cond q (parts (many any)) (octets (λ c. true)))) ≡ some g → cond q (parts (many any)) (octets (λ c. true)) ≡ g
    by_zero true f = let z : ◌≡◌ {A = ℕ} 0 1 = cc in absurd (omega arith)
    by_zero false f = cc

any_mine : (a : ℕ) (b : Bool) → code_zero a ≡ b → not b ≡ there (find any a)
any_mine a true e = rw e
any_mine a false e = rw e

module _ (rules : Rules) (m : List ℕ) where
  -- what follows an element: what is known then, and the contents
  pub record Rest {M : Type 0} (y : Body M) (l room : ℕ) (r : Parts) (c o : Owner) (s : Known) (W : Fault → Fault) : Type 0 where
    pub invoke_id : Option ℤ
    pub orig_id : Option Text
    pub knows : s ≡ known c o invoke_id orig_id
    pub body : BodyFinds rules m y l room r c o invoke_id orig_id W

  -- where faults of the contents belong to c, those of an element to w
  pub record At (l : ℕ) (c w : Owner) (i : Option ℤ) (t : Option Text) (W : Fault → Fault) (x : Where) : Type 0 where
    pub ends : Said rules m c i t W
    pub owned : (k : FaultKind) (p : ℕ) → W (x.owner (at k p)) ≡ fault k p w i t
    pub left : x.left ≡ suc rules.limit - l

  -- past an element that tells nothing
  pub quiet_rest : {l : ℕ} {c o : Owner} {i : Option ℤ} {t : Option Text} {M : Type 0} {y : Body M} {room : ℕ} {r : Parts} {X : Fault → Fault} (ch : Choice) (a : ℕ) (g : Holds) (x : Text) → quiet ch ≡ true → find ch a ≡ some g → BodyFinds rules m y l room r c o i t X → Rest y l room r c o (told g x (known c o i t)) X
  quiet_rest {i = i} {t = t} ch a g x q e s = record { invoke_id = i; orig_id = t; knows = quiet_told ch a g x _ q e; body = s }

  module _ {l : ℕ} {c o : Owner} {i : Option ℤ} {t : Option Text} {W : Fault → Fault} (low : 2 ≤ l) where
    onward_finds : {L M C : Type 0} (G : C → Text → Type 0) (owner : Fault → Fault) {x : Got L} (note : L → Fault → Fault) (y : L → Body M) (f : L → M → C) (S : L → Text → Type 0) (d : Bool) (q r : Parts) (a : ℕ) (g : Holds) (p : ℕ) (part : List ℕ) (room room' : ℕ)
        → room ≤ suc room' → length part ≤ room → Trail rules m l d q (known c o i t) p part → Like rules m q r a → (position q ≡ some 16 → ⊥) → due q a ≡ some g
        → Ends (λ v n. (z : Text) × Right rules l a g p part n z × S v z) (λ h. Found rules m (W (owner h))) x
        → ((v : L) (z : Text) → S v z → Rest (y v) l room' (behind r a z.1) c o (told g z (known c o i t)) (λ h. W (note v h)))
        → ((v : L) (b : M) (n : ℕ) (z : Text) → Right rules l a g p part n z → S v z → G (f v b) (p, part))
        → Ends (λ v n. Fits rules l q d p part n × G v (p, part)) (λ h. Found rules m (W h)) (onward owner x note y f d p part)
    unfolding onward
    onward_finds G owner note y f S d q r a g p part room room' j big way like free is s k give =
        ends_next (ends_blame owner s) λ v n u.
        let w : Rest (y v) l room' (behind r a u.0.1) c o (told g u.0 (known c o i t)) (λ h. W (note v h)) = k v u.0 u.2 in
        let e : behind q a u.0.1 ≡ behind r a u.0.1 = like.rest u.0.1 in
        ends_blame (note v)
        (ends_next (ask_finds rules m w.body d (p + n) (drop n part) (omega (arith, j, big, (right_some u.1).1)) (rw (e, w.knows) at (past way low free is u.1))) λ b k h.
        held {a = f v b} {n = n + k} (also free is u.1 (rw e h.0), give v b n u.0 u.1 u.2))

    pub place_tells : {L M C : Type 0} {G : C → Text → Type 0} (w : Where) (e : Option C) (other : FaultKind) {x : Item L} (ch : Choice) (r : Parts) (note : L → Fault → Fault) (y : L → Body M) (f : L → M → C) {S : L → Holds → Text → Type 0} (room room' : ℕ) → room ≤ suc room'
        → At l c (whose (position r) o) i t W w → ((a : ℕ) → due r a ≡ find ch a) → (position r ≡ some 16 → ⊥) → Unfit r other → (e ≡ none → may_end r ≡ false) → ((v : C) → e ≡ some v → (may_end r ≡ true) × ((x : Text) → G v x))
        → ItemFinds rules m x l ch (whose (position r) o) i t (λ h. W (w.owner h)) S
        → ((a : ℕ) (g : Holds) (v : L) (z : Text) → find ch a ≡ some g → S v g z → Rest (y v) l room' (behind r a z.1) c o (told g z (known c o i t)) (λ h. W (note v h)))
        → ((v : L) (b : M) (d : Bool) (q : Parts) (a : ℕ) (g : Holds) (p : ℕ) (part : List ℕ) (n : ℕ) (z : Text) → Trail rules m l d q (known c o i t) p part → (position q ≡ some 16 → ⊥) → due q a ≡ some g → find ch a ≡ some g → Right rules l a g p part n z → S v g z → G (f v b) (p, part))
        → BodyTells rules m (place w e x.mine other (λ d h p part. onward w.owner (x.contents h p part) note y f d p part)) l room r c o i t W G
    place_tells {G = G} w e other {x = x} ch r note y f {S = S} room room' j z is free others lacks void s k give =
        record {
          void = void;
          lacks = lacks;
          ends = z.ends;
          full = λ a. absurd (false≢true a);
          free = λ _. free;
          owned = λ _. z.owned;
          left = λ _. z.left;
          mine = λ _ a. rw (is a) (s.mine a);
          other = λ _ d p part a q way g b. others;
          goes = λ d q p part h big way like deep g _ b. go d q p part h big way like deep g (there_some (find ch (first_of h)) (sym (s.mine (first_of h)) ∙ b));
        }
      where
        go : (d : Bool) (q : Parts) (p : ℕ) (part : List ℕ) (h : Head) → length part ≤ room → Trail rules m l d q (known c o i t) p part → Like rules m q r (first_of h) → l ≤ rules.limit → HeadOf part h → (g : Holds) × (find ch (first_of h) ≡ some g)
            → Ends (λ v n. Fits rules l q d p part n × G v (p, part)) (λ h. Found rules m (W h)) (onward w.owner (x.contents h p part) note y f d p part)
        go d q p part h big way like deep i (g, found) =
            let here : due q (first_of h) ≡ some g = like.may ∙ is (first_of h) ∙ found in
            let room_here : position q ≡ some 16 → ⊥ = λ u. free (sym like.count ∙ u) in
            onward_finds G w.owner note y f (λ v z. S v g z) d q r (first_of h) g p part room room' j big way like room_here here
            (s.reads d p part h g (record { state = q; around = c; owner = o; way = way; whom = ap (λ u. whose u o) like.count; free = room_here; may = here; level = deep }) found i)
            (λ v u a. k (first_of h) g v u found a) (λ v b n u z a. give v b d q (first_of h) g p part n u way room_here here found z a)

    pub done_finds : {L : Type 0} (w : Where) (v : L) (room : ℕ) → At l c o i t W w → BodyFinds rules m (done w v) l room end c o i t W
    done_finds w v room z =
        record {
          void = λ v q. (refl, λ x. tt);
          lacks = λ q. let z : ◌≡◌ {A = ℕ} 0 1 = cc in absurd (omega arith);
          ends = z.ends;
          full = λ a. absurd (false≢true a);
          free = λ _ q. nothing_ends q;
          owned = λ _. z.owned;
          left = λ _. z.left;
          mine = λ _ a. refl;
          other = λ _ d p part a q way g b. too_many refl;
          goes = λ d q p part h big way like deep g _ b. absurd (false≢true b);
        }

    -- an element that must stand, and then the rest, which may depend on it
    pub bind_tells : {L M : Type 0} {G : L × M → Text → Type 0} (w : Where) (note : L → Fault → Fault) {x : Item L} (ch : Choice) {y : L → Body M} {S : L → Holds → Text → Type 0} (r : Parts) (room : ℕ) → position r ≡ none → may_end r ≡ false → Unfit r FaultKind.Another → ((a : ℕ) → due r a ≡ find ch a)
        → At l c o i t W w → ItemFinds rules m x l ch o i t (λ h. W (w.owner h)) S
        → ((a : ℕ) (g : Holds) (v : L) (z : Text) → find ch a ≡ some g → S v g z → Rest (y v) l room (behind r a z.1) c o (told g z (known c o i t)) (λ h. W (note v h)))
        → ((v : L) (b : M) (d : Bool) (q : Parts) (a : ℕ) (g : Holds) (p : ℕ) (part : List ℕ) (n : ℕ) (z : Text) → Trail rules m l d q (known c o i t) p part → (position q ≡ some 16 → ⊥) → due q a ≡ some g → find ch a ≡ some g → Right rules l a g p part n z → S v g z → G (v, b) (p, part))
        → BodyTells rules m (bind_body w note x y) l room r c o i t W G
    bind_tells w note ch {y = y} r room e last others is z s k give =
        place_tells w none FaultKind.Another ch r note y (λ a b. (a, b)) room room (omega arith) (rw e z) is (λ u. nothing_ends (sym e ∙ u)) others (λ _. last) (λ v q. nothing_ends q) (rw e s) k give

    pub then_finds : {L M : Type 0} (w : Where) {x : Item L} {ch : Choice} {y : Body M} {r : Parts} {S : L → Holds → Text → Type 0} (room : ℕ) → quiet ch ≡ true → At l c o i t W w → ItemFinds rules m x l ch o i t (λ h. W (w.owner h)) S → BodyFinds rules m y l room r c o i t W
        → BodyFinds rules m (then_body w x y) l room (must ch r) c o i t W
    then_finds w {ch = ch} {r = r} room q z s b = bind_tells w silently ch (must ch r) room refl refl (another refl refl) (λ a. refl) z s (λ a g v x f _. quiet_rest ch a g x q f b) (λ v b d q a g p part n x way free is f u k. tt)

    pub only_finds : {L : Type 0} (w : Where) {x : Item L} {ch : Choice} {S : L → Holds → Text → Type 0} (room : ℕ) → quiet ch ≡ true → At l c o i t W w → ItemFinds rules m x l ch o i t (λ h. W (w.owner h)) S → BodyFinds rules m (only_body w x) l room (must ch end) c o i t W
    only_finds w {ch = ch} room q z s =
        place_tells w none FaultKind.Another ch (must ch end) silently (λ a. done w a) (λ a b. a) room room (omega arith) z (λ a. refl) (λ u. nothing_ends u) (another refl refl) (λ _. refl) (λ v e. nothing_ends e) s
        (λ a g v x f _. quiet_rest ch a g x q f (done_finds w v room z)) (λ v b d q a g p part n x way free is f u k. tt)

    pub last_finds : {L : Type 0} (w : Where) {x : Item L} {ch : Choice} {S : L → Holds → Text → Type 0} (room : ℕ) → quiet ch ≡ true → At l c o i t W w → ItemFinds rules m x l ch o i t (λ h. W (w.owner h)) S → BodyFinds rules m (last_body w x) l room (may ch end) c o i t W
    last_finds w {ch = ch} room q z s =
        place_tells w (some none) FaultKind.Another ch (may ch end) silently (λ a. done w a) (λ a b. some a) room room (omega arith) z (λ a. else_none (find ch a)) (λ u. nothing_ends u) (another refl refl) (λ e. let z : ◌≡◌ {A = ℕ} 0 1 = cc in absurd (omega arith)) (λ v e. (refl, λ x. tt)) s
        (λ a g v x f _. rw f (quiet_rest ch a g x q f (done_finds w v room z))) (λ v b d q a g p part n x way free is f u k. tt)

    pub opt_finds : {L M : Type 0} {x : Item L} {ch : Choice} {y : Body M} {r : Parts} {S : L → Holds → Text → Type 0} (room : ℕ) → quiet ch ≡ true → position r ≡ none → y.other ≡ FaultKind.Another → ItemFinds rules m x l ch o i t (λ h. W (y.owner h)) S → BodyFinds rules m y l room r c o i t W
        → BodyFinds rules m (opt_body x y) l room (may ch r) c o i t W
    unfolding opt_pick
    opt_finds {x = x} {ch = ch} {y = y} {r = r} {S = S} room q e others s b =
        record {
          void = λ v f. let u = map_some _ y.ends v f in ((b.void u.0 u.1).0, λ x. tt);
          lacks = λ f. b.lacks (map_none _ y.ends f);
          ends = b.ends;
          full = λ f. full_none (b.full f);
          free = λ _ u. nothing_ends u;
          owned = λ f. rw e at (b.owned f);
          left = b.left;
          mine = λ f a. rw (s.mine a, b.mine f a) (sym (there_else (find ch a) (due r a)));
          other = λ f d p part a k way g v. rw others (another refl refl);
          goes = λ d k p part h big way like deep g f v. pick d k p part h big way like deep g f (x.mine (first_of h)) refl v;
        }
      where
        full_none : (position r ≡ some 16) ⊎ (room ≡ 0) → (◌≡◌ {A = Option ℕ} none (some 16)) ⊎ (room ≡ 0)
        full_none (inl u) = nothing_ends (sym e ∙ u)
        full_none (inr u) = inr u

        pick : (d : Bool) (k : Parts) (p : ℕ) (part : List ℕ) (h : Head) → length part ≤ room → Trail rules m l d k (known c o i t) p part → Like rules m k (may ch r) (first_of h) → l ≤ rules.limit → HeadOf part h → y.full ≡ false → (v : Bool) → x.mine (first_of h) ≡ v → (v || y.mine (first_of h)) ≡ true
            → Ends (λ v n. Fits rules l k d p part n × Unit {0}) (λ h. Found rules m (W h)) (opt_pick v (x.contents h p part) y d h p part)
        pick d k p part h big way like deep g f true j v =
            let (a, found) = there_some (find ch (first_of h)) (sym (s.mine (first_of h)) ∙ j) in
            first d k p part h big way like deep g a found
          where
            first : (d : Bool) (k : Parts) (p : ℕ) (part : List ℕ) (h : Head) → length part ≤ room → Trail rules m l d k (known c o i t) p part → Like rules m k (may ch r) (first_of h) → l ≤ rules.limit → HeadOf part h → (a : Holds) → find ch (first_of h) ≡ some a
                → Ends (λ v n. Fits rules l k d p part n × Unit {0}) (λ h. Found rules m (W h)) (opt_pick true (x.contents h p part) y d h p part)
            first d k p part h big way like deep g a found =
                let here : due k (first_of h) ≡ some a = like.may ∙ rw found in
                let free : position k ≡ some 16 → ⊥ = λ u. nothing_ends (sym like.count ∙ u) in
                onward_finds (Untold rules m) y.owner silently (λ a. y) (λ a b. (some a, b)) (λ v z. S v a z) d k (may ch r) (first_of h) a p part room room (omega arith) big way like free here
                (s.reads d p part h a (record { state = k; around = c; owner = o; way = way; whom = ap (λ u. whose u o) like.count; free = free; may = here; level = deep }) found g)
                (λ v z _. rw found (quiet_rest ch (first_of h) a z q found b)) (λ v b n z u w. tt)
        pick d k p part h big way like deep g f false j v =
            let found : find ch (first_of h) ≡ none = there_none (find ch (first_of h)) (sym (s.mine (first_of h)) ∙ j) in
            let same : Like rules m k r (first_of h) = record { may = like.may ∙ rw found; rest = λ u. like.rest u ∙ rw found; count = like.count ∙ sym e } in
            ends_next (b.goes d k p part h big way same deep g f v) λ b n w. held {a = (none, b)} {n = n} (w.0, tt)

    pub map_body_tells : {L M : Type 0} {b : Body L} {room : ℕ} {r : Parts} {G : L → Text → Type 0} {H : M → Text → Type 0} (f : L → M) → ((v : L) (x : Text) → G v x → H (f v) x) → BodyTells rules m b l room r c o i t W G → BodyTells rules m (map_body f b) l room r c o i t W H
    map_body_tells {b = b} f give s =
        record {
          void = λ v e. let u = map_some f b.ends v e in ((s.void u.0 u.1).0, λ x. rw (← u.2) (give u.0 x ((s.void u.0 u.1).1 x)));
          lacks = λ e. s.lacks (map_none f b.ends e);
          ends = s.ends;
          full = s.full;
          free = s.free;
          owned = s.owned;
          left = s.left;
          mine = s.mine;
          other = s.other;
          goes = λ d q p part h big way like deep g z v. ends_next (s.goes d q p part h big way like deep g z v) λ u n w. held {a = f u} {n = n} (w.0, give u (p, part) w.1);
        }

    pub map_body_finds : {L M : Type 0} {b : Body L} {room : ℕ} {r : Parts} (f : L → M) → BodyFinds rules m b l room r c o i t W → BodyFinds rules m (map_body f b) l room r c o i t W
    map_body_finds f s = map_body_tells f (λ v x u. tt) s

    -- a series of elements that tell nothing, with room for as many as there are octets
    pub series_finds : {L : Type 0} (left : ℕ) {x : Item L} (ch : Choice) {S : L → Holds → Text → Type 0} → quiet ch ≡ true → At l c o i t W (level left) → ItemFinds rules m x l ch o i t W S → (room k : ℕ) → BodyFinds rules m (series_body (λ k. level left) FaultKind.Another x (some []) room k) l room (many ch) c o i t W
    unfolding series_body
    series_finds left ch q z s zero k =
        record {
          void = λ v e. (refl, λ x. tt);
          lacks = λ e. let z : ◌≡◌ {A = ℕ} 0 1 = cc in absurd (omega arith);
          ends = z.ends;
          full = λ _. inr refl;
          free = λ f. absurd (false≢true (sym f));
          owned = λ f. absurd (false≢true (sym f));
          left = λ f. absurd (false≢true (sym f));
          mine = λ f. absurd (false≢true (sym f));
          other = λ f. absurd (false≢true (sym f));
          goes = λ d q p part h big way like deep g f. absurd (false≢true (sym f));
        }
    series_finds left {x = x} ch q z s (suc room) k =
        place_tells (level left) (some []) FaultKind.Another ch (many ch) silently (λ a. series_body (λ k. level left) FaultKind.Another x (some []) room (suc k)) (λ a ws. a ∷ ws) (suc room) room (omega arith) z (λ a. refl) (λ u. nothing_ends u) (another refl refl)
        (λ e. let z : ◌≡◌ {A = ℕ} 0 1 = cc in absurd (omega arith)) (λ v e. (refl, λ x. tt)) s (λ a g v x f _. quiet_rest ch a g x q f (series_finds left ch q z s room (suc k))) (λ v b d q a g p part n x way free is f u k. tt)

  -- any element, and an element of one tag, to the bottom
  module _ {w : Owner} {i : Option ℤ} {t : Option Text} {W : Fault → Fault} (say : Said rules m w i t W) where
    module _ (l left : ℕ) (e : left ≡ suc rules.limit - suc l) (low : 1 ≤ l) (series : (room k : ℕ) → BodyFinds rules m (series_body (λ k. level left) FaultKind.Another (element_of any_tag (walk_contents left)) (some []) room k) (suc l) room (many any) w w i t W) where
      walk_up : (d : Bool) (p : ℕ) (part : List ℕ) (h : Head) (q : Bool) → constructor_of (first_of h) ≡ q → Spot rules m l w i t d p part (first_of h) (cond q (parts (many any)) (octets (λ c. true))) → HeadOf part h
          → Ends (λ v n. (y : Text) × Right rules l (first_of h) (cond q (parts (many any)) (octets (λ c. true))) p part n y × Unit {0}) (λ f. Found rules m (W f)) (walk_pick q (λ n. series_body (λ k. level left) FaultKind.Another (element_of any_tag (walk_contents left)) (some []) n 0) h p part)
      unfolding walk_pick
      walk_up d p part h true c x g = ends_next (inside_finds rules m (parts (many any)) refl (λ n. series n 0) d p part h x g) λ v n u. held {a = (p, take n part)} {n = n} (u.0, u.1, tt)
      walk_up d p part h false c x g = ends_next (leaf_from rules m (λ c. true) (octets (λ c. true)) refl (λ c. refl) say d p part h x g c) λ v n u. held {a = (p, take n part)} {n = n} (u.0, u.1, tt)

    pub walk_finds : (left l : ℕ) → left ≡ suc rules.limit - l → 1 ≤ l → ItemFinds rules m (element_of any_tag (walk_contents left)) l any w i t W (Silent rules m)
    unfolding walk_contents
    walk_finds zero l e low = record { mine = λ a. any_mine a (code_zero a) refl; reads = λ d p part h g x f i. let z : l ≤ rules.limit = x.level in absurd (omega arith) }
    walk_finds (suc left) l e low =
        let deep : left ≡ suc rules.limit - suc l = omega arith in
        let next : ItemFinds rules m (element_of any_tag (walk_contents left)) (suc l) any w i t W (Silent rules m) = walk_finds left (suc l) deep (omega arith) in
        let series : (room k : ℕ) → BodyFinds rules m (series_body (λ k. level left) FaultKind.Another (element_of any_tag (walk_contents left)) (some []) room k) (suc l) room (many any) w w i t W =
        series_finds (omega arith) left any refl (record { ends = say; owned = say; left = deep }) next in
        record {
          mine = λ a. any_mine a (code_zero a) refl;
          reads = λ d p part h g x f i. let k = any_holds (first_of h) g (constructor_of (first_of h)) refl f in rw (← k) (walk_up l left deep low series d p part h (constructor_of (first_of h)) refl (rw (← k) at x) i);
        }

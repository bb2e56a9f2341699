-- What is found depends on nothing behind what its clause looks at: one law for each combinator. Assumes nothing.
use Prim.Native.Nat.{ℕ, zero, suc, ◌+◌, ◌≤◌}
use mathlib.Core.Path.{◌≡◌, refl, sym, ap, ◌∙◌}
use mathlib.Core.Bool.{Bool, true, false, cond, ◌||◌, false≢true}
use mathlib.Core.List.{List, [], ◌∷◌}
use mathlib.Core.Option.{Option, none, some}
use native.Mathlib.Omega.{arith}
use lib.ListN.{length, take, drop, length-drop}
use lib.Seq.{take-take, drop-drop, length-take-le}
use lib.Dec.{ltb}
use borrow.Author.Tests.{eqb-true}
use Rattle.element.specs.Element.{constructor_of}
use Rattle.element.specs.Fault.{Text, Fault, at}
use Rattle.element.specs.declared.FaultKind.{FaultKind}
use Rattle.element.specs.declared.FaultKind.TheVariants.{Another, BadContents}
use Rattle.element.specs.Ask.{Got, got, bad, next, check, blamed, definite, indefinite, Head, head, Body, ask}
use Rattle.element.specs.Parts.{Item, Where, level, first_of, leaf_contents, leaf_item, inside, around_item, kept_item, map_item, or_item, place, done, onward, silently, bind_body, then_body, only_body, last_body, opt_pick, opt_body, map_body, series_body}
use Rattle.element.specs.Walk.{walk_pick, element_of, any_tag, walk_contents}
use Rattle.element.proofs.Asking.{next_of, HeadOf}
use Rattle.element.proofs.LocalHeads.{Alike, alike_less, take_behind, alike_drop, pair}
use Rattle.element.proofs.LocalClauses.{OfTag, other, further, in_contents, kind_of, place_of, Spares, Local, sure, wrong, Level, Reaches, size_of, next_bad, local_map, local_level, local_check, head_alike, head_room, head_least, level_reaches, ask_local}

-- Items and bodies: with so many levels left for the element

pub record ItemLocal {A : Type 0} (l : ℕ) (x : Item A) : Type 0 where
  pub contents : (h : Head) (p : ℕ) (part : List ℕ) → HeadOf part h → ltb 0 l ≡ true → x.mine (first_of h) ≡ true → Local (Reaches h part) 0 (size_of h) (x.contents h p) p part (x.contents h p part)

pub record BodyLocal {A : Type 0} (b : Body A) : Type 0 where
  pub spares : b.full ≡ false → Spares b.owner
  pub other : OfTag b.other
  pub goes : (d : Bool) (h : Head) (p : ℕ) (part : List ℕ) → HeadOf part h → b.full ≡ false → ltb 0 b.left ≡ true → b.mine (first_of h) ≡ true → Local (Level part) (pair d) (size_of h) (b.goes d h p) p part (b.goes d h p part)

asked_local : {A : Type 0} {b : Body A} → BodyLocal b → (d : Bool) (p : ℕ) (part : List ℕ) → Local (Level part) (pair d) 0 (ask b d p) p part (ask b d p part)
asked_local {b = b} s d p part = ask_local b d p part (pair d) (λ v e. refl) s.spares (λ a n h o. s.other) (λ h i f v o. s.goes d h p part i f v o)

-- Primitives and constructors

pub leaf_contents_local : (fits : List ℕ → Bool) (h : Head) (p : ℕ) (part : List ℕ) → HeadOf part h → constructor_of (first_of h) ≡ false → Local (Reaches h part) 0 (size_of h) (leaf_contents fits h p) p part (leaf_contents fits h p part)
unfolding leaf_contents size_of Reaches kind_of place_of check
leaf_contents_local fits (head a u (definite n)) p part i c =
    let room : u + n ≤ length part = head_room part a u n i in
    let same : (t : List ℕ) → Alike (u + n) part t → take n (drop u t) ≡ take n (drop u part) = λ t e. alike_drop u n part t e in
    let len : length (take (u + n) part) ≡ u + n = length-take-le (u + n) part room in
    let lead : HeadOf (take (u + n) part) (head a u (definite n)) = head_alike part (take (u + n) part) (head a u (definite n)) i (take-take u (u + n) part (omega arith)) (omega arith) in
    local_check (fits (take n (drop u part))) (at BadContents p)
    (λ o. wrong {f = at BadContents p} 0 (u + n) (omega arith) (in_contents a u n lead (sym len)) (omega arith) (omega arith) (λ t r e. rw (same t (alike_less (u + n) (0 + (u + n)) part t (omega arith) e), o)))
    (λ o. sure {a = (p + u, take n (drop u part))} {n = u + n} (omega arith) (omega arith) (λ t r e. rw (same t (alike_less (u + n) (u + n + 0) part t (omega arith) e), o)))
leaf_contents_local fits (head a u indefinite) p part i c = absurd (false≢true (sym c ∙ (head_least part a u i).1))

pub leaf_local : (l t : ℕ) (fits : List ℕ → Bool) → constructor_of t ≡ false → ItemLocal l (leaf_item t fits)
leaf_local l t fits c = record { contents = λ h p part i v o. leaf_contents_local fits h p part i (rw (eqb-true (first_of h) t o) c) }

pub take_inner : (j q n : ℕ) (s : List ℕ) → j + q ≤ n → take q (drop j (take n s)) ≡ take q (drop j s)
take_inner j q n s h = take_behind j q (take n s) ∙ ap (drop j) (take-take (j + q) n s h) ∙ sym (take_behind j q s)

module _ {A : Type 0} (b : ℕ → Body A) (s : (n : ℕ) → BodyLocal (b n)) (p : ℕ) (part : List ℕ) where
  module _ (a u n : ℕ) (room : u + n ≤ length part) where
    abbrev contained : List ℕ → List ℕ
    contained t = take n (drop u t)

    in_definite : {x : Got A} → Local (Level (contained part)) (pair true) 0 (ask (b n) true (p + u)) (p + u) (contained part) x
        → Local {A = A × Text} (λ t. u + n ≤ length t) 0 u (λ t. next (ask (b n) true (p + u) (contained t)) (λ v k. got (v, (p + u, contained t)) (u + n))) p part (next x (λ v k. got (v, (p + u, contained part)) (u + n)))
    unfolding next pair
    in_definite (sure {a = v} {n = k} c l f) =
        sure {a = (v, (p + u, contained part))} {n = u + n} (omega arith) (omega arith) (λ t r e.
        let y : contained t ≡ contained part = alike_drop u n part t (alike_less (u + n) (u + n + 0) part t (omega arith) e) in
        rw y (next_of _ (f (contained part) refl refl)))
    in_definite (wrong {f = w} j q pl lk c l f) =
        let len : length (contained part) ≡ n = length-take-le n (drop u part) (omega (arith, length-drop u part)) in
        let y : take q (drop j (contained part)) ≡ take q (drop (u + j) part) = take_inner j q n (drop u part) (omega arith) ∙ ap (take q) (drop-drop j u part) in
        wrong {f = w} (u + j) q (omega arith) (rw y at lk) (omega arith) (omega arith) (λ t r e.
        let i : length (contained t) ≡ n = length-take-le n (drop u t) (omega (arith, length-drop u t)) in
        let g : Alike (j + q) (contained part) (contained t) = take-take (j + q) n (drop u t) (omega arith) ∙ alike_drop u (j + q) part t (alike_less (u + (j + q)) (u + j + q) part t (omega arith) e) ∙ sym (take-take (j + q) n (drop u part) (omega arith)) in
        next_bad _ (f (contained t) (omega arith) g))

  module _ (a u : ℕ) (room : u ≤ length part) where
    in_endless : {x : Got A} → Local (Level (drop u part)) (pair false) 0 (ask (b (length (drop u part))) false (p + u)) (p + u) (drop u part) x
        → Local {A = A × Text} (λ t. length t ≡ length part) 0 u (λ t. next (ask (b (length (drop u t))) false (p + u) (drop u t)) (λ v k. got (v, (p + u, take k (drop u t))) (u + (k + 2)))) p part
        (next x (λ v k. got (v, (p + u, take k (drop u part))) (u + (k + 2))))
    unfolding next pair
    in_endless (sure {a = v} {n = k} c l f) =
        sure {a = (v, (p + u, take k (drop u part)))} {n = u + (k + 2)} (omega arith) (omega (arith, length-drop u part)) (λ t r e.
        let z : length (drop u t) ≡ length (drop u part) = omega (arith, length-drop u t, length-drop u part) in
        let g : Alike (k + 2) (drop u part) (drop u t) = alike_drop u (k + 2) part t (alike_less (u + (k + 2)) (u + (k + 2) + 0) part t (omega arith) e) in
        let y : ask (b (length (drop u t))) false (p + u) (drop u t) ≡ got v k = rw z (f (drop u t) z g) in
        next_of _ y ∙ ap (λ (w : List ℕ). got (v, (p + u, w)) (u + (k + 2))) (alike_less k (k + 2) (drop u part) (drop u t) (omega arith) g))
    in_endless (wrong {f = w} j q pl lk c l f) =
        wrong {f = w} (u + j) q (omega arith) (rw (drop-drop j u part) at lk) (omega arith) (omega (arith, length-drop u part)) (λ t r e.
        let z : length (drop u t) ≡ length (drop u part) = omega (arith, length-drop u t, length-drop u part) in
        let y : ask (b (length (drop u t))) false (p + u) (drop u t) ≡ bad w = rw z (f (drop u t) z (alike_drop u (j + q) part t (alike_less (u + (j + q)) (u + j + q) part t (omega arith) e))) in
        next_bad _ y)

  pub inside_local : (h : Head) → HeadOf part h → Local (Reaches h part) 0 (size_of h) (inside b h p) p part (inside b h p part)
  unfolding inside size_of Reaches
  inside_local (head a u (definite n)) i = in_definite a u n (head_room part a u n i) (asked_local (s n) true (p + u) (take n (drop u part)))
  inside_local (head a u indefinite) i = in_endless a u (head_least part a u i).0 (asked_local (s (length (drop u part))) false (p + u) (drop u part))

pub around_local : {A : Type 0} {b : Body A} (l t : ℕ) → BodyLocal b → ItemLocal l (around_item t b)
around_local {b = b} l t s = record { contents = λ h p part i v o. local_map (λ t v n. v.0) (λ t v n e. refl) (inside_local (λ n. b) (λ n. s) p part h i) }

pub kept_local : {A : Type 0} {b : ℕ → Body A} (l t : ℕ) → ((n : ℕ) → BodyLocal (b n)) → ItemLocal l (kept_item t b)
kept_local {b = b} l t s = record { contents = λ h p part i v o. local_map (λ t v n. v.1) (λ t v n e. refl) (inside_local b s p part h i) }

-- Items put together

pub map_local : {A B : Type 0} {x : Item A} {l : ℕ} (f : A → B) → ItemLocal l x → ItemLocal l (map_item f x)
map_local f s = record { contents = λ h p part i v o. local_map (λ t a n. f a) (λ t a n e. refl) (s.contents h p part i v o) }

pub or_local : {A : Type 0} {x y : Item A} {l : ℕ} → ItemLocal l x → ItemLocal l y → ItemLocal l (or_item x y)
or_local {A} {x = x} {y = y} {l = l} s t = record { contents = λ h p part i v o. pick h p part i v (x.mine (first_of h)) refl o }
  where
    pick : (h : Head) (p : ℕ) (part : List ℕ) → HeadOf part h → ltb 0 l ≡ true → (b : Bool) → x.mine (first_of h) ≡ b → (b || y.mine (first_of h)) ≡ true
        → Local (Reaches h part) 0 (size_of h) (λ r. cond b (x.contents h p r) (y.contents h p r)) p part (cond b (x.contents h p part) (y.contents h p part))
    pick h p part i v true e o = s.contents h p part i v e
    pick h p part i v false e o = t.contents h p part i v o

-- Contents

module _ {A B C : Type 0} (owner : Fault → Fault) (x : List ℕ → Got A) (note : A → Fault → Fault) (y : A → Body B) (f : A → B → C) (d : Bool) (p : ℕ) where
  abbrev goes_on : List ℕ → Got C
  goes_on t = onward owner (x t) note y f d p t

  module _ (a : A) (n : ℕ) where
    both_got : (t : List ℕ) (v : B) (k : ℕ) → x t ≡ got a n → ask (y a) d (p + n) (drop n t) ≡ got v k → goes_on t ≡ got (f a v) (n + k)
    unfolding onward next blamed
    both_got t v k e g = rw (e, g)

    rest_bad : (t : List ℕ) (w : Fault) → x t ≡ got a n → ask (y a) d (p + n) (drop n t) ≡ bad w → goes_on t ≡ bad (note a w)
    unfolding onward next blamed
    rest_bad t w e g = rw (e, g)

  first_bad : (t : List ℕ) (w : Fault) → x t ≡ bad w → goes_on t ≡ bad (owner w)
  unfolding onward next blamed
  first_bad t w e = rw e

  module _ (part : List ℕ) (base : ℕ) (so : Spares owner) (sn : (a : A) → Spares (note a)) (sy : (a : A) → BodyLocal (y a)) where
    rest_local : (a : A) (n : ℕ) → base ≤ n → n ≤ length part → ((t : List ℕ) → Level part t → Alike n part t → x t ≡ got a n) → {z : Got B} → Local (Level (drop n part)) (pair d) 0 (ask (y a) d (p + n)) (p + n) (drop n part) z
        → Local (Level part) (pair d) base goes_on p part (blamed (note a) (next z (λ v k. got (f a v) (n + k))))
    unfolding next blamed
    rest_local a n b l g (sure {a = v} {n = k} c m h) =
        sure {a = f a v} {n = n + k} (omega arith) (omega (arith, length-drop n part)) (λ t r e.
        both_got a n t v k (g t r (alike_less n (n + k + pair d) part t (omega arith) e))
        (h (drop n t) (omega (arith, length-drop n t, length-drop n part)) (alike_drop n (k + pair d) part t (alike_less (n + (k + pair d)) (n + k + pair d) part t (omega arith) e))))
    rest_local a n b l g (wrong {f = w} j q pl lk c m h) =
        wrong {f = note a w} (n + j) q (omega (arith, (sn a w).1)) (rw (sn a w).0 (rw (drop-drop j n part) at lk)) (omega arith) (omega (arith, length-drop n part)) (λ t r e.
        rest_bad a n t w (g t r (alike_less n (n + j + q) part t (omega arith) e))
        (h (drop n t) (omega (arith, length-drop n t, length-drop n part)) (alike_drop n (j + q) part t (alike_less (n + (j + q)) (n + j + q) part t (omega arith) e))))

    first_local : {z : Got A} → Local (Level part) 0 base x p part z → Local (Level part) (pair d) base goes_on p part (onward owner z note y f d p part)
    unfolding onward next blamed
    first_local (sure {a = a} {n = n} b l g) =
        rest_local a n b (omega arith) (λ t r e. g t r (alike_less (n + 0) n part t (omega arith) e)) (asked_local (sy a) d (p + n) (drop n part))
    first_local (wrong {f = w} j q pl lk b l g) = wrong {f = owner w} j q ((so w).1 ∙ pl) (rw (so w).0 lk) b l (λ t r e. first_bad t w (g t r e))

-- an element and then the rest, where the contents may end as e says
pub place_local : {A B C : Type 0} (w : Where) (e : Option C) (k : FaultKind) {x : Item A} (note : A → Fault → Fault) (y : A → Body B) (f : A → B → C) → OfTag k → Spares w.owner → ((a : A) → Spares (note a)) → ItemLocal w.left x → ((a : A) → BodyLocal (y a))
    → BodyLocal (place w e x.mine k (λ d h p part. onward w.owner (x.contents h p part) note y f d p part))
place_local w e k {x = x} note y f c so sn s t =
    record {
      spares = λ _. so;
      other = c;
      goes = λ d h p part i _ v o. first_local w.owner (x.contents h p) note y f d p part (size_of h) so sn t (local_level (λ r l. level_reaches part r h i l) (s.contents h p part i v o));
    }

pub silent : {A : Type 0} (a : A) → Spares (silently a)
silent a f = (refl, refl)

pub bind_local : {A B : Type 0} (w : Where) (note : A → Fault → Fault) {x : Item A} {y : A → Body B} → Spares w.owner → ((a : A) → Spares (note a)) → ItemLocal w.left x → ((a : A) → BodyLocal (y a)) → BodyLocal (bind_body w note x y)
bind_local w note {y = y} so sn s t = place_local w none Another note y (λ a b. (a, b)) other so sn s t

pub then_local : {A B : Type 0} (w : Where) {x : Item A} {y : Body B} → Spares w.owner → ItemLocal w.left x → BodyLocal y → BodyLocal (then_body w x y)
then_local w so s t = bind_local w silently so silent s (λ a. t)

done_local : {A : Type 0} (w : Where) (v : A) → Spares w.owner → BodyLocal (done w v)
done_local w v so = record { spares = λ _. so; other = further; goes = λ d h p part i f l o. absurd (false≢true o) }

pub only_local : {A : Type 0} (w : Where) {x : Item A} → Spares w.owner → ItemLocal w.left x → BodyLocal (only_body w x)
only_local w so s = place_local w none Another silently (λ a. done w a) (λ a b. a) other so silent s (λ a. done_local w a so)

pub last_local : {A : Type 0} (w : Where) {x : Item A} → Spares w.owner → ItemLocal w.left x → BodyLocal (last_body w x)
last_local w so s = place_local w (some none) Another silently (λ a. done w a) (λ a b. some a) other so silent s (λ a. done_local w a so)

pub opt_local : {A B : Type 0} {x : Item A} {y : Body B} → ItemLocal y.left x → BodyLocal y → BodyLocal (opt_body x y)
unfolding opt_pick
opt_local {A} {B} {x = x} {y = y} s t = record { spares = t.spares; other = t.other; goes = λ d h p part i f v o. pick d h p part i f v (x.mine (first_of h)) refl o }
  where
    pick : (d : Bool) (h : Head) (p : ℕ) (part : List ℕ) → HeadOf part h → y.full ≡ false → ltb 0 y.left ≡ true → (b : Bool) → x.mine (first_of h) ≡ b → (b || y.mine (first_of h)) ≡ true
        → Local (Level part) (pair d) (size_of h) (λ r. opt_pick b (x.contents h p r) y d h p r) p part (opt_pick b (x.contents h p part) y d h p part)
    pick d h p part i f v true e o =
        first_local y.owner (x.contents h p) silently (λ a. y) (λ a b. (some a, b)) d p part (size_of h) (t.spares f) silent (λ a. t) (local_level (λ r l. level_reaches part r h i l) (s.contents h p part i v e))
    pick d h p part i f v false e o = local_map (λ r b n. (none, b)) (λ r b n g. refl) (t.goes d h p part i f v o)

pub map_body_local : {A B : Type 0} {b : Body A} (f : A → B) → BodyLocal b → BodyLocal (map_body f b)
map_body_local f s = record { spares = s.spares; other = s.other; goes = λ d h p part i z v o. local_map (λ r a n. f a) (λ r a n e. refl) (s.goes d h p part i z v o) }

pub series_local : {A : Type 0} (w : ℕ → Where) (c : FaultKind) {x : Item A} → OfTag c → ((k : ℕ) → Spares (w k).owner) → ((k : ℕ) → ItemLocal (w k).left x) → (e : Option (List A)) (room k : ℕ) → BodyLocal (series_body w c x e room k)
unfolding series_body
series_local w c o so s e zero k = record { spares = λ f. absurd (false≢true (sym f)); other = o; goes = λ d h p part i f. absurd (false≢true (sym f)) }
series_local {A} w c {x = x} o so s e (suc room) k =
    place_local (w k) e c silently (λ a. series_body w c x (some []) room (suc k)) (λ a ws. a ∷ ws) o (so k) silent (s k) (λ a. series_local w c o so s (some []) room (suc k))

-- Any element: it is kept whole

pub walk_local : (mine : ℕ → Bool) (l : ℕ) → ItemLocal l (element_of mine (walk_contents l))
unfolding walk_contents walk_pick
walk_local mine zero = record { contents = λ h p part i v o. absurd (nowhere v) }
  where
    nowhere : ltb 0 0 ≡ true → ⊥
    nowhere v = false≢true v
walk_local mine (suc l) = record { contents = λ h p part i v o. up (walk_local any_tag l) h p part i (constructor_of (first_of h)) refl }
  where
    series : ℕ → Body (List Text)
    series n = series_body (λ k. level l) Another (element_of any_tag (walk_contents l)) (some []) n 0

    kept : (p : ℕ) (part t : List ℕ) (n : ℕ) → Alike (n + 0) part t → ◌≡◌ {A = Text} (p, take n t) (p, take n part)
    kept p part t n e = ap (λ (w : List ℕ). (p, w)) (alike_less n (n + 0) part t (omega arith) e)

    up : ItemLocal l (element_of any_tag (walk_contents l)) → (h : Head) (p : ℕ) (part : List ℕ) → HeadOf part h → (b : Bool) → constructor_of (first_of h) ≡ b
        → Local (Reaches h part) 0 (size_of h) (walk_pick b series h p) p part (walk_pick b series h p part)
    up s h p part i true c = local_map (λ t v n. (p, take n t)) (λ t v n e. kept p part t n e) (inside_local series (λ n. series_local (λ k. level l) Another other (λ k f. (refl, refl)) (λ k. s) (some []) n 0) p part h i)
    up s h p part i false c = local_map (λ t v n. (p, take n t)) (λ t v n e. kept p part t n e) (leaf_contents_local (λ c. true) h p part i c)

-- The walker takes just the elements, of any size. Assumes nothing.
use Prim.Native.Nat.{ℕ, zero, suc, ◌≤◌}
use mathlib.Core.Path.{◌≡◌, refl, sym, ap, ◌∙◌}
use mathlib.Core.Logic.{inl, inr}
use mathlib.Core.Bool.{Bool, true, false, not}
use mathlib.Core.List.{List, [], ◌∷◌, ◌++◌, append-nil, map}
use mathlib.Core.Option.{some}
use native.Mathlib.Omega.{arith}
use lib.ListN.{length, take, drop, length-append, length-drop}
use lib.Seq.{take-append_seam, take_all}
use lib.Dec.{ltb}
use borrow.Author.Tests.{eqb-true, eq-eqb, lt-ltb}
use Rattle.element.specs.Form.{Form, exactly, Matches, series_form, document01}
use Rattle.element.specs.Element.{IsElement, Element, constructor_of, code_zero}
use Rattle.base.specs.Value.{Every}
use Rattle.element.specs.declared.FaultKind.{FaultKind}
use Rattle.element.specs.declared.FaultKind.TheVariants.{Another}
use Rattle.element.specs.declared.EndRead.TheVariants.{Ended as ended}
use Rattle.element.specs.Head.{end_of, tag_of}
use Rattle.element.specs.Ask.{got, next, Head, Body, ask, blamed}
use Rattle.element.specs.Fault.{Text}
use Rattle.element.specs.Parts.{Item, Where, level, first_of, series_body, only_body, onward}
use Rattle.element.specs.Walk.{walk_pick, walk_contents, walk_item, walk_tag_item}
use Rattle.element.proofs.Asking.{Then, fact, void, the_fact, then_next, ask_sound, then_weaken, next_of, HeadOf, finite, unended}
use Rattle.element.proofs.ItemLaws.{ItemLaws, BodyLaws, leaf_octets, leaf_sound, inside_complete, inside_sound, Asked, asked_complete, asked_sound}
use Rattle.element.proofs.Joins.{series_laws, only_laws}

-- an element takes octets
no_head : (h : Head) → HeadOf [] h → ⊥
unfolding tag_of
no_head h (finite a s k n t z l) = let z : ◌≡◌ {A = ℕ} 0 1 = cc in absurd (omega arith)
no_head h (unended a s t z l) = let z : ◌≡◌ {A = ℕ} 0 1 = cc in absurd (omega arith)

some_octets : (m : List ℕ) (h : Head) → HeadOf (m ++ []) h → 1 ≤ length m
some_octets [] h i = absurd (no_head h i)
some_octets (x ∷ r) h i = omega arith

module _ {L A : Type 0} (x : Item L) (mx : L → A) (fx : A → Form) (okx : A → Type 0) (xs : ItemLaws x mx fx okx) where
  -- so a series has no more elements than octets
  few : (ws : List A) (m : List ℕ) → Every okx ws → Matches document01 (series_form fx ws) m → length ws ≤ length m
  unfolding Every series_form Matches
  few [] m o e = omega arith
  few (a ∷ ws) m o (s, r, e, f, g) =
      let c = xs.complete a s [] 0 o.0 f in
      omega (arith, some_octets s c.lead c.heads, few ws r o.1 g, ap length e, length-append s r)

  -- and the room of n elements is enough in n octets
  pub enough_laws : (w : ℕ → Where) (other : FaultKind) → ((k : ℕ) (a : A) → okx a → ltb 0 (w k).left ≡ true) → (n : ℕ) → BodyLaws n (series_body w other x (some []) n 0) (map mx) (series_form fx) (Every okx)
  enough_laws w other deep n =
      let laws = series_laws w other x mx fx okx n xs deep (some []) (λ v i. cc) n 0 in
      record {
        complete = λ ws m rest d p k o e h. laws.complete ws m rest d p k (omega (arith, few ws m o e), o, tt) e h;
        empty = λ v e. let t = laws.empty v e in record { within = t.within; matches = t.matches; fine = t.fine.1 };
        sound = λ d p part h i m. then_weaken (laws.sound d p part h i m) λ v k t. (record { within = t.0.within; matches = t.0.matches; fine = t.0.fine.1 }, t.1);
      }

exact : {a m : List ℕ} → m ≡ a → Matches document01 (exactly a) m
unfolding Matches
exact e = e

pub deep_enough : (l a : ℕ) (m : List ℕ) → IsElement l a m → ltb 0 l ≡ true
unfolding IsElement
deep_enough zero a m o = absurd o
deep_enough (suc l) a m o = lt-ltb 0 (suc l) (omega arith)

-- the part begins with the element m
pub record Walks (l a : ℕ) (m rest : List ℕ) (p : ℕ) : Type 0 where
  pub lead : Head
  pub heads : HeadOf (m ++ rest) lead
  pub first : first_of lead ≡ a
  pub reads : walk_contents l lead p (m ++ rest) ≡ got (p, m) (length m)

head_plain : (part : List ℕ) (h : Head) → HeadOf part h → code_zero (first_of h) ≡ false
head_plain part h (finite a s k n t z l) = z
head_plain part h (unended a s t z l) = z

pub record WalkLaws (l : ℕ) : Type 0 where
  pub complete : (a : ℕ) (m rest : List ℕ) (p : ℕ) → IsElement l a m → Walks l a m rest p
  pub sound : (p : ℕ) (part : List ℕ) (h : Head) → HeadOf part h → Then (λ v n. (n ≤ length part) × (v.1 ≡ take n part) × IsElement l (first_of h) (take n part)) (walk_contents l h p part)

not_false : {b : Bool} → b ≡ false → not b ≡ true
not_false e = rw e

item_laws : (l : ℕ) → WalkLaws l → ItemLaws (walk_item l) (λ v. v.1) exactly (Element l)
unfolding Element Matches
item_laws l laws =
    record {
      complete = λ e m rest p o q. let w = laws.complete o.0 m rest p (rw (← q) at o.1) in
          record { lead = w.lead; heads = w.heads; mine = not_false (head_plain _ w.lead w.heads); value = (p, m); reads = w.reads; means = q };
      sound = λ p part h i m. then_weaken (laws.sound p part h i) λ v n t. record { within = t.0; matches = sym t.1; fine = (first_of h, rw t.1 t.2) };
    }

tag_laws : (t l : ℕ) → WalkLaws l → ItemLaws (walk_tag_item t l) (λ v. v.1) exactly (IsElement l t)
unfolding Matches
tag_laws t l laws =
    record {
      complete = λ e m rest p o q. let w = laws.complete t m rest p (rw (← q) at o) in
          record { lead = w.lead; heads = w.heads; mine = eq-eqb (first_of w.lead) t w.first; value = (p, m); reads = w.reads; means = q };
      sound = λ p part h i m. then_weaken (laws.sound p part h i) λ v n w. let q : first_of h ≡ t = eqb-true (first_of h) t m in record { within = w.0; matches = sym w.1; fine = rw (w.1, ← q) w.2 };
    }

module _ (l : ℕ) (laws : WalkLaws l) where
  series : ℕ → Body (List Text)
  series n = series_body (λ k. level l) Another (walk_item l) (some []) n 0

  walked_laws : (n : ℕ) → BodyLaws n (series n) (map (λ v. v.1)) (series_form exactly) (Every (Element l))
  unfolding series Element
  walked_laws n = enough_laws (walk_item l) (λ v. v.1) exactly (Element l) (item_laws l laws) (λ k. level l) Another (λ k a o. deep_enough l o.0 a o.1) n

  up_complete : (a : ℕ) (m rest : List ℕ) (p : ℕ) → IsElement (suc l) a m → Walks (suc l) a m rest p
  unfolding IsElement walk_contents walk_pick Matches series Element
  up_complete a m rest p (x, i, z, inl (k, (c, d))) =
      let (h, j, f, (q, r)) = leaf_octets a x c m rest (λ c. true) p i z refl d in
      record { lead = h; heads = j; first = f; reads = rw (f, k, next_of _ r, take-append_seam m rest) }
  up_complete a m rest p (x, i, z, inr (k, (ws, o, (c, f, d)))) =
      let g = inside_complete series (map (λ v. v.1)) (series_form exactly) (Every (Element l)) walked_laws a x ws c m rest p i z k o f d in
      record { lead = g.lead; heads = g.heads; first = g.first; reads = rw (g.first, k, next_of _ g.reads, take-append_seam m rest) }

  up_sound : (p : ℕ) (part : List ℕ) (h : Head) → HeadOf part h → (b : Bool) → constructor_of (first_of h) ≡ b
      → Then (λ v n. (n ≤ length part) × (v.1 ≡ take n part) × IsElement (suc l) (first_of h) (take n part)) (walk_pick b series h p part)
  unfolding walk_pick IsElement Matches Element
  up_sound p part h i true k =
      then_next (inside_sound series (map (λ v. v.1)) (series_form exactly) (Every (Element l)) walked_laws p part h i) λ v n w.
      fact {a = (p, take n part)} {n = n} (w.within, refl, (w.ext, w.is_tag, w.plain, inr (k, (map (λ v. v.1) v.0, w.fine, (v.1.1, w.matches, w.octets)))))
  up_sound p part h i false k =
      then_next (leaf_sound (λ c. true) p part h i) λ v n w.
      fact {a = (p, take n part)} {n = n} (w.0, refl, (w.2.0, w.2.1, head_plain part h i, inl (k, (v.1, w.2.2))))

  up_laws : WalkLaws (suc l)
  unfolding walk_contents series
  up_laws = record { complete = up_complete; sound = λ p part h i. up_sound p part h i (constructor_of (first_of h)) refl }

pub walk_laws : (l : ℕ) → WalkLaws l
unfolding walk_contents IsElement
walk_laws zero = record { complete = λ a m rest p o. absurd o; sound = λ p part h i. void }
walk_laws (suc l) = up_laws l (walk_laws l)

pub element_laws : (l : ℕ) → ItemLaws (walk_item l) (λ v. v.1) exactly (Element l)
element_laws l = item_laws l (walk_laws l)

pub element_tag_laws : (t l : ℕ) → ItemLaws (walk_tag_item t l) (λ v. v.1) exactly (IsElement l t)
element_tag_laws t l = tag_laws t l (walk_laws l)

-- Octets of any number are one element at a level exactly if the walker takes them all, alone in their part

pub alone : ℕ → Body Text
alone l = only_body (level l) (walk_item l)

pub element_taken : (l : ℕ) (m : List ℕ) (p : ℕ) → Element l m → (v : Text) × (ask (alone l) true p m ≡ got v (length m)) × (v.1 ≡ m)
unfolding alone Element Asked end_of Matches
element_taken l m p (a, o) =
    let w : Asked (only_body (level l) (walk_item l)) (λ v. v.1) m true p (m ++ []) (length m) =
    asked_complete (length m) (only_body (level l) (walk_item l)) (λ v. v.1) exactly (Element l) (only_laws (level l) (walk_item l) (λ v. v.1) exactly (Element l) (length m) (element_laws l) (deep_enough l a m o)) m m [] true p (omega arith) (a, o) refl refl in
    (w.0, rw append-nil at w.1, w.2)

all_taken : (n : ℕ) (m : List ℕ) → end_of true (drop n m) ≡ ended → length m ≤ n
unfolding end_of
all_taken n m e = go (drop n m) refl e
  where
    go : (r : List ℕ) → drop n m ≡ r → end_of true r ≡ ended → length m ≤ n
    go [] q e = omega (arith, length-drop n m, ap length q)
    go (x ∷ r) q e = let z : ◌≡◌ {A = ℕ} 0 1 = cc in absurd (omega arith)

alone_sound : (l : ℕ) (m : List ℕ) (p : ℕ) → Then (λ v n. Element l m) (ask (alone l) true p m)
unfolding alone Matches walk_contents onward next blamed
alone_sound zero m p = shallow
  where
    shallow : Then (λ v n. Element zero m) (ask (only_body (level zero) (walk_item zero)) true p m)
    shallow = ask_sound (λ v n. Element zero m) (only_body (level zero) (walk_item zero)) true p m (λ v e f. let z : ◌≡◌ {A = ℕ} 0 1 = cc in absurd (omega arith)) λ h i k. void
alone_sound (suc l) m p =
    then_weaken (asked_sound (length m) (only_body (level (suc l)) (walk_item (suc l))) (λ v. v.1) exactly (Element (suc l)) (only_laws (level (suc l)) (walk_item (suc l)) (λ v. v.1) exactly (Element (suc l)) (length m) (element_laws (suc l)) (lt-ltb 0 (suc l) (omega arith))) true p m) λ v n t.
    let q : m ≡ v.1 = sym (take_all n m (all_taken n m t.1)) ∙ t.0.matches in rw q t.0.fine

pub taken_element : (l : ℕ) (m : List ℕ) (p : ℕ) (v : Text) (n : ℕ) → ask (alone l) true p m ≡ got v n → Element l m
taken_element l m p v n e = the_fact {P = λ v n. Element l m} {a = v} {n = n} (rw e at (alone_sound l m p))

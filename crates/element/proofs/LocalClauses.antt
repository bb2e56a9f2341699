-- What a clause of document 01 looks at, and the claim that what is found depends on nothing behind it: octets that begin alike, as far as that, and end
-- alike, are answered alike. And that it holds at a place if it holds of what stands there. Assumes nothing.
use Prim.Native.Nat.{ℕ, zero, suc, ◌+◌, ◌≤◌}
use mathlib.Core.Path.{◌≡◌, refl, sym, ap, ◌∙◌}
use mathlib.Core.Logic.{◌⊎◌, inl, inr}
use mathlib.Core.Bool.{Bool, true, false, cond, not, ◌||◌, false≢true}
use mathlib.Core.List.{List, [], ◌∷◌, ◌++◌}
use mathlib.Core.Option.{Option, none, some}
use native.Mathlib.Omega.{arith}
use lib.ListN.{length, get_or, take, drop, length-append, length-take, length-drop}
use lib.Seq.{take-take, take-length, length-take-le}
use lib.Dec.{ltb, eqb}
use borrow.Author.Tests.{eqb-true}
use Rattle.element.specs.Element.{constructor_of, code_zero, extended_of, Definitely, Endlessly}
use Rattle.element.specs.Fault.{Fault, fault, at}
use Rattle.element.specs.declared.FaultKind.{FaultKind}
use Rattle.element.specs.declared.FaultKind.TheVariants.{CutOff, TooDeep, CodeZero, NoMessage, OctetsAfter, Overlong, Missing, Another, TooMany, BadContents, Seventeenth, UnknownComponent}
use Rattle.element.specs.declared.TagRead.{TagRead}
use Rattle.element.specs.declared.TagRead.TheVariants.{Fault as tag_fault, Tag as tag}
use Rattle.element.specs.declared.LengthRead.{LengthRead}
use Rattle.element.specs.declared.LengthRead.TheVariants.{Fault as length_fault, Definite as known, Indefinite as endless}
use Rattle.element.specs.declared.EndRead.{EndRead}
use Rattle.element.specs.declared.EndRead.TheVariants.{Ended as ended, Unfinished as unfinished, More as more}
use Rattle.element.specs.Head.{tag_of, length_of, end_of}
use Rattle.element.specs.Ask.{Got, got, bad, next, check, definite, indefinite, Head, head, Body, ask_length, ask_tag, at_end, ask_end, ask}
use Rattle.element.specs.Parts.{first_of}
use Rattle.element.proofs.Heads.{take_first, TagIs, tag_sound}
use Rattle.element.proofs.Asking.{next_of, more_at, HeadOf, finite, unended, ask_head, ask_ends, ask_missing, ask_unfinished, ask_full, ask_tag_lem, ask_zero, ask_deep, ask_other, ask_length_lem, not_true, Says, head_says}
use Rattle.element.proofs.Reading.{tag_size}
use Rattle.element.proofs.ItemLaws.{no_extension, end_indefinite}
use Rattle.element.proofs.LocalHeads.{Alike, alike_less, alike_all, take_behind, alike_drop, pair, end_alike, More, more_alike, TagFaulty, tag_faulty, tag_alike, length_reach, LengthFaulty, length_faulty, length_alike, endless_alike}

-- What a clause looks at, from its place on

-- the faults that a tag shows
pub data OfTag : FaultKind → Type 0 where
  deep : OfTag TooDeep
  other : OfTag Another
  further : OfTag TooMany
  unknown : OfTag UnknownComponent

pub data Looked : FaultKind → List ℕ → Type 0 where
  -- 14: the contents end, by their length or by their end pair; 12: they do not
  ends : {w : List ℕ} → (w ≡ []) ⊎ (w ≡ 0 ∷ 0 ∷ []) → Looked Missing w
  follows : {w : List ℕ} → length w ≤ 2 → Looked Seventeenth w
  -- 1: no end pair, or 00 alone
  no_pair : {w : List ℕ} → (w ≡ []) ⊎ (w ≡ 0 ∷ []) → Looked CutOff w
  -- 1, 2: a tag that is a fault
  in_tag : {k : FaultKind} {w : List ℕ} → tag_of w ≡ tag_fault k → length w ≤ 4 → Looked k w
  -- 6: code 0, and the octet that could make it an end pair
  zero_tag : {w : List ℕ} → length w ≤ 2 → Looked CodeZero w
  -- 5, 13, 15, 16: the tag
  at_tag : {k : FaultKind} {w : List ℕ} (a : ℕ) → OfTag k → tag_of w ≡ tag a (length w) → Looked k w
  -- 1, 3, 4: the tag and a length that is a fault
  in_length : {k : FaultKind} {w : List ℕ} (a s : ℕ) → tag_of w ≡ tag a s → length_of (drop s w) (constructor_of a) ≡ length_fault k → length (drop s w) ≤ length_reach (get_or (drop s w) 0 0) → Looked k w
  -- 11: the whole element
  in_contents : {w : List ℕ} (a u n : ℕ) → HeadOf w (head a u (definite n)) → u + n ≡ length w → Looked BadContents w
  -- 7, 9: the number of octets, the end of the message
  too_long : Looked Overlong []
  behind : Looked OctetsAfter []
  -- 8: the first octet; of a constructor also the octets up to the end of its ID, 48 j octets on, or those that show that there is none
  no_tag : {a : ℕ} → Looked NoMessage (a ∷ [])
  up_to_id : {w : List ℕ} (j u n : ℕ) → HeadOf (drop j w) (head 0x48 u (definite n)) → j + (u + n) ≡ length w → Looked NoMessage w
  no_id : {k : FaultKind} {w : List ℕ} (j : ℕ) → Looked k (drop j w) → Looked NoMessage w

-- a fault's kind and place
unfoldable pub kind_of : Fault → FaultKind
kind_of (fault k p o i t) = k

unfoldable pub place_of : Fault → ℕ
place_of (fault k p o i t) = p

-- what is known from outside changes neither
abbrev pub Spares : (Fault → Fault) → Type 0
Spares w = (f : Fault) → (kind_of (w f) ≡ kind_of f) × (place_of (w f) ≡ place_of f)

-- The claim: g is what is answered, as a function of the part; R is how another part must end, e how many octets the end takes, base how many are looked at anyway.
-- A value depends on the octets it took and on the end; a fault on those up to its place and on what its clause looks at
pub data Local {A : Type 0} (R : List ℕ → Type 0) (e base : ℕ) (g : List ℕ → Got A) (p : ℕ) (part : List ℕ) : Got A → Type 0 where
  sure : {a : A} {n : ℕ} → base ≤ n → n + e ≤ length part → ((t : List ℕ) → R t → Alike (n + e) part t → g t ≡ got a n) → Local R e base g p part (got a n)
  wrong : {f : Fault} (j q : ℕ) → place_of f ≡ p + j → Looked (kind_of f) (take q (drop j part)) → base ≤ j + q → j + q ≤ length part
      → ((t : List ℕ) → R t → Alike (j + q) part t → g t ≡ bad f) → Local R e base g p part (bad f)

abbrev pub Level : List ℕ → List ℕ → Type 0
Level part t = length t ≡ length part

-- an element whose contents are there; of indefinite contents the end is that of the part
unfoldable pub Reaches : Head → List ℕ → List ℕ → Type 0
Reaches (head a u (definite n)) part t = u + n ≤ length t
Reaches (head a u indefinite) part t = length t ≡ length part

unfoldable pub size_of : Head → ℕ
size_of (head a u z) = u

pub next_bad : {A B : Type 0} {x : Got A} {f : Fault} (k : A → ℕ → Got B) → x ≡ bad f → next x k ≡ bad f
unfolding next
next_bad k e = rw e

module _ {A : Type 0} {R : List ℕ → Type 0} {e base : ℕ} {g : List ℕ → Got A} {p : ℕ} {part : List ℕ} where
  pub local_map : {B : Type 0} {x : Got A} (h : List ℕ → A → ℕ → B) → ((t : List ℕ) (a : A) (n : ℕ) → Alike (n + e) part t → h t a n ≡ h part a n) → Local R e base g p part x
      → Local R e base (λ t. next (g t) (λ a n. got (h t a n) n)) p part (next x (λ a n. got (h part a n) n))
  unfolding next
  local_map h same (sure {a = a} {n = n} b l f) = sure b l (λ t r i. next_of _ (f t r i) ∙ ap (λ v. got v n) (same t a n i))
  local_map h same (wrong j q pl lk b l f) = wrong j q pl lk b l (λ t r i. next_bad _ (f t r i))

  pub local_level : {T : List ℕ → Type 0} {x : Got A} → ((t : List ℕ) → T t → R t) → Local R e base g p part x → Local T e base g p part x
  local_level c (sure b l f) = sure b l (λ t r i. f t (c t r) i)
  local_level c (wrong j q pl lk b l f) = wrong j q pl lk b l (λ t r i. f t (c t r) i)

  pub local_base : {less : ℕ} {x : Got A} → less ≤ base → Local R e base g p part x → Local R e less g p part x
  local_base c (sure {a = a} {n = n} b l f) = sure {a = a} {n = n} (omega arith) l f
  local_base c (wrong {f = w} j q pl lk b l f) = wrong {f = w} j q pl lk (omega arith) l f

  pub local_check : {x : Got A} (b : Bool) (f : Fault) → (b ≡ false → Local R e base g p part (bad f)) → (b ≡ true → Local R e base g p part x) → Local R e base g p part (check b f x)
  unfolding check
  local_check true f h k = k refl
  local_check false f h k = h refl

-- Heads

pub head_alike : (part t : List ℕ) (h : Head) → HeadOf part h → Alike (size_of h) part t → Reaches h part t → HeadOf t h
unfolding size_of Reaches
head_alike part t h (finite a s k n g z l) e r =
    finite a s k n (tag_alike part t a s g (alike_less s (s + k) part t (omega arith) e)) z (length_alike (drop s part) (drop s t) (constructor_of a) k n l (alike_drop s k part t e) (omega (arith, length-drop s t)))
head_alike part t h (unended a s g z l) e r =
    unended a s (tag_alike part t a s g (alike_less s (s + 1) part t (omega arith) e)) z (endless_alike (drop s part) (drop s t) (constructor_of a) l (alike_drop s 1 part t e))

pub head_room : (part : List ℕ) (a u n : ℕ) → HeadOf part (head a u (definite n)) → u + n ≤ length part
unfolding Says
head_room part a u n i =
    let y : Definitely part a u n = head_says part (head a u (definite n)) i in
    omega (arith, ap length y.front, y.used, length-append ((a ∷ y.ext) ++ y.len) (drop u part), y.room)

pub head_least : (part : List ℕ) (a u : ℕ) → HeadOf part (head a u indefinite) → (u ≤ length part) × (constructor_of a ≡ true)
unfolding Says
head_least part a u i =
    let y : Endlessly part a u = head_says part (head a u indefinite) i in
    (omega (arith, ap length y.front, y.used, length-append ((a ∷ y.ext) ++ (0x80 ∷ [])) (drop u part)), y.constructor)

pub head_some : (part : List ℕ) (h : Head) → HeadOf part h → 1 ≤ size_of h
unfolding size_of
head_some part h (finite a s k n g z l) = omega (arith, tag_size part a s g)
head_some part h (unended a s g z l) = omega (arith, tag_size part a s g)

pub level_reaches : (part t : List ℕ) (h : Head) → HeadOf part h → Level part t → Reaches h part t
unfolding Reaches
level_reaches part t (head a u (definite n)) i l = omega (arith, head_room part a u n i)
level_reaches part t (head a u indefinite) i l = l

-- What stands at a place

unfinished_is : (d : Bool) (s : List ℕ) → end_of d s ≡ unfinished → (s ≡ []) ⊎ (s ≡ 0 ∷ [])
unfolding end_of
unfinished_is true [] e = let z : ◌≡◌ {A = ℕ} 0 1 = cc in absurd (omega arith)
unfinished_is true (x ∷ r) e = let z : ◌≡◌ {A = ℕ} 0 1 = cc in absurd (omega arith)
unfinished_is false [] e = inl refl
unfinished_is false (x ∷ []) e = by_first (eqb x 0) refl e
  where
    by_first : (b : Bool) → eqb x 0 ≡ b → cond b unfinished more ≡ unfinished → (x ∷ [] ≡ []) ⊎ (x ∷ [] ≡ 0 ∷ [])
    by_first true z e = inr (ap (λ (y : ℕ). y ∷ []) (eqb-true x 0 z))
    by_first false z e = let z : ◌≡◌ {A = ℕ} 0 1 = cc in absurd (omega arith)
unfinished_is false (x ∷ y ∷ r) e = absurd (by_two (eqb x 0) (eqb y 0) e)
  where
    by_two : (b c : Bool) → cond b (cond c ended more) more ≡ unfinished → ⊥
    by_two true true e = let z : ◌≡◌ {A = ℕ} 0 1 = cc in omega arith
    by_two true false e = let z : ◌≡◌ {A = ℕ} 0 1 = cc in omega arith
    by_two false c e = let z : ◌≡◌ {A = ℕ} 0 1 = cc in omega arith

pair_there : (d : Bool) (s : List ℕ) → end_of d s ≡ ended → (pair d ≤ length s) × ((take (pair d) s ≡ []) ⊎ (take (pair d) s ≡ 0 ∷ 0 ∷ []))
unfolding pair
pair_there true s e = (omega arith, inl refl)
pair_there false s e = let (r, q) = end_indefinite s e in (omega (arith, ap length q), inr (ap (take 2) q))

zero_plain : (a : ℕ) → code_zero a ≡ true → extended_of a ≡ false
unfolding code_zero extended_of
zero_plain a e = by_tests (eqb a 0) (eqb a 32) refl refl e
  where
    by_tests : (b c : Bool) → eqb a 0 ≡ b → eqb a 32 ≡ c → (b || c) ≡ true → extended_of a ≡ false
    by_tests true c h i e = rw (eqb-true a 0 h)
    by_tests false true h i e = rw (eqb-true a 32 i)
    by_tests false false h i e = absurd (false≢true e)

zero_size : (s : List ℕ) (a n : ℕ) → tag_of s ≡ tag a n → code_zero a ≡ true → n ≡ 1
unfolding TagIs
zero_size s a n h z =
    let (x, r, q, i, e) : TagIs s (tag a n) = rw h at (tag_sound s) in
    let y : x ≡ [] = no_extension a x (zero_plain a z) i in
    omega (arith, ap length y)

size_taken : (q : ℕ) (x : List ℕ) → q ≤ length_reach (get_or x 0 0) → length (take q x) ≤ length_reach (get_or (take q x) 0 0)
size_taken zero x h = omega arith
size_taken (suc q) x h = rw (take_first (suc q) x (omega arith)) (omega (arith, length-take (suc q) x))

-- between 1 and 2
some_octets : (n len : ℕ) → n ≤ 2 → n ≤ len → 1 ≤ len → (q : ℕ) × (n ≤ q) × (1 ≤ q) × (q ≤ 2) × (q ≤ len)
some_octets zero len h i j = (1, omega arith, omega arith, omega arith, j)
some_octets (suc n) len h i j = (suc n, omega arith, omega arith, h, i)

not_false : (b : Bool) → not b ≡ false → b ≡ true
not_false true e = refl
not_false false e = absurd (false≢true (sym e))

-- e: how many octets of an end are looked at behind a value; the end pair of the contents, where they may end here
module _ {A : Type 0} (b : Body A) (d : Bool) (p : ℕ) (part : List ℕ) (e : ℕ)
    (whole : (v : A) → b.ends ≡ some v → e ≡ pair d)
    (spares : b.full ≡ false → Spares b.owner)
    (other : (a s : ℕ) → tag_of part ≡ tag a s → b.mine a ≡ false → OfTag b.other)
    (goes : (h : Head) → HeadOf part h → b.full ≡ false → ltb 0 b.left ≡ true → b.mine (first_of h) ≡ true → Local (Level part) e (size_of h) (b.goes d h p) p part (b.goes d h p part)) where
  -- one octet is looked at unless the contents end
  abbrev Asks : ℕ → Got A → Type 0
  Asks base x = Local (Level part) e base (ask b d p) p part x

  -- a fault of kind k at p, whose clause looks at q octets
  here : (base : ℕ) (f : Fault) (k : FaultKind) (q : ℕ) → kind_of f ≡ k → place_of f ≡ p → Looked k (take q part) → base ≤ q → q ≤ length part → ((t : List ℕ) → Level part t → Alike q part t → ask b d p t ≡ bad f) → Asks base (bad f)
  here base f k q e pl lk c l h = wrong {f = f} 0 q (omega arith) (rw e lk) (omega arith) (omega arith) (λ t r i. h t r (alike_less q (0 + q) part t (omega arith) i))

  owned : (k : FaultKind) (q : ℕ) → b.full ≡ false → Looked k (take q part) → 1 ≤ q → q ≤ length part → ((t : List ℕ) → Level part t → Alike q part t → ask b d p t ≡ bad (b.owner (at k p))) → Asks 1 (bad (b.owner (at k p)))
  unfolding kind_of place_of
  owned k q f lk c l h = here 1 (b.owner (at k p)) k q (spares f (at k p)).0 (spares f (at k p)).1 lk c l h

  from_goes : (h : Head) → HeadOf part h → b.full ≡ false → ltb 0 b.left ≡ true → b.mine (first_of h) ≡ true → {x : Got A} → Local (Level part) e (size_of h) (b.goes d h p) p part x → Asks 1 x
  from_goes h i f v o (sure {a = a} {n = n} c l g) =
      sure {a = a} {n = n} (omega (arith, head_some part h i)) l (λ t r w. ask_head b d p t h (head_alike part t h i (alike_less (size_of h) (n + e) part t (omega arith) w) (level_reaches part t h i r)) f v o ∙ g t r w)
  from_goes h i f v o (wrong {f = w} j q pl lk c l g) =
      wrong {f = w} j q pl lk (omega (arith, head_some part h i)) l (λ t r e. ask_head b d p t h (head_alike part t h i (alike_less (size_of h) (j + q) part t c e) (level_reaches part t h i r)) f v o ∙ g t r e)

  at_length : (a s : ℕ) → tag_of part ≡ tag a s → code_zero a ≡ false → b.full ≡ false → ltb 0 b.left ≡ true → b.mine a ≡ true → (l : LengthRead) → length_of (drop s part) (constructor_of a) ≡ l → Asks 1 (ask_length b d p part a s l)
  unfolding ask_length
  at_length a s h z f v o (length_fault k) e =
      let y : LengthFaulty (drop s part) (constructor_of a) k = length_faulty (drop s part) (constructor_of a) k e in
      let q : ℕ = y.looks in
      let g : drop s (take (s + q) part) ≡ take q (drop s part) = sym (take_behind s q part) in
      owned k (s + q) f
      (in_length a s (tag_alike part (take (s + q) part) a s h (take-take s (s + q) part (omega arith))) (rw g y.shown) (rw g (size_taken q (drop s part) y.most)))
      (omega (arith, tag_size part a s h)) (omega (arith, y.there, length-drop s part, tag_size part a s h))
      (λ t r i. let n : tag_of t ≡ tag a s = tag_alike part t a s h (alike_less s (s + q) part t (omega arith) i) in
      ask_length_lem b d p t (more_at d t a s n z) f a s n z k v o (y.alike (drop s t) (omega (arith, length-drop s t, length-drop s part)) (alike_drop s q part t i)))
  at_length a s h z f v o (known k n) e = let i = finite a s k n h z e in from_goes (head a (s + k) (definite n)) i f v o (goes (head a (s + k) (definite n)) i f v o)
  at_length a s h z f v o endless e = let i = unended a s h z e in from_goes (head a (s + 1) indefinite) i f v o (goes (head a (s + 1) indefinite) i f v o)

  at_tag_lem : end_of d part ≡ more → b.full ≡ false → (t : TagRead) → tag_of part ≡ t → Asks 1 (ask_tag b d p part t)
  unfolding ask_tag
  at_tag_lem m f (tag_fault k) h =
      let y : TagFaulty d part k = tag_faulty d part k m h in
      owned k y.looks f (in_tag y.shown (omega (arith, y.most, length-take y.looks part))) y.least y.there (λ t r i. let n = y.alike t r i in ask_tag_lem b d p t n.0 f k n.1)
  at_tag_lem m f (tag a s) h =
      let g = tag_size part a s h in
      let shown : tag_of (take s part) ≡ tag a (length (take s part)) = tag_alike part (take s part) a s h (take-take s s part (omega arith)) ∙ ap (tag a) (sym (length-take-le s part g.1)) in
      local_check (not (code_zero a)) _
      (λ z. let x : code_zero a ≡ true = not_false (code_zero a) z in
      let y : More d part = more_alike d part m in
      let (q, i, j, k, l) = some_octets y.looks (length part) y.most y.there (omega arith) in
      owned CodeZero q f (zero_tag (omega (arith, length-take q part))) j l
      (λ t r e. ask_zero b d p t (y.alike t r (alike_less y.looks q part t i e)) f a s (tag_alike part t a s h (alike_less s q part t (omega (arith, zero_size part a s h x)) e)) x)) λ z.
      let x : code_zero a ≡ false = not_true (code_zero a) z in
      local_check (ltb 0 b.left) _
      (λ v. owned TooDeep s f (at_tag a deep shown) g.0 g.1 (λ t r e. let n = tag_alike part t a s h e in ask_deep b d p t (more_at d t a s n x) f a s n x v)) λ v.
      local_check (b.mine a) _
      (λ o. owned b.other s f (at_tag a (other a s h o) shown) g.0 g.1 (λ t r e. let n = tag_alike part t a s h e in ask_other b d p t (more_at d t a s n x) f a s n x v o)) λ o.
      at_length a s h x f v o (length_of (drop s part) (constructor_of a)) refl

  at_end_of : (o : Option A) → b.ends ≡ o → end_of d part ≡ ended → Asks 0 (at_end b d p part o)
  unfolding at_end kind_of place_of
  at_end_of none f m = let (l, w) = pair_there d part m in here 0 (at Missing p) Missing (pair d) refl refl (ends w) (omega arith) l (λ t r i. ask_missing b d p t (end_alike d part t r i m) f)
  at_end_of (some v) f m = let (l, w) = pair_there d part m in sure {a = v} {n = 0} (omega arith) (omega (arith, whole v f)) (λ t r i. ask_ends b d p t v (end_alike d part t r (alike_less (pair d) (0 + e) part t (omega (arith, whole v f)) i) m) f)

  at_end_lem : (r : EndRead) → end_of d part ≡ r → Asks 0 (ask_end b d p part r)
  unfolding ask_end kind_of place_of
  at_end_lem ended m = at_end_of b.ends refl m
  at_end_lem unfinished m =
      here 0 (at CutOff p) CutOff (length part) refl refl (no_pair (rw (take-length part) (unfinished_is d part m))) (omega arith) (omega arith)
      (λ t r i. let y : t ≡ part = alike_all (length part) part t r (omega arith) i in ask_unfinished b d p t (rw y m))
  at_end_lem more m =
      let y : More d part = more_alike d part m in
      local_check (not b.full) _
      (λ f. here 0 (at Seventeenth p) Seventeenth y.looks refl refl (follows (omega (arith, y.most, length-take y.looks part))) (omega arith) y.there (λ t r i. ask_full b d p t (y.alike t r i) (not_false b.full f)))
      (λ f. local_base (omega arith) (at_tag_lem m (not_true b.full f) (tag_of part) refl))

  pub ask_local : Asks 0 (ask b d p part)
  unfolding ask
  ask_local = at_end_lem (end_of d part) refl

  asks_tag : end_of d part ≡ more → b.full ≡ false → ask b d p part ≡ ask_tag b d p part (tag_of part)
  unfolding ask ask_end check
  asks_tag m f = rw m (ap (λ (x : Bool). check (not x) (at Seventeenth p) (ask_tag b d p part (tag_of part))) f)

  pub ask_more_local : end_of d part ≡ more → b.full ≡ false → Asks 1 (ask b d p part)
  ask_more_local m f = rw (asks_tag m f) (at_tag_lem m f (tag_of part) refl)

-- Each combinator reads strings that stand in the octets where they say, one behind the other, and its faults are found in its octets.
-- Assumes nothing.
use Prim.Native.Nat.{ℕ, zero, suc, ◌+◌, ◌≤◌, ◌<◌}
use mathlib.Core.Path.{◌≡◌, refl, sym, ap, ◌∙◌}
use mathlib.Core.Logic.{◌⊎◌, inl, inr}
use mathlib.Core.Bool.{Bool, true, false, ◌||◌, false≢true}
use mathlib.Core.List.{List, [], ◌∷◌, ◌++◌, append_assoc}
use mathlib.Core.Option.{map, Option, none, some}
use native.Mathlib.Omega.{arith}
use native.Mathlib.Nat.{add-zero, add_assoc}
use lib.ListN.{length, take, drop, length-append, length-drop, take-append-drop}
use lib.Seq.{drop-append_seam, take-append_seam, length-take-le, drop-drop}
use borrow.Author.Tests.{eqb-true}
use Rattle.base.specs.Value.{Every}
use Rattle.element.specs.Form.{StandsFor}
use Rattle.element.specs.Element.{IsTag, constructor_of, extended_of, Definitely, Endlessly}
use Rattle.element.specs.Fault.{number_of, Text, Fault, at}
use Rattle.element.specs.declared.FaultKind.{FaultKind}
use Rattle.element.specs.declared.FaultKind.TheVariants.{BadLength, BadContents, Another, TooDeep}
use Rattle.element.specs.declared.EndRead.TheVariants.{Ended as ended}
use Rattle.element.specs.Head.{end_of}
use Rattle.element.specs.Ask.{Got, definite, indefinite, Head, head, Body, ask}
use Rattle.element.specs.Parts.{Item, Where, level, first_of, leaf_contents, leaf_item, inside, around_item, kept_item, map_item, or_item, place, done, onward, silently, bind_body, only_body, last_body, opt_pick, opt_body, map_body, series_body}
use Rattle.element.specs.Walk.{walk_pick, element_of, any_tag, walk_contents}
use Rattle.element.proofs.Asking.{HeadOf, Says, head_says}
use Rattle.element.proofs.Ends.{Ends, held, failed, ends_next, ends_weaken, ends_check, ends_blamed, ends_cond, Plain, ends_ask}
use Rattle.element.proofs.ItemLaws.{no_extension, end_indefinite}

-- Strings

-- the octets c stand at p
pub record Here (m : List ℕ) (p : ℕ) (c : List ℕ) : Type 0 where
  pub before : List ℕ
  pub rest : List ℕ
  pub octets : m ≡ before ++ (c ++ rest)
  pub place : p ≡ length before

-- the octets c stand at p, behind the tag t and their length, or behind the tag of a constructor and 80
pub record Behind (m : List ℕ) (t p : ℕ) (c : List ℕ) : Type 0 where
  pub before : List ℕ
  pub len : List ℕ
  pub rest : List ℕ
  pub octets : m ≡ before ++ (t ∷ (len ++ (c ++ rest)))
  pub place : p ≡ length before + suc (length len)
  pub stands : StandsFor len (length c) ⊎ ((constructor_of t ≡ true) × (len ≡ 0x80 ∷ []))

abbrev pub StandsAt : List ℕ → Option ℕ × Text → Type 0
StandsAt m (none, (p, c)) = Here m p c
StandsAt m (some t, (p, c)) = Behind m t p c

-- the strings stand between lo and hi, each behind the end of the one before it
pub data Laid (m : List ℕ) : ℕ → ℕ → List (Option ℕ × Text) → Type 0 where
  stop : {lo hi : ℕ} → lo ≤ hi → Laid m lo hi []
  step : {lo hi : ℕ} {s : Option ℕ × Text} {l : List (Option ℕ × Text)} → StandsAt m s → lo ≤ s.1.0 → Laid m (s.1.0 + length s.1.1) hi l → Laid m lo hi (s ∷ l)

here_drop : {m : List ℕ} {p : ℕ} {c : List ℕ} (n : ℕ) → n ≤ length c → Here m p c → Here m (p + n) (drop n c)
here_drop {c = c} n i h =
    record {
      before = h.before ++ take n c;
      rest = h.rest;
      octets = h.octets ∙ ap (λ (x : List ℕ). h.before ++ (x ++ h.rest)) (sym (take-append-drop n c)) ∙ simp append_assoc;
      place = omega (arith, h.place, length-append h.before (take n c), length-take-le n c i);
    }

here_take : {m : List ℕ} {p : ℕ} {c : List ℕ} (n : ℕ) → Here m p c → Here m p (take n c)
here_take {c = c} n h =
    record {
      before = h.before;
      rest = drop n c ++ h.rest;
      octets = h.octets ∙ ap (λ (x : List ℕ). h.before ++ (x ++ h.rest)) (sym (take-append-drop n c)) ∙ simp append_assoc;
      place = h.place;
    }

-- what stands at p begins with a tag and a length
module _ {m : List ℕ} {p : ℕ} {part : List ℕ} {a u : ℕ} (ext len : List ℕ) (t : ℕ) (at-t : a ≡ t) (simple : extended_of t ≡ false) (is : IsTag a ext)
    (front : part ≡ ((a ∷ ext) ++ len) ++ drop u part) (used : u ≡ length ((a ∷ ext) ++ len)) (h : Here m p part) where
  one_octet_lem : (a ∷ ext) ++ len ≡ t ∷ len
  one_octet_lem = let y : ext ≡ [] = no_extension a ext (rw at-t simple) is in rw (y, at-t)

  here_behind : (n : ℕ) → StandsFor len (length (take n (drop u part))) ⊎ ((constructor_of a ≡ true) × (len ≡ 0x80 ∷ [])) → Behind m t (p + u) (take n (drop u part))
  here_behind n s =
      record {
        before = h.before;
        len = len;
        rest = drop n (drop u part) ++ h.rest;
        octets =
            h.octets ∙ ap (λ (x : List ℕ). h.before ++ (x ++ h.rest)) (front ∙ ap (λ (x : List ℕ). x ++ drop u part) one_octet_lem)
            ∙ ap (λ (x : List ℕ). h.before ++ ((t ∷ (len ++ x)) ++ h.rest)) (sym (take-append-drop n (drop u part))) ∙ simp append_assoc;
        place = omega (arith, h.place, ap length one_octet_lem);
        stands = rw at-t at s;
      }

pub stands_here : {m : List ℕ} (s : Option ℕ × Text) → StandsAt m s → Here m s.1.0 s.1.1
stands_here (none, (p, c)) h = h
stands_here (some t, (p, c)) h =
    record {
      before = h.before ++ (t ∷ h.len);
      rest = h.rest;
      octets = h.octets ∙ simp append_assoc;
      place = omega (arith, h.place, length-append h.before (t ∷ h.len));
    }

pub here_within : {m : List ℕ} {p : ℕ} {c : List ℕ} → Here m p c → (p + length c ≤ length m) × (take (length c) (drop p m) ≡ c)
here_within {c = c} h = (
  omega (arith, h.place, ap length h.octets, length-append h.before (c ++ h.rest), length-append c h.rest),
  rw (h.octets, h.place, drop-append_seam h.before (c ++ h.rest)) (take-append_seam c h.rest),
)

pub laid_wider : {m : List ℕ} {l : List (Option ℕ × Text)} {lo hi : ℕ} (lo' hi' : ℕ) → lo' ≤ lo → hi ≤ hi' → Laid m lo hi l → Laid m lo' hi' l
laid_wider lo' hi' i j (stop h) = stop {lo = lo'} {hi = hi'} (omega arith)
laid_wider lo' hi' i j (step {s = s} t h r) = step {lo = lo'} {s = s} t (omega arith) (laid_wider (s.1.0 + length s.1.1) hi' (omega arith) j r)

laid_one : {m : List ℕ} (s : Option ℕ × Text) (lo hi : ℕ) → StandsAt m s → lo ≤ s.1.0 → s.1.0 + length s.1.1 ≤ hi → Laid m lo hi (s ∷ [])
laid_one s lo hi t i j = step t i (stop j)

pub laid_append : {m : List ℕ} {k l : List (Option ℕ × Text)} {lo mid hi : ℕ} → Laid m lo mid k → Laid m mid hi l → Laid m lo hi (k ++ l)
laid_append {lo = lo} {hi = hi} (stop h) g = laid_wider lo hi h (omega arith) g
laid_append (step {s = s} t h r) g = step {s = s} t h (laid_append r g)

-- whichever strings there are
pub laid_none : {m : List ℕ} {l : List (Option ℕ × Text)} {lo hi : ℕ} → Laid m lo hi l → lo ≤ hi
laid_none (stop h) = h
laid_none (step t h r) = omega (arith, laid_none r)

pub laid_each : {m : List ℕ} {P : Option ℕ × Text → Type 0} {l : List (Option ℕ × Text)} {lo hi : ℕ} → ((s : Option ℕ × Text) → StandsAt m s → P s) → Laid m lo hi l → Every P l
unfolding Every
laid_each f (stop h) = tt
laid_each f (step {s = s} t h r) = (f s t, laid_each f r)

definite_within : {part : List ℕ} {a u n : ℕ} → Definitely part a u n → u + n ≤ length part
definite_within {part} {a} {u} {n} s = omega (arith, ap length s.front, s.used, length-append ((a ∷ s.ext) ++ s.len) (drop u part), s.room)

endless_within : {part : List ℕ} {a u : ℕ} (k : ℕ) → Endlessly part a u → end_of false (drop k (drop u part)) ≡ ended → k ≤ length (drop u part) → u + (k + 2) ≤ length part
endless_within {part} {a} {u} k s e i =
    omega (arith, ap length s.front, s.used, length-append ((a ∷ s.ext) ++ (0x80 ∷ [])) (drop u part), length-drop k (drop u part), ap length (end_indefinite (drop k (drop u part)) e).1)

-- What is claimed

-- of a fault found in contents that end at a place
pub record Claim : Type 1 where
  pub Of : ℕ → Fault → Type 0
  pub grows : (i j : ℕ) (f : Fault) → i ≤ j → Of i f → Of j f
  pub found : (k : FaultKind) (p : ℕ) → Plain k → Of p (at k p)

-- what is known of a fault from outside keeps the claim
abbrev pub Keeps : Claim → (Fault → Fault) → Type 0
Keeps q w = (hi : ℕ) (f : Fault) → q.Of hi f → q.Of hi (w f)

found_in : (q : Claim) (k : FaultKind) (p : ℕ) (part : List ℕ) → Plain k → q.Of (p + length part) (at k p)
found_in q k p part i = q.grows p (p + length part) (at k p) (omega arith) (q.found k p i)

-- of a value that was read from one place to another
abbrev pub Span : Type 0 → Type 1
Span L = L → ℕ → ℕ → Type 0

-- that its strings stand between them
abbrev pub strung : List ℕ → {L : Type 0} → (L → List (Option ℕ × Text)) → Span L
strung m S v lo hi = Laid m lo hi (S v)

-- of n octets of a part
pub record Lies (part : List ℕ) (p n : ℕ) (S : ℕ → ℕ → Type 0) : Type 0 where
  pub within : n ≤ length part
  pub laid : S p (p + n)

pub record ItemLaid (m : List ℕ) (q : Claim) {L : Type 0} (x : Item L) (S : Span L) : Type 0 where
  pub reads : (p : ℕ) (part : List ℕ) (h : Head) → Here m p part → HeadOf part h → x.mine (first_of h) ≡ true → Ends (λ v n. Lies part p n (S v)) (q.Of (p + length part)) (x.contents h p part)

pub record BodyLaid (m : List ℕ) (q : Claim) {L : Type 0} (b : Body L) (S : Span L) : Type 0 where
  pub nothing : (v : L) → b.ends ≡ some v → (p : ℕ) → S v p p
  pub owned : b.full ≡ false → Keeps q b.owner
  pub plain : Plain b.other
  pub goes : (d : Bool) (p : ℕ) (part : List ℕ) (h : Head) → Here m p part → HeadOf part h → b.full ≡ false → b.mine (first_of h) ≡ true
      → Ends (λ v n. Lies part p n (S v) × (end_of d (drop n part) ≡ ended)) (q.Of (p + length part)) (b.goes d h p part)

pub nothing_ends : {L A : Type 0} {v : L} → none ≡ some v → A
nothing_ends e = let z : ◌≡◌ {A = ℕ} 0 1 = cc in absurd (omega arith)

-- the contents stand behind a tag of one octet
leaf_contents_lem : {m : List ℕ} (q : Claim) (fits : List ℕ → Bool) (p : ℕ) (part : List ℕ) (h : Head) → Here m p part → HeadOf part h
    → Ends (λ v n. (n ≤ length part) × ((t : ℕ) → first_of h ≡ t → extended_of t ≡ false → Laid m p (p + n) ((some t, v) ∷ []))) (q.Of (p + length part)) (leaf_contents fits h p part)
unfolding leaf_contents Says number_of
leaf_contents_lem q fits p part (head a u (definite n)) e i =
    let s : Definitely part a u n = head_says part (head a u (definite n)) i in
    let z : length (take n (drop u part)) ≡ n = length-take-le n (drop u part) s.room in
    ends_check (fits (take n (drop u part))) _ (λ _. found_in q BadContents p part refl) λ o.
    held {a = (p + u, take n (drop u part))} {n = u + n} (definite_within s, λ t j x. step (here_behind s.ext s.len t j x s.is_tag s.front s.used e n (inl (rw z s.stands))) (omega arith) (stop (omega arith)))
leaf_contents_lem q fits p part (head a u indefinite) e i = ends_check false _ (λ _. found_in q BadLength p part refl) λ o. absurd (false≢true o)

module _ {m : List ℕ} {q : Claim} where
  asked_laid : {L : Type 0} {b : Body L} {S : Span L} → BodyLaid m q b S → (d : Bool) (p : ℕ) (part : List ℕ) (hi : ℕ) → p + length part ≤ hi → Here m p part
      → Ends (λ v n. Lies part p n (S v) × (end_of d (drop n part) ≡ ended)) (q.Of hi) (ask b d p part)
  asked_laid {b = b} s d p part hi l e =
      ends_weaken
      (ends_ask b d p part (λ v f g. (record { within = omega arith; laid = rw add-zero (s.nothing v f p) }, g))
      (λ k i. found_in q k p part i) (λ f g. s.owned f (p + length part) g) (found_in q b.other p part s.plain) (λ h i f k. s.goes d p part h e i f k))
      (λ v n i. i) (λ f i. q.grows (p + length part) hi f l i)

  -- Primitives and constructors

  pub leaf_laid : (t : ℕ) (fits : List ℕ → Bool) → extended_of t ≡ false → ItemLaid m q (leaf_item t fits) (strung m (λ s. (some t, s) ∷ []))
  leaf_laid t fits x = record { reads = λ p part h e i k. ends_weaken (leaf_contents_lem q fits p part h e i) (λ v n g. record { within = g.0; laid = g.1 t (eqb-true (first_of h) t k) x }) (λ f g. g) }

  -- the body's strings, and the contents themselves
  module _ {L : Type 0} {b : ℕ → Body L} {S : L → List (Option ℕ × Text)} (s : (n : ℕ) → BodyLaid m q (b n) (strung m S)) where
    inside_laid : (p : ℕ) (part : List ℕ) (h : Head) → Here m p part → HeadOf part h
        → Ends (λ v n. Lies part p n (strung m S v.0) × ((t : ℕ) → first_of h ≡ t → extended_of t ≡ false → Laid m p (p + n) ((some t, v.1) ∷ []))) (q.Of (p + length part)) (inside b h p part)
    unfolding inside Says
    inside_laid p part (head a u (definite n)) e i =
        let y : Definitely part a u n = head_says part (head a u (definite n)) i in
        let c : List ℕ = take n (drop u part) in
        let w : u + n ≤ length part = definite_within y in
        let z : length c ≡ n = length-take-le n (drop u part) y.room in
        ends_next (asked_laid (s n) true (p + u) c (p + length part) (omega arith) (here_take n (here_drop u (omega arith) e))) λ v k g.
        held {a = (v, (p + u, c))} {n = u + n} (
          record { within = w; laid = laid_wider p (p + (u + n)) (omega arith) (omega (arith, g.0.within)) g.0.laid },
          λ t j x. step (here_behind y.ext y.len t j x y.is_tag y.front y.used e n (inl (rw z y.stands))) (omega arith) (stop (omega arith)),
        )
    inside_laid p part (head a u indefinite) e i =
        let y : Endlessly part a u = head_says part (head a u indefinite) i in
        let r : List ℕ = drop u part in
        let l : length part ≡ u + length r = ap length y.front ∙ length-append ((a ∷ y.ext) ++ (0x80 ∷ [])) r ∙ ap (λ (x : ℕ). x + length r) (sym y.used) in
        ends_next (asked_laid (s (length r)) false (p + u) r (p + length part) (omega arith) (here_drop u (omega arith) e)) λ v k g.
        let z : length (take k r) ≡ k = length-take-le k r g.0.within in
        held {a = (v, (p + u, take k r))} {n = u + (k + 2)} (
          record { within = endless_within k y g.1 g.0.within; laid = laid_wider p (p + (u + (k + 2))) (omega arith) (omega arith) g.0.laid },
          λ t j x. step (here_behind y.ext (0x80 ∷ []) t j x y.is_tag y.front y.used e k (inr (y.constructor, refl))) (omega arith) (stop (omega arith)),
        )

  pub around_laid : {L : Type 0} {b : Body L} {S : L → List (Option ℕ × Text)} (t : ℕ) → BodyLaid m q b (strung m S) → ItemLaid m q (around_item t b) (strung m S)
  around_laid t s = record { reads = λ p part h e i k. ends_next (inside_laid (λ n. s) p part h e i) λ v n g. held {a = v.0} {n = n} g.0 }

  pub kept_laid : {L : Type 0} {b : ℕ → Body L} {S : L → List (Option ℕ × Text)} (t : ℕ) → extended_of t ≡ false → ((n : ℕ) → BodyLaid m q (b n) (strung m S)) → ItemLaid m q (kept_item t b) (strung m (λ s. (some t, s) ∷ []))
  kept_laid t x s = record { reads = λ p part h e i k. ends_next (inside_laid s p part h e i) λ v n g. held {a = v.1} {n = n} (record { within = g.0.within; laid = g.1 t (eqb-true (first_of h) t k) x }) }

  -- Items put together

  pub item_weaken : {L : Type 0} {x : Item L} {S T : Span L} → ((v : L) (lo hi : ℕ) → S v lo hi → T v lo hi) → ItemLaid m q x S → ItemLaid m q x T
  item_weaken g s = record { reads = λ p part h e i k. ends_weaken (s.reads p part h e i k) (λ v n j. record { within = j.within; laid = g v p (p + n) j.laid }) (λ f j. j) }

  pub map_laid : {L M : Type 0} {x : Item L} {S : Span L} {T : Span M} (f : L → M) → ((v : L) (lo hi : ℕ) → S v lo hi → T (f v) lo hi) → ItemLaid m q x S → ItemLaid m q (map_item f x) T
  map_laid f g s = record { reads = λ p part h e i k. ends_next (s.reads p part h e i k) λ v n j. held {a = f v} {n = n} (record { within = j.within; laid = g v p (p + n) j.laid }) }

  pub or_laid : {L : Type 0} {x y : Item L} {S : Span L} → ItemLaid m q x S → ItemLaid m q y S → ItemLaid m q (or_item x y) S
  or_laid {x = x} s t = record { reads = λ p part h e i k. ends_cond (x.mine (first_of h)) (λ j. s.reads p part h e i j) (λ j. t.reads p part h e i (rw j at k)) }

  -- Contents: what comes next, and the join of its claim and that of the rest

  onward_laid : {L M C : Type 0} (owner : Fault → Fault) {x : Got L} (note : L → Fault → Fault) (y : L → Body M) (f : L → M → C) (S : Span L) (T : L → Span M) (U : Span C) (d : Bool) (p : ℕ) (part : List ℕ)
      → Keeps q owner → ((v : L) (lo hi : ℕ) → S v lo hi → Keeps q (note v)) → ((v : L) → BodyLaid m q (y v) (T v)) → ((v : L) (b : M) (lo mid hi : ℕ) → S v lo mid → T v b mid hi → U (f v b) lo hi)
      → Here m p part → Ends (λ v n. Lies part p n (S v)) (q.Of (p + length part)) x
      → Ends (λ v n. Lies part p n (U v) × (end_of d (drop n part) ≡ ended)) (q.Of (p + length part)) (onward owner x note y f d p part)
  unfolding onward
  onward_laid owner note y f S T U d p part o k t g e s =
      ends_next (ends_blamed owner (o (p + length part)) s) λ v n i.
      ends_blamed (note v) (k v p (p + n) i.laid (p + length part))
      (ends_next (asked_laid (t v) d (p + n) (drop n part) (p + length part) (omega (arith, i.within, length-drop n part)) (here_drop n i.within e)) λ b j h.
      held {a = f v b} {n = n + j} (
        record { within = omega (arith, i.within, h.0.within, length-drop n part); laid = rw (← add_assoc) (g v b p (p + n) (p + n + j) i.laid h.0.laid) },
        rw drop-drop at h.1,
      ))

  -- an element and then the rest, where the contents may end as e says
  place_laid : {L M C : Type 0} (w : Where) (e : Option C) (other : FaultKind) {x : Item L} (note : L → Fault → Fault) (y : L → Body M) (f : L → M → C) {S : Span L} {T : L → Span M} {U : Span C}
      → Plain other → ((v : C) → e ≡ some v → (p : ℕ) → U v p p) → Keeps q w.owner → ((v : L) (lo hi : ℕ) → S v lo hi → Keeps q (note v))
      → ((v : L) (b : M) (lo mid hi : ℕ) → S v lo mid → T v b mid hi → U (f v b) lo hi) → ItemLaid m q x S → ((v : L) → BodyLaid m q (y v) (T v))
      → BodyLaid m q (place w e x.mine other (λ d h p part. onward w.owner (x.contents h p part) note y f d p part)) U
  place_laid w e other note y f {S = S} {T = T} {U = U} c z o k g s t =
      record { nothing = z; owned = λ _. o; plain = c; goes = λ d p part h e i _ j. onward_laid w.owner note y f S T U d p part o k t g e (s.reads p part h e i j) }

  pub bind_laid : {L M : Type 0} (w : Where) (note : L → Fault → Fault) {x : Item L} {y : L → Body M} {S : Span L} {T : L → Span M} {U : Span (L × M)} → Keeps q w.owner → ((v : L) (lo hi : ℕ) → S v lo hi → Keeps q (note v))
      → ((v : L) (b : M) (lo mid hi : ℕ) → S v lo mid → T v b mid hi → U (v, b) lo hi) → ItemLaid m q x S → ((v : L) → BodyLaid m q (y v) (T v)) → BodyLaid m q (bind_body w note x y) U
  unfolding number_of
  bind_laid w note {y = y} o k g s t = place_laid w none Another note y (λ a b. (a, b)) refl (λ v i. nothing_ends i) o k g s t

  done_laid : {L : Type 0} (w : Where) (v : L) → Keeps q w.owner → BodyLaid m q (done w v) (λ v lo hi. lo ≡ hi)
  unfolding number_of
  done_laid w v o = record { nothing = λ v i p. refl; owned = λ _. o; plain = refl; goes = λ d p part h e i f j. absurd (false≢true j) }

  pub only_laid : {L : Type 0} (w : Where) {x : Item L} {S : Span L} → Keeps q w.owner → ItemLaid m q x S → BodyLaid m q (only_body w x) S
  unfolding number_of
  only_laid w o s = place_laid w none Another silently (λ a. done w a) (λ a b. a) refl (λ v i. nothing_ends i) o (λ v lo hi i j f h. h) (λ v b lo mid hi i j. rw j at i) s (λ v. done_laid w v o)

  pub last_laid : {L : Type 0} (w : Where) {x : Item L} {S : Span L} {U : Span (Option L)} → Keeps q w.owner → ((p : ℕ) → U none p p) → ((v : L) (lo hi : ℕ) → S v lo hi → U (some v) lo hi) → ItemLaid m q x S → BodyLaid m q (last_body w x) U
  unfolding number_of
  last_laid w o z g s =
      place_laid w (some none) Another silently (λ a. done w a) (λ a b. some a) refl (λ v i p. let y : none ≡ v = cc in rw (← y) (z p)) o (λ v lo hi i j f h. h) (λ v b lo mid hi i j. g v lo hi (rw j at i)) s (λ v. done_laid w v o)

  pub opt_laid : {L M : Type 0} {x : Item L} {y : Body M} {S : Span L} {T : Span M} {U : Span (Option L × M)} → ((b : M) (lo hi : ℕ) → T b lo hi → U (none, b) lo hi) → ((v : L) (b : M) (lo mid hi : ℕ) → S v lo mid → T b mid hi → U (some v, b) lo hi)
      → ItemLaid m q x S → BodyLaid m q y T → BodyLaid m q (opt_body x y) U
  unfolding opt_pick
  opt_laid {L} {M} {x = x} {y = y} {S = S} {T = T} {U = U} z g s t =
      record { nothing = at_end_lem y.ends refl; owned = t.owned; plain = t.plain; goes = λ d p part h e i f j. pick d p part h e i f (x.mine (first_of h)) refl j }
    where
      at_end_lem : (o : Option M) → y.ends ≡ o → (v : Option L × M) → map (λ b. (none, b)) o ≡ some v → (p : ℕ) → U v p p
      at_end_lem none i v e p = nothing_ends e
      at_end_lem (some b) i v e p = let y : (none, b) ≡ v = cc in rw (← y) (z b p p (t.nothing b i p))

      pick : (d : Bool) (p : ℕ) (part : List ℕ) (h : Head) → Here m p part → HeadOf part h → y.full ≡ false → (b : Bool) → x.mine (first_of h) ≡ b → (b || y.mine (first_of h)) ≡ true
          → Ends (λ v n. Lies part p n (U v) × (end_of d (drop n part) ≡ ended)) (q.Of (p + length part)) (opt_pick b (x.contents h p part) y d h p part)
      pick d p part h e i f true j k = onward_laid y.owner silently (λ a. y) (λ a b. (some a, b)) S (λ v. T) U d p part (t.owned f) (λ v lo hi i j f h. h) (λ v. t) g e (s.reads p part h e i j)
      pick d p part h e i f false j k = ends_next (t.goes d p part h e i f k) λ b n c. held {a = (none, b)} {n = n} (record { within = c.0.within; laid = z b p (p + n) c.0.laid }, c.1)

  pub map_body_laid : {L M : Type 0} {b : Body L} {S : Span L} {T : Span M} (f : L → M) → ((v : L) (lo hi : ℕ) → S v lo hi → T (f v) lo hi) → BodyLaid m q b S → BodyLaid m q (map_body f b) T
  map_body_laid {L} {M} {b = b} {T = T} f g s =
      record {
        nothing = at_end_lem b.ends refl;
        owned = s.owned;
        plain = s.plain;
        goes = λ d p part h e i z j. ends_next (s.goes d p part h e i z j) λ v n c. held {a = f v} {n = n} (record { within = c.0.within; laid = g v p (p + n) c.0.laid }, c.1);
      }
    where
      at_end_lem : (o : Option L) → b.ends ≡ o → (v : M) → map f o ≡ some v → (p : ℕ) → T v p p
      at_end_lem none i v e p = nothing_ends e
      at_end_lem (some a) i v e p = let z : f a ≡ v = cc in rw (← z) (g a p p (s.nothing a i p))

  -- number k on, with room for so many: their owners keep the claim
  module _ {L : Type 0} (w : ℕ → Where) (other : FaultKind) {x : Item L} {S : Span L} {T : Span (List L)} (most : ℕ) (o : (k : ℕ) → k < most → Keeps q (w k).owner) (kind : Plain other)
      (z : (p : ℕ) → T [] p p) (g : (v : L) (ws : List L) (lo mid hi : ℕ) → S v lo mid → T ws mid hi → T (v ∷ ws) lo hi) (s : ItemLaid m q x S) where
    pub series_laid : (e : Option (List L)) → ((v : List L) → e ≡ some v → v ≡ []) → (room k : ℕ) → k + room ≤ most → BodyLaid m q (series_body w other x e room k) T
    unfolding series_body
    series_laid e nil zero k r = record { nothing = λ v i p. rw (nil v i) (z p); owned = λ i. absurd (false≢true (sym i)); plain = kind; goes = λ d p part h i j f. absurd (false≢true (sym f)) }
    series_laid e nil (suc room) k r =
        let t : BodyLaid m q (series_body w other x (some []) room (suc k)) T = series_laid (some []) (λ v i. cc) room (suc k) (omega arith) in
        place_laid (w k) e other silently (λ a. series_body w other x (some []) room (suc k)) (λ a ws. a ∷ ws) kind (λ v i p. rw (nil v i) (z p)) (o k (omega arith)) (λ v lo hi i j f h. h) g s (λ v. t)

  -- of which no strings are kept
  pub series_unmarked : {L : Type 0} (l : ℕ) {x : Item L} {S : L → List (Option ℕ × Text)} (n : ℕ) → ItemLaid m q x (strung m S) → BodyLaid m q (series_body (λ k. level l) Another x (some []) n 0) (strung m (λ ws. []))
  unfolding number_of
  series_unmarked l n s = series_laid (λ k. level l) Another n (λ k i hi f h. h) refl (λ p. stop (omega arith)) (λ v ws lo mid hi i j. stop (omega (arith, laid_none i, laid_none j))) s (some []) (λ v i. cc) n 0 (omega arith)

  -- Any element: it is kept whole

  pub walk_laid : (mine : ℕ → Bool) (l : ℕ) → ItemLaid m q (element_of mine (walk_contents l)) (strung m (λ s. (none, s) ∷ []))
  unfolding walk_contents walk_pick number_of
  walk_laid mine zero = record { reads = λ p part h e i k. failed (found_in q TooDeep p part refl) }
  walk_laid mine (suc l) = record { reads = λ p part h e i k. up (walk_laid any_tag l) p part h e i (constructor_of (first_of h)) }
    where
      series : ℕ → Body (List Text)
      series n = series_body (λ k. level l) Another (element_of any_tag (walk_contents l)) (some []) n 0

      kept : (p : ℕ) (part : List ℕ) (n : ℕ) → n ≤ length part → Here m p part → Lies part p n (λ lo hi. Laid m lo hi ((none, (p, take n part)) ∷ []))
      kept p part n w e = record { within = w; laid = laid_one (none, (p, take n part)) p (p + n) (here_take n e) (omega arith) (omega (arith, length-take-le n part w)) }

      up : ItemLaid m q (element_of any_tag (walk_contents l)) (strung m (λ s. (none, s) ∷ [])) → (p : ℕ) (part : List ℕ) (h : Head) → Here m p part → HeadOf part h → (b : Bool)
          → Ends (λ v n. Lies part p n (λ lo hi. Laid m lo hi ((none, v) ∷ []))) (q.Of (p + length part)) (walk_pick b series h p part)
      up s p part h e i true = ends_next (inside_laid (λ n. series_unmarked l n s) p part h e i) λ v n g. held {a = (p, take n part)} {n = n} (kept p part n g.0.within e)
      up s p part h e i false = ends_next (leaf_contents_lem q (λ c. true) p part h e i) λ v n g. held {a = (p, take n part)} {n = n} (kept p part n g.0 e)

-- What it is for an item and for a body to be read right; primitives and constructors. Assumes nothing.
use Prim.Native.Nat.{ℕ, suc, ◌+◌, ◌≤◌}
use mathlib.Core.Path.{◌≡◌, refl, sym, ap, ◌∙◌}
use mathlib.Core.Logic.{◌⊎◌, inl, inr}
use mathlib.Core.Bool.{Bool, true, false, cond, false≢true}
use mathlib.Core.List.{List, [], ◌∷◌, ◌++◌, append_assoc, append-nil}
use mathlib.Core.Option.{some}
use native.Mathlib.Omega.{arith}
use lib.ListN.{length, take, drop, length-append, length-drop}
use lib.Seq.{take-append_seam, take-append-add, length-take-le, take_all, take-add}
use lib.Dec.{ltb, eqb}
use borrow.Author.Tests.{eqb-true, eq-eqb}
use Rattle.element.specs.Form.{Form, exactly, leaf, around, Matches, Definite, Unending, document01}
use Rattle.element.specs.Element.{IsTag, constructor_of, code_zero, extended_of, Definitely, Endlessly}
use Rattle.element.specs.Fault.{at, Text}
use Rattle.element.specs.declared.FaultKind.TheVariants.{BadContents}
use Rattle.element.specs.declared.EndRead.TheVariants.{Ended as ended, Unfinished as unfinished, More as more}
use Rattle.element.specs.Head.{end_of}
use Rattle.element.specs.Ask.{got, check, definite, indefinite, Head, head, Body, ask}
use Rattle.element.specs.Parts.{Item, first_of, leaf_contents, leaf_item, inside, around_item, kept_item}
use Rattle.element.proofs.Asking.{Then, fact, then_next, then_check, then_weaken, next_of, HeadOf, ask_head, ask_ends, ask_sound, Says, head_says, head_definite, head_endless}

-- n octets of a part were taken, and are of the form
pub record Took (f : Form) (ok : Type 0) (part : List ℕ) (n : ℕ) : Type 0 where
  pub within : n ≤ length part
  pub matches : Matches document01 f (take n part)
  pub fine : ok

-- the part begins with an element of that meaning in n octets, and the item reads it
pub record Reads {L A : Type 0} (x : Item L) (meaning : L → A) (a : A) (p : ℕ) (part : List ℕ) (n : ℕ) : Type 0 where
  pub lead : Head
  pub heads : HeadOf part lead
  pub mine : x.mine (first_of lead) ≡ true
  pub value : L
  pub reads : x.contents lead p part ≡ got value n
  pub means : meaning value ≡ a

pub record ItemLaws {L A : Type 0} (x : Item L) (meaning : L → A) (form : A → Form) (ok : A → Type 0) : Type 0 where
  pub complete : (a : A) (m rest : List ℕ) (p : ℕ) → ok a → Matches document01 (form a) m → Reads x meaning a p (m ++ rest) (length m)
  pub sound : (p : ℕ) (part : List ℕ) (h : Head) → HeadOf part h → x.mine (first_of h) ≡ true → Then (λ v n. Took (form (meaning v)) (ok (meaning v)) part n) (x.contents h p part)

-- the same of contents m: they are none, or begin with an element
pub data BodyReads {L A : Type 0} (b : Body L) (meaning : L → A) (a : A) (d : Bool) (p : ℕ) (m rest : List ℕ) : Type 0 where
  nothing : (v : L) → m ≡ [] → b.ends ≡ some v → meaning v ≡ a → BodyReads b meaning a d p m rest
  begun : (h : Head) → HeadOf (m ++ rest) h → b.mine (first_of h) ≡ true → b.full ≡ false → ltb 0 b.left ≡ true → (v : L) → b.goes d h p (m ++ rest) ≡ got v (length m) → meaning v ≡ a → BodyReads b meaning a d p m rest

-- for contents of at most `room` octets
pub record BodyLaws {L A : Type 0} (room : ℕ) (b : Body L) (meaning : L → A) (form : A → Form) (ok : A → Type 0) : Type 0 where
  pub complete : (a : A) (m rest : List ℕ) (d : Bool) (p : ℕ) → length m ≤ room → ok a → Matches document01 (form a) m → end_of d rest ≡ ended → BodyReads b meaning a d p m rest
  pub empty : (v : L) → b.ends ≡ some v → Took (form (meaning v)) (ok (meaning v)) [] 0
  pub sound : (d : Bool) (p : ℕ) (part : List ℕ) (h : Head) → HeadOf part h → b.mine (first_of h) ≡ true → Then (λ v n. Took (form (meaning v)) (ok (meaning v)) part n × (end_of d (drop n part) ≡ ended)) (b.goes d h p part)

-- a body asked
unfoldable pub Asked : {L A : Type 0} (b : Body L) (meaning : L → A) (a : A) (d : Bool) (p : ℕ) (part : List ℕ) (n : ℕ) → Type 0
Asked {L} b meaning a d p part n = (v : L) × (ask b d p part ≡ got v n) × (meaning v ≡ a)

take_none : (part : List ℕ) → take 0 part ≡ []
take_none [] = refl
take_none (x ∷ r) = refl

module _ {L A : Type 0} (room : ℕ) (b : Body L) (meaning : L → A) (form : A → Form) (ok : A → Type 0) (laws : BodyLaws room b meaning form ok) where
  asked_reads : (a : A) (m rest : List ℕ) (d : Bool) (p : ℕ) → end_of d rest ≡ ended → BodyReads b meaning a d p m rest → Asked b meaning a d p (m ++ rest) (length m)
  unfolding Asked
  asked_reads a m rest d p e (nothing v z f q) = rw z (v, ask_ends b d p rest v e f, q)
  asked_reads a m rest d p e (begun h i j f l v g q) = (v, ask_head b d p (m ++ rest) h i f l j ∙ g, q)

  pub asked_complete : (a : A) (m rest : List ℕ) (d : Bool) (p : ℕ) → length m ≤ room → ok a → Matches document01 (form a) m → end_of d rest ≡ ended → Asked b meaning a d p (m ++ rest) (length m)
  asked_complete a m rest d p k o e h = asked_reads a m rest d p h (laws.complete a m rest d p k o e h)

  pub asked_sound : (d : Bool) (p : ℕ) (part : List ℕ) → Then (λ v n. Took (form (meaning v)) (ok (meaning v)) part n × (end_of d (drop n part) ≡ ended)) (ask b d p part)
  asked_sound d p part =
      ask_sound (λ v n. Took (form (meaning v)) (ok (meaning v)) part n × (end_of d (drop n part) ≡ ended)) b d p part
      (λ v f e. let t = laws.empty v f in (record { within = omega arith; matches = rw (take_none part) t.matches; fine = t.fine }, e))
      (λ h i m. laws.sound d p part h i m)

-- the octets in front, and what follows
front_of : (h r part : List ℕ) (u n : ℕ) → part ≡ h ++ r → u ≡ length h → (take (u + n) part ≡ h ++ take n r) × (length part ≡ u + length r)
front_of h r part u n e l = rw (e, l) (take-append-add h r n, length-append h r)

pub no_extension : (a : ℕ) (x : List ℕ) → extended_of a ≡ false → IsTag a x → x ≡ []
unfolding IsTag
no_extension a [] e h = refl
no_extension a (x ∷ []) e h = absurd (false≢true (sym e ∙ h.0))
no_extension a (x ∷ y ∷ []) e h = absurd (false≢true (sym e ∙ h.0))
no_extension a (x ∷ y ∷ z ∷ []) e h = absurd (false≢true (sym e ∙ h.0))
no_extension a (x ∷ y ∷ z ∷ w ∷ r) e h = absurd h

simple_tag : (t : ℕ) → extended_of t ≡ false → IsTag t []
unfolding IsTag
simple_tag t e = e

-- the octets of an element with a definite length
definite_octets : (part : List ℕ) (a u n : ℕ) (s : Definitely part a u n) → (u + n ≤ length part) × Definite document01 (a ∷ s.ext) (take n (drop u part)) (take (u + n) part)
unfolding Definite
definite_octets part a u n s =
    let f = front_of ((a ∷ s.ext) ++ s.len) (drop u part) part u n s.front s.used in (
      omega (arith, f.1, s.room),
      (s.len, rw (length-take-le n (drop u part) s.room) s.stands, f.0 ∙ append_assoc (a ∷ s.ext) s.len (take n (drop u part))),
    )

-- A primitive

pub leaf_octets : (a : ℕ) (x c m rest : List ℕ) (fits : List ℕ → Bool) (p : ℕ) → IsTag a x → code_zero a ≡ false → fits c ≡ true → Definite document01 (a ∷ x) c m
    → (h : Head) × HeadOf (m ++ rest) h × (first_of h ≡ a) × ((q : ℕ) × (leaf_contents fits h p (m ++ rest) ≡ got (q, c) (length m)))
unfolding Definite leaf_contents check
leaf_octets a x c m rest fits p i z o (l, s, e) =
    let g = head_definite a x l c rest i z s in
    let u : ℕ = suc (length x) + length l in
    let k : u + length c ≡ length m = omega (arith, ap length e, length-append (a ∷ x) (l ++ c), length-append l c) in
    rw e (head a u (definite (length c)), g.0, refl, (p + u, rw (g.1, take-append_seam c rest, o) (ap (λ (n : ℕ). got (p + u, c) n) (rw e at k))))

pub leaf_sound : (fits : List ℕ → Bool) (p : ℕ) (part : List ℕ) (h : Head) → HeadOf part h
    → Then (λ v n. (n ≤ length part) × (fits v.1 ≡ true) × ((x : List ℕ) × IsTag (first_of h) x × Definite document01 (first_of h ∷ x) v.1 (take n part))) (leaf_contents fits h p part)
unfolding leaf_contents Says
leaf_sound fits p part (head a u (definite n)) i =
    let s : Definitely part a u n = head_says part (head a u (definite n)) i in
    let f = definite_octets part a u n s in
    then_check (fits (take n (drop u part))) (at BadContents p) λ o. fact {a = (p + u, take n (drop u part))} {n = u + n} (f.0, o, (s.ext, s.is_tag, f.1))
leaf_sound fits p part (head a u indefinite) i = then_check false _ λ e. absurd (false≢true e)

pub leaf_laws : (t : ℕ) (fits : List ℕ → Bool) → extended_of t ≡ false → code_zero t ≡ false → ItemLaws (leaf_item t fits) (λ v. v.1) (leaf t) (λ c. fits c ≡ true)
unfolding Matches
leaf_laws t fits e z =
    record {
      complete = λ c m rest p o d. let (h, i, f, (q, r)) = leaf_octets t [] c m rest fits p (simple_tag t e) z o d in
          record { lead = h; heads = i; mine = eq-eqb (first_of h) t f; value = (q, c); reads = r; means = refl };
      sound = λ p part h i m. then_weaken (leaf_sound fits p part h i) λ v n w.
          record { within = w.0; matches = at_tag_lem (first_of h) t w.2.0 v.1 (take n part) (eqb-true (first_of h) t m) e w.2.1 w.2.2; fine = w.1 };
    }
  where
    at_tag_lem : (a t : ℕ) (x c m : List ℕ) → a ≡ t → extended_of t ≡ false → IsTag a x → Definite document01 (a ∷ x) c m → Definite document01 (t ∷ []) c m
    at_tag_lem a t x c m q e i d = let y : x ≡ [] = no_extension a x (rw q e) i in rw (q, y) at d

-- A constructor around a body

pub end_definite : (l : List ℕ) → end_of true l ≡ ended → l ≡ []
unfolding end_of
end_definite [] e = refl
end_definite (x ∷ r) e = let z : ◌≡◌ {A = ℕ} 0 1 = cc in absurd (omega arith)

pair_ended : (x y : ℕ) (r : List ℕ) (a b : Bool) → eqb x 0 ≡ a → eqb y 0 ≡ b → cond a (cond b ended more) more ≡ ended → x ∷ y ∷ r ≡ 0 ∷ 0 ∷ r
pair_ended x y r true true e f h = rw (eqb-true x 0 e, eqb-true y 0 f)
pair_ended x y r true false e f h = let z : ◌≡◌ {A = ℕ} 0 1 = cc in absurd (omega arith)
pair_ended x y r false b e f h = let z : ◌≡◌ {A = ℕ} 0 1 = cc in absurd (omega arith)

one_ended : (a : Bool) → cond a unfinished more ≡ ended → ⊥
one_ended true h = let z : ◌≡◌ {A = ℕ} 0 1 = cc in absurd (omega arith)
one_ended false h = let z : ◌≡◌ {A = ℕ} 0 1 = cc in absurd (omega arith)

pub end_indefinite : (l : List ℕ) → end_of false l ≡ ended → (r : List ℕ) × (l ≡ 0 ∷ 0 ∷ r)
unfolding end_of
end_indefinite [] e = let z : ◌≡◌ {A = ℕ} 0 1 = cc in absurd (omega arith)
end_indefinite (x ∷ []) e = absurd (one_ended (eqb x 0) e)
end_indefinite (x ∷ y ∷ r) e = (r, pair_ended x y r (eqb x 0) (eqb y 0) refl refl e)

ended_nil : end_of true [] ≡ ended
unfolding end_of
ended_nil = refl

ended_pair : (r : List ℕ) → end_of false (0 ∷ 0 ∷ r) ≡ ended
unfolding end_of
ended_pair r = refl

-- of what was read inside: n octets of the part, its contents the text
pub record Held {L A : Type 0} (meaning : L → A) (form : A → Form) (ok : A → Type 0) (part : List ℕ) (a : ℕ) (v : L × Text) (n : ℕ) : Type 0 where
  pub within : n ≤ length part
  pub fine : ok (meaning v.0)
  pub matches : Matches document01 (form (meaning v.0)) v.1.1
  pub ext : List ℕ
  pub is_tag : IsTag a ext
  pub plain : code_zero a ≡ false
  pub octets : Definite document01 (a ∷ ext) v.1.1 (take n part) ⊎ Unending document01 (a ∷ ext) v.1.1 (take n part)

pub record Holds {L A : Type 0} (meaning : L → A) (b : ℕ → Body L) (a : ℕ) (w : A) (c m rest : List ℕ) (p : ℕ) : Type 0 where
  pub lead : Head
  pub heads : HeadOf (m ++ rest) lead
  pub first : first_of lead ≡ a
  pub value : L
  pub place : ℕ
  pub reads : inside b lead p (m ++ rest) ≡ got (value, (place, c)) (length m)
  pub means : meaning value ≡ w

module _ {L A : Type 0} (b : ℕ → Body L) (meaning : L → A) (form : A → Form) (ok : A → Type 0) (laws : (n : ℕ) → BodyLaws n (b n) meaning form ok) where
  pub inside_complete : (a : ℕ) (x : List ℕ) (w : A) (c m rest : List ℕ) (p : ℕ) → IsTag a x → code_zero a ≡ false → constructor_of a ≡ true → ok w → Matches document01 (form w) c
      → Definite document01 (a ∷ x) c m ⊎ Unending document01 (a ∷ x) c m → Holds meaning b a w c m rest p
  unfolding Definite Unending inside Asked
  inside_complete a x w c m rest p i z k o f (inl (l, s, e)) =
      let g = head_definite a x l c rest i z s in
      let u : ℕ = suc (length x) + length l in
      let q : Asked (b (length c)) meaning w true (p + u) (c ++ []) (length c) = asked_complete (length c) (b (length c)) meaning form ok (laws (length c)) w c [] true (p + u) (omega arith) o f ended_nil in
      let r : ask (b (length c)) true (p + u) c ≡ got q.0 (length c) = rw append-nil at q.1 in
      let j : u + length c ≡ length m = omega (arith, ap length e, length-append (a ∷ x) (l ++ c), length-append l c) in
      record {
        lead = head a u (definite (length c));
        heads = rw e g.0;
        first = refl;
        value = q.0;
        place = p + u;
        reads = rw (e, g.1, take-append_seam c rest, next_of _ r) (ap (λ (n : ℕ). got (q.0, (p + u, c)) n) (rw e at j));
        means = q.2;
      }
  inside_complete a x w c m rest p i z k o f (inr (t, e)) =
      let g = head_endless a x c rest i z k in
      let u : ℕ = suc (length x) + 1 in
      let part : List ℕ = c ++ (0 ∷ 0 ∷ rest) in
      let y : length c ≤ length part = omega (arith, length-append c (0 ∷ 0 ∷ rest)) in
      let q : Asked (b (length part)) meaning w false (p + u) part (length c) = asked_complete (length part) (b (length part)) meaning form ok (laws (length part)) w c (0 ∷ 0 ∷ rest) false (p + u) y o f (ended_pair rest) in
      let j : u + (length c + 2) ≡ length m = omega (arith, ap length e, length-append (a ∷ x) (0x80 ∷ (c ++ (0 ∷ 0 ∷ []))), length-append c (0 ∷ 0 ∷ [])) in
      record {
        lead = head a u indefinite;
        heads = rw e g.0;
        first = refl;
        value = q.0;
        place = p + u;
        reads = rw (e, g.1, next_of _ q.1, take-append_seam c (0 ∷ 0 ∷ rest)) (ap (λ (n : ℕ). got (q.0, (p + u, c)) n) (rw e at j));
        means = q.2;
      }

  pub inside_sound : (p : ℕ) (part : List ℕ) (h : Head) → HeadOf part h → Then (Held meaning form ok part (first_of h)) (inside b h p part)
  unfolding inside Says Unending
  inside_sound p part (head a u (definite n)) i =
      let s : Definitely part a u n = head_says part (head a u (definite n)) i in
      let f = definite_octets part a u n s in
      let c : List ℕ = take n (drop u part) in
      then_next (asked_sound n (b n) meaning form ok (laws n) true (p + u) c) λ v k y.
      let z : length c ≤ k = omega (arith, length-drop k c, ap length (end_definite (drop k c) y.1)) in
      fact {a = (v, (p + u, c))} {n = u + n} (record {
        within = f.0;
        fine = y.0.fine;
        matches = rw (take_all k c z) at y.0.matches;
        ext = s.ext;
        is_tag = s.is_tag;
        plain = s.plain;
        octets = inl f.1;
      })
  inside_sound p part (head a u indefinite) i =
      let s : Endlessly part a u = head_says part (head a u indefinite) i in
      let r : List ℕ = drop u part in
      then_next (asked_sound (length r) (b (length r)) meaning form ok (laws (length r)) false (p + u) r) λ v k y.
      let e = end_indefinite (drop k r) y.1 in
      let f = front_of ((a ∷ s.ext) ++ (0x80 ∷ [])) r part u (k + 2) s.front s.used in
      let z : take (k + 2) r ≡ take k r ++ (0 ∷ 0 ∷ []) = take-add k 2 r ∙ ap (λ (l : List ℕ). take k r ++ take 2 l) e.1 in
      fact {a = (v, (p + u, take k r))} {n = u + (k + 2)} (record {
        within = omega (arith, length-drop k r, ap length e.1, f.1);
        fine = y.0.fine;
        matches = y.0.matches;
        ext = s.ext;
        is_tag = s.is_tag;
        plain = s.plain;
        octets = inr (tt, f.0 ∙ append_assoc (a ∷ s.ext) (0x80 ∷ []) (take (k + 2) r) ∙ ap (λ (l : List ℕ). (a ∷ s.ext) ++ (0x80 ∷ l)) z);
      })

at_one_tag : (a t : ℕ) (x c m : List ℕ) → a ≡ t → extended_of t ≡ false → IsTag a x → Definite document01 (a ∷ x) c m ⊎ Unending document01 (a ∷ x) c m → Definite document01 (t ∷ []) c m ⊎ Unending document01 (t ∷ []) c m
at_one_tag a t x c m q e i d = let y : x ≡ [] = no_extension a x (rw q e) i in rw (q, y) at d

pub around_laws : {L A : Type 0} {meaning : L → A} {form : A → Form} {ok : A → Type 0} (t : ℕ) (b : Body L) → ((n : ℕ) → BodyLaws n b meaning form ok)
    → extended_of t ≡ false → code_zero t ≡ false → constructor_of t ≡ true → ItemLaws (around_item t b) meaning (λ a. around t (form a)) ok
unfolding Matches
around_laws {meaning = meaning} {form = form} {ok = ok} t b laws e z k =
    record {
      complete = λ a m rest p o f. let g = inside_complete (λ n. b) meaning form ok laws t [] a f.0 m rest p (simple_tag t e) z k o f.1 f.2 in
          record { lead = g.lead; heads = g.heads; mine = eq-eqb (first_of g.lead) t g.first; value = g.value; reads = next_of _ g.reads; means = g.means };
      sound = λ p part h i m. then_next (inside_sound (λ n. b) meaning form ok laws p part h i) λ v n w.
          fact {a = v.0} {n = n} (record { within = w.within; matches = (v.1.1, w.matches, at_one_tag (first_of h) t w.ext v.1.1 (take n part) (eqb-true (first_of h) t m) e w.is_tag w.octets); fine = w.fine });
    }

-- kept as its contents octets
pub kept_laws : {L A : Type 0} (meaning : L → A) (form : A → Form) (ok : A → Type 0) (t : ℕ) (b : ℕ → Body L) → ((n : ℕ) → BodyLaws n (b n) meaning form ok)
    → extended_of t ≡ false → code_zero t ≡ false → constructor_of t ≡ true → ItemLaws (kept_item t b) (λ v. v.1) (λ c. around t (exactly c)) (λ c. (a : A) × ok a × Matches document01 (form a) c)
unfolding Matches
kept_laws meaning form ok t b laws e z k =
    record {
      complete = λ c m rest p o f. let g = inside_complete b meaning form ok laws t [] o.0 c m rest p (simple_tag t e) z k o.1 o.2 (rw f.1 at f.2) in
          record { lead = g.lead; heads = g.heads; mine = eq-eqb (first_of g.lead) t g.first; value = (g.place, c); reads = next_of _ g.reads; means = refl };
      sound = λ p part h i m. then_next (inside_sound b meaning form ok laws p part h i) λ v n w.
          fact {a = v.1} {n = n} (record { within = w.within; matches = (v.1.1, refl, at_one_tag (first_of h) t w.ext v.1.1 (take n part) (eqb-true (first_of h) t m) e w.is_tag w.octets); fine = (meaning v.0, w.fine, w.matches) });
    }

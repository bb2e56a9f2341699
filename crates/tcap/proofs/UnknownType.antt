-- The originating ID of octets that are no message is the one that the table says, and stands in them as the grammar has it. Assumes nothing.
use Prim.Native.Nat.{ℕ, suc, ◌+◌, ◌≤◌}
use mathlib.Core.Path.{◌≡◌, refl, sym, ap, ◌∙◌}
use mathlib.Core.Logic.{◌⊎◌, inl, inr}
use mathlib.Core.Bool.{Bool, true, false, not, ◌&&◌, and-eq-true_iff, false≢true}
use mathlib.Core.List.{List, [], ◌∷◌, ◌++◌, append_assoc, append-nil}
use mathlib.Core.Option.{Option, none, some}
use native.Mathlib.Omega.{arith}
use lib.ListN.{length, take, drop, length-append, take-append-drop}
use lib.Seq.{drop-append_seam, take-append_seam, length-take-le}
use lib.Dec.{ltb, leb}
use borrow.Author.Tests.{ltb-true, lt-ltb, le-leb, leb-true, eqb-true}
use Rattle.element.specs.Form.{StandsFor}
use Rattle.element.specs.Element.{IsTag, constructor_of, code_zero, extended_of, Definitely, Endlessly}
use Rattle.element.specs.declared.TagRead.{TagRead}
use Rattle.element.specs.declared.EndRead.{EndRead}
use Rattle.element.specs.Fault.{Text}
use Rattle.element.specs.Head.{end_of, tag_of}
use Rattle.element.specs.Ask.{Got, got, bad, next, check, definite, indefinite, Head, head, Body, ask_tag, at_end, ask_end, ask}
use Rattle.element.specs.Parts.{first_of, leaf_contents}
use Rattle.element.proofs.Asking.{Then, the_fact, fact, void, then_next, then_weaken, then_check, next_of, HeadOf, ask_head, ask_sound, not_true, Says, head_says}
use Rattle.element.proofs.ItemLaws.{no_extension}
use Rattle.element.proofs.StringPlaces.{nothing_ends, Behind}
use Rattle.tcap.specs.Meaning.{Originating, orig}
use Rattle.tcap.specs.WellFormed.{Rules, most_transaction_id_octets, left_at, id_ok}
use Rattle.tcap.specs.Productions.{orig_item}
use Rattle.tcap.specs.Reading.{foremost, id_first, unknown_tag, unknown_body, text_of, unknown_orig}
use Rattle.tcap.specs.Due.{orig_id}
use Rattle.tcap.specs.Refused.{Right, primitive, definite as filled, indefinite as endlessly, Opens, opens, opens_endless, OpensWith, UnknownOrig, begun, unbegun}
use Rattle.tcap.proofs.OneFront.{definite_head, endless_head}

-- What is got stands at a level that there is

any_then : {A : Type 0} {Q : Type 0} (x : Got A) → Q → Then (λ v n. Q) x
any_then (got a n) q = fact q
any_then (bad f) q = void

module _ {A : Type 0} (b : Body A) (d : Bool) (p : ℕ) (part : List ℕ) (something : b.ends ≡ none) where
  tag_levelled : (t : TagRead) → Then (λ v n. ltb 0 b.left ≡ true) (ask_tag b d p part t)
  unfolding ask_tag
  tag_levelled (TagRead.Fault k) = void
  tag_levelled (TagRead.Tag a s) = then_check (not (code_zero a)) _ λ z. then_check (ltb 0 b.left) _ λ v. any_then _ v

  end_levelled : (e : EndRead) → Then (λ v n. ltb 0 b.left ≡ true) (ask_end b d p part e)
  unfolding ask_end at_end
  end_levelled EndRead.Ended = rw something void
  end_levelled EndRead.Unfinished = void
  end_levelled EndRead.More = then_check (not b.full) _ λ f. tag_levelled (tag_of part)

  levelled : Then (λ v n. ltb 0 b.left ≡ true) (ask b d p part)
  unfolding ask
  levelled = end_levelled (end_of d part)

both : {A : Type 0} {P Q : A → ℕ → Type 0} {x : Got A} → Then P x → Then Q x → Then (λ v n. P v n × Q v n) x
both (fact p) (fact q) = fact (p, q)
both void q = void

-- What is asked, by the octets

zero_plus : (u : ℕ) → 0 + u ≡ u
zero_plus u = omega arith

module _ (rules : Rules) where
  -- 48 first in some contents
  abbrev Here48 : ℕ → List ℕ → Originating Text → ℕ → Type 0
  Here48 p part o n = (s : Text) × (o ≡ orig s) × Right rules 2 0x48 orig_id p part n s

  leaf_right : (p : ℕ) (part : List ℕ) (h : Head) → HeadOf part h → first_of h ≡ 0x48 → 2 ≤ rules.limit → Then (λ v n. Right rules 2 0x48 orig_id p part n v) (leaf_contents id_ok h p part)
  unfolding leaf_contents Says id_ok
  leaf_right p part (head a u (definite n)) i e l =
      let s : Definitely part a u n = head_says part (head a u (definite n)) i in
      then_check (id_ok (take n (drop u part))) _ λ f. fact {a = (p + u, take n (drop u part))} {n = u + n} (primitive l (rw e at s) refl f)
  leaf_right p part (head a u indefinite) i e l = then_check false _ λ f. absurd (false≢true f)

  first_sound : (d : Bool) (p : ℕ) (part : List ℕ) → Then (Here48 p part) (ask (id_first rules) d p part)
  first_sound d p part =
      then_weaken (both (levelled (id_first rules) d p part refl)
      (ask_sound (λ o n. 2 ≤ rules.limit → Here48 p part o n) (id_first rules) d p part (λ v e f. nothing_ends e) λ h i m.
      by_level (leb 2 rules.limit) refl p part h i (eqb-true (first_of h) 0x48 m)))
      (λ o n (v, k). k (omega (arith, ltb-true 0 (left_at rules 2) v)))
    where
      by_level : (b : Bool) → leb 2 rules.limit ≡ b → (p : ℕ) (part : List ℕ) (h : Head) → HeadOf part h → first_of h ≡ 0x48 → Then (λ o n. 2 ≤ rules.limit → Here48 p part o n) (orig_item.contents h p part)
      by_level true l p part h i e = then_next (leaf_right p part h i e (leb-true 2 rules.limit l)) λ v n r. fact {a = orig v} {n = n} (λ _. (v, refl, r))
      by_level false l p part h i e = any_level (orig_item.contents h p part)
        where
          any_level : (x : Got (Originating Text)) → Then (λ o n. 2 ≤ rules.limit → Here48 p part o n) x
          any_level (got o n) = fact (λ j. absurd (false≢true (sym l ∙ le-leb 2 rules.limit j)))
          any_level (bad f) = void

  first_complete : (d : Bool) (p : ℕ) (part : List ℕ) (n : ℕ) (s : Text) → Right rules 2 0x48 orig_id p part n s → ask (id_first rules) d p part ≡ got (orig s) n
  unfolding leaf_contents check next id_ok
  first_complete d p part n s (primitive {u = u} {n = k} l y c f) = ask_head (id_first rules) d p part (head 0x48 u (definite k)) (definite_head y) refl (lt-ltb 0 (left_at rules 2) (omega arith)) refl ∙ rw f
  first_complete d p part n s (filled l y c f) = nothing_ends c
  first_complete d p part n s (endlessly l y c f) = nothing_ends c

  -- the constructor around it
  module _ (m : List ℕ) where
    abbrev pub Opened : Originating Text → ℕ → Type 0
    Opened o n = (s : Text) × (o ≡ orig s) × OpensWith rules m s

    one_octet_lem : (a : ℕ) → unknown_tag a ≡ true → (constructor_of a ≡ true) × (extended_of a ≡ false)
    one_octet_lem a e = let k = (and-eq-true_iff (constructor_of a) (not (extended_of a))).0 e in (k.0, not_true (extended_of a) k.1)

    foremost_sound : (h : Head) → HeadOf m h → unknown_tag (first_of h) ≡ true → Then Opened (foremost (id_first rules) h 0 m)
    unfolding foremost Says
    foremost_sound (head a u (definite n)) i e =
        let y : Definitely m a u n = head_says m (head a u (definite n)) i in
        let k = one_octet_lem a e in
        rw (zero_plus u) (then_next (first_sound true u (take n (drop u m))) λ o c (s, is, r). fact {a = o} {n = u + c} (s, is, ((u, take n (drop u m)), c, opens k.0 k.1 y, r)))
    foremost_sound (head a u indefinite) i e =
        let y : Endlessly m a u = head_says m (head a u indefinite) i in
        rw (zero_plus u) (then_next (first_sound false u (drop u m)) λ o c (s, is, r). fact {a = o} {n = u + c} (s, is, ((u, drop u m), c, opens_endless (one_octet_lem a e).1 y, r)))

    pub unknown_sound : Then Opened (ask (unknown_body rules) true 0 m)
    unknown_sound = ask_sound Opened (unknown_body rules) true 0 m (λ v e f. nothing_ends e) (λ h i e. foremost_sound h i e)

    right_limit : {p : ℕ} {part : List ℕ} {n : ℕ} {s : Text} → Right rules 2 0x48 orig_id p part n s → 2 ≤ rules.limit
    right_limit (primitive l y c f) = l
    right_limit (filled l y c f) = l
    right_limit (endlessly l y c f) = l

    pub opens_asked : (x : Text) (n : ℕ) (s : Text) → Opens m x → Right rules 2 0x48 orig_id x.0 x.1 n s → ask (unknown_body rules) true 0 m ≡ got (orig s) (x.0 + n)
    unfolding foremost
    opens_asked x n s (opens {a = a} {u = u} {n = c} k e y) r =
        ask_head (unknown_body rules) true 0 m (head a u (definite c)) (definite_head y) refl (lt-ltb 0 rules.limit (omega (arith, right_limit r))) (rw (k, e)) ∙ next_of (λ v k. got v (u + k)) (first_complete true (0 + u) (take c (drop u m)) n s (rw (zero_plus u) r))
    opens_asked x n s (opens_endless {a = a} {u = u} e y) r =
        ask_head (unknown_body rules) true 0 m (head a u indefinite) (endless_head y) refl (lt-ltb 0 rules.limit (omega (arith, right_limit r))) (rw (y.constructor, e)) ∙ next_of (λ v k. got v (u + k)) (first_complete false (0 + u) (drop u m) n s (rw (zero_plus u) r))

    opens_told : (s : Text) → OpensWith rules m s → unknown_orig rules m ≡ some s
    unfolding unknown_orig text_of
    opens_told s (x, n, o, r) = rw (opens_asked x n s o r)

    -- the ID that is told is the table's, and the only one
    pub unknown_orig_lem : UnknownOrig rules m (unknown_orig rules m)
    unfolding unknown_orig text_of
    unknown_orig_lem = by_ask (ask (unknown_body rules) true 0 m) refl unknown_sound
      where
        by_ask : (x : Got (Originating Text)) → ask (unknown_body rules) true 0 m ≡ x → Then Opened x → UnknownOrig rules m (text_of x)
        by_ask (got (orig t) n) e h = let (s, is, w) = the_fact h in let z : s ≡ t = cc in begun (rw z at w)
        by_ask (bad f) e h = unbegun (λ s (x, n, o, r). let g = opens_asked x n s o r in let z : ◌≡◌ {A = ℕ} 0 1 = cc in omega arith)

    pub unknown_is : {t : Option Text} → UnknownOrig rules m t → unknown_orig rules m ≡ t
    unknown_is (begun {s = s} w) = opens_told s w
    unknown_is (unbegun h) = by_orig (unknown_orig rules m) unknown_orig_lem
      where
        by_orig : (t : Option Text) → UnknownOrig rules m t → t ≡ none
        by_orig none w = refl
        by_orig (some s) (begun w) = absurd (h s w)

-- By the grammar

-- the octets begin with a constructor, its tag one octet, and its contents with 48 and the ID t; what follows these, and an end pair, is left open
pub record BeginsWithId (m : List ℕ) (t : Text) : Type 0 where
  pub tag : ℕ
  pub len : List ℕ
  pub contents : List ℕ
  pub rest : List ℕ
  pub len48 : List ℕ
  pub behind : List ℕ
  pub constructor : constructor_of tag ≡ true
  pub one_octet : extended_of tag ≡ false
  pub plain : code_zero tag ≡ false
  pub octets : m ≡ tag ∷ (len ++ (contents ++ rest))
  pub sound : StandsFor len (length contents) ⊎ ((len ≡ 0x80 ∷ []) × (rest ≡ []))
  pub starts : contents ≡ 0x48 ∷ (len48 ++ (t.1 ++ behind))
  pub sound48 : StandsFor len48 (length t.1)
  pub sized : (1 ≤ length t.1) × (length t.1 ≤ most_transaction_id_octets)
  pub place : t.0 ≡ 2 + (length len + length len48)

-- the head of an element whose tag is one octet
record Front (part : List ℕ) (a u n : ℕ) : Type 0 where
  pub len : List ℕ
  pub octets : part ≡ a ∷ (len ++ (take n (drop u part) ++ drop n (drop u part)))
  pub stands : StandsFor len (length (take n (drop u part)))
  pub used : u ≡ suc (length len)

front_of : (part : List ℕ) (a u n : ℕ) → extended_of a ≡ false → Definitely part a u n → Front part a u n
front_of part a u n e y =
    let z : y.ext ≡ [] = no_extension a y.ext e y.is_tag in
    let f : part ≡ a ∷ (y.len ++ drop u part) = rw z at y.front in
    record {
      len = y.len;
      octets = f ∙ ap (λ (v : List ℕ). a ∷ (y.len ++ v)) (sym (take-append-drop n (drop u part)));
      stands = rw (length-take-le n (drop u part) y.room) y.stands;
      used = y.used ∙ ap (λ (v : List ℕ). length ((a ∷ v) ++ y.len)) z;
    }

front_from : (part : List ℕ) (a : ℕ) (l c rest : List ℕ) → extended_of a ≡ false → code_zero a ≡ false → StandsFor l (length c) → part ≡ a ∷ (l ++ (c ++ rest))
    → Definitely part a (suc (length l)) (length c) × (take (length c) (drop (suc (length l)) part) ≡ c)
unfolding IsTag
front_from part a l c rest e z s is =
    let d : drop (suc (length l)) part ≡ c ++ rest = rw is (drop-append_seam (a ∷ l) (c ++ rest)) in
    (record { ext = []; len = l; is_tag = e; plain = z; stands = s; front = rw d is; used = refl; room = rw d (omega (arith, length-append c rest)) }, rw d (take-append_seam c rest))

sized_of : (c : List ℕ) → leb 1 (length c) && leb (length c) most_transaction_id_octets ≡ true → (1 ≤ length c) × (length c ≤ most_transaction_id_octets)
sized_of c e = let k = (and-eq-true_iff (leb 1 (length c)) (leb (length c) most_transaction_id_octets)).0 e in (leb-true 1 (length c) k.0, leb-true (length c) most_transaction_id_octets k.1)

sized_from : (c : List ℕ) → (1 ≤ length c) × (length c ≤ most_transaction_id_octets) → leb 1 (length c) && leb (length c) most_transaction_id_octets ≡ true
sized_from c h = rw (le-leb 1 (length c) h.0, le-leb (length c) most_transaction_id_octets h.1)

-- 48 and its contents at the front of a part that begins at place p
record Front48 (p : ℕ) (part : List ℕ) (s : Text) : Type 0 where
  pub len : List ℕ
  pub behind : List ℕ
  pub octets : part ≡ 0x48 ∷ (len ++ (s.1 ++ behind))
  pub stands : StandsFor len (length s.1)
  pub sized : (1 ≤ length s.1) × (length s.1 ≤ most_transaction_id_octets)
  pub place : s.0 ≡ p + suc (length len)

module _ (rules : Rules) where
  id_of : {p : ℕ} {part : List ℕ} {n : ℕ} {s : Text} → Right rules 2 0x48 orig_id p part n s → Front48 p part s
  unfolding extended_of
  id_of {p = p} {part = part} (primitive {u = u} {n = n} l y c f) =
      let g = front_of part 0x48 u n refl y in
      record { len = g.len; behind = drop n (drop u part); octets = g.octets; stands = g.stands; sized = sized_of (take n (drop u part)) f; place = ap (λ (v : ℕ). p + v) g.used }
  id_of (filled l y c f) = nothing_ends c
  id_of (endlessly l y c f) = nothing_ends c

  id_from : (p : ℕ) (part : List ℕ) (s : Text) → 2 ≤ rules.limit → Front48 p part s → (n : ℕ) × Right rules 2 0x48 orig_id p part n s
  unfolding extended_of code_zero
  id_from p part (q, c) l g =
      let (y, e) = front_from part 0x48 g.len c g.behind refl refl g.stands g.octets in
      let r : Right rules 2 0x48 orig_id p part (suc (length g.len) + length c) (p + suc (length g.len), take (length c) (drop (suc (length g.len)) part)) = primitive {h = orig_id} l y refl (rw e (sized_from c g.sized)) in
      (suc (length g.len) + length c, rw (e, ← g.place) at r)

  module _ (m : List ℕ) (s : Text) where
    opened_begins : (x : Text) → Opens m x → Front48 x.0 x.1 s → BeginsWithId m s
    opened_begins x (opens {a = a} {u = u} {n = n} k e y) g =
        let f = front_of m a u n e y in
        record {
          tag = a;
          len = f.len;
          contents = take n (drop u m);
          rest = drop n (drop u m);
          len48 = g.len;
          behind = g.behind;
          constructor = k;
          one_octet = e;
          plain = y.plain;
          octets = f.octets;
          sound = inl f.stands;
          starts = g.octets;
          sound48 = g.stands;
          sized = g.sized;
          place = omega (arith, g.place, f.used);
        }
    opened_begins x (opens_endless {a = a} {u = u} e y) g =
        let z : y.ext ≡ [] = no_extension a y.ext e y.is_tag in
        let f : m ≡ a ∷ (0x80 ∷ drop u m) = rw z at y.front in
        let v : u ≡ 2 = y.used ∙ ap (λ (v : List ℕ). length ((a ∷ v) ++ (0x80 ∷ []))) z in
        record {
          tag = a;
          len = 0x80 ∷ [];
          contents = drop u m;
          rest = [];
          len48 = g.len;
          behind = g.behind;
          constructor = y.constructor;
          one_octet = e;
          plain = y.plain;
          octets = f ∙ ap (λ (v : List ℕ). a ∷ (0x80 ∷ v)) (sym (append-nil (drop u m)));
          sound = inr (refl, refl);
          starts = g.octets;
          sound48 = g.stands;
          sized = g.sized;
          place = omega (arith, g.place, v);
        }

    pub opens_begins : OpensWith rules m s → BeginsWithId m s
    opens_begins (x, n, o, r) = opened_begins x o (id_of r)

    pub begins_opens : 2 ≤ rules.limit → BeginsWithId m s → OpensWith rules m s
    unfolding IsTag
    begins_opens l b = by_length b.sound
      where
        by_length : StandsFor b.len (length b.contents) ⊎ ((b.len ≡ 0x80 ∷ []) × (b.rest ≡ [])) → OpensWith rules m s
        by_length (inl h) =
            let (y, e) = front_from m b.tag b.len b.contents b.rest b.one_octet b.plain h b.octets in
            let u : ℕ = suc (length b.len) in
            let g : Front48 u (take (length b.contents) (drop u m)) s = record { len = b.len48; behind = b.behind; octets = e ∙ b.starts; stands = b.sound48; sized = b.sized; place = omega (arith, b.place) } in
            let (n, r) = id_from u (take (length b.contents) (drop u m)) s l g in
            ((u, take (length b.contents) (drop u m)), n, opens b.constructor b.one_octet y, r)
        by_length (inr (e, f)) =
            let i : m ≡ b.tag ∷ (0x80 ∷ b.contents) = b.octets ∙ rw (e, f) (ap (λ (v : List ℕ). b.tag ∷ (0x80 ∷ v)) (append-nil b.contents)) in
            let d : drop 2 m ≡ b.contents = ap (drop 2) i in
            let y : Endlessly m b.tag 2 = record { ext = []; is_tag = b.one_octet; plain = b.plain; constructor = b.constructor; front = rw d i; used = refl } in
            let g : Front48 2 (drop 2 m) s = record { len = b.len48; behind = b.behind; octets = d ∙ b.starts; stands = b.sound48; sized = b.sized; place = omega (arith, b.place, ap length e) } in
            let (n, r) = id_from 2 (drop 2 m) s l g in
            ((2, drop 2 m), n, opens_endless b.one_octet y, r)

-- the ID stands behind 48 and its length
pub begins_behind : {m : List ℕ} {t : Text} → BeginsWithId m t → Behind m 0x48 t.0 t.1
begins_behind {t = t} b =
    record {
      before = b.tag ∷ b.len;
      len = b.len48;
      rest = b.behind ++ b.rest;
      octets = b.octets ∙ ap (λ (v : List ℕ). b.tag ∷ (b.len ++ (v ++ b.rest))) b.starts ∙ simp append_assoc;
      place = omega (arith, b.place);
      stands = inl b.sound48;
    }

-- A refusal depends on nothing behind what its clause looks at: a message that begins alike as far as that, and ends alike, is refused alike.
-- Assumes nothing.
use Rattle.tcap.specs.Reading.{outcome_of}
use Rattle.std.specs.Prelude.{Err}
use Prim.Native.Nat.{ℕ, ◌+◌, ◌≤◌}
use mathlib.Core.Path.{◌≡◌, refl, sym, ap, ◌∙◌}
use mathlib.Core.Logic.{inl}
use mathlib.Core.Bool.{Bool, true, false, not, ◌&&◌, and-eq-true_iff, false≢true}
use mathlib.Core.List.{List, [], ◌∷◌}
use mathlib.Core.Option.{Option, none}
use native.Mathlib.Omega.{arith}
use lib.ListN.{length, take, drop}
use lib.Dec.{ltb, leb, eqb}
use borrow.Author.Tests.{le-leb, leb-true, leb-false}
use Rattle.element.specs.Element.{code_zero}
use Rattle.element.specs.declared.{FaultKind.FaultKind}
use Rattle.element.specs.declared.TagRead.TheVariants.{Tag as tag}
use Rattle.element.specs.Fault.{number_of, Text, portion, Fault, fault, at}
use Rattle.element.specs.Head.{tag_of, end_of}
use Rattle.element.specs.Ask.{Got, got, bad, next, check, blamed, definite, Head, head, ask}
use Rattle.element.specs.Parts.{Item, first_of}
use Rattle.element.proofs.Asking.{Then, the_fact, HeadOf, finite, unended, ask_head}
use Rattle.element.proofs.Heads.{TagIs, tag_sound}
use Rattle.element.proofs.LocalHeads.{Alike, alike_less, alike_all, take_behind, alike_cons, pair}
use Rattle.element.proofs.LocalClauses.{Looked, too_long, no_tag, no_id, no_pair, behind, kind_of, place_of, Local, sure, wrong, Level, Reaches, size_of, local_level, head_alike, head_some, level_reaches, ask_more_local}
use Rattle.tcap.specs.declared.{Refusal.Refusal}
use Rattle.tcap.specs.Meaning.{Originating, orig, Message}
use Rattle.tcap.specs.WellFormed.{Rules, most_octets, the93}
use Rattle.tcap.specs.Productions.{message_item}
use Rattle.tcap.specs.Reading.{learnt, alone_body, unknown_tag, unknown_body, text_of, unknown_orig, read_first, located_up_to, refusal_of, answered, reading_up_to, reading}
use Rattle.tcap.proofs.UnknownType.{Opened, unknown_sound, opens_asked}
use Rattle.tcap.proofs.LocalParts.{plainly, spares_learnt, messages}
use Rattle.tcap.proofs.UnknownLocal.{Sought, sought, sought_inside, id_window, unsought}

bad_same : {f g : Fault} → ◌≡◌ {A = Got (Message Text)} (bad f) (bad g) → f ≡ g
bad_same e = cc

module _ (rules : Rules) where
  -- 8, with the ID that was found
  abbrev no_message : Option Text → Fault
  no_message t = fault FaultKind.NoMessage 0 portion none t

  -- The message is all there is

  abbrev item : Item (Message Text)
  item = message_item rules

  abbrev closing : Head → List ℕ → Got (Message Text) → Got (Message Text)
  closing h t x = next x (λ v n. blamed (learnt v) (check (eqb n (length t)) (at FaultKind.OctetsAfter (0 + n)) (got v n)))

  closed : (h : Head) (t : List ℕ) (x : Got (Message Text)) (v : Message Text) (n : ℕ) → x ≡ got v n → eqb n (length t) ≡ true → closing h t x ≡ got v n
  unfolding next blamed check
  closed h t x v n e q = rw (e, q)

  not_closed : (h : Head) (t : List ℕ) (x : Got (Message Text)) (v : Message Text) (n : ℕ) → x ≡ got v n → eqb n (length t) ≡ false → closing h t x ≡ bad (learnt v (at FaultKind.OctetsAfter (0 + n)))
  unfolding next blamed check
  not_closed h t x v n e q = rw (e, q)

  refused_inside : (h : Head) (t : List ℕ) (x : Got (Message Text)) (f : Fault) → x ≡ bad f → closing h t x ≡ bad f
  unfolding next
  refused_inside h t x f e = rw e

  -- 9 looks at the end
  by_end : (m : List ℕ) (h : Head) → HeadOf m h → (v : Message Text) (n : ℕ) → size_of h ≤ n → n + 0 ≤ length m → ((t : List ℕ) → Reaches h m t → Alike (n + 0) m t → item.contents h 0 t ≡ got v n)
      → (c : Bool) → eqb n (length m) ≡ c → Local (Level m) 0 (size_of h) (λ t. closing h t (item.contents h 0 t)) 0 m (blamed (learnt v) (check c (at FaultKind.OctetsAfter (0 + n)) (got v n)))
  unfolding blamed check kind_of place_of
  by_end m h i v n b l g true q = sure {a = v} {n = n} b l (λ t r e. closed h t (item.contents h 0 t) v n (g t (level_reaches m t h i r) e) (rw r q))
  by_end m h i v n b l g false q =
      let f : Fault = at FaultKind.OctetsAfter (0 + n) in
      wrong {f = learnt v f} n 0 (spares_learnt v f).1 (rw (spares_learnt v f).0 behind) (omega arith) (omega arith) (λ t r e. not_closed h t (item.contents h 0 t) v n (g t (level_reaches m t h i r) e) (rw r q))

  alone : (m : List ℕ) (h : Head) → HeadOf m h → {x : Got (Message Text)} → Local (Reaches h m) 0 (size_of h) (item.contents h 0) 0 m x → Local (Level m) 0 (size_of h) (λ t. closing h t (item.contents h 0 t)) 0 m (closing h m x)
  unfolding next
  alone m h i (sure {a = v} {n = n} b l g) = by_end m h i v n b l g (eqb n (length m)) refl
  alone m h i (wrong {f = w} j q pl lk b l g) = wrong {f = w} j q pl lk b l (λ t r e. refused_inside h t (item.contents h 0 t) w (g t (level_reaches m t h i r) e))

  -- the first octet is one of the five tags
  first_tag : (a : ℕ) (r : List ℕ) (b s : ℕ) → tag_of (a ∷ r) ≡ tag b s → b ≡ a
  unfolding TagIs
  first_tag a r b s e =
      let (x, v, q, i, z) : TagIs (a ∷ r) (tag b s) = rw e at (tag_sound (a ∷ r)) in
      cc

  asked : (a : ℕ) (r : List ℕ) → item.mine a ≡ true → Local (Level (a ∷ r)) 0 1 (ask (alone_body rules item) true 0) 0 (a ∷ r) (ask (alone_body rules item) true 0 (a ∷ r))
  unfolding pair end_of
  asked a r o =
      ask_more_local (alone_body rules item) true 0 (a ∷ r) 0 (λ v e. refl) (λ _. plainly)
      (λ b s e f. absurd (false≢true (sym (rw (first_tag a r b s e) at f) ∙ o)))
      (λ h i f v w. alone (a ∷ r) h i ((messages rules).contents h 0 (a ∷ r) i v w))
      refl refl

  -- what a fault of m depends on: the octets before its place, those that its clause looks at there, and how another message must end
  pub record Sees (R : List ℕ → Type 0) (m : List ℕ) (f : Fault) : Type 0 where
    pub looks : ℕ
    pub what : Looked (kind_of f) (take looks (drop (place_of f) m))
    pub there : place_of f + looks ≤ length m
    pub alike : (t : List ℕ) → R t → Alike (place_of f + looks) m t → located_up_to rules t ≡ bad f

  first_read : (a : ℕ) (t : List ℕ) → item.mine a ≡ true → read_first rules item (a ∷ t) ≡ ask (alone_body rules item) true 0 (a ∷ t)
  unfolding read_first check
  first_read a t o = rw o

  first_refused : (a : ℕ) (t : List ℕ) → item.mine a ≡ false → read_first rules item (a ∷ t) ≡ bad (no_message (unknown_orig rules (a ∷ t)))
  unfolding read_first check
  first_refused a t o = rw o

  short_read : (t : List ℕ) → length t ≤ most_octets → located_up_to rules t ≡ read_first rules item t
  unfolding located_up_to check
  short_read t l = rw (le-leb (length t) most_octets l)

  long_read_lem : (t : List ℕ) → leb (length t) most_octets ≡ false → located_up_to rules t ≡ bad (at FaultKind.Overlong most_octets)
  unfolding located_up_to check
  long_read_lem t l = rw l

  -- a message that begins with the octet a, from what is read then
  cons_read : (x : Got (Message Text)) (a : ℕ) (r t : List ℕ) → Alike 1 (a ∷ r) t → length t ≤ most_octets → ((v : List ℕ) → t ≡ a ∷ v → read_first rules item (a ∷ v) ≡ x) → located_up_to rules t ≡ x
  cons_read x a r t e l h = let y : t ≡ a ∷ drop 1 t = alike_cons a r t e in short_read t l ∙ ap (read_first rules item) y ∙ h (drop 1 t) y

  -- 8: what is looked at in seeking its ID
  module _ (R : List ℕ → Type 0) (short : (t : List ℕ) → R t → length t ≤ most_octets) (a : ℕ) (r : List ℕ) (o : item.mine a ≡ false) where
    abbrev m : List ℕ
    m = a ∷ r

    same_id : (t : Option Text) → unknown_orig rules m ≡ t → (q : ℕ) → 1 ≤ q → q ≤ length m → Looked FaultKind.NoMessage (take q m) → ((v : List ℕ) → R v → Alike q m v → unknown_orig rules v ≡ t) → Sees R m (no_message (unknown_orig rules m))
    unfolding kind_of place_of
    same_id t is q some there what same =
        record {
          looks = q;
          what = what;
          there = omega arith;
          alike = λ v l e. let g : Alike q m v = alike_less q (0 + q) m v (omega arith) e in
              cons_read (bad (no_message (unknown_orig rules m))) a r v (alike_less 1 q m v some g) (short v l)
              (λ w y. first_refused a w o ∙ ap (λ (x : Option Text). bad (no_message x)) (ap (unknown_orig rules) (sym y) ∙ same v l g ∙ sym is));
        }

    the_window : (v : Originating Text) (n : ℕ) → ask (unknown_body rules) true 0 m ≡ got v n → Then (Opened rules m) (got v n) → Looked FaultKind.NoMessage (take n m)
    the_window v n is h =
        let (s, e, (x, k, w, g)) = the_fact h in
        let y : got v n ≡ got (orig s) (x.0 + k) = sym is ∙ opens_asked rules m x k s w g in
        let z : n ≡ x.0 + k = cc in
        rw z (id_window rules m x w g)

    sees_id : (x : Got (Originating Text)) → ask (unknown_body rules) true 0 m ≡ x → Local R 0 1 (ask (unknown_body rules) true 0) 0 m x → Then (Opened rules m) x → Sees R m (no_message (unknown_orig rules m))
    unfolding unknown_orig text_of
    sees_id x is (sure {a = v} {n = n} c l f) h =
        same_id (text_of (got v n)) (ap text_of is) n c (omega arith) (the_window v n is h) (λ t k e. ap text_of (f t k (alike_less (n + 0) n m t (omega arith) e)))
    sees_id x is (wrong {f = w} j q pl lk c l f) h =
        same_id none (ap text_of is) (j + q) c l (no_id j (rw (take_behind j q m) at lk)) (λ t k e. ap text_of (f t k e))

    pub not_mine : Sought rules m R → Sees R m (no_message (unknown_orig rules m))
    not_mine l = sees_id (ask (unknown_body rules) true 0 m) refl l (unknown_sound rules m)

    pub not_sought : unknown_tag a && not (code_zero a) ≡ false → Sees R m (no_message (unknown_orig rules m))
    not_sought u =
        same_id none (unsought rules a r u) 1 (omega arith) (omega arith) no_tag (λ v l e. let y : v ≡ a ∷ drop 1 v = alike_cons a r v e in ap (unknown_orig rules) y ∙ unsought rules a (drop 1 v) u)

  sees_asked : (a : ℕ) (r : List ℕ) → length (a ∷ r) ≤ most_octets → item.mine a ≡ true → {x : Got (Message Text)} → Local (Level (a ∷ r)) 0 1 (ask (alone_body rules item) true 0) 0 (a ∷ r) x → (f : Fault) → x ≡ bad f → Sees (Level (a ∷ r)) (a ∷ r) f
  sees_asked a r s o (sure b l g) f e = let z : ◌≡◌ {A = ℕ} 0 1 = cc in absurd (omega arith)
  sees_asked a r s o (wrong {f = w} j q pl lk b l g) f e =
      let y : w ≡ f = cc in
      let k : j ≡ place_of w = omega arith in
      rw (← y) (record {
        looks = q;
        what = rw k at lk;
        there = omega arith;
        alike = λ t i h. let n : Alike (j + q) (a ∷ r) t = alike_less (j + q) (place_of w + q) (a ∷ r) t (omega arith) h in
            cons_read (bad w) a r t (alike_less 1 (j + q) (a ∷ r) t b n) (omega arith) (λ v c. first_read a v o ∙ ap (ask (alone_body rules item) true 0) (sym c) ∙ g t i n);
      })

  sees_first : (m : List ℕ) → length m ≤ most_octets → (f : Fault) → read_first rules item m ≡ bad f → Sees (Level m) m f
  unfolding read_first check kind_of place_of end_of
  sees_first [] s f e =
      let y : at FaultKind.CutOff 0 ≡ f = cc in
      rw (← y) (record { looks = 0; what = no_pair (inl refl); there = omega arith; alike = λ t i h. let z : t ≡ [] = alike_all 0 [] t i (omega arith) h in rw z (short_read [] (omega arith)) })
  sees_first (a ∷ r) s f e = by_mine (item.mine a) refl
    where
      by_mine : (b : Bool) → item.mine a ≡ b → Sees (Level (a ∷ r)) (a ∷ r) f
      by_mine true o = sees_asked a r s o (asked a r o) f (sym (first_read a r o) ∙ e)
      by_mine false o = let y : no_message (unknown_orig rules (a ∷ r)) ≡ f = bad_same (sym (first_refused a r o) ∙ e) in rw (← y) (by_tag (unknown_tag a && not (code_zero a)) refl)
        where
          by_tag : (b : Bool) → unknown_tag a && not (code_zero a) ≡ b → Sees (Level (a ∷ r)) (a ∷ r) (no_message (unknown_orig rules (a ∷ r)))
          by_tag true u = not_mine (Level (a ∷ r)) (λ t l. omega arith) a r o (sought rules (a ∷ r) refl)
          by_tag false u = not_sought (Level (a ∷ r)) (λ t l. omega arith) a r o u

  pub fault_local : (m : List ℕ) (f : Fault) → located_up_to rules m ≡ bad f → Sees (Level m) m f
  unfolding kind_of place_of
  fault_local m f e = by_length (leb (length m) most_octets) refl
    where
      by_length : (b : Bool) → leb (length m) most_octets ≡ b → Sees (Level m) m f
      by_length true l = let s = leb-true (length m) most_octets l in sees_first m s f (sym (short_read m s) ∙ e)
      by_length false l =
          let y : at FaultKind.Overlong most_octets ≡ f = bad_same (sym (long_read_lem m l) ∙ e) in
          rw (← y) (record { looks = 0; what = too_long; there = omega (arith, leb-false (length m) most_octets l); alike = λ t i h. long_read_lem t (rw i l) })

  -- A message of definite length: what stands behind it does not matter either, but for 7 and 9

  no_octets_lem : (h : Head) → HeadOf [] h → ⊥
  unfolding tag_of
  no_octets_lem h (finite a s k n t z l) = let z : ◌≡◌ {A = ℕ} 0 1 = cc in omega arith
  no_octets_lem h (unended a s t z l) = let z : ◌≡◌ {A = ℕ} 0 1 = cc in omega arith

  first_of_lem : (a : ℕ) (r : List ℕ) (h : Head) → HeadOf (a ∷ r) h → first_of h ≡ a
  first_of_lem a r h (finite b s k n t z l) = first_tag a r b s t
  first_of_lem a r h (unended b s t z l) = first_tag a r b s t

  module _ (deep_enough : ltb 0 rules.limit ≡ true) where
    read_inside : (a : ℕ) (r : List ℕ) (h : Head) → item.mine a ≡ true → HeadOf (a ∷ r) h → read_first rules item (a ∷ r) ≡ closing h (a ∷ r) (item.contents h 0 (a ∷ r))
    read_inside a r h o i = first_read a r o ∙ ask_head (alone_body rules item) true 0 (a ∷ r) h i refl deep_enough (rw (first_of_lem a r h i) o)

    sees_inside : (a : ℕ) (r : List ℕ) (b u n : ℕ) → item.mine a ≡ true → HeadOf (a ∷ r) (head b u (definite n)) → (f : Fault) → (kind_of f ≡ FaultKind.OctetsAfter → ⊥)
        → {x : Got (Message Text)} → Local (Reaches (head b u (definite n)) (a ∷ r)) 0 u (item.contents (head b u (definite n)) 0) 0 (a ∷ r) x → closing (head b u (definite n)) (a ∷ r) x ≡ bad f
        → Sees (λ t. (u + n ≤ length t) × (length t ≤ most_octets)) (a ∷ r) f
    unfolding next blamed check kind_of place_of Reaches size_of
    sees_inside a r b u n o i f k (sure {a = v} {n = c} d l g) e = absurd (by_close (eqb c (length (a ∷ r))) e)
      where
        by_close : (q : Bool) → blamed (learnt v) (check q (at FaultKind.OctetsAfter (0 + c)) (got v c)) ≡ bad f → ⊥
        by_close true e = let z : ◌≡◌ {A = ℕ} 0 1 = cc in omega arith
        by_close false e = let y : learnt v (at FaultKind.OctetsAfter (0 + c)) ≡ f = bad_same e in k (rw y at (spares_learnt v (at FaultKind.OctetsAfter (0 + c))).0)
    sees_inside a r b u n o i f k (wrong {f = w} j q pl lk d l g) e =
        let y : w ≡ f = cc in
        let z : j ≡ place_of w = omega arith in
        let h : Head = head b u (definite n) in
        rw (← y) (record {
          looks = q;
          what = rw z at lk;
          there = omega arith;
          alike = λ t s v. let m : Alike (j + q) (a ∷ r) t = alike_less (j + q) (place_of w + q) (a ∷ r) t (omega arith) v in
              let c : HeadOf t h = head_alike (a ∷ r) t h i (alike_less u (j + q) (a ∷ r) t d m) s.0 in
              cons_read (bad w) a r t (alike_less 1 (j + q) (a ∷ r) t (omega (arith, head_some (a ∷ r) h i)) m) s.1 (λ v y. read_inside a v h o (rw y at c) ∙ refused_inside h (a ∷ v) (item.contents h 0 (a ∷ v)) w (rw y at (g t s.0 m)));
        })

    pub definite_local : (m : List ℕ) (b u n : ℕ) → HeadOf m (head b u (definite n)) → (f : Fault) → (kind_of f ≡ FaultKind.Overlong → ⊥) → (kind_of f ≡ FaultKind.OctetsAfter → ⊥) → located_up_to rules m ≡ bad f
        → Sees (λ t. (u + n ≤ length t) × (length t ≤ most_octets)) m f
    unfolding kind_of size_of Reaches
    definite_local [] b u n i f long after e = absurd (no_octets_lem (head b u (definite n)) i)
    definite_local (a ∷ r) b u n i f long after e = by_length (leb (length (a ∷ r)) most_octets) refl
      where
        by_mine : length (a ∷ r) ≤ most_octets → (c : Bool) → item.mine a ≡ c → Sees (λ t. (u + n ≤ length t) × (length t ≤ most_octets)) (a ∷ r) f
        by_mine l true o =
            let h : Head = head b u (definite n) in
            sees_inside a r b u n o i f after ((messages rules).contents h 0 (a ∷ r) i deep_enough (rw (first_of_lem a r h i) o)) (sym (read_inside a r h o i) ∙ sym (short_read (a ∷ r) l) ∙ e)
        by_mine l false o =
            let y : no_message (unknown_orig rules (a ∷ r)) ≡ f = bad_same (sym (first_refused a r o) ∙ sym (short_read (a ∷ r) l) ∙ e) in
            rw (← y) (by_tag (unknown_tag a && not (code_zero a)) refl)
          where
            R : List ℕ → Type 0
            R t = (u + n ≤ length t) × (length t ≤ most_octets)

            by_tag : (b : Bool) → unknown_tag a && not (code_zero a) ≡ b → Sees R (a ∷ r) (no_message (unknown_orig rules (a ∷ r)))
            by_tag true k = let h : Head = head b u (definite n) in not_mine R (λ t s. s.1) a r o (local_level (λ t s. s.0) (sought_inside rules (a ∷ r) h i deep_enough (rw (first_of_lem a r h i) ((and-eq-true_iff (unknown_tag a) (not (code_zero a))).0 k).0)))
            by_tag false k = not_sought R (λ t s. s.1) a r o k

        by_length : (c : Bool) → leb (length (a ∷ r)) most_octets ≡ c → Sees (λ t. (u + n ≤ length t) × (length t ≤ most_octets)) (a ∷ r) f
        by_length true l = by_mine (leb-true (length (a ∷ r)) most_octets l) (item.mine a) refl
        by_length false l = absurd (long (ap kind_of (sym (bad_same (sym (long_read_lem (a ∷ r) l) ∙ e)))))

-- The theorems: of readings, with document 01's 16 levels

-- a refusal of m is that of every t that ends as R asks and begins as m, up to its place and what its clause looks at there
pub record Depends (R : List ℕ → Type 0) (m : List ℕ) (r : Refusal) : Type 0 where
  pub looks : ℕ
  pub what : Looked r.kind (take looks (drop r.place m))
  pub there : r.place + looks ≤ length m
  pub alike : (t : List ℕ) → R t → take (r.place + looks) t ≡ take (r.place + looks) m → reading t ≡ reading m

by_reading : (m : List ℕ) (x : Got (Message Text)) → located_up_to the93 m ≡ x → (r : Refusal) → outcome_of (answered x) ≡ Err r → (f : Fault) × (x ≡ bad f) × (refusal_of f ≡ r)
unfolding answered
by_reading m (got v n) e r h = let z : ◌≡◌ {A = ℕ} 0 1 = cc in absurd (omega arith)
by_reading m (bad f) e r h = (f, refl, cc)

same_reading : (m t : List ℕ) (f : Fault) → located_up_to the93 m ≡ bad f → located_up_to the93 t ≡ bad f → reading t ≡ reading m
unfolding reading reading_up_to
same_reading m t f e g = rw (e, g)

depends : (R : List ℕ → Type 0) (m : List ℕ) (f : Fault) → located_up_to the93 m ≡ bad f → Sees the93 R m f → Depends R m (refusal_of f)
unfolding refusal_of kind_of place_of
depends R m (fault k p o i t) e s = record { looks = s.looks; what = s.what; there = s.there; alike = λ v r h. same_reading m v (fault k p o i t) e (s.alike v r h) }

kind_told : (f : Fault) → kind_of f ≡ (refusal_of f).kind
unfolding kind_of refusal_of
kind_told (fault k p o i t) = refl

seven : number_of FaultKind.Overlong ≡ 7
unfolding number_of
seven = refl

nine : number_of FaultKind.OctetsAfter ≡ 9
unfolding number_of
nine = refl

number_of_lem : {j k l : FaultKind} → j ≡ k → j ≡ l → number_of k ≡ number_of l
number_of_lem e w = ap number_of (sym e ∙ w)

pub refusal_local : (m : List ℕ) (r : Refusal) → outcome_of (reading m) ≡ Err r → Depends (Level m) m r
unfolding reading reading_up_to
refusal_local m r h =
    let (f, e, q) = by_reading m (located_up_to the93 m) refl r h in
    rw q at (depends (Level m) m f e (fault_local the93 m f e))

-- and if m has a definite length, of every t in which its contents are there, however many octets follow; but for 7 and 9, which look at the end
pub definite_refusal_local : (m : List ℕ) (a u n : ℕ) → HeadOf m (head a u (definite n)) → (r : Refusal) → (number_of r.kind ≡ 7 → ⊥) → (number_of r.kind ≡ 9 → ⊥) → outcome_of (reading m) ≡ Err r
    → Depends (λ t. (u + n ≤ length t) × (length t ≤ most_octets)) m r
unfolding reading reading_up_to
definite_refusal_local m a u n i r long after h =
    let (f, e, q) = by_reading m (located_up_to the93 m) refl r h in
    let k : kind_of f ≡ r.kind = kind_told f ∙ ap (λ (x : Refusal). x.kind) q in
    let s : Sees the93 (λ t. (u + n ≤ length t) × (length t ≤ most_octets)) m f =
    definite_local the93 refl m a u n i f (λ w. long (number_of_lem k w ∙ seven)) (λ w. after (number_of_lem k w ∙ nine)) e in
    rw q at (depends (λ t. (u + n ≤ length t) × (length t ≤ most_octets)) m f e s)

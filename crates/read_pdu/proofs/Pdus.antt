-- What the dialogue PDUs hold, and the PDUs: version, name, numbers, request, response, abort. Assumes nothing.
use Prim.Native.Nat.{ℕ, zero, suc, ◌+◌, ◌-◌, ◌≤◌, ◌<◌}
use mathlib.Core.Path.{◌≡◌, refl, sym, ap, ◌∙◌, fun_ext}
use mathlib.Core.{Bool.Bool, Bool.true, Bool.false, Bool.◌&&◌, List.List, List.[], List.◌∷◌}
use native.Mathlib.Omega.{arith}
use lib.{ListN.length, ListN.get_or, ListN.drop, ListN.take, ListN.set, ListN.length-drop, Seq.length-take-le, Seq.get_or-take, Seq.get_or-drop, Dec.eqb, Dec.ltb}
use borrow.Author.Tests.{eq-eqb, ne_eqb}
use Rattle.base.{specs.Value.same, proofs.Values.same_equal}
use Rattle.element.specs.{declared.FaultKind.FaultKind, Element.constructor_of, Fault.Text, inner.Fronts.length_size}
use Rattle.element.specs.Ask.{Got, got, bad, next, Head, definite, indefinite, head, Body, ask}
use Rattle.element.specs.Parts.{Item, level, inside, around_item, map_item, then_body, only_body, opt_body, map_body}
use Rattle.tcap.specs.{declared.Diagnostic.Diagnostic, Meaning.Dialogue, Meaning.version, Meaning.request, Meaning.unidialogue, Meaning.response, Meaning.aborted, WellFormed.most_result, WellFormed.most_user_diagnostic, WellFormed.most_provider_diagnostic, WellFormed.most_abort_source, WellFormed.the93}
use Rattle.tcap.specs.Productions.{octet_item, version_body, info_body, number_item, asked_item, answered_item, aborted_item}
use Rattle.tcap.proofs.Names.{eqb_turned, other_length}
use Rattle.read_place.specs.Places.{Far, Near, until, finite, part, front, nothing, Reads, Finishes, Leads, stands_of, entry_place, bad_place, count_of, bad_contents}
use Rattle.read_place.specs.{Laying.lay_info, Laying.lay_diagnostic, Laying.lay_dialogue, Leaves.LeavesAll, Leaves.untold, Leaves.unlaid}
use Rattle.read_place.proofs.{Answers.Keeps, Asked.ask_map, Bodies.map_closed, Items.stands_other, Items.leaf_good, Items.leaf_bad, Items.leaf_none}
use Rattle.read_place.proofs.{Optional.opt_far, Optional.opt_near, Optional.opt_none, Optional.reads_within, Leaves.map_left, Leaves.opt_left, Leaves.opt_left_none}
use Rattle.read_field.proofs.Fields.{count_room}
use Rattle.read_pdu.specs.Pdus.{built, Takes, TakesAll, version_item, Passed, Passes, TakesNumber, lay_number, diagnostic_item, lay_both, asked_body, lay_asked, answered_body, lay_answered, aborted_body, lay_aborted, pdu_item}
use Rattle.read_pdu.proofs.Taking.{takes_as, takes_first, takes_second, not_here, takes_map, takes_far, all_far, same_left, octet_takes, opens_far, opens, sole_far, sole, field_far, field}

-- The version

two : (c : List ℕ) → length c ≡ 2 → same version c ≡ (eqb (get_or c 0 0) 0x07 && eqb (get_or c 1 0) 0x80)
unfolding same
two [] h = let z : ◌≡◌ {A = ℕ} 0 2 = h in absurd (omega arith)
two (x ∷ []) h = let z : ◌≡◌ {A = ℕ} 1 2 = h in absurd (omega arith)
two (x ∷ y ∷ []) h = rw (eqb_turned x 0x07 (eqb x 0x07) refl, eqb_turned y 0x80 (eqb y 0x80) refl) (by_test (eqb x 0x07) (eqb y 0x80))
  where
    by_test : (a b : Bool) → (a && (b && true)) ≡ (a && b)
    by_test true true = refl
    by_test true false = refl
    by_test false b = refl
two (x ∷ y ∷ z ∷ r) h = absurd (omega (arith, h))

version_sized : (c : List ℕ) → same version c ≡ true → (1 ≤ length c) × (length c ≤ 2)
version_sized c e = rw (same_equal version c e) (omega arith, omega arith)

module _ (m : List ℕ) (at stop n : ℕ) (g : at ≤ until stop) (h : until stop ≤ length m) (is : n ≡ count_of (until stop) at (get_or m at 0) (get_or m (at + 1) 0) 128 2) where
  pub version_none : n ≡ 0 → (r : ℕ) → r ≡ bad_place m at stop 128 → Reads version_item m at stop r
  unfolding constructor_of
  version_none z r e = leaf_none m at stop 128 2 n (same version) g h (omega arith, omega arith, omega arith) refl (omega arith) is z version_sized r e

  module _ (there : 1 ≤ n) where
    abbrev its : List ℕ
    its = take n (drop (at + 2) m)

    its_length : length its ≡ n
    its_length = length-take-le n (drop (at + 2) m) (omega (arith, length-drop (at + 2) m, count_room m at (until stop) 128 2 n is there, h))

    unlike : same version its ≡ false → Reads version_item m at stop (bad_contents + at)
    unfolding constructor_of
    unlike t = leaf_bad m at stop 128 2 n (same version) g h (omega arith, omega arith, omega arith) refl (omega arith) is there t

    pub version_short : n ≡ 1 → Reads version_item m at stop (bad_contents + at)
    version_short z = unlike (other_length version its (λ q. let y : length its ≡ 2 = q in omega (arith, y, its_length, z)))

    module _ (more : n ≡ 1 → ⊥) where
      both : n ≡ 2
      both = omega (arith, there, more, count_room m at (until stop) 128 2 n is there)

      pub version_room : at + 3 < length m
      version_room = omega (arith, both, count_room m at (until stop) 128 2 n is there, h)

      octet_is : (i : ℕ) → i < 2 → get_or its i 0 ≡ get_or m (at + 2 + i) 0
      octet_is i l = get_or-take n (drop (at + 2) m) i 0 (omega (arith, both, l)) ∙ get_or-drop (at + 2) m i 0

      by_octets : same version its ≡ (eqb (get_or m (at + 2) 0) 7 && eqb (get_or m (at + 3) 0) 128)
      by_octets =
          let first : get_or its 0 0 ≡ get_or m (at + 2) 0 = octet_is 0 (omega arith) ∙ ap (λ (k : ℕ). get_or m k 0) (omega arith) in
          let second : get_or its 1 0 ≡ get_or m (at + 3) 0 = octet_is 1 (omega arith) ∙ ap (λ (k : ℕ). get_or m k 0) (omega arith) in
          two its (its_length ∙ both) ∙ rw (first, second)

      pub version_first : (get_or m (at + 2) 0 ≡ 7 → ⊥) → Reads version_item m at stop (bad_contents + at)
      version_first f = unlike (by_octets ∙ rw (ne_eqb (get_or m (at + 2) 0) 7 f))

      module _ (seven : get_or m (at + 2) 0 ≡ 7) where
        pub version_second : (get_or m (at + 3) 0 ≡ 128 → ⊥) → Reads version_item m at stop (bad_contents + at)
        version_second f = unlike (by_octets ∙ rw (eq-eqb (get_or m (at + 2) 0) 7 seven, ne_eqb (get_or m (at + 3) 0) 128 f))

        pub version_good : get_or m (at + 3) 0 ≡ 128 → Reads version_item m at stop (at + 4)
        unfolding constructor_of
        version_good e =
            let z : at + 2 + n ≡ at + 4 = omega (arith, both) in
            let like : same version its ≡ true = by_octets ∙ rw (eq-eqb (get_or m (at + 2) 0) 7 seven, eq-eqb (get_or m (at + 3) 0) 128 e) in
            rw z at (leaf_good m at stop 128 2 n (same version) g h (omega arith, omega arith, omega arith) refl (omega arith) is there like)

-- An element that may be left out

module _ {A : Type 0} (tag : ℕ) (x : Item A) (m : List ℕ) (at stop r : ℕ) where
  module _ (b : Bool) (is : b ≡ stands_of m at stop tag) where
    pub passed_there : b ≡ true → Reads x m at stop r → Passes tag x m at stop r
    unfolding Passed
    passed_there t e = rw (← is, t) e

  pub passed_within : Passes tag x m at stop r → at ≤ until stop → Near r → r ≤ until stop
  unfolding Passed
  passed_within e g f = go (stands_of m at stop tag) e
    where
      go : (b : Bool) → Passed b x m at stop r → r ≤ until stop
      go true e = reads_within x m at stop r e f
      go false e = omega (arith, e, g)

pub passed_not : {A : Type 0} (tag : ℕ) (x : Item A) (m : List ℕ) (at stop : ℕ) (b : Bool) → b ≡ stands_of m at stop tag → b ≡ false → Passes tag x m at stop at
unfolding Passed
passed_not tag x m at stop b is t = rw (← is, t)

-- and then the rest
module _ {A B : Type 0} (tag : ℕ) (x : Item A) (only : (a : ℕ) → x.mine a ≡ eqb a tag) (y : Body B) (full : y.full ≡ false) (deep : ltb 0 y.left ≡ true) (another : y.other ≡ FaultKind.Another) (keeps : Keeps y.owner) (leads : Leads tag)
    (m : List ℕ) (at stop : ℕ) (g : at ≤ until stop) (h : until stop ≤ length m) (r : ℕ) (e : Passes tag x m at stop r) where
  pub pass_far : length m ≤ 65535 → Far r → Finishes (opt_body x y) m at stop r
  unfolding Passed
  pass_far top f = go (stands_of m at stop tag) refl e
    where
      go : (b : Bool) → stands_of m at stop tag ≡ b → Passed b x m at stop r → Finishes (opt_body x y) m at stop r
      go true t e = opt_far tag x only y full deep another keeps leads m at stop g h true (sym t) refl r e f
      go false t e = absurd (omega (arith, e, g, h, top, f))

  pub pass_near : Near r → (s : ℕ) → Finishes y m r stop s → Finishes (opt_body x y) m at stop s
  unfolding Passed
  pass_near f s q = go (stands_of m at stop tag) refl e
    where
      go : (b : Bool) → stands_of m at stop tag ≡ b → Passed b x m at stop r → Finishes (opt_body x y) m at stop s
      go true t e = opt_near tag x only y full deep another keeps leads m at stop g h true (sym t) refl r e f s q
      go false t e = opt_none tag x only y full deep another keeps leads m at stop g h false (sym t) refl s (rw e at q)

-- of which nothing is laid out
module _ {A B : Type 0} (tag : ℕ) (x : Item A) (only : (a : ℕ) → x.mine a ≡ eqb a tag) (y : Body B) (full : y.full ≡ false) (deep : ltb 0 y.left ≡ true) (another : y.other ≡ FaultKind.Another) (keeps : Keeps y.owner) (leads : Leads tag)
    (m : List ℕ) (at stop : ℕ) (g : at ≤ until stop) (h : until stop ≤ length m) (r : ℕ) (e : Passes tag x m at stop r) (near : Near r) (put : B → List ℕ → List ℕ) (old new : List ℕ) where
  pass_left : LeavesAll put untold y m r stop old new → LeavesAll put untold (map_body (λ u. u.1) (opt_body x y)) m at stop old new
  unfolding Passed
  pass_left q = map_left untold (λ u. u.1) (opt_body x y) (λ v l. put v.1 l) put m at stop old new (λ a l. refl) (go (stands_of m at stop tag) refl e)
    where
      go : (b : Bool) → stands_of m at stop tag ≡ b → Passed b x m at stop r → LeavesAll (λ v l. put v.1 l) untold (opt_body x y) m at stop old new
      go true t e = opt_left untold tag x only y full deep another keeps leads m at stop g h true (sym t) unlaid put (λ v l. put v.1 l) old refl r e (λ f l t. tt) (λ a v l. refl) old new near (same_left _ old) q
      go false t e = opt_left_none untold tag x only y full deep another keeps leads m at stop g h false (sym t) unlaid put (λ v l. put v.1 l) old refl (λ v l. refl) new (rw e at q)

-- The version, and then the fields

module _ {A B : Type 0} (x : Item A) (y : Body B) (lay : A × B → List ℕ → List ℕ) (m : List ℕ) (at stop r : ℕ) (g : at ≤ until stop) (h : until stop ≤ length m) (e : Passes 128 version_item m at stop r) (old new : List ℕ) where
  abbrev fields : Body (A × B)
  fields = then_body (level 11) x y

  pub version_far : length m ≤ 65535 → Far r → TakesAll lay (version_body (then_body (level 11) x y)) m at stop r old new
  version_far top f =
      all_far lay (version_body fields) m at stop r old new (map_closed (λ v. v.1) (opt_body version_item fields) m at stop r (pass_far 128 version_item (λ a. refl) fields refl refl refl (λ f. refl) (omega arith, omega arith, omega arith) m at stop g h r e top f)) f

  pub past_version : Near r → (s : ℕ) → TakesAll lay (then_body (level 11) x y) m r stop s old new → TakesAll lay (version_body (then_body (level 11) x y)) m at stop s old new
  past_version f s q =
      record {
        closes = map_closed (λ v. v.1) (opt_body version_item fields) m at stop s (pass_near 128 version_item (λ a. refl) fields refl refl refl (λ f. refl) (omega arith, omega arith, omega arith) m at stop g h r e f s q.closes);
        left = pass_left 128 version_item (λ a. refl) fields refl refl refl (λ f. refl) (omega arith, omega arith, omega arith) m at stop g h r e f lay old new q.left;
      }

-- A number in a constructor, at any level

module _ (o tag most : ℕ) (m : List ℕ) (at stop inner : ℕ) (ok : built tag ≡ true) (g : at ≤ until stop) (h : until stop ≤ length m) (entry : inner ≡ entry_place true m at stop tag) where
  abbrev num : ℕ → Body ℕ
  num l = only_body (level l) (octet_item 2 most)

  pub number_entry : Far inner → (old new : List ℕ) → TakesNumber o tag most m at stop inner old new
  unfolding TakesNumber
  number_entry f old new = λ l d. opens_far tag (num l) (lay_number o) ok m at stop inner g h entry f old new

  module _ (top : length m ≤ 65535) (near : Near inner) (st : ℕ) (start : st ≡ at + 1 + length_size (get_or m (at + 1) 0)) (r : ℕ) (e : Reads (octet_item 2 most) m st inner r) (old : List ℕ) where
    pub number_far : Far r → (new : List ℕ) → TakesNumber o tag most m at stop r old new
    unfolding TakesNumber
    number_far f new = λ l d. opens tag (num l) (lay_number o) ok m at stop inner g h entry top near st start r old new (sole_far (level l) (octet_item 2 most) (lay_number o) (λ f. refl) d m st inner r old new (takes_far (lay_number o) (octet_item 2 most) m st inner r old new e f) f)

    pub number : until inner ≤ length m → Near r → (s : ℕ) → Finishes nothing m r inner s → TakesNumber o tag most m at stop s old (set old o (get_or m (r - 1) 0))
    unfolding TakesNumber
    number to f s q = λ l d.
        let new : List ℕ = set old o (get_or m (r - 1) 0) in
        opens tag (num l) (lay_number o) ok m at stop inner g h entry top near st start s old new (sole (level l) (octet_item 2 most) (lay_number o) (λ f. refl) d m st inner r s q old new (octet_takes m st inner r to 2 most refl e f o old) f)

pub number_within : (o tag most : ℕ) (m : List ℕ) (at stop r : ℕ) (old new : List ℕ) → TakesNumber o tag most m at stop r old new → Near r → r ≤ until stop
unfolding TakesNumber
number_within o tag most m at stop r old new e f = reads_within _ m at stop r (e 1 refl).reads f

-- the result of a response, and then the rest
module _ {B : Type 0} (y : Body B) (m : List ℕ) (at stop r : ℕ) (old mid : List ℕ) (e : TakesNumber 41 162 1 m at stop r old mid) where
  pub result_far : (lay : ℕ × B → List ℕ → List ℕ) (new last : List ℕ) → Far r → TakesAll lay (then_body (level 11) (number_item the93 162 7 most_result) y) m at stop r new last
  unfolding TakesNumber
  result_far lay new last f = field_far (number_item the93 162 7 most_result) y m at stop r lay new last (e 10 refl).reads f

  pub result : (put : B → List ℕ → List ℕ) (new : List ℕ) (s : ℕ) → Near r → TakesAll put y m r stop s mid new → TakesAll (lay_both (lay_number 41) put) (then_body (level 11) (number_item the93 162 7 most_result) y) m at stop s old new
  unfolding TakesNumber
  result put new s f q = field (number_item the93 162 7 most_result) y m at stop r (lay_number 41) put old mid new s (e 10 refl) f q

-- the source of an abort, and user information
pub source : (m : List ℕ) (at stop r : ℕ) → until stop ≤ length m → Reads (octet_item 128 most_abort_source) m at stop r → Near r → (s : ℕ) (old new : List ℕ) → TakesAll lay_info (info_body the93) m r stop s (set old 41 (get_or m (r - 1) 0)) new → TakesAll lay_aborted aborted_body m at stop s old new
source m at stop r h e f s old new q = field (octet_item 128 most_abort_source) (info_body the93) m at stop r (lay_number 41) lay_info old (set old 41 (get_or m (r - 1) 0)) new s (octet_takes m at stop r h 128 1 refl e f 41 old) f q

-- A diagnostic, by whom it is

module _ (m : List ℕ) (at stop r : ℕ) (h : until stop ≤ length m) (b : Bool) (is : b ≡ stands_of m at stop 161) (old new : List ℕ) where
  abbrev of : (ℕ → Diagnostic) → ℕ → Item Diagnostic
  of f tag = map_item f (number_item the93 tag 8 2)

  pub diagnostic_user : b ≡ true → TakesNumber 43 161 2 m at stop r (set old 42 161) new → Takes lay_diagnostic diagnostic_item m at stop r old new
  unfolding lay_diagnostic TakesNumber
  diagnostic_user t e =
      takes_first lay_diagnostic m at stop r old new (of Diagnostic.ByUser 161) (of Diagnostic.ByProvider 162) (not_here m at stop 161 h b is t (λ q. eqb q 162) refl)
      (takes_map Diagnostic.ByUser (number_item the93 161 8 most_user_diagnostic) m at stop (lay_number 43) lay_diagnostic r old (set old 42 161) new (λ n. refl) (e 9 refl))

  pub diagnostic_provider : b ≡ false → TakesNumber 43 162 2 m at stop r (set old 42 162) new → Takes lay_diagnostic diagnostic_item m at stop r old new
  unfolding lay_diagnostic TakesNumber
  diagnostic_provider t e =
      takes_second lay_diagnostic m at stop r old new (of Diagnostic.ByUser 161) (of Diagnostic.ByProvider 162) (λ a s z. stands_other m at stop 161 h (sym is ∙ t) a s z)
      (takes_map Diagnostic.ByProvider (number_item the93 162 8 most_provider_diagnostic) m at stop (lay_number 43) lay_diagnostic r old (set old 42 162) new (λ n. refl) (e 9 refl))

-- A constructor around contents under another name

module _ {A B : Type 0} (f : A → B) (b : Body A) (t : ℕ) where
  named_got : (x : Got A) (t : ℕ → Text) (u : ℕ → ℕ) → next {A = B × Text} (next (next x (λ a n. got (f a) n)) (λ v k. got (v, t k) (u k))) (λ v n. got v.0 n) ≡ next (next {A = A × Text} (next x (λ v k. got (v, t k) (u k))) (λ v n. got v.0 n)) (λ a n. got (f a) n)
  unfolding next
  named_got (got a n) t u = refl
  named_got (bad g) t u = refl

  named_around : (h : Head) (p : ℕ) (part : List ℕ) → (map_item f (around_item t b)).contents h p part ≡ (around_item t (map_body f b)).contents h p part
  unfolding inside
  named_around (head a u (definite n)) p part = rw (ask_map f b true (p + u) (take n (drop u part))) (sym (named_got (ask b true (p + u) (take n (drop u part))) (λ k. (p + u, take n (drop u part))) (λ k. u + n)))
  named_around (head a u indefinite) p part = rw (ask_map f b false (p + u) (drop u part)) (sym (named_got (ask b false (p + u) (drop u part)) (λ k. (p + u, take k (drop u part))) (λ k. u + (k + 2))))

  named_item : map_item f (around_item t b) ≡ around_item t (map_body f b)
  named_item = ap (λ (k : Head → ℕ → List ℕ → Got B). record { mine = λ a. eqb a t; contents = k }) (fun_ext λ h. fun_ext λ p. fun_ext λ q. named_around h p q)

-- The PDU of the structured dialogue by its tag, and that of the unstructured; which it is stands in octet 3 before

module _ (m : List ℕ) (at stop r : ℕ) (old new : List ℕ) where
  kind : {A : Type 0} (tag k : ℕ) (f : A → Dialogue Text) (b : Body A) (lay : A → List ℕ → List ℕ) → ((a : A) → lay a (set old 3 k) ≡ lay_dialogue (f a) old) → Takes lay (around_item tag b) m at stop r (set old 3 k) new
      → Takes lay_dialogue (around_item tag (map_body f b)) m at stop r old new
  kind tag k f b lay same e =
      takes_as lay_dialogue m at stop r old new (map_item f (around_item tag b)) (around_item tag (map_body f b)) (ap (λ (x : Item (Dialogue Text)). ask (front (level 1) FaultKind.Another x) (finite stop) at (part m at stop)) (named_item f b tag))
      (takes_map f (around_item tag b) m at stop lay lay_dialogue r old (set old 3 k) new same e)

  pub pdu_alone : (s : Bool) → s ≡ false → (mid : List ℕ) → mid ≡ set old 3 5 → Takes lay_asked (around_item 96 asked_body) m at stop r mid new → Takes lay_dialogue (pdu_item s) m at stop r old new
  unfolding pdu_item lay_dialogue lay_both
  pdu_alone s t mid i e = rw t (kind 96 5 (λ v. unidialogue v.0 v.1) asked_body lay_asked (λ v. refl) (rw i at e))

  module _ (s : Bool) (t : s ≡ true) (h : until stop ≤ length m) (b : Bool) (is : b ≡ stands_of m at stop 97) where
    pub pdu_response : b ≡ true → Takes lay_answered (around_item 97 answered_body) m at stop r (set old 3 3) new → Takes lay_dialogue (pdu_item s) m at stop r old new
    unfolding pdu_item lay_dialogue lay_both
    pdu_response u e =
        rw t (takes_second lay_dialogue m at stop r old new (asked_item the93 request) _ (not_here m at stop 97 h b is u (λ q. eqb q 96) refl)
        (takes_first lay_dialogue m at stop r old new (answered_item the93) (aborted_item the93) (not_here m at stop 97 h b is u (λ q. eqb q 100) refl)
        (kind 97 3 (λ v. response v.0 v.1.0 v.1.1.0 v.1.1.1) answered_body lay_answered (λ v. refl) e)))

    module _ (no : b ≡ false) (c : Bool) (also : c ≡ stands_of m at stop 100) where
      pub pdu_abort : c ≡ true → Takes lay_aborted (around_item 100 aborted_body) m at stop r (set old 3 4) new → Takes lay_dialogue (pdu_item s) m at stop r old new
      unfolding pdu_item lay_dialogue lay_both
      pdu_abort u e =
          rw t (takes_second lay_dialogue m at stop r old new (asked_item the93 request) _ (not_here m at stop 100 h c also u (λ q. eqb q 96) refl)
          (takes_second lay_dialogue m at stop r old new (answered_item the93) (aborted_item the93) (not_here m at stop 100 h c also u (λ q. eqb q 97) refl)
          (kind 100 4 (λ v. aborted v.0 v.1) aborted_body lay_aborted (λ v. refl) e)))

      pub pdu_request : c ≡ false → (mid : List ℕ) → mid ≡ set old 3 2 → Takes lay_asked (around_item 96 asked_body) m at stop r mid new → Takes lay_dialogue (pdu_item s) m at stop r old new
      unfolding pdu_item lay_dialogue lay_both
      pdu_request u mid i e =
          rw t (takes_first lay_dialogue m at stop r old new (asked_item the93 request) _ (λ a n z. rw (stands_other m at stop 97 h (sym is ∙ no) a n z, stands_other m at stop 100 h (sym also ∙ u) a n z))
          (kind 96 2 (λ v. request v.0 v.1) asked_body lay_asked (λ v. refl) (rw i at e)))

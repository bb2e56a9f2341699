-- Which invoke ID a fault in a component carries, by its tag and what stands first in it. Assumes nothing.
use Prim.Native.Nat.{ℕ, ◌+◌, ◌-◌, ◌/◌, ◌%◌, ◌≤◌, ◌<◌}
use mathlib.Core.Path.{◌≡◌, refl, sym, ap, ◌∙◌}
use mathlib.Core.Bool.{Bool, true, false, cond}
use mathlib.Core.List.{List, [], ◌∷◌}
use mathlib.Core.Option.{Option, none, some}
use native.Mathlib.Omega.{arith}
use native.Mathlib.Nat.{add-zero}
use lib.ListN.{length, get_or, take, drop}
use lib.Dec.{eqb}
use lib.IntN.{ℤ}
use borrow.Author.Tests.{eqb-true, eqb-false, eq-eqb, ne_eqb}
use Rattle.base.specs.Value.{same}
use Rattle.primitive.specs.Primitive.{integer_ok, signed_of}
use Rattle.element.specs.declared.FaultKind.{FaultKind}
use Rattle.element.specs.declared.EndRead.{EndRead}
use Rattle.element.specs.declared.TagRead.{TagRead}
use Rattle.element.specs.declared.LengthRead.{LengthRead}
use Rattle.element.specs.Head.{end_of, length_of}
use Rattle.element.specs.inner.Fronts.{front_of, length_size}
use Rattle.element.proofs.Reading.{definite_size}
use Rattle.element.specs.Fault.{Text, with_invoke_id}
use Rattle.element.specs.Ask.{Got, got, bad, next, check, blamed, Body, ask_length, at_end, ask}
use Rattle.element.specs.Parts.{Item, Where, first_of, level, leaf_item, map_item, around_item, integer_item, opt_body, last_body, only_body, bind_body, map_body}
use Rattle.element.proofs.Asking.{Then, fact, void, then_next, then_blamed, ask_sound}
use Rattle.element.proofs.Views.{span_length, span_get}
use Rattle.tcap.specs.Meaning.{last, not_last, reject}
use Rattle.tcap.specs.WellFormed.{the93}
use Rattle.tcap.specs.Productions.{id_item, id_or_null_item, problem_item, code_body, both_item, invoke_body, result_body, error_body, component_item, noted}
use Rattle.read_place.specs.Places.{Far, Near, until, finite, part, front, Placed, Reads, stands_of, entry_place, length_place}
use Rattle.read_place.proofs.Answers.{placed_near}
use Rattle.read_place.proofs.Values.{placed_got}
use Rattle.read_place.proofs.Fronts.{by_front, ask_front}
use Rattle.read_place.proofs.Asked.{ask_bind, ask_map}
use Rattle.read_place.proofs.Items.{front_map, stands_here, stands_only, stands_other, or_left, or_right, placed_item, front_octet, Entered, ask_entered}
use Rattle.read_place.proofs.Bodies.{placed_where}
use Rattle.read_place.proofs.Optional.{entry_from, entry_to}
use Rattle.read_row.specs.Component.{component_body_of}
use Rattle.std.specs.Prelude.{Some, None}
use Rattle.read_component.specs.Components.{Carries, id_in_octet, KnowsId}
use Rattle.read_place.proofs.Around.{around_ask}
use Rattle.read_row.proofs.Contents.{lead, by_tag}
use Rattle.read_component.proofs.Values.{value_id, id_is, head_first}
use Rattle.read_component.proofs.FaultIds.{carries_map, plain_id, carries_none, carries_id, near_carries, far_carries, null_carries}

-- A Reject

none_got : (x : Got Text) → Then (λ a n. a ≡ none) (next {B = Option ℤ} x (λ v n. got none n))
unfolding next
none_got (got a n) = fact refl
none_got (bad f) = void

value_null : (w : Where) (d : Bool) (p : ℕ) (part : List ℕ) → Then (λ a n. a ≡ none) (ask (front w FaultKind.Another (map_item {B = Option ℤ} (λ v. none) (leaf_item 5 (same [])))) d p part)
value_null w d p part =
    ask_sound (λ a n. a ≡ none) (front w FaultKind.Another (map_item {B = Option ℤ} (λ v. none) (leaf_item 5 (same [])))) d p part (λ v e f. let z : ◌≡◌ {A = ℕ} 0 1 = cc in absurd (omega arith)) (λ h i m. then_blamed w.owner (none_got ((leaf_item 5 (same [])).contents h p part)))

module _ {B : Type 0} (y : Option ℤ → Body B) (m : List ℕ) (at stop : ℕ) (h : until stop ≤ length m) (b : Bool) (is : b ≡ stands_of m at stop 5) where
  abbrev Rejected : Option ℤ → Type 0
  Rejected j = Carries j (ask (bind_body (level 13) with_invoke_id id_or_null_item y) (finite stop) at (part m at stop))

  reject_null : b ≡ true → Rejected none
  reject_null t =
      rw (
        ask_bind (level 13) id_or_null_item (finite stop) at (part m at stop) with_invoke_id y,
        or_right (level 13) FaultKind.Another (map_item some id_item) (map_item (λ v. none) (leaf_item 5 (same []))) (finite stop) at (part m at stop) refl (λ a s z. ap (λ (q : ℕ). eqb q 2) (stands_only m at stop 5 h (sym is ∙ t) a s z)),
      )
      (null_carries _ _ (plain_id (λ v. none) 5 (same []) 13 (finite stop) at (part m at stop) refl) (value_null (level 13) (finite stop) at (part m at stop)))

  module _ (t : b ≡ false) (r : ℕ) (id : Reads (integer_item 2 1) m at stop r) where
    abbrev its_id : Got (Option ℤ)
    its_id = ask (front (level 13) FaultKind.Another (map_item some id_item)) (finite stop) at (part m at stop)

    id_here : Placed at (until stop) its_id r
    id_here = placed_item (level 13) FaultKind.Another some id_item (finite stop) at (part m at stop) (until stop) r (placed_where (integer_item 2 1) FaultKind.Another (level 13) (λ f. refl) (finite stop) at (part m at stop) (until stop) r refl id)

    by_id : (j : Option ℤ) → ((k : Option ℤ → ℕ → Got (Option ℤ × B)) → Carries j (next its_id (λ a n. blamed (with_invoke_id a) (k a n)))) → Rejected j
    by_id j e =
        rw (
          ask_bind (level 13) id_or_null_item (finite stop) at (part m at stop) with_invoke_id y,
          or_left (level 13) FaultKind.Another (map_item some id_item) (map_item (λ v. none) (leaf_item 5 (same []))) (finite stop) at (part m at stop) refl (λ a s z. stands_other m at stop 5 h (sym is ∙ t) a s z),
        ) (e _)

    reject_none : Far r → Rejected none
    reject_none f = by_id none (λ k. far_carries its_id _ at (until stop) r id_here (omega arith) f (rw (front_map (level 13) FaultKind.Another some id_item (finite stop) at (part m at stop)) (carries_map some (λ n. n) none _ (plain_id (λ v. signed_of v.1) 2 (integer_ok 1) 13 (finite stop) at (part m at stop) refl))))

    reject_known : Near r → Rejected (some (signed_of (get_or m (at + 2) 0 ∷ [])))
    reject_known f =
        by_id _ (λ k. near_carries (λ a. a) its_id k at (until stop) r id_here f (λ a n. (i : ℤ) × (a ≡ some i) × ((n ≡ 3) × (i ≡ signed_of (take 1 (drop 2 (part m at stop))))))
        (rw (front_map (level 13) FaultKind.Another some id_item (finite stop) at (part m at stop)) (then_next (value_id (level 13) (finite stop) at (part m at stop)) (λ i n q. fact (i, refl, q)))) _ (λ a q. q.1 ∙ ap (λ (i : ℤ). some i) (id_is m at stop r h id f q.0 q.2)))

-- An ID that was read takes three octets, of which the first is its tag

id_stood : (w : Where) (d : Bool) (p : ℕ) (part : List ℕ) → Then (λ i n. get_or part 0 0 ≡ 2) (ask (front w FaultKind.Another (integer_item 2 1)) d p part)
id_stood w d p part =
    ask_sound (λ i n. get_or part 0 0 ≡ 2) (front w FaultKind.Another (integer_item 2 1)) d p part (λ v e f. let z : ◌≡◌ {A = ℕ} 0 1 = cc in absurd (omega arith)) (λ h i m. then_blamed w.owner
    (then_all ((integer_item 2 1).contents h p part) (head_first part h i ∙ eqb-true (first_of h) 2 m)))
  where
    then_all : {P : Type 0} (x : Got ℤ) → P → Then (λ i n. P) x
    then_all (got a n) q = fact q
    then_all (bad f) q = void

module _ (m : List ℕ) (at stop r : ℕ) (h : until stop ≤ length m) (id : Reads (integer_item 2 1) m at stop r) (near : Near r) where
  id_sized : (r - at ≡ 3) × (at ≤ r) × (r ≤ until stop)
  id_sized =
      let z = placed_near (ask (front (level 1) FaultKind.Another (integer_item 2 1)) (finite stop) at (part m at stop)) at (until stop) r id near in
      let q = placed_got (ask (front (level 1) FaultKind.Another (integer_item 2 1)) (finite stop) at (part m at stop)) at (until stop) r _ id near (value_id (level 1) (finite stop) at (part m at stop)) in
      (q.2.0, z.0, z.1)

  id_inside : at + 2 < length m
  id_inside = omega (arith, id_sized, h)

  id_first_lem : get_or m at 0 ≡ 2
  id_first_lem =
      let q = placed_got (ask (front (level 1) FaultKind.Another (integer_item 2 1)) (finite stop) at (part m at stop)) at (until stop) r _ id near (id_stood (level 1) (finite stop) at (part m at stop)) in
      let first : get_or (part m at stop) 0 0 ≡ get_or m at 0 = rw add-zero at (span_get m at (until stop) 0 (omega (arith, id_sized))) in
      sym first ∙ q.2

-- Contents by the tag

map_carries : {A B : Type 0} (f : A → B) (b : Body A) (j : Option ℤ) (d : Bool) (p : ℕ) (part : List ℕ) → Carries j (ask b d p part) → Carries j (ask (map_body f b) d p part)
map_carries f b j d p part e = rw (ask_map f b d p part) (carries_map f (λ n. n) j (ask b d p part) e)

module _ (tag : ℕ) (m : List ℕ) (at stop : ℕ) (h : until stop ≤ length m) where
  abbrev Known : Option ℤ → Type 0
  Known j = Carries j (ask (component_body_of tag) (finite stop) at (part m at stop))

  module _ (other : tag ≡ 164 → ⊥) (r : ℕ) (id : Reads (integer_item 2 1) m at stop r) where
    by_kind : (j : Option ℤ) → ((B : Type 0) (y : ℤ → Body B) → Carries j (ask (bind_body (level 13) noted (integer_item 2 1) y) (finite stop) at (part m at stop))) → Known j
    unfolding component_body_of
    by_kind j all = rw (ne_eqb tag 164 other) (go (eqb tag 161) (eqb tag 162) (eqb tag 163))
      where
        go : (a b c : Bool) → Carries j (ask (cond a (invoke_body the93) (cond b (result_body the93 last) (cond c (error_body the93) (result_body the93 not_last)))) (finite stop) at (part m at stop))
        go true b c = map_carries _ _ j (finite stop) at (part m at stop) (all _ (λ i. opt_body (integer_item 128 1) (code_body the93)))
        go false true c = map_carries (λ v. last v.0 v.1) _ j (finite stop) at (part m at stop) (all _ (λ i. last_body (level 13) (both_item the93)))
        go false false true = map_carries _ _ j (finite stop) at (part m at stop) (all _ (λ i. code_body the93))
        go false false false = map_carries (λ v. not_last v.0 v.1) _ j (finite stop) at (part m at stop) (all _ (λ i. last_body (level 13) (both_item the93)))

    pub known_none : Far r → Known none
    known_none f = by_kind none (λ B y. carries_none y m at stop r h id f)

    pub known_id : Near r → Known (some (signed_of (get_or m (at + 2) 0 ∷ [])))
    known_id f = by_kind _ (λ B y. carries_id y m at stop r h id f)

  module _ (rejects : tag ≡ 164) where
    its_body : (j : Option ℤ) → Carries j (ask (bind_body (level 13) with_invoke_id id_or_null_item (λ i. only_body (level 13) problem_item)) (finite stop) at (part m at stop)) → Known j
    unfolding component_body_of
    its_body j e = rw rejects (map_carries (λ v. reject v.0 v.1) _ j (finite stop) at (part m at stop) e)

    module _ (b : Bool) (is : b ≡ stands_of m at stop 5) where
      pub known_null : b ≡ true → Known none
      known_null t = its_body none (reject_null (λ i. only_body (level 13) problem_item) m at stop h b is t)

      module _ (t : b ≡ false) (r : ℕ) (id : Reads (integer_item 2 1) m at stop r) where
        pub known_reject_none : Far r → Known none
        known_reject_none f = its_body none (reject_none (λ i. only_body (level 13) problem_item) m at stop h b is t r id f)

        pub known_reject_id : Near r → Known (some (signed_of (get_or m (at + 2) 0 ∷ [])))
        known_reject_id f = its_body _ (reject_known (λ i. only_body (level 13) problem_item) m at stop h b is t r id f)

  -- whatever the tag: a null is no ID, and where an ID was read no null stood
  module _ (g : at ≤ until stop) (r : ℕ) (id : Reads (integer_item 2 1) m at stop r) where
    by_null : (j : Option ℤ) → ((tag ≡ 164 → ⊥) → Known j) → (tag ≡ 164 → (b : Bool) → b ≡ stands_of m at stop 5 → Known j) → Known j
    by_null j other rejects = go (eqb tag 164) refl
      where
        go : (c : Bool) → eqb tag 164 ≡ c → Known j
        go true e = rejects (eqb-true tag 164 e) (stands_of m at stop 5) refl
        go false e = other (eqb-false tag 164 e)

    pub first_none : Far r → Known none
    first_none f = by_null none (λ o. known_none o r id f) go
      where
        go : tag ≡ 164 → (b : Bool) → b ≡ stands_of m at stop 5 → Known none
        go e true is = known_null e true is refl
        go e false is = known_reject_none e false is refl r id f

    pub first_id : Near r → Known (some (signed_of (get_or m (at + 2) 0 ∷ [])))
    first_id f = by_null _ (λ o. known_id o r id f) go
      where
        go : tag ≡ 164 → (b : Bool) → b ≡ stands_of m at stop 5 → Known (some (signed_of (get_or m (at + 2) 0 ∷ [])))
        go e true is = absurd (omega (arith, stands_here m at stop 5 h g (sym is), id_first_lem m at stop r h id f))
        go e false is = known_reject_id e false is refl r id f

-- A component

-- its own faults, of its length or its tag, carry none
by_length : {A : Type 0} (x : Item A) (m : List ℕ) (at stop : ℕ) → until stop ≤ length m → at < until stop → (inner : ℕ) → Far inner → (tag : ℕ) (l : LengthRead) → length_of (part m (at + 1) stop) true ≡ l → inner ≡ length_place at (at + 1) (until stop) l
    → Carries none (ask_length (front (level 1) FaultKind.Another x) (finite stop) at (part m at stop) tag 1 l)
unfolding ask_length length_place
by_length x m at stop h here inner f tag (LengthRead.Fault k) q e = unfold Carries in refl
by_length x m at stop h here inner f tag (LengthRead.Definite k n) q e =
    let z = definite_size (part m (at + 1) stop) true k n (LengthRead.Definite k n) (sym q) refl in
    absurd (omega (arith, z, span_length m (at + 1) (until stop) h, e, f, here))
by_length x m at stop h here inner f tag LengthRead.Indefinite q e = absurd (omega (arith, e, f))

wrong_front : {A : Type 0} (x : Item A) (d : Bool) (p : ℕ) (part : List ℕ) (e : EndRead) (t : TagRead) → ((a s : ℕ) → t ≡ TagRead.Tag a s → x.mine a ≡ false) → Carries none (by_front (front (level 1) FaultKind.UnknownComponent x) d p part e t)
unfolding by_front at_end check
wrong_front x d p part EndRead.Ended t h = unfold Carries in refl
wrong_front x d p part EndRead.Unfinished t h = unfold Carries in refl
wrong_front x d p part EndRead.More (TagRead.Fault k) h = unfold Carries in refl
wrong_front x d p part EndRead.More (TagRead.Tag a s) h = rw (h a s refl) (unfold Carries in refl)

module _ (m : List ℕ) (at stop : ℕ) (h : until stop ≤ length m) (here : at < until stop) (b : Bool) (asked : b ≡ (component_item the93).mine (get_or m at 0)) (told : b ≡ true) (inner : ℕ) (entry : inner ≡ entry_place true m at stop (get_or m at 0)) where
  pub component_carries : length m ≤ 65535 → Near inner → (st : ℕ) → st ≡ at + 1 + length_size (get_or m (at + 1) 0) → (j : Option ℤ) → Carries j (ask (component_body_of (get_or m at 0)) (finite inner) st (part m st inner))
      → Carries j (ask (front (level 1) FaultKind.UnknownComponent (component_item the93)) (finite stop) at (part m at stop))
  component_carries top near st start j e =
      rw (by_tag m at stop h (sym asked ∙ told)) (
      let s = lead (get_or m at 0) (sym asked ∙ told) in
      let q = around_ask (component_body_of (get_or m at 0)) m at stop (get_or m at 0) inner st (omega (arith, here)) h top s.0 s.1 entry near start in
      rw q.1 (carries_map (λ v. v) q.0 j _ e))

  -- its length is none
  pub entry_carries : Far inner → Carries none (ask (front (level 1) FaultKind.UnknownComponent (component_item the93)) (finite stop) at (part m at stop))
  unfolding entry_place stands_of
  entry_carries f =
      rw (by_tag m at stop h (sym asked ∙ told)) (
      let s = lead (get_or m at 0) (sym asked ∙ told) in
      let answer : inner ≡ length_place at (at + 1) (until stop) (length_of (part m (at + 1) stop) true) = entry ∙ rw (ne_eqb at (until stop) (λ z. omega (arith, z, here)), eq-eqb (get_or m at 0) (get_or m at 0) refl) in
      let i : Entered true m at stop (get_or m at 0) inner = record { here = here; first = refl; len = length_of (part m (at + 1) stop) true; len_is = refl; answer = answer } in
      rw (ask_entered true m at stop (get_or m at 0) inner (omega (arith, here)) h entry (around_item (get_or m at 0) (component_body_of (get_or m at 0))) s.0 s.1 (λ a. refl) i) (go (length_of (part m (at + 1) stop) true) refl answer))
    where
      go : (l : LengthRead) → length_of (part m (at + 1) stop) true ≡ l → inner ≡ length_place at (at + 1) (until stop) l → Carries none (ask_length (front (level 1) FaultKind.Another (around_item (get_or m at 0) (component_body_of (get_or m at 0)))) (finite stop) at (part m at stop) (get_or m at 0) 1 l)
      go l q e = by_length (around_item (get_or m at 0) (component_body_of (get_or m at 0))) m at stop h here inner f (get_or m at 0) l q e

-- no component stands here
pub wrong_carries : (m : List ℕ) (at stop : ℕ) → until stop ≤ length m → (b : Bool) → b ≡ (component_item the93).mine (get_or m at 0) → b ≡ false → Carries none (ask (front (level 1) FaultKind.UnknownComponent (component_item the93)) (finite stop) at (part m at stop))
wrong_carries m at stop h b asked told =
    rw (ask_front (front (level 1) FaultKind.UnknownComponent (component_item the93)) (finite stop) at (part m at stop) refl refl)
    (wrong_front (component_item the93) (finite stop) at (part m at stop) (end_of (finite stop) (part m at stop)) (front_of 1 (part m at stop)) (λ a s z. ap (λ (q : ℕ). (component_item the93).mine q) (sym (front_octet m at (until stop) a s h z).1) ∙ sym asked ∙ told))

-- What `known_id` answers

module _ (m : List ℕ) (at stop : ℕ) (h : until stop ≤ length m) where
  pub told_wrong : (b : Bool) → b ≡ (component_item the93).mine (get_or m at 0) → b ≡ false → KnowsId m at stop None
  unfolding id_in_octet
  told_wrong b asked told = wrong_carries m at stop h b asked told

  module _ (here : at < until stop) (b : Bool) (asked : b ≡ (component_item the93).mine (get_or m at 0)) (told : b ≡ true) (inner : ℕ) (entry : inner ≡ entry_place true m at stop (get_or m at 0)) where
    pub told_entry : Far inner → KnowsId m at stop None
    unfolding id_in_octet
    told_entry f = entry_carries m at stop h here b asked told inner entry f

    module _ (top : length m ≤ 65535) (near : Near inner) (st : ℕ) (start : st ≡ at + 1 + length_size (get_or m (at + 1) 0)) (r : ℕ) (id : Reads (integer_item 2 1) m st inner r) where
      fits : (st ≤ until inner) × (until inner ≤ length m)
      fits = let g : at ≤ until stop = omega (arith, here) in (entry_from m at stop (get_or m at 0) inner g h entry near top st start, entry_to m at stop (get_or m at 0) inner g h entry near top st start)

      pub octet_inside : Near r → st + 2 < length m
      octet_inside f = id_inside m st inner r fits.1 id f

      pub told_none : Far r → KnowsId m at stop None
      unfolding id_in_octet
      told_none f = component_carries m at stop h here b asked told inner entry top near st start none (first_none (get_or m at 0) m st inner fits.1 fits.0 r id f)

      pub told_id : Near r → KnowsId m at stop (Some (get_or m (st + 2) 0))
      unfolding id_in_octet
      told_id f = component_carries m at stop h here b asked told inner entry top near st start _ (first_id (get_or m at 0) m st inner fits.1 fits.0 r id f)

-- The two names, what stands behind a name, and 28. Assumes nothing.
use Prim.Native.Nat.{ℕ, zero, suc, ◌+◌, ◌-◌, ◌≤◌, ◌<◌}
use mathlib.Core.Path.{◌≡◌, refl, sym, ap, ap₂, ◌∙◌}
use mathlib.Core.{Bool.Bool, Bool.true, Bool.false, Bool.cond, Bool.false≢true, List.List, List.[]}
use native.Mathlib.Omega.{arith}
use lib.{ListN.length, ListN.get_or, ListN.drop, ListN.take, ListN.set, Seq.take-take, Dec.eqb, Dec.leb}
use borrow.Author.Tests.{leb-true}
use Rattle.base.{specs.Value.same, proofs.Values.same_equal}
use Rattle.primitive.specs.Primitive.{most_identifier_octets, identifier_ok, numbers}
use Rattle.element.specs.{declared.FaultKind.FaultKind, declared.LengthRead.LengthRead, declared.Walk.Walk, Element.constructor_of, Fault.Text, Head.end_of, Head.length_of, Answers.element_walk, inner.Fronts.length_size}
use Rattle.element.specs.Ask.{Got, got, bad, next, check, blamed, Body, ask, ask_length}
use Rattle.element.specs.Parts.{Item, Where, level, leaf_contents, leaf_item, around_item, map_item, first_of, bind_body, silently, only_body}
use Rattle.element.specs.Walk.{walk_item}
use Rattle.element.proofs.{Asking.Then, Asking.fact, Asking.void, Asking.the_fact, Asking.then_blamed, Asking.ask_sound, Reading.definite_size, Reading.indefinite_size}
use Rattle.element.proofs.Views.{span_length, span_drop, span_take, span_cut, SizeIs}
use Rattle.tcap.specs.{Meaning.Dialogue, Meaning.single, Meaning.octets, Meaning.structured, Meaning.unstructured, inner.Names.kind_of, inner.Names.name_kind, WellFormed.the93, Productions.name_item, Productions.held_item, Productions.external_body}
use Rattle.read_place.specs.Places.{Far, Near, until, faults, finite, part, base, front, Placed, nothing, Reads, Finishes, ended_of, unfinished_of, stands_of, entry_place, bad_place, count_of, length_place, Ready, Walked, cut_off, missing, bad_contents}
use Rattle.read_place.specs.{Laying.lay_text, Laying.lay_span, Laying.lay_name, Laying.lay_dialogue, Leaves.Left, Leaves.untold}
use Rattle.read_place.proofs.{Answers.far, Answers.close_near, Answers.closing_blamed, Answers.closing_rest, Asked.ask_bind, Bodies.placed_where, Bodies.bind_far, Bodies.map_closed, Walks.walked_near, Values.value_walk}
use Rattle.read_place.proofs.Items.{Entered, entered, ask_entered, entry_far, stands_other}
use Rattle.read_place.proofs.Optional.{here_placed, sole_missing, sole_cut, sole_walk_far, sole_walk, entry_from, entry_to, reads_within}
use Rattle.read_place.proofs.Leaves.{left_blamed, left_next, map_left, only_left}
use Rattle.read_field.proofs.{Choices.reads_map, Fields.name_none, Fields.name_good, Fields.name_bad, Fields.name_sized, Fields.count_room}
use Rattle.read_pdu.specs.Pdus.{Takes, TakesAll, pdu_item, text_at}
use Rattle.read_pdu.proofs.Taking.{Asked, takes_far, all_far, value_left, same_left, known, span_laid, takes_first, takes_second, not_here, takes_map, leaf_known, sole_far, sole}
use Rattle.read_pdu.proofs.Externals.{size_is}
use Rattle.read_dialogue.specs.Dialogues.{NameCounted, Holds, lay_else}

-- The contents of a constructor stand as those around it do

pub opens_ready : (m : List ℕ) (at stop tag inner : ℕ) → Ready m at stop → inner ≡ entry_place true m at stop tag → Near inner → (st : ℕ) → st ≡ at + 1 + length_size (get_or m (at + 1) 0) → Ready m st inner
opens_ready m at stop tag inner ready entry near st start =
    let ((g, h, top), low) = ready in
    ((entry_from m at stop tag inner g h entry near top st start, entry_to m at stop tag inner g h entry near top st start, top), near)

-- Behind another name: one element

abbrev one : Body Text
one = only_body (level 12) (walk_item 12)

-- what is walked stands behind its place
pub walked_from : (p end r : ℕ) (w : Walk) → Walked p end w r → Near r → p ≤ r
unfolding Walked
walked_from p end r (Walk.Fault k q) e f = absurd (omega (arith, e, f, far k))
walked_from p end r (Walk.Whole n) e f = omega (arith, e)

module _ (m : List ℕ) (at stop : ℕ) (b : Bool) (is : b ≡ ended_of (end_of (finite stop) (part m at stop))) (old new : List ℕ) where
  pub single_missing : b ≡ true → TakesAll (lay_span 32) (only_body (level 12) (walk_item 12)) m at stop (missing + at) old new
  single_missing t = all_far (lay_span 32) one m at stop (missing + at) old new (sole_missing m at stop 12 b is t) (omega arith)

  module _ (c : Bool) (also : c ≡ unfinished_of (end_of (finite stop) (part m at stop))) where
    pub single_cut : c ≡ true → TakesAll (lay_span 32) (only_body (level 12) (walk_item 12)) m at stop (cut_off + at) old new
    single_cut t = all_far (lay_span 32) one m at stop (cut_off + at) old new (sole_cut m at stop 12 b is c also t) (omega arith)

    module _ (no : b ≡ false) (nor : c ≡ false) (r : ℕ) (walked : Walked at (until stop) (element_walk 0 12 at (part m at stop)) r) where
      pub single_far : Far r → TakesAll (lay_span 32) (only_body (level 12) (walk_item 12)) m at stop r old new
      single_far f = all_far (lay_span 32) one m at stop r old new (sole_walk_far m at stop 12 b is c also no nor r walked f) f

      pub single_near : Ready m at stop → Near r → (s : ℕ) → Finishes nothing m r stop s → new ≡ lay_text 32 at (r - at) old → TakesAll (lay_span 32) (only_body (level 12) (walk_item 12)) m at stop s old new
      single_near ready found s e z =
          let ((g, h, top), low) = ready in
          let here = here_placed m at stop 12 b is c also no nor r walked in
          let l = walked_near at (until stop) r (element_walk 0 12 at (part m at stop)) walked found in
          let value = known _ at (until stop) r _ (text_at m at r) here found (value_walk 12 (level 12) (finite stop) at (part m at stop)) (λ v q. q ∙ rw (span_cut m at (until stop) g h, take-take (r - at) (until stop - at) (drop at m) (omega (arith, l)))) in
          record {
            closes = sole_walk m at stop 12 b is c also no nor r walked (omega arith) found s e;
            left = only_left untold (level 12) (walk_item 12) m at stop r here (lay_span 32) old (λ f l t. tt) refl new found (value_left (lay_span 32) _ (text_at m at r) old new value (z ∙ span_laid m at r 32 (r - at) old (omega (arith, h, l)) refl)) (same_left _ new);
          }

-- or octets, of which nothing is asked

abbrev any : Item Text
any = leaf_item 129 (λ c. true)

module _ (m : List ℕ) (at stop r : ℕ) (g : at ≤ until stop) (h : until stop ≤ length m) (is : r ≡ entry_place false m at stop 129) where
  octets_far : Far r → Reads any m at stop r
  unfolding constructor_of
  octets_far f = entry_far false m at stop 129 r g h is any (omega arith, omega arith, omega arith) refl (λ a. refl) f

  module _ (near : Near r) where
    abbrev from : ℕ
    from = at + 1 + length_size (get_or m (at + 1) 0)

    abbrev Found : Type 0
    Found = Reads any m at stop r × Then (λ a n. a ≡ text_at m from r) (Asked any m at stop) × (at + 1 < length m) × (from ≤ r)

    octets_by : (i : Entered false m at stop 129 r) (n : LengthRead) → i.len ≡ n → Found
    unfolding length_place ask_length leaf_contents check blamed Placed constructor_of SizeIs
    octets_by i (LengthRead.Fault k) e = absurd (omega (arith, near, far k, (i.answer ∙ ap (length_place at (at + 1) (until stop)) e)))
    octets_by i (LengthRead.Definite k n) e =
        let q : length_of (part m (at + 1) stop) false ≡ LengthRead.Definite k n = i.len_is ∙ e in
        let a : r ≡ at + 1 + (k + n) = i.answer ∙ ap (length_place at (at + 1) (until stop)) e in
        let z = definite_size (part m (at + 1) stop) false k n (LengthRead.Definite k n) (sym q) refl in
        let room : at + 1 + (k + n) ≤ until stop = omega (arith, z, span_length m (at + 1) (until stop) h, i.here) in
        let size : k ≡ length_size (get_or m (at + 1) 0) = size_is m at stop h false (LengthRead.Definite k n) q (omega (arith, z)) in
        let here : from ≡ at + (1 + k) = omega (arith, size) in
        let count : n ≡ r - from = omega (arith, a, here) in
        let asked = ask_entered false m at stop 129 r g h is any (omega arith, omega arith, omega arith) refl (λ a. refl) i in (
          rw (asked, e) (omega (arith, a), omega (arith, a, room)),
          rw (asked, e) (fact (ap₂ (λ (x : ℕ) (y : List ℕ). (x, y)) (sym here) (span_take m at (until stop) (1 + k) n (omega (arith, room)) h ∙ rw (← here, count)))),
          omega (arith, z, room, h),
          omega (arith, a, size),
        )
    octets_by i LengthRead.Indefinite e = absurd (false≢true (indefinite_size (part m (at + 1) stop) false LengthRead.Indefinite (sym (i.len_is ∙ e)) refl).1)

    found : Found
    found = let i = entered false m at stop 129 r g h is near in octets_by i i.len refl

    pub octets_inside : at + 1 < length m
    octets_inside = found.2

    pub octets_from_lem : (st : ℕ) → st ≡ at + 1 + length_size (get_or m (at + 1) 0) → st ≤ r
    octets_from_lem st start = let z = found in omega (arith, z.3, start)

    octets_taken : (st : ℕ) → st ≡ from → (old new : List ℕ) → new ≡ lay_text 32 st (r - st) old → Takes (lay_span 32) any m at stop r old new
    octets_taken st start old new z =
        let i = found in
        let there : Then (λ a n. a ≡ text_at m st r) (Asked any m at stop) = rw start i.1 in
        record { reads = i.0; left = value_left (lay_span 32) _ (text_at m st r) old new there (z ∙ span_laid m st r 32 (r - st) old (omega (arith, h, reads_within any m at stop r i.0 near)) refl) }

module _ (m : List ℕ) (at stop r : ℕ) (h : until stop ≤ length m) (b : Bool) (is : b ≡ stands_of m at stop 160) (old new : List ℕ) where
  pub outside_single : b ≡ true → Takes (lay_span 32) (around_item 160 (only_body (level 12) (walk_item 12))) m at stop r (set old 3 6) new → Holds m at stop r old new
  unfolding Holds lay_else
  outside_single t e = λ n.
      takes_first lay_else m at stop r old new (map_item (single n) (around_item 160 one)) (map_item (octets n) any) (not_here m at stop 160 h b is t (λ q. eqb q 129) refl)
      (takes_map (single n) (around_item 160 one) m at stop (lay_span 32) lay_else r old (set old 3 6) new (λ t. refl) e)

  module _ (t : b ≡ false) (g : at ≤ until stop) (entry : r ≡ entry_place false m at stop 129) where
    in_81 : (n : Text) → Takes lay_else (map_item (octets n) any) m at stop r old new → Takes lay_else (held_item the93 n false false) m at stop r old new
    in_81 n e = takes_second lay_else m at stop r old new (map_item (single n) (around_item 160 one)) (map_item (octets n) any) (λ a s z. stands_other m at stop 160 h (sym is ∙ t) a s z) e

    pub outside_far : Far r → Holds m at stop r old new
    unfolding Holds
    outside_far f = λ n. in_81 n (takes_far lay_else (map_item (octets n) any) m at stop r old new (reads_map (octets n) any m at stop r (octets_far m at stop r g h entry f)) f)

    pub outside_octets : Near r → (st : ℕ) → st ≡ at + 1 + length_size (get_or m (at + 1) 0) → new ≡ lay_text 32 st (r - st) (set old 3 7) → Holds m at stop r old new
    unfolding Holds lay_else
    outside_octets near st start z = λ n. in_81 n (takes_map (octets n) any m at stop (lay_span 32) lay_else r old (set old 3 7) new (λ t. refl) (octets_taken m at stop r g h entry near st start (set old 3 7) new z))

pub holds_within : (m : List ℕ) (at stop r : ℕ) (old new : List ℕ) → Holds m at stop r old new → Near r → r ≤ until stop
unfolding Holds
holds_within m at stop r old new e f = reads_within _ m at stop r (e (0, [])).reads f

-- it is laid out as the dialogue is, with the name before it

else_named : (n : Text) (old : List ℕ) (b : Bool) (x y : Got Text) → Then (λ a k. lay_dialogue a old ≡ lay_else a (lay_name n old)) (cond b (next x (λ a k. got (single n a) k)) (next y (λ a k. got (octets n a) k)))
unfolding next lay_dialogue lay_else
else_named n old true (got a k) y = fact refl
else_named n old true (bad f) y = void
else_named n old false x (got a k) = fact refl
else_named n old false x (bad f) = void

both_left : (x : Got (Dialogue Text)) (old mid new : List ℕ) → Then (λ a k. lay_dialogue a old ≡ lay_else a mid) x → Left lay_else untold x mid new → Left lay_dialogue untold x old new
unfolding Left
both_left (got a k) old mid new (fact q) e = e ∙ sym q
both_left (bad f) old mid new q e = tt

-- Behind a name, by its octets

module _ (m : List ℕ) (at stop r : ℕ) (n : Text) (old new : List ℕ) where
  by_outside : (mid : List ℕ) → mid ≡ lay_name n old → (s u : Bool) → 0 ≡ kind_of s u → Holds m at stop r mid new → Takes lay_dialogue (held_item the93 n s u) m at stop r old new
  unfolding kind_of Holds
  by_outside mid z true u e q = absurd (omega (arith, e))
  by_outside mid z false true e q = absurd (omega (arith, e))
  by_outside mid z false false e q =
      record {
        reads = (q n).reads;
        left = both_left _ old mid new (rw z (ask_sound (λ a k. lay_dialogue a old ≡ lay_else a (lay_name n old)) (front (level 1) FaultKind.Another (held_item the93 n false false)) (finite stop) at (part m at stop)
            (λ v e f. let z : ◌≡◌ {A = ℕ} 0 1 = cc in absurd (omega arith)) (λ h i m. then_blamed (λ f. f) (else_named n old (eqb (first_of h) 160) _ _)))) (q n).left;
      }

  by_known : (k : ℕ) (s u : Bool) → k ≡ kind_of s u → (k ≡ 0 → ⊥) → Takes lay_dialogue (around_item 160 (only_body (level 12) (pdu_item (eqb k 1)))) m at stop r old new → Takes lay_dialogue (held_item the93 n s u) m at stop r old new
  unfolding kind_of pdu_item
  by_known k true u e f q = rw e at q
  by_known k false true e f q = rw e at q
  by_known k false false e f q = absurd (f e)

abbrev held_by : Text → Item (Dialogue Text)
held_by a = held_item the93 a (same structured a.1) (same unstructured a.1)

-- A first element whose value is known, and which decides the rest

known_left : {A B : Type 0} (x : Got A) (k : A → ℕ → Got B) (p end r : ℕ) (v : A) (out : B → List ℕ → List ℕ) (old new : List ℕ) → Placed p end x r → Then (λ a n. a ≡ v) x → ((n : ℕ) → r ≡ p + n → Left out untold (k v n) old new) → Left out untold (next x k) old new
unfolding Placed Left next
known_left (got a n) k p end r v out old new e (fact q) h = rw q (h n e.0)
known_left (bad f) k p end r v out old new e q h = tt

module _ {A B : Type 0} (w : Where) (x : Item A) (y : A → Body B) (m : List ℕ) (at stop r : ℕ) (e : Placed at (until stop) (ask (front w FaultKind.Another x) (finite stop) at (part m at stop)) r)
    (near : Near r) (v : A) (given : Then (λ a n. a ≡ v) (ask (front w FaultKind.Another x) (finite stop) at (part m at stop))) (lay : B → List ℕ → List ℕ) (s : ℕ) (old new : List ℕ) where
  bind_known : TakesAll lay (y v) m r stop s old new → TakesAll (λ u l. lay u.1 l) (bind_body w silently x y) m at stop s old new
  bind_known q =
      record {
        closes = rw (ask_bind w x (finite stop) at (part m at stop) silently y) (close_near _ _ at (until stop) r e (finite stop) at (until stop) s near (λ a n i z.
            closing_blamed (λ f. f) (λ f. refl) (finite stop) _ at (until stop) s
            (rw (span_drop m at (until stop) n) (closing_rest (λ b. (a, b)) (finite stop) (ask (y a) (finite stop) (at + n) (part m (at + n) stop)) at n (until stop) s (rw (z, ← (the_fact (rw i at given))) at q.closes)))));
        left = rw (ask_bind w x (finite stop) at (part m at stop) silently y) (known_left _ _ at (until stop) r v (λ u l. lay u.1 l) old new e given (λ k z.
            left_blamed untold (λ u l. lay u.1 l) (silently v) (λ f l t. tt) _ old new
            (rw (span_drop m at (until stop) k, ← z) (left_next untold lay (λ u l. lay u.1 l) (λ b. (v, b)) (λ j. k + j) (ask (y v) (finite stop) r (part m r stop)) old old new (λ b. refl) q.left))));
      }

-- The contents of 28, by how many octets are counted of the name: none, one of the two names, which are sound, or another

bad_far : (m : List ℕ) (at stop tag r : ℕ) → r ≡ bad_place m at stop tag → Far r
unfolding bad_place base
bad_far m at stop tag r e = rw e (go (entry_place false m at stop tag) (leb faults (entry_place false m at stop tag)) refl)
  where
    go : (q : ℕ) (b : Bool) → leb faults q ≡ b → Far (cond b q (bad_contents + at))
    go q true t = leb-true faults q t
    go q false t = omega arith

sound_name : (c : List ℕ) (s u : Bool) → same structured c ≡ s → same unstructured c ≡ u → (kind_of s u ≡ 0 → ⊥) → identifier_ok c ≡ true
unfolding kind_of identifier_ok numbers
sound_name c true u i j f = rw (same_equal structured c i)
sound_name c false true i j f = rw (same_equal unstructured c j)
sound_name c false false i j f = absurd (f refl)

pub name_other : (m : List ℕ) (at n k : ℕ) (xs : List ℕ) → xs ≡ take n (drop (at + 2) m) → k ≡ name_kind xs → k ≡ 0 → name_kind (take n (drop (at + 2) m)) ≡ 0
name_other m at n k xs xs-is told z = ap name_kind (sym xs-is) ∙ sym told ∙ z

pub name_counted : (m : List ℕ) (at stop n : ℕ) → n ≡ count_of (until stop) at (get_or m at 0) (get_or m (at + 1) 0) 6 most_identifier_octets → 1 ≤ n → NameCounted m at stop n
name_counted m at stop n is some = (is, some)

pub name_to : (m : List ℕ) (at stop n : ℕ) → NameCounted m at stop n → at + 2 + n ≤ until stop
name_to m at stop n counted = (count_room m at (until stop) 6 most_identifier_octets n counted.0 counted.1).0

name_bad_all : (m : List ℕ) (at stop r : ℕ) (old new : List ℕ) → Reads name_item m at stop r → Far r → TakesAll lay_dialogue (external_body the93) m at stop r old new
name_bad_all m at stop r old new e f =
    all_far lay_dialogue (external_body the93) m at stop r old new (map_closed (λ v. v.1) (bind_body (level 13) silently name_item (λ a. only_body (level 13) (held_by a))) m at stop r
    (bind_far (level 13) name_item m at stop r (placed_where name_item FaultKind.Another (level 13) (λ f. refl) (finite stop) at (part m at stop) (until stop) r refl e) silently (λ a f. refl) (λ a. only_body (level 13) (held_by a)) f)) f

module _ (m : List ℕ) (at stop n : ℕ) (ready : Ready m at stop) where
  pub name_lacks : n ≡ count_of (until stop) at (get_or m at 0) (get_or m (at + 1) 0) 6 most_identifier_octets → n ≡ 0 → (r : ℕ) → r ≡ bad_place m at stop 6 → (old new : List ℕ) → TakesAll lay_dialogue (external_body the93) m at stop r old new
  name_lacks is z r e old new = name_bad_all m at stop r old new (name_none m at stop n ready.0.0 ready.0.1 is z r e) (bad_far m at stop 6 r e)

  module _ (counted : NameCounted m at stop n) (xs : List ℕ) (xs-is : xs ≡ take n (drop (at + 2) m)) (old new : List ℕ) where
    there : 1 ≤ n
    there = counted.1

    abbrev named : Text
    named = text_at m (at + 2) (at + 2 + n)

    size : at + 2 + n - (at + 2) ≡ n
    size = omega arith

    named_is : named.1 ≡ take n (drop (at + 2) m)
    named_is = rw size

    external_held : Reads name_item m at stop (at + 2 + n) → (s : ℕ) → TakesAll lay_dialogue (only_body (level 13) (held_by named)) m (at + 2 + n) stop s old new → TakesAll lay_dialogue (external_body the93) m at stop s old new
    external_held e s q =
        let near : Near (at + 2 + n) = omega (arith, name_to m at stop n counted) in
        let z = bind_known (level 13) name_item (λ a. only_body (level 13) (held_by a)) m at stop (at + 2 + n) (placed_where name_item FaultKind.Another (level 13) (λ f. refl) (finite stop) at (part m at stop) (until stop) (at + 2 + n) refl e)
        near named (leaf_known 6 most_identifier_octets identifier_ok refl (omega arith) name_sized m at stop (at + 2 + n) ready.0.1 e near (level 13) (λ f. refl) refl) lay_dialogue s old new q in
        record {
          closes = map_closed (λ v. v.1) (bind_body (level 13) silently name_item (λ a. only_body (level 13) (held_by a))) m at stop s z.closes;
          left = map_left untold (λ v. v.1) (bind_body (level 13) silently name_item (λ a. only_body (level 13) (held_by a))) (λ v l. lay_dialogue v.1 l) lay_dialogue m at stop old new (λ a l. refl) z.left;
        }

    module _ (e : Reads name_item m at stop (at + 2 + n)) (r : ℕ) (q : Takes lay_dialogue (held_by named) m (at + 2 + n) stop r old new) where
      behind_far : Far r → TakesAll lay_dialogue (external_body the93) m at stop r old new
      behind_far f = external_held e r (sole_far (level 13) (held_by named) lay_dialogue (λ f. refl) refl m (at + 2 + n) stop r old new q f)

      behind_near : Near r → (s : ℕ) → Finishes nothing m r stop s → TakesAll lay_dialogue (external_body the93) m at stop s old new
      behind_near f s y = external_held e s (sole (level 13) (held_by named) lay_dialogue (λ f. refl) refl m (at + 2 + n) stop r s y old new q f)

    module _ (k : ℕ) (told : k ≡ name_kind xs) (not-other : k ≡ 0 → ⊥) (r : ℕ) (e : Takes lay_dialogue (around_item 160 (only_body (level 12) (pdu_item (eqb k 1)))) m (at + 2 + n) stop r old new) where
      known_name : Reads name_item m at stop (at + 2 + n)
      known_name = name_good m at stop n ready.0.0 ready.0.1 counted.0 there xs true xs-is (sym (sound_name xs (same structured xs) (same unstructured xs) refl refl (λ z. not-other (told ∙ z)))) refl

      known_behind : Takes lay_dialogue (held_by named) m (at + 2 + n) stop r old new
      known_behind = by_known m (at + 2 + n) stop r named old new k _ _ (told ∙ ap name_kind (xs-is ∙ sym named_is)) not-other e

      pub known_far : Far r → TakesAll lay_dialogue (external_body the93) m at stop r old new
      known_far f = behind_far known_name r known_behind f

      pub known_near : Near r → (s : ℕ) → Finishes nothing m r stop s → TakesAll lay_dialogue (external_body the93) m at stop s old new
      known_near f s y = behind_near known_name r known_behind f s y

    module _ (other : name_kind (take n (drop (at + 2) m)) ≡ 0) (b : Bool) (told : b ≡ identifier_ok xs) where
      pub other_bad : b ≡ false → TakesAll lay_dialogue (external_body the93) m at stop (bad_contents + at) old new
      other_bad t = name_bad_all m at stop (bad_contents + at) old new (name_bad m at stop n ready.0.0 ready.0.1 counted.0 there xs b xs-is told t) (omega arith)

      module _ (t : b ≡ true) (r : ℕ) (mid : List ℕ) (laid : mid ≡ lay_text 24 (at + 2) n old) (e : Holds m (at + 2 + n) stop r mid new) where
        other_name : Reads name_item m at stop (at + 2 + n)
        other_name = name_good m at stop n ready.0.0 ready.0.1 counted.0 there xs b xs-is told t

        other_behind : Takes lay_dialogue (held_by named) m (at + 2 + n) stop r old new
        other_behind = by_outside m (at + 2 + n) stop r named old new mid (laid ∙ span_laid m (at + 2) (at + 2 + n) 24 n old (omega (arith, name_to m at stop n counted, ready.0.1)) (sym size)) _ _ (sym other ∙ ap name_kind (sym named_is)) e

        pub other_far : Far r → TakesAll lay_dialogue (external_body the93) m at stop r old new
        other_far f = behind_far other_name r other_behind f

        pub other_near : Near r → (s : ℕ) → Finishes nothing m r stop s → TakesAll lay_dialogue (external_body the93) m at stop s old new
        other_near f s y = behind_near other_name r other_behind f s y

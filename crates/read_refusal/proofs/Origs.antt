-- Which originating ID a fault of a message carries: that of a Begin, of a Continue or of a constructor that is no message, if it was read before. Assumes nothing.
use Rattle.std.specs.Prelude.{Some, None}
use Prim.Native.Nat.{ℕ, ◌+◌, ◌-◌, ◌≤◌, ◌<◌}
use mathlib.Core.Path.{◌≡◌, refl, sym, ap, ◌∙◌}
use mathlib.Core.Bool.{Bool, true, false, cond, not, ◌&&◌, false≢true}
use mathlib.Core.List.{List, [], ◌∷◌}
use mathlib.Core.Option
use mathlib.Core.Option.{Option, none, some, map}
use native.Mathlib.Omega.{arith}
use lib.ListN.{length, get_or, drop, take, length-drop}
use lib.Seq.{length-take-le}
use lib.Dec.{eqb}
use borrow.Author.Tests.{le-leb, lt-leb, lt-ltb, eqb-true, eq-eqb, ne_eqb}
use Rattle.element.specs.declared.FaultKind.{FaultKind}
use Rattle.element.specs.declared.EndRead.{EndRead}
use Rattle.element.specs.declared.TagRead.{TagRead}
use Rattle.element.specs.declared.LengthRead.{LengthRead}
use Rattle.element.specs.Element.{constructor_of, code_zero}
use Rattle.element.specs.Fault.{Text, Fault, fault, at, with_orig_id}
use Rattle.element.specs.Head.{end_of, length_of}
use Rattle.element.specs.inner.Fronts.{front_of, length_size}
use Rattle.element.specs.Ask.{Got, got, bad, next, check, blamed, definite, indefinite, Head, head, Body, ask_length, at_end, ask}
use Rattle.element.specs.Parts.{Item, level, leaf_item, inside, around_item, bind_body, map_body, then_body}
use Rattle.element.proofs.Asking.{Then, the_fact, fact, then_next, then_blamed, ask_sound}
use Rattle.element.proofs.Reading.{definite_size}
use Rattle.element.proofs.Views.{span_length, span_take}
use Rattle.tcap.specs.Meaning.{Originating, orig, Message, unidirectional, begin, finish, continue, abort, silent}
use Rattle.tcap.specs.WellFormed.{most_transaction_id_octets, the93, id_ok}
use Rattle.tcap.specs.Productions.{orig_item, dest_item, carried, tail_body, begin_body, continue_body, message_item}
use Rattle.tcap.specs.Record.{orig_field}
use Rattle.tcap.specs.Reading.{learnt, id_first, unknown_tag, unknown_body, text_of, unknown_orig, read_first, located_up_to}
use Rattle.tcap.proofs.FaultPlaces.{orig_of}
use Rattle.tcap.proofs.UnknownLocal.{unsought}
use Rattle.read_place.specs.Places.{Far, Near, until, finite, opening, part, front, Placed, Reads, Leads, stands_of, entry_place, length_place}
use Rattle.read_place.proofs.Answers.{far_fault, placed_near}
use Rattle.read_place.proofs.Fronts.{by_front, ask_front}
use Rattle.read_place.proofs.Asked.{ask_bind, ask_map}
use Rattle.read_place.proofs.Bodies.{placed_where}
use Rattle.read_place.proofs.Items.{Entered, ask_entered, front_octet}
use Rattle.read_place.proofs.Around.{around_ask}
use Rattle.read_place.proofs.Values.{leaf_stood}
use Rattle.read_field.proofs.Choices.{reads_map, transaction_sized}
use Rattle.read_message.proofs.Messages.{by_tag as by-its-tag, alone_is, first_is, all_of_it, alone_to}
use Rattle.read_message.specs.Messages.{message_body_of}
use Rattle.read_refusal.specs.Refusals.{constructor_tag, id_sought, OrigTold}
use Rattle.read_refusal.proofs.Unknown.{text_next, Strange, strange_of, unsought_of, first_as, unknown_ask}
use Rattle.read_refusal.proofs.NoOrig.{Said, Any, said_got, said_next, said_check, said_blamed, ask_said, Bare, bare_ask, map_bare, leaf_bare, uni_bare, end_bare, abort_bare}

abbrev kinds : Item (Message Text)
kinds = message_item the93

-- what a fault behind the message is told
abbrev Learnt : Option Text → Message Text → Type 0
Learnt t v = (f : Fault) → orig_of f ≡ none → orig_of (learnt v f) ≡ t

-- Contents that begin with the ID

carried_tells : (s : Text) (o : Originating Text) → o ≡ orig s → (g : Fault) → orig_of (carried o g) ≡ some s
unfolding with_orig_id
carried_tells s (orig u) e (fault k p o i t) = cc

module _ {B : Type 0} (f : Originating Text × B → Message Text) (y : Originating Text → Body B) (tells : (v : Originating Text × B) → learnt (f v) ≡ carried v.0) where
  abbrev id_body : Body (Message Text)
  id_body = map_body f (bind_body (level 15) carried orig_item y)

  noted_said : (s : Text) (o : Originating Text) → o ≡ orig s → (z : Got B) (n : ℕ) → Said {A = Originating Text × B} (λ v. v.0 ≡ orig s) (some s) (blamed (carried o) (next z (λ b k. got (o, b) (n + k))))
  unfolding Said blamed next
  noted_said s o e (got b k) n = e
  noted_said s o e (bad g) n = carried_tells s o e g

  module _ (d : Bool) (p : ℕ) (part : List ℕ) where
    abbrev first : Got (Originating Text)
    first = ask (front (level 15) FaultKind.Another orig_item) d p part

    unread : Said (λ o. ⊥) none first → Said (Learnt none) none (ask id_body d p part)
    unread e =
        rw (ask_map f (bind_body (level 15) carried orig_item y) d p part, ask_bind (level 15) orig_item d p part carried y)
        (said_next (λ v. ⊥) (Learnt none) none _ _ (said_next (λ o. ⊥) (λ v. ⊥) none first _ e (λ o n z. absurd z)) (λ v n z. absurd z))

    known : (s : Text) → Said (λ o. o ≡ orig s) (some s) first → Said (Learnt (some s)) (some s) (ask id_body d p part)
    known s e =
        rw (ask_map f (bind_body (level 15) carried orig_item y) d p part, ask_bind (level 15) orig_item d p part carried y)
        (said_next (λ v. v.0 ≡ orig s) (Learnt (some s)) (some s) _ _ (said_next (λ o. o ≡ orig s) (λ v. v.0 ≡ orig s) (some s) first _ e (λ o n z. noted_said s o z (ask (y o) d (p + n) (drop n part)) n))
        (λ v n z. unfold Said in (λ g h. rw (tells v) (carried_tells s v.0 z g))))

-- The ID: its own faults carry none

id_value : (p : ℕ) (part : List ℕ) (d : Bool) → Then (λ o n. (3 ≤ n) × (o ≡ orig (p + 2, take (n - 2) (drop 2 part)))) (ask (front (level 15) FaultKind.Another orig_item) d p part)
id_value p part d =
    ask_sound (λ o n. (3 ≤ n) × (o ≡ orig (p + 2, take (n - 2) (drop 2 part)))) (front (level 15) FaultKind.Another orig_item) d p part (λ v e f. let z : ◌≡◌ {A = ℕ} 0 1 = cc in absurd (omega arith))
    (λ h i m. then_blamed (λ f. f) (then_next (leaf_stood 0x48 most_transaction_id_octets id_ok (omega arith, omega arith, omega arith) (omega arith) transaction_sized p part h i m) (λ v n q. fact (q.0, ap orig q.1))))

module _ (m : List ℕ) (st inner r : ℕ) (h : until inner ≤ length m) (e : Reads (leaf_item 0x48 id_ok) m st inner r) where
  abbrev here_id : Got (Originating Text)
  here_id = ask (front (level 15) FaultKind.Another orig_item) (finite inner) st (part m st inner)

  id_placed : Placed st (until inner) here_id r
  id_placed = placed_where orig_item FaultKind.Another (level 15) (λ f. refl) (finite inner) st (part m st inner) (until inner) r refl (reads_map orig (leaf_item 0x48 id_ok) m st inner r e)

  id_bare : Said Any none here_id
  id_bare =
      ask_said Any (front (level 15) FaultKind.Another orig_item) (finite inner) st (part m st inner) (λ f e. e) (λ v e. tt)
      (λ h. said_blamed Any none (λ f. f) _ (λ f e. e) ((map_bare orig (leaf_bare 0x48 id_ok)).reads h st (part m st inner)))

  id_far : Far r → Said (λ o. ⊥) none here_id
  unfolding Said Placed
  id_far f = go here_id id_placed id_bare
    where
      go : (x : Got (Originating Text)) → Placed st (until inner) x r → Said Any none x → Said (λ o. ⊥) none x
      go (got a n) q s = omega (arith, q, f)
      go (bad g) q s = s

  -- its octets stand two octets on
  abbrev id_text : Text
  id_text = (st + 2, take (r - (st + 2)) (drop (st + 2) m))

  id_got : Near r → (n : ℕ) × (here_id ≡ got (orig id_text) n)
  unfolding Placed
  id_got f = go here_id refl id_placed (id_value st (part m st inner) (finite inner))
    where
      go : (x : Got (Originating Text)) → here_id ≡ x → Placed st (until inner) x r → Then (λ o n. (3 ≤ n) × (o ≡ orig (st + 2, take (n - 2) (drop 2 (part m st inner))))) x → (n : ℕ) × (here_id ≡ got (orig id_text) n)
      go (got a n) i q t =
          let k = the_fact t in
          let z : n - 2 ≡ r - (st + 2) = omega (arith, q) in
          (n, i ∙ ap (λ (o : Originating Text). got o n) (k.1 ∙ ap orig (rw (span_take m st (until inner) 2 (n - 2) (omega (arith, q, k.0)) h, z))))
      go (bad g) i q t = absurd (omega (arith, q, f, far_fault g))

  id_near : Near r → Said (λ o. o ≡ orig id_text) (some id_text) here_id
  unfolding Said
  id_near f = let (n, i) = id_got f in rw i refl

  id_long : Near r → (3 ≤ r - st) × (st ≤ r) × (r ≤ until inner)
  id_long f = let l = placed_near here_id st (until inner) r id_placed f in go here_id id_placed (id_value st (part m st inner) (finite inner)) l
    where
      go : (x : Got (Originating Text)) → Placed st (until inner) x r → Then (λ o n. (3 ≤ n) × (o ≡ orig (st + 2, take (n - 2) (drop 2 (part m st inner))))) x → (st ≤ r) × (r ≤ until inner) → (3 ≤ r - st) × (st ≤ r) × (r ≤ until inner)
      go (got a n) q t l = unfold Placed in (let k = the_fact t in (omega (arith, q, k.0), omega (arith, q), omega (arith, q)))
      go (bad g) q t l = unfold Placed in absurd (omega (arith, q, f, far_fault g))

no_text : (x : Got (Originating Text)) → Said (λ o. ⊥) none x → text_of x ≡ none
unfolding Said text_of
no_text (got o n) e = absurd e
no_text (bad f) e = refl

-- A message by its tag

-- where its tag stands, levels and the fault of another do not matter
module _ {A : Type 0} (x : Item A) (d : Bool) (p : ℕ) (part : List ℕ) where
  plain_length : (a s : ℕ) (l : LengthRead) → ask_length (front (level 16) FaultKind.NoMessage x) d p part a s l ≡ ask_length (front (level 1) FaultKind.Another x) d p part a s l
  unfolding ask_length
  plain_length a s (LengthRead.Fault k) = refl
  plain_length a s (LengthRead.Definite k n) = refl
  plain_length a s LengthRead.Indefinite = refl

  plain_front : (e : EndRead) (t : TagRead) → ((a s : ℕ) → t ≡ TagRead.Tag a s → x.mine a ≡ true) → by_front (front (level 16) FaultKind.NoMessage x) d p part e t ≡ by_front (front (level 1) FaultKind.Another x) d p part e t
  unfolding by_front at_end check
  plain_front EndRead.Ended t h = refl
  plain_front EndRead.Unfinished t h = refl
  plain_front EndRead.More (TagRead.Fault k) h = refl
  plain_front EndRead.More (TagRead.Tag a s) h = rw (h a s refl) (plain_length a s (length_of (drop s part) (constructor_of a)))

  plain_ask : ((a s : ℕ) → front_of 1 part ≡ TagRead.Tag a s → x.mine a ≡ true) → ask (front (level 16) FaultKind.NoMessage x) d p part ≡ ask (front (level 1) FaultKind.Another x) d p part
  plain_ask h = ask_front (front (level 16) FaultKind.NoMessage x) d p part refl refl ∙ plain_front (end_of d part) (front_of 1 part) h ∙ sym (ask_front (front (level 1) FaultKind.Another x) d p part refl refl)

-- contents without an ID
module _ {A B : Type 0} (P : B → Type 0) (f : A → B) (b : Body A) (s : Bare b) (all : (a : A) → P (f a)) where
  named_said : (d : Bool) (p : ℕ) (part : List ℕ) → Said P none (ask (map_body f b) d p part)
  named_said d p part = rw (ask_map f b d p part) (said_next Any P none (ask b d p part) _ (bare_ask s d p part) (λ a n z. unfold Said in (all a)))

  around_said : (h : Head) (p : ℕ) (part : List ℕ) (t : ℕ) → Said P none ((around_item t (map_body f b)).contents h p part)
  unfolding inside
  around_said (head a u (definite n)) p part t =
      said_next (λ v. P v.0) P none _ _ (said_next P (λ v. P v.0) none (ask (map_body f b) true (p + u) (take n (drop u part))) _ (named_said true (p + u) (take n (drop u part))) (λ v k z. said_got (λ v. P v.0) none _ _ z)) (λ v k z. said_got P none v.0 k z)
  around_said (head a u indefinite) p part t =
      said_next (λ v. P v.0) P none _ _ (said_next P (λ v. P v.0) none (ask (map_body f b) false (p + u) (drop u part)) _ (named_said false (p + u) (drop u part)) (λ v k z. said_got (λ v. P v.0) none _ _ z)) (λ v k z. said_got P none v.0 k z)

  front_said : (w : FaultKind) (l t : ℕ) (d : Bool) (p : ℕ) (part : List ℕ) → Said P none (ask (front (level l) w (around_item t (map_body f b))) d p part)
  front_said w l t d p part =
      ask_said P (front (level l) w (around_item t (map_body f b))) d p part (λ f e. e) (λ v e. let z : ◌≡◌ {A = ℕ} 0 1 = cc in absurd (omega arith)) (λ h. said_blamed P none (λ f. f) _ (λ f e. e) (around_said h p part t))

-- its own length is none: nothing is read inside
far_length : {A : Type 0} (P : A → Type 0) (x : Item A) (m : List ℕ) (at stop : ℕ) → until stop ≤ length m → at < until stop → (inner : ℕ) → Far inner → (tag : ℕ) (l : LengthRead) → length_of (part m (at + 1) stop) true ≡ l → inner ≡ length_place at (at + 1) (until stop) l
    → Said P none (ask_length (front (level 1) FaultKind.Another x) (finite stop) at (part m at stop) tag 1 l)
unfolding ask_length length_place
far_length P x m at stop h here inner f tag (LengthRead.Fault k) q e = unfold Said in refl
far_length P x m at stop h here inner f tag (LengthRead.Definite k n) q e =
    let z = definite_size (part m (at + 1) stop) true k n (LengthRead.Definite k n) (sym q) refl in
    absurd (omega (arith, z, span_length m (at + 1) (until stop) h, e, f, here))
far_length P x m at stop h here inner f tag LengthRead.Indefinite q e = absurd (omega (arith, e, f))

module _ (m : List ℕ) (len : ℕ) (is : len ≡ length m) (any : 1 ≤ len) (short : len ≤ 255) where
  abbrev Here : Option Text → Type 0
  Here t = Said (Learnt t) t (ask (front (level 16) FaultKind.NoMessage kinds) (finite len) 0 (part m 0 len))

  inside_it : (until len ≤ length m) × (0 < until len)
  inside_it = (omega (arith, is, short), omega (arith, any, short))

  only : (tag : ℕ) → get_or m 0 0 ≡ tag → (a s : ℕ) → front_of 1 (part m 0 len) ≡ TagRead.Tag a s → a ≡ tag
  only tag e a s z = sym (front_octet m 0 (until len) a s inside_it.0 z).1 ∙ e

  -- where the tag of a message stands, its contents are asked
  asked_as : (t : Option Text) → kinds.mine (get_or m 0 0) ≡ true → Said (Learnt t) t (ask (front (level 1) FaultKind.Another (around_item (get_or m 0 0) (message_body_of (get_or m 0 0)))) (finite len) 0 (part m 0 len)) → Here t
  asked_as t mine q = rw (plain_ask kinds (finite len) 0 (part m 0 len) (λ a s z. ap (λ (v : ℕ). kinds.mine v) (only (get_or m 0 0) refl a s z) ∙ mine), by-its-tag FaultKind.Another m 0 len inside_it.0 mine) q

  opened_as : (t : Option Text) → kinds.mine (get_or m 0 0) ≡ true → Here t → Said Any t (located_up_to the93 m)
  unfolding located_up_to check
  opened_as t mine e =
      let z : until len ≡ length m = omega (arith, is, short) in
      let g : Said (Learnt t) t (ask (front (level 16) FaultKind.NoMessage kinds) true 0 m) = rw (z, lt-ltb len opening (omega (arith, short)), all_of_it m len is any short) at e in
      rw (le-leb (length m) 255 (omega (arith, is, short)), first_is m len is any short, mine, alone_is m)
      (said_next (Learnt t) Any t _ _ g (λ v n k. said_blamed Any t (learnt v) _ k (said_check Any none (eqb n (length m)) _ _ refl (said_got Any none v n tt))))

  -- of a kind
  sent_as : (k : ℕ) → get_or m 0 0 ≡ k → kinds.mine k ≡ true → (t : Option Text) → Said (Learnt t) t (ask (front (level 1) FaultKind.Another (around_item k (message_body_of k))) (finite len) 0 (part m 0 len)) → Said Any t (located_up_to the93 m)
  sent_as k e mine t q = let is-mine : kinds.mine (get_or m 0 0) ≡ true = rw e mine in opened_as t is-mine (asked_as t is-mine (rw e q))

  -- around the contents
  module _ {A : Type 0} (P : A → Type 0) (b : Body A) (tag : ℕ) (leads : Leads tag) (kind : constructor_of tag ≡ true) (stands : get_or m 0 0 ≡ tag) (inner : ℕ) (entry : inner ≡ entry_place true m 0 len tag) where
    abbrev There : Option Text → Type 0
    There t = Said P t (ask (front (level 1) FaultKind.Another (around_item tag b)) (finite len) 0 (part m 0 len))

    entry_said : Far inner → There none
    unfolding entry_place stands_of
    entry_said f =
        let answer : inner ≡ length_place 0 1 (until len) (length_of (part m 1 len) true) = entry ∙ rw (ne_eqb 0 (until len) (λ z. omega (arith, z, inside_it)), eq-eqb (get_or m 0 0) tag stands) in
        let i : Entered true m 0 len tag inner = record { here = inside_it.1; first = stands; len = length_of (part m 1 len) true; len_is = refl; answer = answer } in
        rw (ask_entered true m 0 len tag inner (omega arith) inside_it.0 entry (around_item tag b) leads kind (λ a. refl) i) (far_length P (around_item tag b) m 0 len inside_it.0 inside_it.1 inner f tag (length_of (part m 1 len) true) refl answer)

    inner_said : Near inner → (st : ℕ) → st ≡ 1 + length_size (get_or m 1 0) → (t : Option Text) → Said P t (ask b (finite inner) st (part m st inner)) → There t
    inner_said near st start t e =
        let q = around_ask b m 0 len tag inner st (omega arith) inside_it.0 (omega (arith, is, short)) leads kind entry near start in
        rw q.1 (said_next P P t _ _ e (λ v k z. said_got P t v (q.0 k) z))

  -- a message, before its ID, at it, and behind it
  module _ (b : Body (Message Text)) (tag : ℕ) (leads : Leads tag) (kind : constructor_of tag ≡ true) (stands : get_or m 0 0 ≡ tag) (inner : ℕ) (entry : inner ≡ entry_place true m 0 len tag) where
    module _ {B : Type 0} (f : Originating Text × B → Message Text) (y : Originating Text → Body B) (tells : (v : Originating Text × B) → learnt (f v) ≡ carried v.0) (same : b ≡ id_body f y tells) (near : Near inner) (st : ℕ) (start : st ≡ 1 + length_size (get_or m 1 0))
        (h : until inner ≤ length m) (r : ℕ) (e : Reads (leaf_item 0x48 id_ok) m st inner r) where
      far_said : Far r → There (Learnt none) b tag leads kind stands inner entry none
      far_said g = inner_said (Learnt none) b tag leads kind stands inner entry near st start none (rw same (unread f y tells (finite inner) st (part m st inner) (id_far m st inner r h e g)))

      near_said : Near r → There (Learnt (some (id_text m st inner r h e))) b tag leads kind stands inner entry (some (id_text m st inner r h e))
      near_said g = inner_said (Learnt (some (id_text m st inner r h e))) b tag leads kind stands inner entry near st start (some (id_text m st inner r h e)) (rw same (known f y tells (finite inner) st (part m st inner) (id_text m st inner r h e) (id_near m st inner r h e g)))

  -- no message: what 8 tells

  told_as : kinds.mine (get_or m 0 0) ≡ false → (t : Option Text) → unknown_orig the93 m ≡ t → Said Any t (located_up_to the93 m)
  unfolding located_up_to check Said
  told_as mine t e = rw (le-leb (length m) 255 (omega (arith, is, short)), first_is m len is any short, mine) e

  module _ (tag : ℕ) (s : Strange tag) (stands : get_or m 0 0 ≡ tag) (inner : ℕ) (entry : inner ≡ entry_place true m 0 len tag) where
    sought_in : unknown_orig the93 m ≡ text_of (ask (front (level 1) FaultKind.Another (around_item tag (id_first the93))) (finite len) 0 (part m 0 len))
    unfolding unknown_orig
    sought_in =
        let z : until len ≡ length m = omega (arith, is, short) in
        let same : ask (unknown_body the93) (finite len) 0 (part m 0 len) ≡ ask (unknown_body the93) true 0 m = rw (z, lt-ltb len opening (omega (arith, short)), all_of_it m len is any short) in
        ap text_of (sym same) ∙ unknown_ask tag s (finite len) 0 (part m 0 len) (λ a u z. only tag stands a u z)

    strange_entry : Far inner → unknown_orig the93 m ≡ none
    strange_entry f = sought_in ∙ no_text _ (entry_said (λ o. ⊥) (id_first the93) tag s.leads s.constructor stands inner entry f)

    module _ (near : Near inner) (st : ℕ) (start : st ≡ 1 + length_size (get_or m 1 0)) (h : until inner ≤ length m) (r : ℕ) (e : Reads (leaf_item 0x48 id_ok) m st inner r) where
      strange_inner : unknown_orig the93 m ≡ text_of (here_id m st inner r h e)
      strange_inner =
          let q = around_ask (id_first the93) m 0 len tag inner st (omega arith) inside_it.0 (omega (arith, is, short)) s.leads s.constructor entry near start in
          sought_in ∙ ap text_of q.1 ∙ text_next (ask (id_first the93) (finite inner) st (part m st inner)) q.0 ∙ ap (λ (b : Body (Originating Text)). text_of (ask b (finite inner) st (part m st inner))) first_as

      strange_far : Far r → unknown_orig the93 m ≡ none
      strange_far f = strange_inner ∙ no_text _ (id_far m st inner r h e f)

      strange_near : Near r → unknown_orig the93 m ≡ some (id_text m st inner r h e)
      unfolding text_of
      strange_near f = let (n, i) = id_got m st inner r h e f in strange_inner ∙ rw i

-- What `orig_of` answers

told_by_lem : (t : Option Text) (x : Got (Message Text)) → Said Any t x → OrigTold (Option.get_or (map (λ s. orig_field (orig s)) t) None) x
unfolding Said OrigTold
told_by_lem t (got v n) e = tt
told_by_lem t (bad (fault k p o i u)) e = ap (λ (w : Option Text). Option.get_or (map (λ s. orig_field (orig s)) w) None) (sym e)

module _ (m : List ℕ) (len : ℕ) (is : len ≡ length m) where
  pub orig_long : 255 < len → OrigTold None (located_up_to the93 m)
  unfolding located_up_to check Said
  orig_long l = told_by_lem none (located_up_to the93 m) (rw (lt-leb (length m) 255 (omega (arith, l, is))))

  pub orig_empty : len ≡ 0 → OrigTold None (located_up_to the93 m)
  orig_empty l = told_by_lem none (located_up_to the93 m) (go m (omega (arith, is, l)))
    where
      go : (l : List ℕ) → length l ≡ 0 → Said Any none (located_up_to the93 l)
      go [] e = unfold located_up_to read_first check Said in refl
      go (a ∷ r) e = absurd (omega (arith, e))

  pub orig_other : len ≤ 255 → (len ≡ 0 → ⊥) → (b : Bool) → b ≡ id_sought (get_or m 0 0) → b ≡ false → OrigTold None (located_up_to the93 m)
  unfolding id_sought message_body_of
  orig_other short any b asked t = told_by_lem none (located_up_to the93 m) (go (eqb (get_or m 0 0) 98) (eqb (get_or m 0 0) 101) (eqb (get_or m 0 0) 100) (eqb (get_or m 0 0) 103) (eqb (get_or m 0 0) 97) refl refl refl refl refl (sym asked ∙ t))
    where
      some_octet : 1 ≤ len
      some_octet = omega (arith, any)

      stood : {A : Type 0} (k : ℕ) → eqb (get_or m 0 0) k ≡ true → kinds.mine k ≡ true → (f : A → Message Text) (b : Body A) → message_body_of k ≡ map_body f b → Bare b → ((a : A) → Learnt none (f a)) → Said Any none (located_up_to the93 m)
      stood k e mine f b same bare all = sent_as m len is some_octet short k (eqb-true (get_or m 0 0) k e) mine none (rw same (front_said (Learnt none) f b bare all FaultKind.Another 1 k (finite len) 0 (part m 0 len)))

      go : (u v a b c : Bool) → eqb (get_or m 0 0) 98 ≡ u → eqb (get_or m 0 0) 101 ≡ v → eqb (get_or m 0 0) 100 ≡ a → eqb (get_or m 0 0) 103 ≡ b → eqb (get_or m 0 0) 97 ≡ c
          → cond u true (cond v true (cond a false (cond b false (cond c false (constructor_tag (get_or m 0 0)))))) ≡ false → Said Any none (located_up_to the93 m)
      go true v a b c x y i j k e = absurd (false≢true (sym e))
      go false true a b c x y i j k e = absurd (false≢true (sym e))
      go false false true b c x y i j k e = stood 100 i refl (λ v. finish v.0 v.1.0 v.1.1) _ refl (end_bare the93) (λ v f g. g)
      go false false false true c x y i j k e = stood 103 j refl (λ v. abort v.0 (Option.get_or v.1 silent)) _ refl (abort_bare the93) (λ v f g. g)
      go false false false false true x y i j k e = stood 97 k refl (λ v. unidirectional v.0 v.1) _ refl (uni_bare the93) (λ v f g. g)
      go false false false false false x y i j k e = told_as m len is some_octet short (rw (x, y, i, j, k)) none (unasked m is (unsought_of (get_or m 0 0) e))
        where
          unasked : (l : List ℕ) → len ≡ length l → unknown_tag (get_or l 0 0) && not (code_zero (get_or l 0 0)) ≡ false → unknown_orig the93 l ≡ none
          unasked [] i e = absurd (omega (arith, i, some_octet))
          unasked (a ∷ r) i e = unsought the93 a r e

  module _ (any : 1 ≤ len) (short : len ≤ 255) (tag : ℕ) (first : tag ≡ get_or m 0 0) (ided : id_sought tag ≡ true) (inner : ℕ) (entry : inner ≡ entry_place true m 0 len tag) where
    -- of a Begin, of a Continue, and of what is no message
    by_tag : {P : Type 0} → (tag ≡ 98 → P) → (tag ≡ 101 → P) → (Strange tag → kinds.mine tag ≡ false → P) → P
    unfolding id_sought
    by_tag {P} f g h = go (eqb tag 98) (eqb tag 101) (eqb tag 100) (eqb tag 103) (eqb tag 97) refl refl refl refl refl ided
      where
        go : (u v a b c : Bool) → eqb tag 98 ≡ u → eqb tag 101 ≡ v → eqb tag 100 ≡ a → eqb tag 103 ≡ b → eqb tag 97 ≡ c → cond u true (cond v true (cond a false (cond b false (cond c false (constructor_tag tag))))) ≡ true → P
        go true v a b c x y i j k e = f (eqb-true tag 98 x)
        go false true a b c x y i j k e = g (eqb-true tag 101 y)
        go false false true b c x y i j k e = absurd (false≢true e)
        go false false false true c x y i j k e = absurd (false≢true e)
        go false false false false true x y i j k e = absurd (false≢true e)
        go false false false false false x y i j k e = h (strange_of tag e) (rw (x, y, i, j, k))

    strange : kinds.mine tag ≡ false → (t : Option Text) → unknown_orig the93 m ≡ t → Said Any t (located_up_to the93 m)
    strange mine t e = told_as m len is any short (rw (← first) mine) t e

    sent : (k : ℕ) → tag ≡ k → kinds.mine k ≡ true → (t : Option Text) → Said (Learnt t) t (ask (front (level 1) FaultKind.Another (around_item k (message_body_of k))) (finite len) 0 (part m 0 len)) → Said Any t (located_up_to the93 m)
    sent k e = sent_as m len is any short k (sym first ∙ e)

    pub orig_entry : Far inner → OrigTold None (located_up_to the93 m)
    unfolding constructor_of message_body_of
    orig_entry f =
        told_by_lem none (located_up_to the93 m) (by_tag
        (λ e. sent 98 e refl none (entry_said m len is any short (Learnt none) (begin_body the93) 98 (omega arith, omega arith, omega arith) refl (sym first ∙ e) inner (rw e at entry) f))
        (λ e. sent 101 e refl none (entry_said m len is any short (Learnt none) (continue_body the93) 101 (omega arith, omega arith, omega arith) refl (sym first ∙ e) inner (rw e at entry) f))
        (λ s mine. strange mine none (strange_entry m len is any short tag s (sym first) inner entry f)))

    module _ (near : Near inner) (st : ℕ) (start : st ≡ 1 + length_size (get_or m 1 0)) (r : ℕ) (e : Reads (leaf_item 0x48 id_ok) m st inner r) where
      to : until inner ≤ length m
      to = alone_to m len tag inner is short entry near st start

      pub orig_unread : Far r → OrigTold None (located_up_to the93 m)
      unfolding constructor_of message_body_of
      orig_unread f =
          told_by_lem none (located_up_to the93 m) (by_tag
          (λ i. sent 98 i refl none (far_said m len is any short (begin_body the93) 98 (omega arith, omega arith, omega arith) refl (sym first ∙ i) inner (rw i at entry)
          (λ v. begin v.0 v.1.0 v.1.1) (λ o. tail_body the93) (λ v. refl) refl near st start to r e f))
          (λ i. sent 101 i refl none (far_said m len is any short (continue_body the93) 101 (omega arith, omega arith, omega arith) refl (sym first ∙ i) inner (rw i at entry)
          (λ v. continue v.0 v.1.0 v.1.1.0 v.1.1.1) (λ o. then_body (level 15) dest_item (tail_body the93)) (λ v. refl) refl near st start to r e f))
          (λ s mine. strange mine none (strange_far m len is any short tag s (sym first) inner entry near st start to r e f)))

      abbrev text : Text
      text = (st + 2, take (r - (st + 2)) (drop (st + 2) m))

      pub orig_within : Near r → (st + 3 ≤ r) × (r ≤ 255)
      orig_within f = let l = id_long m st inner r to e f in (omega (arith, l), omega (arith, l, to, is, short))

      pub orig_read : Near r → OrigTold (Some (record { 0 = record { octets = record { place = st + 2; len = r - (st + 2) } } })) (located_up_to the93 m)
      unfolding constructor_of message_body_of
      orig_read f =
          let l = orig_within f in
          let long : length (take (r - (st + 2)) (drop (st + 2) m)) ≡ r - (st + 2) = length-take-le (r - (st + 2)) (drop (st + 2) m) (omega (arith, length-drop (st + 2) m, l, id_long m st inner r to e f, to)) in
          rw long at (told_by_lem (some text) (located_up_to the93 m) (by_tag
          (λ i. sent 98 i refl (some text) (near_said m len is any short (begin_body the93) 98 (omega arith, omega arith, omega arith) refl (sym first ∙ i) inner (rw i at entry)
          (λ v. begin v.0 v.1.0 v.1.1) (λ o. tail_body the93) (λ v. refl) refl near st start to r e f))
          (λ i. sent 101 i refl (some text) (near_said m len is any short (continue_body the93) 101 (omega arith, omega arith, omega arith) refl (sym first ∙ i) inner (rw i at entry)
          (λ v. continue v.0 v.1.0 v.1.1.0 v.1.1.1) (λ o. then_body (level 15) dest_item (tail_body the93)) (λ v. refl) refl near st start to r e f))
          (λ s mine. strange mine (some text) (strange_near m len is any short tag s (sym first) inner entry near st start to r e f))))

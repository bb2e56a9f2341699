-- The contents of the five messages, what their readers answer and what they leave: IDs, dialogue and component portions, what an Abort ends with. Assumes nothing.
use Prim.Native.Nat.{ℕ, ◌+◌, ◌≤◌}
use mathlib.Core.Path.{◌≡◌, refl, sym, ap}
use mathlib.Core.Bool.{Bool, true, false, ◌||◌, false≢true}
use mathlib.Core.List.{List, []}
use mathlib.Core.Option
use mathlib.Core.Option.{Option, none, some}
use native.Mathlib.Omega.{arith}
use lib.ListN.{length, get_or, set}
use lib.Dec.{eqb, ltb}
use borrow.Author.Tests.{eqb-true, ne_eqb}
use Rattle.element.specs.declared.FaultKind.{FaultKind}
use Rattle.element.specs.Element.{constructor_of}
use Rattle.element.specs.Fault.{fault, Text, portion, with_orig_id}
use Rattle.element.specs.inner.Fronts.{length_size}
use Rattle.element.specs.Ask.{Body}
use Rattle.element.specs.Parts.{level, silently, bind_body, then_body, only_body, opt_body, map_body}
use Rattle.tcap.specs.Meaning.{Originating, orig, Destination, dest, Component, Dialogue, Ending, Message, silent, unidirectional, begin, finish, continue, abort}
use Rattle.tcap.specs.WellFormed.{the93}
use Rattle.tcap.specs.Productions.{orig_item, dest_item, carried, components_item, dialogue_item, tail_body, message_item}
use Rattle.read_place.specs.Places.{Far, Near, until, fault_place, nothing, Reads, stands_of, entry_place}
use Rattle.read_place.specs.Leaves.{LeavesAll, unlaid}
use Rattle.read_place.specs.Laying.{lay_orig, lay_dest, lay_dialogue, lay_portion, lay_components, lay_ending, lay_message}
use Rattle.read_place.specs.Blames.{Blames}
use Rattle.read_place.proofs.Answers.{Keeps}
use Rattle.read_place.proofs.Optional.{around_entry, around_read}
use Rattle.read_place.proofs.Leaves.{Stays, around_left, opt_left_none, opt_left_far, opt_left}
use Rattle.read_field.proofs.Choices.{reads_map}
use Rattle.read_row.specs.Component.{lay_both}
use Rattle.read_row.proofs.Pairs.{Does, DoesAll, named, bind_fault, bind_rest, only_fault, only_end}
use Rattle.read_component.specs.Components.{ends_at, rows_body}
use Rattle.read_pdu.specs.Pdus.{Passed, Passes}
use Rattle.read_dialogue.proofs.Owners.{entry_belongs}
use Rattle.read_pdu.proofs.Pdus.{pass_far, pass_near, passed_there, passed_not}
use Rattle.read_dialogue.proofs.Told.{says_portion, told_far}
use Rattle.read_message.specs.Messages.{transaction_id_item, lay_id_at, components_body, ending_body, unidirectional_body, message_body_of, lay_listed, lay_tail, lay_last, LaysPortion, LaysPast}
use Rattle.read_message.proofs.PortionFaults.{carried_stays}
use Rattle.read_message.proofs.Fields.{leaves_map}

-- 6C

module _ (m : List ℕ) (at stop inner : ℕ) (g : at ≤ until stop) (h : until stop ≤ length m) (entry : inner ≡ entry_place true m at stop 108) (old new : List ℕ) where
  pub components_fault : Far inner → length old ≡ 428 → (r : ℕ) → r ≡ inner → new ≡ set old 0 0 → Does Blames lay_components (components_item the93) m at stop r old new
  unfolding constructor_of ends_at
  components_fault f long r z i =
      let e : Reads (components_item the93) m at stop inner = around_entry 108 (omega arith, omega arith, omega arith) refl (rows_body 16 0) m at stop inner g h entry f in
      rw (z, i) (e, told_far lay_components portion _ old (set old 0 0) (entry_belongs 108 (omega arith, omega arith, omega arith) refl (rows_body 16 0) m at stop inner g h entry f) (says_portion old long) at (until stop) inner e (omega arith) f)

  pub components_done : length m ≤ 65535 → Near inner → (st : ℕ) → st ≡ at + 1 + length_size (get_or m (at + 1) 0) → (r : ℕ) → DoesAll Blames lay_components (rows_body 16 0) m st inner r old new → Does Blames lay_components (components_item the93) m at stop r old new
  unfolding constructor_of ends_at
  components_done top near st start r e = (
    around_read 108 (omega arith, omega arith, omega arith) refl (rows_body 16 0) m at stop inner g h entry top near st start r e.0,
    around_left Blames (rows_body 16 0) m at stop 108 inner st g h top (omega arith, omega arith, omega arith) refl entry near start lay_components old new e.1,
  )

-- 6B where it stands, and then the rest

module _ (m : List ℕ) (at stop : ℕ) (b : Bool) (is : b ≡ stands_of m at stop 107) where
  pub passes_it : b ≡ true → (r : ℕ) (old new : List ℕ) → Does Blames lay_dialogue (dialogue_item the93) m at stop r old new → Passes 107 (dialogue_item the93) m at stop r × LaysPast m at stop old new
  unfolding LaysPortion
  passes_it t r old new e = (passed_there 107 (dialogue_item the93) m at stop r b is t e.0, rw (← is, t) e.1)

  pub passes_none : b ≡ false → (old : List ℕ) → Passes 107 (dialogue_item the93) m at stop at × LaysPast m at stop old old
  unfolding LaysPortion
  passes_none t old = (passed_not 107 (dialogue_item the93) m at stop b is t, rw (← is, t))

module _ {B : Type 0} (y : Body B) (full : y.full ≡ false) (deep : ltb 0 y.left ≡ true) (another : y.other ≡ FaultKind.Another) (keeps : Keeps y.owner) (stays : Stays Blames y.owner) (put : B → List ℕ → List ℕ)
    (m : List ℕ) (at stop r : ℕ) (g : at ≤ until stop) (h : until stop ≤ length m) (old mid : List ℕ) (e : Passes 107 (dialogue_item the93) m at stop r × LaysPast m at stop old mid) where
  abbrev opened : Body (Option (Dialogue Text) × B)
  opened = opt_body (dialogue_item the93) y

  pass_fault : length m ≤ 65535 → Far r → DoesAll Blames (lay_both lay_portion put) opened m at stop r old mid
  unfolding Passed LaysPortion
  pass_fault top f = (pass_far 107 (dialogue_item the93) (λ a. refl) y full deep another keeps (omega arith, omega arith, omega arith) m at stop g h r e.0 top f, go (stands_of m at stop 107) refl e.0 e.1)
    where
      go : (b : Bool) → stands_of m at stop 107 ≡ b → Passed b (dialogue_item the93) m at stop r → LaysPortion b m at stop old mid → LeavesAll (lay_both lay_portion put) Blames opened m at stop old mid
      go true t e q = opt_left_far Blames 107 (dialogue_item the93) (λ a. refl) y full deep another keeps (omega arith, omega arith, omega arith) m at stop g h true (sym t) lay_dialogue put (lay_both lay_portion put) old refl r e stays mid f q
      go false t e q = absurd (omega (arith, e, g, h, top, f))

  pass_rest : Near r → (s : ℕ) (new : List ℕ) → DoesAll Blames put y m r stop s mid new → DoesAll Blames (lay_both lay_portion put) opened m at stop s old new
  unfolding Passed LaysPortion lay_portion
  pass_rest f s new w = (pass_near 107 (dialogue_item the93) (λ a. refl) y full deep another keeps (omega arith, omega arith, omega arith) m at stop g h r e.0 f s w.0, go (stands_of m at stop 107) refl e.0 e.1)
    where
      go : (b : Bool) → stands_of m at stop 107 ≡ b → Passed b (dialogue_item the93) m at stop r → LaysPortion b m at stop old mid → LeavesAll (lay_both lay_portion put) Blames opened m at stop old new
      go true t e q = opt_left Blames 107 (dialogue_item the93) (λ a. refl) y full deep another keeps (omega arith, omega arith, omega arith) m at stop g h true (sym t) lay_dialogue put (lay_both lay_portion put) old refl r e stays (λ a v l. refl) mid new f q w.1
      go false t e q = opt_left_none Blames 107 (dialogue_item the93) (λ a. refl) y full deep another keeps (omega arith, omega arith, omega arith) m at stop g h false (sym t) lay_dialogue put (lay_both lay_portion put) old refl (λ v l. refl) new (rw (e, q) at w.1)

module _ (m : List ℕ) (at stop r : ℕ) (g : at ≤ until stop) (h : until stop ≤ length m) (old mid : List ℕ) (e : Passes 107 (dialogue_item the93) m at stop r × LaysPast m at stop old mid) where
  abbrev listed : Body (List (Component Text))
  listed = map_body (λ v. Option.get_or v []) components_body

  listing : (v : Option (List (Component Text))) (l : List ℕ) → lay_listed v l ≡ lay_components (Option.get_or v []) l
  unfolding lay_listed lay_components
  listing none l = refl
  listing (some cs) l = refl

  pub tail_fault : length m ≤ 65535 → Far r → DoesAll Blames lay_tail (tail_body the93) m at stop r old mid
  tail_fault = pass_fault listed refl refl refl (λ f. refl) (λ f l t. t) lay_components m at stop r g h old mid e

  pub tail_rest : Near r → (s : ℕ) (new : List ℕ) → DoesAll Blames lay_listed components_body m r stop s mid new → DoesAll Blames lay_tail (tail_body the93) m at stop s old new
  tail_rest f s new w = pass_rest listed refl refl refl (λ f. refl) (λ f l t. t) lay_components m at stop r g h old mid e f s new (named Blames (λ v. Option.get_or v []) components_body lay_listed lay_components m r stop s mid new listing w)

  pub uni_fault : length m ≤ 65535 → Far r → DoesAll Blames lay_tail unidirectional_body m at stop r old mid
  uni_fault = pass_fault (only_body (level 15) (components_item the93)) refl refl refl (λ f. refl) (λ f l t. t) lay_components m at stop r g h old mid e

  module _ (near : Near r) (s : ℕ) (laid : List ℕ) (c : Does Blames lay_components (components_item the93) m r stop s mid laid) where
    uni_rest : (q : ℕ) (new : List ℕ) → DoesAll Blames lay_components (only_body (level 15) (components_item the93)) m r stop q mid new → DoesAll Blames lay_tail unidirectional_body m at stop q old new
    uni_rest = pass_rest (only_body (level 15) (components_item the93)) refl refl refl (λ f. refl) (λ f l t. t) lay_components m at stop r g h old mid e near

    pub uni_components : Far s → DoesAll Blames lay_tail unidirectional_body m at stop s old laid
    uni_components f = uni_rest s laid (only_fault Blames 15 refl (components_item the93) lay_components m r stop s mid laid c f)

    pub uni_end : Near s → (q : ℕ) (new : List ℕ) → DoesAll Blames unlaid nothing m s stop q laid new → DoesAll Blames lay_tail unidirectional_body m at stop q old new
    uni_end f q new z = uni_rest q new (only_end Blames 15 refl (components_item the93) lay_components m r stop s mid laid c f q new z)

-- An ID and then the rest: the originating ID goes with later faults, whose number and owner it does not change

pub carried_keeps : (o : Originating Text) → Keeps (carried o)
unfolding with_orig_id fault_place
carried_keeps (orig i) (fault k q o j t) = refl

module _ {B : Type 0} (y : Body B) (put : B → List ℕ → List ℕ) (m : List ℕ) (at stop r : ℕ) (old mid : List ℕ) where
  module _ (e : Does Blames (lay_id_at 1 8) (transaction_id_item 72) m at stop r old mid) where
    its_orig : Does Blames lay_orig orig_item m at stop r old mid
    unfolding lay_orig
    its_orig = (reads_map orig (transaction_id_item 72) m at stop r e.0, leaves_map orig (transaction_id_item 72) (lay_id_at 1 8) lay_orig m at stop old mid (λ t. refl) e.1)

    pub orig_fault : Far r → DoesAll Blames (lay_both lay_orig put) (bind_body (level 15) carried orig_item (λ o. y)) m at stop r old mid
    orig_fault = bind_fault Blames 15 refl orig_item lay_orig m at stop r old mid its_orig carried carried_keeps carried_stays y put

    pub orig_rest : Near r → (s : ℕ) (new : List ℕ) → DoesAll Blames put y m r stop s mid new → DoesAll Blames (lay_both lay_orig put) (bind_body (level 15) carried orig_item (λ o. y)) m at stop s old new
    orig_rest = bind_rest Blames 15 refl orig_item lay_orig m at stop r old mid its_orig carried carried_keeps carried_stays y put

  module _ (e : Does Blames (lay_id_at 2 16) (transaction_id_item 73) m at stop r old mid) where
    its_dest : Does Blames lay_dest dest_item m at stop r old mid
    unfolding lay_dest
    its_dest = (reads_map dest (transaction_id_item 73) m at stop r e.0, leaves_map dest (transaction_id_item 73) (lay_id_at 2 16) lay_dest m at stop old mid (λ t. refl) e.1)

    pub dest_fault : Far r → DoesAll Blames (lay_both lay_dest put) (then_body (level 15) dest_item y) m at stop r old mid
    dest_fault = bind_fault Blames 15 refl dest_item lay_dest m at stop r old mid its_dest silently (λ a f. refl) (λ a f l t. t) y put

    pub dest_rest : Near r → (s : ℕ) (new : List ℕ) → DoesAll Blames put y m r stop s mid new → DoesAll Blames (lay_both lay_dest put) (then_body (level 15) dest_item y) m at stop s old new
    dest_rest = bind_rest Blames 15 refl dest_item lay_dest m at stop r old mid its_dest silently (λ a f. refl) (λ a f l t. t) y put

-- The contents by the tag

abbrev pub to_dest : Body (Destination Text × (Option (Dialogue Text) × List (Component Text)))
to_dest = then_body (level 15) dest_item (tail_body the93)

module _ (tag : ℕ) (m : List ℕ) (at stop r : ℕ) (old new : List ℕ) where
  abbrev Contents : Type 0
  Contents = DoesAll Blames lay_message (message_body_of tag) m at stop r old new

  by_name : {A : Type 0} (f : A → Message Text) (b : Body A) (lay : A → List ℕ → List ℕ) → message_body_of tag ≡ map_body f b → ((a : A) (l : List ℕ) → lay a l ≡ lay_message (f a) l) → DoesAll Blames lay b m at stop r old new → Contents
  by_name f b lay is same e = rw is (named Blames f b lay lay_message m at stop r old new same e)

  pub of_begin : tag ≡ 98 → DoesAll Blames (lay_both lay_orig lay_tail) (bind_body (level 15) carried orig_item (λ o. tail_body the93)) m at stop r old new → Contents
  unfolding message_body_of lay_message
  of_begin t = by_name (λ v. begin v.0 v.1.0 v.1.1) _ _ (ap message_body_of t) (λ v l. refl)

  pub of_continue : tag ≡ 101 → DoesAll Blames (lay_both lay_orig (lay_both lay_dest lay_tail)) (bind_body (level 15) carried orig_item (λ o. to_dest)) m at stop r old new → Contents
  unfolding message_body_of lay_message
  of_continue t = by_name (λ v. continue v.0 v.1.0 v.1.1.0 v.1.1.1) _ _ (ap message_body_of t) (λ v l. refl)

  pub of_end : tag ≡ 100 → DoesAll Blames (lay_both lay_dest lay_tail) to_dest m at stop r old new → Contents
  unfolding message_body_of lay_message
  of_end t = by_name (λ v. finish v.0 v.1.0 v.1.1) _ _ (ap message_body_of t) (λ v l. refl)

  lasting : (v : Option (Ending Text)) (l : List ℕ) → lay_last v l ≡ lay_ending (Option.get_or v silent) l
  unfolding lay_last lay_ending
  lasting none l = refl
  lasting (some s) l = refl

  pub of_abort : tag ≡ 103 → DoesAll Blames (lay_both lay_dest lay_last) (then_body (level 15) dest_item ending_body) m at stop r old new → Contents
  unfolding message_body_of lay_message
  of_abort t = by_name (λ v. abort v.0 (Option.get_or v.1 silent)) _ _ (ap message_body_of t) (λ v l. lasting v.1 (lay_dest v.0 l))

  pub of_uni : (tag ≡ 98 → ⊥) → (tag ≡ 101 → ⊥) → (tag ≡ 100 → ⊥) → (tag ≡ 103 → ⊥) → (message_item the93).mine tag ≡ true → DoesAll Blames lay_tail unidirectional_body m at stop r old new → Contents
  unfolding message_body_of lay_message
  of_uni a b c d mine =
      let t : tag ≡ 97 = go (eqb tag 97) refl (rw (ne_eqb tag 98 a, ne_eqb tag 100 c, ne_eqb tag 101 b, ne_eqb tag 103 d) at mine) in
      by_name (λ v. unidirectional v.0 v.1) _ _ (ap message_body_of t) (λ v l. refl)
    where
      go : (e : Bool) → eqb tag 97 ≡ e → (e || false) ≡ true → tag ≡ 97
      go true i o = eqb-true tag 97 i
      go false i o = absurd (false≢true o)

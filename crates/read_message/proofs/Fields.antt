-- What is laid out of the IDs and of a cause, and what is told of their faults. Assumes nothing.
use Prim.Native.Nat.{ℕ, ◌+◌, ◌-◌, ◌≤◌, ◌<◌}
use mathlib.Core.Path.{◌≡◌, refl, sym, ap, ◌∙◌}
use mathlib.Core.Bool.{Bool, true, false}
use mathlib.Core.List.{List}
use native.Mathlib.Omega.{arith}
use lib.ListN.{length, get_or, take, drop, set, length-drop}
use lib.Dec.{eqb}
use lib.Seq.{length-take-le, get_or-take, get_or-drop}
use Rattle.element.specs.declared.FaultKind.{FaultKind}
use Rattle.element.specs.Fault.{Text, portion}
use Rattle.element.specs.Ask.{Got, got, ask}
use Rattle.element.specs.Parts.{Item, level, leaf_item, map_item}
use Rattle.element.proofs.Asking.{Then, fact, then_next}
use Rattle.tcap.specs.Meaning.{cause, says}
use Rattle.tcap.specs.WellFormed.{most_transaction_id_octets, most_cause, the93, id_ok}
use Rattle.tcap.specs.Productions.{single?, octet_item, dialogue_item}
use Rattle.element.proofs.Views.{span_length, span_get}
use Rattle.read_place.specs.Places.{Far, Near, until, finite, part, front, Reads, Leads, stands_of}
use Rattle.read_place.specs.Leaves.{Left, Leaves}
use Rattle.read_place.specs.Laying.{lay_text, lay_dialogue, lay_ending}
use Rattle.read_place.specs.Blames.{Blames}
use Rattle.read_place.proofs.Answers.{placed_near}
use Rattle.read_place.proofs.Items.{front_map, stands_only, stands_other, or_left, or_right}
use Rattle.read_place.proofs.Leaves.{left_next}
use Rattle.read_place.proofs.Values.{value_leaf, placed_got}
use Rattle.read_field.proofs.Fields.{single_sized}
use Rattle.read_field.proofs.Choices.{reads_map, transaction_sized}
use Rattle.read_row.proofs.Pairs.{Does}
use Rattle.read_dialogue.proofs.Told.{Belongs, says_portion, told_far}
use Rattle.read_message.specs.Messages.{transaction_id_item, lay_id_at, ending_item}
use Rattle.read_message.proofs.PortionFaults.{plain_leaf, plain_map}

-- Under another name
pub leaves_map : {A B : Type 0} (f : A → B) (x : Item A) (lay : A → List ℕ → List ℕ) (out : B → List ℕ → List ℕ) (m : List ℕ) (at stop : ℕ) (old new : List ℕ) → ((a : A) → lay a old ≡ out (f a) old) → Leaves lay Blames x m at stop old new → Leaves out Blames (map_item f x) m at stop old new
leaves_map f x lay out m at stop old new same e = rw (front_map (level 1) FaultKind.Another f x (finite stop) at (part m at stop)) (left_next Blames lay out f (λ n. n) _ old old new same e)

-- A primitive of few octets: what was got, `f` of its octets

module _ {A : Type 0} (x : Item A) (f : Text → A) (most : ℕ) (m : List ℕ) (at stop r : ℕ) where
  abbrev leaf : Got A
  leaf = ask (front (level 1) FaultKind.Another x) (finite stop) at (part m at stop)

  abbrev Its : A → ℕ → Type 0
  Its v n = (3 ≤ n) × (v ≡ f (at + 2, take (n - 2) (drop 2 (part m at stop)))) × (n ≤ most + 2)

  module _ (e : Reads x m at stop r) where
    leaf_told : Belongs portion leaf → Far r → (lay : A → List ℕ → List ℕ) (old new : List ℕ) → length old ≡ 428 → new ≡ set old 0 0 → Left lay Blames leaf old new
    leaf_told plain far lay old new long z = rw z (told_far lay portion leaf old (set old 0 0) plain (says_portion old long) at (until stop) r e (omega arith) far)

    module _ (known : Then Its leaf) (near : Near r) where
      leaf_got : (a : A) × (leaf ≡ got a (r - at)) × Its a (r - at)
      leaf_got = placed_got leaf at (until stop) r Its e near known

      leaf_room : at + 3 ≤ r
      leaf_room = let z = leaf_got in omega (arith, z.2.0)

      leaf_left : (lay : A → List ℕ → List ℕ) (old new : List ℕ) → new ≡ lay (f (at + 2, take (r - at - 2) (drop 2 (part m at stop)))) old → Left lay Blames leaf old new
      unfolding Left
      leaf_left lay old new is = let z = leaf_got in rw z.1 (is ∙ rw (← z.2.1))

      module _ (h : until stop ≤ length m) where
        leaf_length : length (take (r - at - 2) (drop 2 (part m at stop))) ≡ r - at - 2
        leaf_length =
            let i = placed_near leaf at (until stop) r e near in
            length-take-le (r - at - 2) (drop 2 (part m at stop)) (omega (arith, length-drop 2 (part m at stop), span_length m at (until stop) h, i))

        leaf_octet : get_or (take (r - at - 2) (drop 2 (part m at stop))) 0 0 ≡ get_or m (at + 2) 0
        leaf_octet =
            let i = placed_near leaf at (until stop) r e near in
            get_or-take (r - at - 2) (drop 2 (part m at stop)) 0 0 (omega (arith, leaf_room)) ∙ get_or-drop 2 (part m at stop) 0 0 ∙ span_get m at (until stop) 2 (omega (arith, leaf_room, i))

-- The IDs

module _ (tag : ℕ) (m : List ℕ) (at stop r : ℕ) (e : Reads (transaction_id_item tag) m at stop r) where
  pub id_fault : Far r → (flag o : ℕ) (old new : List ℕ) → length old ≡ 428 → (s : ℕ) → s ≡ r → new ≡ set old 0 0 → Does Blames (lay_id_at flag o) (transaction_id_item tag) m at stop s old new
  id_fault far flag o old new long s i z = rw i (e, leaf_told (transaction_id_item tag) (λ v. v) most_transaction_id_octets m at stop r e (plain_leaf tag id_ok (finite stop) at (part m at stop)) far (lay_id_at flag o) old new long z)

  pub id_laid : Leads tag → Near r → until stop ≤ length m → (flag o : ℕ) (old new : List ℕ) → new ≡ lay_text o (at + 2) (r - at - 2) (set old flag 1) → Does Blames (lay_id_at flag o) (transaction_id_item tag) m at stop r old new
  id_laid leads near h flag o old new z =
      let known = value_leaf tag most_transaction_id_octets id_ok leads (omega arith) transaction_sized at (part m at stop) (level 1) (finite stop) in (
        e,
        leaf_left (transaction_id_item tag) (λ v. v) most_transaction_id_octets m at stop r e known near (lay_id_at flag o) old new
            (z ∙ ap (λ (n : ℕ). lay_text o (at + 2) n (set old flag 1)) (sym (leaf_length (transaction_id_item tag) (λ v. v) most_transaction_id_octets m at stop r e known near h))),
      )

  -- how many octets they have
  pub id_room : Leads tag → Near r → at + 3 ≤ r
  id_room leads near = leaf_room (transaction_id_item tag) (λ v. v) most_transaction_id_octets m at stop r e (value_leaf tag most_transaction_id_octets id_ok leads (omega arith) transaction_sized at (part m at stop) (level 1) (finite stop)) near

-- A cause, or 6B

abbrev octet_in : Text → ℕ
octet_in v = get_or v.1 0 0

module _ (m : List ℕ) (at stop r : ℕ) (e : Reads (octet_item 74 most_cause) m at stop r) where
  cause_known : Then (Its (octet_item 74 most_cause) octet_in 1 m at stop r) (leaf (octet_item 74 most_cause) octet_in 1 m at stop r)
  cause_known =
      rw (front_map (level 1) FaultKind.Another octet_in (leaf_item 74 (single? most_cause)) (finite stop) at (part m at stop))
      (then_next (value_leaf 74 1 (single? most_cause) (omega arith, omega arith, omega arith) (omega arith) (single_sized most_cause) at (part m at stop) (level 1) (finite stop)) (λ v n q. fact (q.0, ap octet_in q.1, q.2)))

  cause_plain : Belongs portion (leaf (octet_item 74 most_cause) octet_in 1 m at stop r)
  cause_plain = rw (front_map (level 1) FaultKind.Another octet_in (leaf_item 74 (single? most_cause)) (finite stop) at (part m at stop)) (plain_map octet_in _ (plain_leaf 74 (single? most_cause) (finite stop) at (part m at stop)))

  pub cause_room : Near r → until stop ≤ length m → at + 2 < length m
  cause_room near h = let i = placed_near _ at (until stop) r e near in omega (arith, h, i, leaf_room (octet_item 74 most_cause) octet_in 1 m at stop r e cause_known near)

module _ (m : List ℕ) (at stop r : ℕ) (h : until stop ≤ length m) (b : Bool) (is : b ≡ stands_of m at stop 107) (old new : List ℕ) where
  abbrev lay_cause : ℕ → List ℕ → List ℕ
  lay_cause n l = set (set l 3 1) 41 n

  module _ (t : b ≡ false) (e : Reads (octet_item 74 most_cause) m at stop r) where
    by_cause : Leaves lay_cause Blames (octet_item 74 most_cause) m at stop old new → Does Blames lay_ending ending_item m at stop r old new
    unfolding lay_ending
    by_cause q =
        rw (or_left (level 1) FaultKind.Another (map_item cause (octet_item 74 most_cause)) (map_item says (dialogue_item the93)) (finite stop) at (part m at stop) refl (λ a s z. stands_other m at stop 107 h (sym is ∙ t) a s z))
        (reads_map cause (octet_item 74 most_cause) m at stop r e, leaves_map cause (octet_item 74 most_cause) lay_cause lay_ending m at stop old new (λ n. refl) q)

    pub cause_fault : Far r → length old ≡ 428 → (s : ℕ) → s ≡ r → new ≡ set old 0 0 → Does Blames lay_ending ending_item m at stop s old new
    cause_fault far long s i z = rw i (by_cause (leaf_told (octet_item 74 most_cause) octet_in 1 m at stop r e (cause_plain m at stop r e) far lay_cause old new long z))

    pub cause_laid : Near r → new ≡ set (set old 3 1) 41 (get_or m (at + 2) 0) → Does Blames lay_ending ending_item m at stop r old new
    cause_laid near z =
        by_cause (leaf_left (octet_item 74 most_cause) octet_in 1 m at stop r e (cause_known m at stop r e) near lay_cause old new
        (z ∙ ap (λ (n : ℕ). lay_cause n old) (sym (leaf_octet (octet_item 74 most_cause) octet_in 1 m at stop r e (cause_known m at stop r e) near h))))

  pub says_laid : b ≡ true → Does Blames lay_dialogue (dialogue_item the93) m at stop r old new → Does Blames lay_ending ending_item m at stop r old new
  unfolding lay_ending
  says_laid t q =
      rw (or_right (level 1) FaultKind.Another (map_item cause (octet_item 74 most_cause)) (map_item says (dialogue_item the93)) (finite stop) at (part m at stop) refl (λ a s z. ap (λ (q : ℕ). eqb q 74) (stands_only m at stop 107 h (sym is ∙ t) a s z)))
      (reads_map says (dialogue_item the93) m at stop r q.0, leaves_map says (dialogue_item the93) lay_dialogue lay_ending m at stop old new (λ d. refl) q.1)

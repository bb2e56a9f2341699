-- From what the parts of an element take to what the whole does: constructors, the one element in them, a field and then the rest. Assumes nothing.
use Prim.Native.Nat.{ℕ, ◌+◌, ◌-◌, ◌/◌, ◌%◌, ◌≤◌, ◌<◌}
use mathlib.Core.Path.{◌≡◌, refl, sym, ap, ◌∙◌}
use mathlib.Core.{Bool.Bool, Bool.true, Bool.false, Bool.◌&&◌, Bool.and-eq-true_iff, List.List}
use native.Mathlib.Omega.{arith}
use lib.{ListN.length, ListN.get_or, ListN.drop, ListN.take, ListN.set, ListN.length-drop, Seq.length-take-le, Seq.get_or-take, Seq.get_or-drop, Dec.ltb, Dec.leb, Dec.eqb}
use borrow.Author.Tests.{leb-true}
use Rattle.element.specs.{declared.FaultKind.FaultKind, declared.TagRead.TagRead, Element.constructor_of, Fault.Text, inner.Fronts.front_of, inner.Fronts.length_size}
use Rattle.element.specs.Ask.{Got, got, bad, next, Body, ask}
use Rattle.element.specs.Parts.{Item, Where, level, leaf_item, around_item, map_item, or_item, then_body, only_body}
use Rattle.element.proofs.{Asking.Then, Asking.fact, Views.span_take}
use Rattle.primitive.specs.Primitive.{most_identifier_octets, identifier_ok}
use Rattle.tcap.specs.Productions.{single?, octet_item, name_item}
use Rattle.read_place.specs.Places.{Far, Near, until, finite, part, front, Placed, nothing, Reads, Finishes, Leads, stands_of, entry_place}
use Rattle.read_place.specs.{Laying.lay_text, Laying.lay_span, Laying.lay_name, Leaves.Left, Leaves.untold, Leaves.unlaid}
use Rattle.read_place.proofs.Items.{front_map}
use Rattle.read_place.proofs.{Answers.Keeps, Answers.placed_near, Bodies.placed_where, Bodies.then_far, Bodies.then_near, Bodies.only_far, Bodies.only_near}
use Rattle.read_place.proofs.{Items.stands_only, Items.or_left, Items.or_right, Optional.around_entry, Optional.around_read, Optional.reads_within, Values.placed_got, Values.value_leaf}
use Rattle.read_place.proofs.Leaves.{leaves_far, leaves_all_far, left_next, left_where, then_left, only_left, around_left}
use Rattle.read_field.proofs.{Choices.reads_map, Fields.name_sized, Fields.single_sized}
use Rattle.read_pdu.specs.Pdus.{sound, built, Takes, TakesAll, lay_number, lay_both, text_at}

-- what an element gives, wherever it stands
abbrev pub Asked : {A : Type 0} → Item A → List ℕ → ℕ → ℕ → Got A
Asked x m at stop = ask (front (level 1) FaultKind.Another x) (finite stop) at (part m at stop)

-- A fault: anything may be left

pub takes_far : {A : Type 0} (lay : A → List ℕ → List ℕ) (x : Item A) (m : List ℕ) (at stop r : ℕ) (old new : List ℕ) → Reads x m at stop r → Far r → Takes lay x m at stop r old new
takes_far lay x m at stop r old new e f = record { reads = e; left = leaves_far lay x m at stop r old new e f }

pub all_far : {A : Type 0} (lay : A → List ℕ → List ℕ) (b : Body A) (m : List ℕ) (at stop r : ℕ) (old new : List ℕ) → Finishes b m at stop r → Far r → TakesAll lay b m at stop r old new
all_far lay b m at stop r old new e f = record { closes = e; left = leaves_all_far lay b m at stop r old new e f }

-- What is left, from the value that was got

pub value_left : {A : Type 0} (lay : A → List ℕ → List ℕ) (x : Got A) (v : A) (old new : List ℕ) → Then (λ a n. a ≡ v) x → new ≡ lay v old → Left lay untold x old new
unfolding Left
value_left lay (got a n) v old new (fact q) e = e ∙ ap (λ (b : _). lay b old) (sym q)
value_left lay (bad f) v old new h e = tt

pub same_left : {A : Type 0} (x : Got A) (old : List ℕ) → Left unlaid untold x old old
unfolding Left
same_left (got a n) old = refl
same_left (bad f) old = tt

-- what was got stands up to the place that was told
pub known : {A : Type 0} (x : Got A) (p end r : ℕ) (P : A → ℕ → Type 0) (v : A) → Placed p end x r → Near r → Then P x → ((b : A) → P b (r - p) → b ≡ v) → Then (λ b n. b ≡ v) x
known x p end r P v e f h g = let z = placed_got x p end r P e f h in rw z.1 (fact (g z.0 z.2))

-- octets that stand in the message, by their place and length
pub span_laid : (m : List ℕ) (p q o k : ℕ) (l : List ℕ) → q ≤ length m → k ≡ q - p → lay_text o p k l ≡ lay_span o (text_at m p q) l
span_laid m p q o k l h e = let z : k ≡ length (take (q - p) (drop p m)) = e ∙ sym (length-take-le (q - p) (drop p m) (omega (arith, h, length-drop p m))) in ap (λ (j : ℕ). lay_text o p j l) z

-- Elements that are asked alike, one of two, and one under another name

module _ {A : Type 0} (lay : A → List ℕ → List ℕ) (m : List ℕ) (at stop r : ℕ) (old new : List ℕ) (x y : Item A) where
  pub takes_as : Asked x m at stop ≡ Asked y m at stop → Takes lay x m at stop r old new → Takes lay y m at stop r old new
  takes_as i e = record { reads = rw i at e.reads; left = rw i at e.left }

module _ {A : Type 0} (lay : A → List ℕ → List ℕ) (m : List ℕ) (at stop r : ℕ) (old new : List ℕ) (x y : Item A) where
  pub takes_first : ((a s : ℕ) → front_of 1 (part m at stop) ≡ TagRead.Tag a s → y.mine a ≡ false) → Takes lay x m at stop r old new → Takes lay (or_item x y) m at stop r old new
  takes_first h e = takes_as lay m at stop r old new x (or_item x y) (sym (or_left (level 1) FaultKind.Another x y (finite stop) at (part m at stop) refl h)) e

  pub takes_second : ((a s : ℕ) → front_of 1 (part m at stop) ≡ TagRead.Tag a s → x.mine a ≡ false) → Takes lay y m at stop r old new → Takes lay (or_item x y) m at stop r old new
  takes_second h e = takes_as lay m at stop r old new y (or_item x y) (sym (or_right (level 1) FaultKind.Another x y (finite stop) at (part m at stop) refl h)) e

-- a tag stands here, which another test does not take
pub not_here : (m : List ℕ) (at stop t : ℕ) → until stop ≤ length m → (b : Bool) → b ≡ stands_of m at stop t → b ≡ true → (f : ℕ → Bool) → f t ≡ false → (a s : ℕ) → front_of 1 (part m at stop) ≡ TagRead.Tag a s → f a ≡ false
not_here m at stop t h b is u f q a s z = ap f (stands_only m at stop t h (sym is ∙ u) a s z) ∙ q

placed_back : {A B : Type 0} (f : A → B) (x : Got A) (p end r : ℕ) → Placed p end (next x (λ a n. got (f a) n)) r → Placed p end x r
unfolding Placed next
placed_back f (got a n) p end r e = e
placed_back f (bad g) p end r e = e

module _ {A B : Type 0} (f : A → B) (x : Item A) (m : List ℕ) (at stop : ℕ) where
  pub item_map : Asked (map_item f x) m at stop ≡ next (Asked x m at stop) (λ a n. got (f a) n)
  item_map = front_map (level 1) FaultKind.Another f x (finite stop) at (part m at stop)

  reads_back : (r : ℕ) → Reads (map_item f x) m at stop r → Reads x m at stop r
  reads_back r e = placed_back f (Asked x m at stop) at (until stop) r (rw item_map at e)

  pub takes_map : (lay : A → List ℕ → List ℕ) (out : B → List ℕ → List ℕ) (r : ℕ) (old mid new : List ℕ) → ((a : A) → lay a mid ≡ out (f a) old) → Takes lay x m at stop r mid new → Takes out (map_item f x) m at stop r old new
  takes_map lay out r old mid new same e = record { reads = reads_map f x m at stop r e.reads; left = rw item_map (left_next untold lay out f (λ n. n) _ old mid new same e.left) }

-- Primitives of few octets: a name, and a number of one octet

sound_leads : (tag : ℕ) → sound tag ≡ true → Leads tag
sound_leads tag e =
    let (a, q) = (and-eq-true_iff (leb (tag % 32) 30) (leb 1 tag && leb 1 (tag - 32 + (32 - tag)))).0 e in
    let (b, c) = (and-eq-true_iff (leb 1 tag) (leb 1 (tag - 32 + (32 - tag)))).0 q in
    (leb-true (tag % 32) 30 a, leb-true 1 tag b, leb-true 1 (tag - 32 + (32 - tag)) c)

module _ (tag most : ℕ) (fits : List ℕ → Bool) (ok : sound tag ≡ true) (few : most ≤ 127) (sized : (c : List ℕ) → fits c ≡ true → (1 ≤ length c) × (length c ≤ most)) (m : List ℕ) (at stop r : ℕ) (h : until stop ≤ length m) (e : Reads (leaf_item tag fits) m at stop r) (near : Near r) where
  leaf_size : (at + 3 ≤ r) × (r ≤ at + most + 2) × (r ≤ until stop)
  leaf_size =
      let z = placed_got _ at (until stop) r _ e near (value_leaf tag most fits (sound_leads tag ok) few sized at (part m at stop) (level 1) (finite stop)) in
      let l = placed_near _ at (until stop) r e near in
      (omega (arith, z.2.0), omega (arith, z.2.2), l.1)

  pub leaf_known : (w : Where) → Keeps w.owner → ltb 0 w.left ≡ true → Then (λ v n. v ≡ text_at m (at + 2) r) (ask (front w FaultKind.Another (leaf_item tag fits)) (finite stop) at (part m at stop))
  leaf_known w keeps deep =
      known _ at (until stop) r _ (text_at m (at + 2) r) (placed_where (leaf_item tag fits) FaultKind.Another w keeps (finite stop) at (part m at stop) (until stop) r deep e) near (value_leaf tag most fits (sound_leads tag ok) few sized at (part m at stop) w (finite stop)) (λ v q.
      let k : r - at - 2 ≡ r - (at + 2) = omega arith in q.1 ∙ rw (span_take m at (until stop) 2 (r - at - 2) (omega (arith, leaf_size)) h, k))

pub name_room : (m : List ℕ) (at stop r : ℕ) → Reads name_item m at stop r → Near r → at + 2 ≤ r
name_room m at stop r e f = let z = placed_got _ at (until stop) r _ e f (value_leaf 6 most_identifier_octets identifier_ok (sound_leads 6 refl) (omega arith) name_sized at (part m at stop) (level 1) (finite stop)) in omega (arith, z.2.0)

module _ (m : List ℕ) (at stop r : ℕ) (h : until stop ≤ length m) where
  pub name_takes : Reads name_item m at stop r → Near r → (old new : List ℕ) → new ≡ lay_text 24 (at + 2) (r - at - 2) old → Takes lay_name name_item m at stop r old new
  name_takes e near old new z =
      record {
        reads = e;
        left = value_left lay_name _ (text_at m (at + 2) r) old new (leaf_known 6 most_identifier_octets identifier_ok refl (omega arith) name_sized m at stop r h e near (level 1) (λ f. refl) refl) (z ∙ span_laid m (at + 2) r 24 (r - at - 2) old (omega (arith, h, reads_within name_item m at stop r e near)) (omega arith));
      }

  module _ (tag most : ℕ) (ok : sound tag ≡ true) (e : Reads (octet_item tag most) m at stop r) (near : Near r) where
    abbrev its : Item Text
    its = leaf_item tag (single? most)

    plain : Reads its m at stop r
    plain = reads_back (λ v. get_or v.1 0 0) its m at stop r e

    octet_size : (at + 3 ≤ r) × (r ≤ at + 3) × (r ≤ until stop)
    octet_size = let z = leaf_size tag 1 (single? most) ok (omega arith) (single_sized most) m at stop r h plain near in (z.0, omega (arith, z.1), z.2)

    pub octet_takes : (o : ℕ) (old : List ℕ) → Takes (lay_number o) (octet_item tag most) m at stop r old (set old o (get_or m (r - 1) 0))
    octet_takes o old =
        let s = octet_size in
        let last : get_or (take (r - (at + 2)) (drop (at + 2) m)) 0 0 ≡ get_or m (r - 1) 0 = get_or-take (r - (at + 2)) (drop (at + 2) m) 0 0 (omega (arith, s.0)) ∙ get_or-drop (at + 2) m 0 0 ∙ ap (λ (k : ℕ). get_or m k 0) (omega (arith, s)) in
        takes_map (λ v. get_or v.1 0 0) its m at stop (λ v l. set l o (get_or v.1 0 0)) (lay_number o) r old old (set old o (get_or m (r - 1) 0)) (λ a. refl)
        (record { reads = plain; left = value_left (λ v l. set l o (get_or v.1 0 0)) _ (text_at m (at + 2) r) old _ (leaf_known tag 1 (single? most) ok (omega arith) (single_sized most) m at stop r h plain near (level 1) (λ f. refl) refl) (rw last) })

    -- the place of the octet
    pub octet_one : 1 ≤ r
    octet_one = omega (arith, octet_size.0)

    pub octet_in_lem : r - 1 < length m
    octet_in_lem = let s = octet_size in omega (arith, s, h)

-- A constructor, by its contents

module _ {A : Type 0} (tag : ℕ) (b : Body A) (lay : A → List ℕ → List ℕ) (ok : built tag ≡ true) (m : List ℕ) (at stop inner : ℕ) (g : at ≤ until stop) (h : until stop ≤ length m) (entry : inner ≡ entry_place true m at stop tag) where
  split : (sound tag ≡ true) × (eqb (tag / 32 % 2) 1 ≡ true)
  split = (and-eq-true_iff (sound tag) (eqb (tag / 32 % 2) 1)).0 ok

  leads : Leads tag
  leads = sound_leads tag split.0

  kind : constructor_of tag ≡ true
  unfolding constructor_of
  kind = split.1

  pub opens_far : Far inner → (old new : List ℕ) → Takes lay (around_item tag b) m at stop inner old new
  opens_far f old new = takes_far lay (around_item tag b) m at stop inner old new (around_entry tag leads kind b m at stop inner g h entry f) f

  pub opens : length m ≤ 65535 → Near inner → (st : ℕ) → st ≡ at + 1 + length_size (get_or m (at + 1) 0) → (r : ℕ) (old new : List ℕ) → TakesAll lay b m st inner r old new → Takes lay (around_item tag b) m at stop r old new
  opens top near st start r old new e =
      record {
        reads = around_read tag leads kind b m at stop inner g h entry top near st start r e.closes;
        left = around_left untold b m at stop tag inner st g h top leads kind entry near start lay old new e.left;
      }

-- One element and nothing more

module _ {A : Type 0} (w : Where) (x : Item A) (lay : A → List ℕ → List ℕ) (keeps : Keeps w.owner) (deep : ltb 0 w.left ≡ true) (m : List ℕ) (at stop r : ℕ) where
  lifted : Reads x m at stop r → Placed at (until stop) (ask (front w FaultKind.Another x) (finite stop) at (part m at stop)) r
  lifted e = placed_where x FaultKind.Another w keeps (finite stop) at (part m at stop) (until stop) r deep e

  pub sole_far : (old new : List ℕ) → Takes lay x m at stop r old new → Far r → TakesAll lay (only_body w x) m at stop r old new
  sole_far old new e f = all_far lay (only_body w x) m at stop r old new (only_far w x m at stop r (lifted e.reads) f) f

  pub sole : (s : ℕ) → Finishes nothing m r stop s → (old new : List ℕ) → Takes lay x m at stop r old new → Near r → TakesAll lay (only_body w x) m at stop s old new
  sole s q old new e f =
      record {
        closes = only_near w x m at stop r (lifted e.reads) keeps deep s f q;
        left = only_left untold w x m at stop r (lifted e.reads) lay old (λ f l t. tt) deep new f (left_where untold lay x FaultKind.Another w (λ f l t. tt) (finite stop) at (part m at stop) old new deep e.left) (same_left _ new);
      }

-- A field of a PDU and then the rest

module _ {A B : Type 0} (x : Item A) (y : Body B) (m : List ℕ) (at stop r : ℕ) where
  placed : Reads x m at stop r → Placed at (until stop) (ask (front (level 11) FaultKind.Another x) (finite stop) at (part m at stop)) r
  placed e = placed_where x FaultKind.Another (level 11) (λ f. refl) (finite stop) at (part m at stop) (until stop) r refl e

  pub field_far : (lay : A × B → List ℕ → List ℕ) (old new : List ℕ) → Reads x m at stop r → Far r → TakesAll lay (then_body (level 11) x y) m at stop r old new
  field_far lay old new e f = all_far lay (then_body (level 11) x y) m at stop r old new (then_far (level 11) x m at stop r (placed e) y f) f

  pub field : (lay : A → List ℕ → List ℕ) (put : B → List ℕ → List ℕ) (old mid new : List ℕ) (s : ℕ) → Takes lay x m at stop r old mid → Near r → TakesAll put y m r stop s mid new → TakesAll (lay_both lay put) (then_body (level 11) x y) m at stop s old new
  unfolding lay_both
  field lay put old mid new s e f q =
      record {
        closes = then_near (level 11) x m at stop r (placed e.reads) y s f q.closes;
        left = then_left untold (level 11) x m at stop r (placed e.reads) lay old y put mid new f (left_where untold lay x FaultKind.Another (level 11) (λ f l t. tt) (finite stop) at (part m at stop) old mid refl e.left) q.left;
      }

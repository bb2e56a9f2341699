-- Whom the first fault in 6B belongs to, and what is told of it. Assumes nothing.
use Prim.Native.Nat.{ℕ, ◌+◌, ◌≤◌, ◌<◌}
use mathlib.Core.Path.{◌≡◌, refl, sym}
use mathlib.Core.{Bool.Bool, Bool.true, Bool.false, Bool.cond, List.List, List.[]}
use native.Mathlib.Omega.{arith}
use lib.ListN.{length, get_or, drop, set}
use Rattle.element.specs.{declared.FaultKind.FaultKind, declared.EndRead.EndRead, declared.TagRead.TagRead, declared.LengthRead.LengthRead, Element.constructor_of, Head.end_of, Head.length_of, inner.Fronts.front_of, inner.Fronts.length_size}
use Rattle.element.specs.Fault.{Owner, portion, dialogue, fault, Text, at, in_dialogue}
use Rattle.element.specs.Ask.{Got, got, bad, next, check, blamed, definite, indefinite, head, Body, ask_length, at_end, ask_end, ask}
use Rattle.element.specs.Parts.{Item, level, done, around_item, only_body}
use Rattle.element.proofs.{Reading.definite_size, Views.span_length, Views.span_drop}
use Rattle.tcap.specs.{Meaning.Dialogue, WellFormed.the93, Productions.external_body, Productions.inside6_b, Productions.dialogue_item}
use Rattle.read_place.specs.Places.{Far, Near, until, finite, part, front, nothing, fault_place, Placed, Reads, Finishes, Leads, stands_of, entry_place, length_place, wrong_place, Ready, base, ended_of, unfinished_of}
use Rattle.read_place.specs.{Laying.lay_dialogue, Leaves.Leaves, Blames.Blames}
use Rattle.read_place.proofs.{Around.around_ask, Answers.Keeps, Answers.far_fault, Walks.unfinished_is, Asked.ask_only, Bodies.placed_where}
use Rattle.read_place.proofs.Fronts.{by_front, ask_front, ended_is, more_here}
use Rattle.read_place.proofs.{Items.Entered, Items.ask_entered, Items.stands_here, Items.stands_other, Optional.entry_inside, Optional.entry_from, Optional.entry_to}
use Rattle.read_pdu.specs.Pdus.{Takes}
use Rattle.read_pdu.proofs.Taking.{opens_far, opens, sole_far, sole}
use Rattle.read_dialogue.specs.Dialogues.{owner_mark}
use Rattle.read_dialogue.proofs.Told.{Belongs, Says, says_portion, says_dialogue, told_far, told_near}

-- What is put around a fault does not change whom it belongs to

rest_belongs : {A B : Type 0} (w : Owner) (f : A → B) (u : ℕ → ℕ) (x : Got A) → Belongs w x → Belongs w (next x (λ b k. got (f b) (u k)))
unfolding Belongs next
rest_belongs w f u (got a k) e = tt
rest_belongs w f u (bad (fault k q o i s)) e = e

inside_belongs : {A : Type 0} (x : Got A) → Belongs dialogue (blamed in_dialogue x)
unfolding Belongs blamed in_dialogue
inside_belongs (got a n) = tt
inside_belongs (bad (fault k q o i s)) = refl

module _ {A B : Type 0} (x : Got A) (f : A → ℕ → Got B) (p end r : ℕ) (e : Placed p end x r) (w : Owner) where
  belongs_far : Near end → Far r → Belongs w x → Belongs w (next x f)
  unfolding Placed Belongs next
  belongs_far b h t = go x e t
    where
      go : (x : Got A) → Placed p end x r → Belongs w x → Belongs w (next x f)
      go (got a n) e t = absurd (omega (arith, b, e, h))
      go (bad (fault k q o i s)) e t = t

  belongs_near : Near r → ((a : A) (n : ℕ) → r ≡ p + n → Belongs w (f a n)) → Belongs w (next x f)
  unfolding Placed Belongs next
  belongs_near h g = go x e
    where
      go : (x : Got A) → Placed p end x r → Belongs w (next x f)
      go (got a n) e = g a n e.0
      go (bad b) e = absurd (omega (arith, e, h, far_fault b))

-- The tag and the length of an element belong to what is around it

module _ {A : Type 0} (x : Item A) (d : Bool) (p : ℕ) (part : List ℕ) where
  other_belongs : (e : EndRead) (t : TagRead) → ((a s : ℕ) → t ≡ TagRead.Tag a s → x.mine a ≡ false) → Belongs portion (by_front (front (level 1) FaultKind.Another x) d p part e t)
  unfolding by_front at_end check Belongs
  other_belongs EndRead.Ended t h = refl
  other_belongs EndRead.Unfinished t h = refl
  other_belongs EndRead.More (TagRead.Fault k) h = refl
  other_belongs EndRead.More (TagRead.Tag a s) h = rw (h a s refl)

module _ {A : Type 0} (tag : ℕ) (leads : Leads tag) (kind : constructor_of tag ≡ true) (b : Body A) (m : List ℕ) (at stop inner : ℕ) (g : at ≤ until stop) (h : until stop ≤ length m) (entry : inner ≡ entry_place true m at stop tag) (far : Far inner) where
  abbrev around : Got A
  around = ask (front (level 1) FaultKind.Another (around_item tag b)) (finite stop) at (part m at stop)

  length_belongs : (n : LengthRead) → length_of (part m (at + 1) stop) true ≡ n → at ≤ until stop → inner ≡ length_place at (at + 1) (until stop) n → at + 1 ≤ until stop → Belongs portion (ask_length (front (level 1) FaultKind.Another (around_item tag b)) (finite stop) at (part m at stop) tag 1 n)
  unfolding ask_length length_place Belongs
  length_belongs (LengthRead.Fault k) q l e i = refl
  length_belongs (LengthRead.Definite k n) q l e i =
      let z = definite_size (part m (at + 1) stop) true k n (LengthRead.Definite k n) (sym q) refl in
      absurd (omega (arith, z, span_length m (at + 1) (until stop) h, e, far, i))
  length_belongs LengthRead.Indefinite q l e i = absurd (omega (arith, e, far))

  pub entry_belongs : Belongs portion around
  unfolding entry_place
  entry_belongs = go (stands_of m at stop tag) refl entry
    where
      go : (c : Bool) → stands_of m at stop tag ≡ c → inner ≡ cond c (length_place at (at + 1) (until stop) (length_of (part m (at + 1) stop) true)) (wrong_place m at stop (base FaultKind.Another)) → Belongs portion around
      go true t e =
          let z = stands_here m at stop tag h g t in
          let i : Entered true m at stop tag inner = record { here = z.0; first = z.1; len = length_of (part m (at + 1) stop) true; len_is = refl; answer = e } in
          rw (ask_entered true m at stop tag inner g h entry (around_item tag b) leads kind (λ a. refl) i) (length_belongs (length_of (part m (at + 1) stop) true) refl g e (omega (arith, z.0)))
      go false t e = rw (ask_front (front (level 1) FaultKind.Another (around_item tag b)) (finite stop) at (part m at stop) refl refl) (other_belongs (around_item tag b) (finite stop) at (part m at stop) (end_of (finite stop) (part m at stop)) (front_of 1 (part m at stop)) (λ a s z. stands_other m at stop tag h t a s z))

-- the owner of the first fault in the contents of 6B, by what stands at its place
owner_of : EndRead → Owner
owner_of EndRead.Ended = portion
owner_of EndRead.Unfinished = portion
owner_of EndRead.More = dialogue

-- An element inside 6B, and what must not come behind it

module _ {A : Type 0} (d : Bool) (p : ℕ) (part : List ℕ) where
  owned_length : (x : Item A) (a s : ℕ) (l : LengthRead) → Belongs dialogue (ask_length (front (inside6_b the93) FaultKind.Another x) d p part a s l)
  unfolding ask_length
  owned_length x a s (LengthRead.Fault k) = unfold Belongs in_dialogue in refl
  owned_length x a s (LengthRead.Definite k n) = inside_belongs (x.contents (head a (s + k) (definite n)) p part)
  owned_length x a s LengthRead.Indefinite = inside_belongs (x.contents (head a (s + 1) indefinite) p part)

  owned_check : (c : Bool) (k : FaultKind) (z : Got A) → Belongs dialogue z → Belongs dialogue (check c (in_dialogue (at k p)) z)
  unfolding check
  owned_check true k z e = e
  owned_check false k z e = unfold Belongs in_dialogue in refl

  owned_front : (x : Item A) (t : TagRead) → Belongs dialogue (by_front (front (inside6_b the93) FaultKind.Another x) d p part EndRead.More t)
  unfolding by_front
  owned_front x (TagRead.Fault k) = unfold Belongs in_dialogue in refl
  owned_front x (TagRead.Tag a s) = owned_check (x.mine a) FaultKind.Another _ (owned_length x a s (length_of (drop s part) (constructor_of a)))

  more_belongs : (x : Item A) → end_of d part ≡ EndRead.More → Belongs dialogue (ask (front (inside6_b the93) FaultKind.Another x) d p part)
  more_belongs x e = rw (ask_front (front (inside6_b the93) FaultKind.Another x) d p part refl refl, e) (owned_front x (front_of 1 part))

  done_by : (a : A) (e : EndRead) (t : TagRead) → Belongs (owner_of e) (by_front (done (inside6_b the93) a) d p part e t)
  unfolding by_front at_end check owner_of
  done_by a EndRead.Ended t = unfold Belongs in tt
  done_by a EndRead.Unfinished t = unfold Belongs in refl
  done_by a EndRead.More (TagRead.Fault k) = unfold Belongs in_dialogue in refl
  done_by a EndRead.More (TagRead.Tag b s) = unfold Belongs in_dialogue in refl

  done_belongs : (a : A) → Belongs (owner_of (end_of d part)) (ask (done (inside6_b the93) a) d p part)
  done_belongs a = rw (ask_front (done (inside6_b the93) a) d p part refl refl) (done_by a (end_of d part) (front_of 1 part))

  only_belongs : (x : Item A) (end r : ℕ) → Placed p end (ask (front (inside6_b the93) FaultKind.Another x) d p part) r → Near end → Far r → Belongs (owner_of (end_of d part)) (ask (only_body (inside6_b the93) x) d p part)
  unfolding ask ask_end at_end Belongs owner_of
  only_belongs x end r e b f = go (end_of d part) refl
    where
      go : (z : EndRead) → end_of d part ≡ z → Belongs (owner_of z) (ask (only_body (inside6_b the93) x) d p part)
      go EndRead.Ended q = rw q
      go EndRead.Unfinished q = rw q
      go EndRead.More q = rw (ask_only (inside6_b the93) x d p part) (belongs_far _ _ p end r e dialogue b f (more_belongs x q))

-- The mark of an owner

module _ (e : EndRead) (b : Bool) (is : b ≡ ended_of e) where
  pub mark_ended : b ≡ true → 0 ≡ owner_mark e
  unfolding owner_mark
  mark_ended t = rw (ended_is e b is t)

  module _ (c : Bool) (also : c ≡ unfinished_of e) where
    pub mark_unfinished : c ≡ true → 0 ≡ owner_mark e
    unfolding owner_mark
    mark_unfinished t = rw (unfinished_is e c also t)

    pub mark_more : b ≡ false → c ≡ false → 1 ≡ owner_mark e
    unfolding owner_mark
    mark_more left whole = rw (more_here e b c is also left whole)

says_mark : (l : List ℕ) (e : EndRead) → length l ≡ 428 → Says (owner_of e) (set l 0 (owner_mark e))
unfolding owner_mark owner_of
says_mark l EndRead.Ended long = says_portion l long
says_mark l EndRead.Unfinished long = says_portion l long
says_mark l EndRead.More long = says_dialogue l long

-- 6B where its tag stands

abbrev external : Item (Dialogue Text)
external = around_item 40 (external_body the93)

abbrev contents : Body (Dialogue Text)
contents = only_body (inside6_b the93) external

abbrev Told : List ℕ → ℕ → ℕ → List ℕ → List ℕ → Type 0
Told m at stop old new = Leaves lay_dialogue Blames (dialogue_item the93) m at stop old new

keeps : Keeps in_dialogue
unfolding in_dialogue fault_place
keeps (fault k q o i t) = refl

module _ (m : List ℕ) (at stop : ℕ) (ready : Ready m at stop) (there : stands_of m at stop 107 ≡ true) where
  g : at ≤ until stop
  g = ready.0.0

  h : until stop ≤ length m
  h = ready.0.1

  top : length m ≤ 65535
  top = ready.0.2

  pub stood_room : at + 1 ≤ until stop
  stood_room = let z = stands_here m at stop 107 h g there in omega (arith, z.0)

  module _ (inner : ℕ) (is : inner ≡ length_place at (at + 1) (until stop) (length_of (part m (at + 1) stop) true)) where
    entry : inner ≡ entry_place true m at stop 107
    unfolding entry_place
    entry = rw there is

    pub entry_reads : Far inner → Reads (dialogue_item the93) m at stop inner
    entry_reads f = (opens_far 107 contents lay_dialogue refl m at stop inner g h entry f [] []).reads

    pub entry_told_lem : Far inner → (old : List ℕ) → length old ≡ 428 → Told m at stop old (set old 0 0)
    unfolding constructor_of
    entry_told_lem f old long =
        told_far lay_dialogue portion _ old (set old 0 0) (entry_belongs 107 (omega arith, omega arith, omega arith) refl contents m at stop inner g h entry f) (says_portion old long) at (until stop) inner (entry_reads f) (omega arith) f

    module _ (near : Near inner) where
      pub stood_inside : at + 1 < length m
      stood_inside = entry_inside m at stop 107 inner g h entry near

      module _ (st : ℕ) (start : st ≡ at + 1 + length_size (get_or m (at + 1) 0)) where
        pub stood_from : st ≤ until inner
        stood_from = entry_from m at stop 107 inner g h entry near top st start

        pub stood_to : until inner ≤ length m
        stood_to = entry_to m at stop 107 inner g h entry near top st start

        module _ (r : ℕ) (old mid : List ℕ) (e : Takes lay_dialogue (around_item 40 (external_body the93)) m st inner r old mid) where
          within : (w : Owner) → Belongs w (ask contents (finite inner) st (part m st inner)) → Belongs w (ask (front (level 1) FaultKind.Another (dialogue_item the93)) (finite stop) at (part m at stop))
          unfolding constructor_of
          within w e = let (size, is) = around_ask contents m at stop 107 inner st g h top (omega arith, omega arith, omega arith) refl entry near start in rw is (rest_belongs w (λ v. v) size _ e)

          here : Placed st (until inner) (ask (front (inside6_b the93) FaultKind.Another external) (finite inner) st (part m st inner)) r
          here = placed_where external FaultKind.Another (inside6_b the93) keeps (finite inner) st (part m st inner) (until inner) r refl e.reads

          marked : (z : EndRead) (s b : ℕ) → Reads (dialogue_item the93) m at stop s → Far s → b ≡ owner_mark z → length mid ≡ 428 → Belongs (owner_of z) (ask (front (level 1) FaultKind.Another (dialogue_item the93)) (finite stop) at (part m at stop)) → Told m at stop old (set mid 0 b)
          marked z s b q f is long mine = rw is (told_far lay_dialogue (owner_of z) _ old (set mid 0 (owner_mark z)) mine (says_mark mid z long) at (until stop) s q (omega arith) f)

          pub inside_reads : Far r → Reads (dialogue_item the93) m at stop r
          inside_reads f = (opens 107 contents lay_dialogue refl m at stop inner g h entry top near st start r old mid (sole_far (inside6_b the93) external lay_dialogue keeps refl m st inner r old mid e f)).reads

          pub inside_told : Far r → (b : ℕ) → b ≡ owner_mark (end_of (finite inner) (part m st inner)) → length mid ≡ 428 → Told m at stop old (set mid 0 b)
          inside_told f b is long =
              marked (end_of (finite inner) (part m st inner)) r b (inside_reads f) f is long (within _ (only_belongs (finite inner) st (part m st inner) external (until inner) r here (omega arith) f))

          module _ (found : Near r) (s : ℕ) (y : Finishes nothing m r inner s) where
            taken : Takes lay_dialogue (dialogue_item the93) m at stop s old mid
            taken = opens 107 contents lay_dialogue refl m at stop inner g h entry top near st start s old mid (sole (inside6_b the93) external lay_dialogue keeps refl m st inner r s y old mid e found)

            pub behind_reads : Reads (dialogue_item the93) m at stop s
            behind_reads = taken.reads

            behind_belongs : (w : Owner) → ((a : Dialogue Text) → Belongs w (ask (done (inside6_b the93) a) (finite inner) r (part m r inner))) → Belongs w (ask contents (finite inner) st (part m st inner))
            behind_belongs w q =
                rw (ask_only (inside6_b the93) external (finite inner) st (part m st inner)) (belongs_near _ _ st (until inner) r here w found (λ a n z.
                rw (span_drop m st (until inner) n) (rest_belongs w (λ b. a) (λ k. n + k) (ask (done (inside6_b the93) a) (finite inner) (st + n) (part m (st + n) inner)) (rw z at (q a)))))

            pub behind_told : Far s → (b : ℕ) → b ≡ owner_mark (end_of (finite inner) (part m r inner)) → length mid ≡ 428 → Told m at stop old (set mid 0 b)
            behind_told f b is long = marked (end_of (finite inner) (part m r inner)) s b behind_reads f is long (within _ (behind_belongs _ (done_belongs (finite inner) r (part m r inner))))

            pub dialogue_told : Near s → Told m at stop old mid
            dialogue_told f = told_near lay_dialogue _ old mid at (until stop) s behind_reads f taken.left

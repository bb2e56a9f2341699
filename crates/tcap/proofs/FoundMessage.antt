-- Messages find their faults where they are, 7, 8 and 9 too; and what is read is allowed. Assumes nothing.
use Prim.Native.Nat.{ℕ, ◌+◌, ◌≤◌}
use mathlib.Core.Path.{◌≡◌, refl, sym, ap, ◌∙◌}
use mathlib.Core.Bool.{Bool, true, false, false≢true}
use mathlib.Core.List.{List, [], ◌∷◌, ◌++◌}
use mathlib.Core.Option.{get_or, Option, none, some}
use native.Mathlib.Omega.{arith}
use native.Mathlib.Nat.{add-zero}
use lib.ListN.{length, drop, drop_of_length-le}
use lib.Dec.{eqb, leb}
use lib.IntN.{ℤ}
use borrow.Author.Tests.{eqb-true, eqb-false, leb-true, leb-false}
use Rattle.element.specs.Element.{constructor_of}
use Rattle.element.specs.Fault.{Text, Owner, portion, Fault, fault, at, with_orig_id}
use Rattle.element.specs.declared.FaultKind.{FaultKind}
use Rattle.element.specs.declared.EndRead.TheVariants.{Ended as ended}
use Rattle.element.specs.Head.{end_of}
use Rattle.element.specs.Ask.{got, blamed, check, Head, Body}
use Rattle.element.specs.Parts.{around_item, first_of, bind_body, then_body}
use Rattle.element.proofs.Asking.{HeadOf}
use Rattle.element.proofs.StringPlaces.{nothing_ends}
use Rattle.element.proofs.Ends.{Ends, held, failed, ends_next, ends_weaken, ends_check}
use Rattle.tcap.specs.Meaning.{silent, Originating, orig, dest, cause, says, Message, unidirectional, begin, finish, continue, abort}
use Rattle.tcap.specs.WellFormed.{Rules, most_octets, id_ok}
use Rattle.tcap.specs.Productions.{orig_item, dest_item, carried, level_at, tail_body, uni_body, begin_body, end_body, continue_body, abort_body, message_item}
use Rattle.tcap.specs.Reading.{learnt, alone_body, read_first, located_up_to}
use Rattle.tcap.specs.Due.{Parts, end, must, tag, Holds, octets, orig_id, parts, destination, portions, unidirectional as Uni, begin as Begin, finish as Finish, continue as Continue, abort as Abort, message, find, due, contents_of, there}
use Rattle.tcap.specs.Refused.{Right, Fits, nothing, also, Known, known, told, Trail, top, into, into_endless, past, Tagged, Unfit, another, Found, OrigOf, without, with, after, Refuses, overlong, no_octets, no_message, within, Allowed}
use Rattle.tcap.proofs.Fronts.{ends_blame}
use Rattle.tcap.proofs.Found.{tag_held, there_some, there_none, Like, BodyTells, Untold, BodyFinds, ItemFinds, Silent, ask_finds, leaf_finds, around_tells, map_finds, quietly, or_finds}
use Rattle.tcap.proofs.FoundContents.{At, Rest, bind_tells, then_finds, only_finds, last_finds, opt_finds, map_body_tells, map_body_finds}
use Rattle.tcap.proofs.FoundDialogue.{octet_z}
use Rattle.tcap.proofs.UnknownType.{unknown_orig_lem}
use Rattle.tcap.proofs.FoundComponents.{components_find, dialogue_finds}

module _ (rules : Rules) (m : List ℕ) where
  -- Behind the IDs: W tells the originating ID, if it was read

  module _ (t : Option Text) (W : Fault → Fault) (sets : (k : FaultKind) (p : ℕ) (o : Owner) (i : Option ℤ) → W (fault k p o i none) ≡ fault k p o i t) where
    at2 : At rules m 2 portion portion none t W (level_at rules 2)
    at2 = record { ends = λ k p. sets k p portion none; owned = λ k p. sets k p portion none; left = refl }

    tail_finds : (room : ℕ) → BodyFinds rules m (tail_body rules) 2 room portions portion portion none t W
    tail_finds room =
        opt_finds rules m (omega arith) room refl refl refl (dialogue_finds rules m t W sets)
        (map_body_finds rules m (omega arith) (λ v. get_or v []) (last_finds rules m (omega arith) (level_at rules 2) room refl at2 (components_find rules m t W sets)))

    dests : ItemFinds rules m dest_item 2 destination portion none t W (Silent rules m)
    unfolding constructor_of id_ok
    dests = quietly rules m dest (leaf_finds rules m 0x49 id_ok (octets _) refl refl (λ c. refl) (λ k p. sets k p portion none))

    dest_tail : (room : ℕ) → BodyFinds rules m (then_body (level_at rules 2) dest_item (tail_body rules)) 2 room (must destination portions) portion portion none t W
    dest_tail room = then_finds rules m (omega arith) (level_at rules 2) room refl at2 dests (tail_finds room)

  bare : (k : FaultKind) (p : ℕ) (o : Owner) (i : Option ℤ) → fault k p o i none ≡ fault k p o i none
  bare k p o i = refl

  with_orig : (s : Text) (k : FaultKind) (p : ℕ) (o : Owner) (i : Option ℤ) → with_orig_id s (fault k p o i none) ≡ fault k p o i (some s)
  unfolding with_orig_id
  with_orig s k p o i = refl

  -- The originating ID

  abbrev OrigAt : Originating Text → Holds → Text → Type 0
  OrigAt v g x = (orig_id ≡ g) × (v ≡ orig x)

  origs : ItemFinds rules m orig_item 2 (tag 0x48 orig_id) portion none none (λ f. f) OrigAt
  unfolding constructor_of id_ok
  origs = map_finds rules m orig (λ v g x e. (e.0, ap orig e.1)) (leaf_finds rules m 0x48 id_ok orig_id refl refl (λ c. refl) (λ k p. refl))

  orig_rest : {M : Type 0} {y : Body M} {room : ℕ} {r : Parts} → ((s : Text) → BodyFinds rules m y 2 room r portion portion none (some s) (with_orig_id s)) → (v : Originating Text) (g : Holds) (x : Text) → OrigAt v g x
      → Rest rules m y 2 room r portion portion (told g x (known portion portion none none)) (carried v)
  orig_rest b v g x (h, e) = rw e (record { invoke_id = none; orig_id = some x; knows = rw (← h) refl; body = b x })

  -- what a message tells that holds g, with these contents, for octets behind it
  pub data Tells (g : Holds) (v : Message Text) (x : Text) : Type 0 where
    told_by_lem : {r : Parts} {t : Option Text} → contents_of g ≡ some r → OrigOf rules r x t → ((k : FaultKind) (p : ℕ) → learnt v (at k p) ≡ fault k p portion none t) → Tells g v x

  abbrev OrigOn : Originating Text → Text → Type 0
  OrigOn v x = (s : Text) × (v ≡ orig s) × ((n : ℕ) × Right rules 2 0x48 orig_id x.0 x.1 n s)

  orig_on : (v : Originating Text) (a : ℕ) (g : Holds) (p : ℕ) (part : List ℕ) (n : ℕ) (x : Text) → find (tag 0x48 orig_id) a ≡ some g → Right rules 2 a g p part n x → OrigAt v g x → OrigOn v (p, part)
  orig_on v a g p part n x f u (h, e) = let k = tag_held a 0x48 orig_id g f in (x, e, (n, rw (k.0, ← k.1) at u))

  with_orig_id_lem : {M : Type 0} (y : Body M) (r : Parts) (room : ℕ) → ((s : Text) → BodyFinds rules m y 2 room r portion portion none (some s) (with_orig_id s))
      → BodyTells rules m (bind_body (level_at rules 2) carried orig_item (λ o. y)) 2 room (must (tag 0x48 orig_id) r) portion portion none none (λ f. f) (λ v. OrigOn v.0)
  with_orig_id_lem y r room b =
      bind_tells rules m (omega arith) (level_at rules 2) carried (tag 0x48 orig_id) (must (tag 0x48 orig_id) r) room refl refl (another refl refl) (λ a. refl) (at2 none (λ f. f) bare) origs (λ a g v x f e. orig_rest b v g x e)
      (λ v b d q a g p part n x way free is f u k. orig_on v a g p part n x f u k)

  on_tells : (g : Holds) {r : Parts} → contents_of g ≡ some r → due r 0x48 ≡ some orig_id → (v : Message Text) (o : Originating Text) (x : Text) → learnt v ≡ carried o → OrigOn o x → Tells g v x
  unfolding with_orig_id
  on_tells g z f v o x e (s, is, (n, u)) = told_by_lem z (with f u) (λ k p. rw (e, is) refl)

  -- Messages

  abbrev Of : Parts → Message Text → Text → Type 0
  Of r v x = Tells (parts r) v x

  uni_finds : (room : ℕ) → BodyTells rules m (uni_body rules) 2 room Uni portion portion none none (λ f. f) (Of Uni)
  uni_finds room =
      map_body_tells rules m (omega arith) (λ v. unidirectional v.0 v.1) (λ v x _. told_by_lem refl (without refl) (λ k p. refl))
      (opt_finds rules m (omega arith) room refl refl refl (dialogue_finds rules m none (λ f. f) bare) (only_finds rules m (omega arith) (level_at rules 2) room refl (at2 none (λ f. f) bare) (components_find rules m none (λ f. f) bare)))

  begin_finds : (room : ℕ) → BodyTells rules m (begin_body rules) 2 room Begin portion portion none none (λ f. f) (Of Begin)
  begin_finds room =
      map_body_tells rules m (omega arith) (λ v. begin v.0 v.1.0 v.1.1) (λ v x w. on_tells (parts Begin) refl refl (begin v.0 v.1.0 v.1.1) v.0 x refl w) (with_orig_id_lem (tail_body rules) portions room (λ s. tail_finds (some s) (with_orig_id s) (with_orig s) room))

  end_finds : (room : ℕ) → BodyTells rules m (end_body rules) 2 room Finish portion portion none none (λ f. f) (Of Finish)
  end_finds room = map_body_tells rules m (omega arith) (λ v. finish v.0 v.1.0 v.1.1) (λ v x _. told_by_lem refl (without refl) (λ k p. refl)) (dest_tail none (λ f. f) bare room)

  continue_finds : (room : ℕ) → BodyTells rules m (continue_body rules) 2 room Continue portion portion none none (λ f. f) (Of Continue)
  continue_finds room =
      map_body_tells rules m (omega arith) (λ v. continue v.0 v.1.0 v.1.1.0 v.1.1.1) (λ v x w. on_tells (parts Continue) refl refl (continue v.0 v.1.0 v.1.1.0 v.1.1.1) v.0 x refl w)
      (with_orig_id_lem (then_body (level_at rules 2) dest_item (tail_body rules)) (must destination portions) room (λ s. dest_tail (some s) (with_orig_id s) (with_orig s) room))

  abort_finds : (room : ℕ) → BodyTells rules m (abort_body rules) 2 room Abort portion portion none none (λ f. f) (Of Abort)
  unfolding constructor_of
  abort_finds room =
      map_body_tells rules m (omega arith) (λ v. abort v.0 (get_or v.1 silent)) (λ v x _. told_by_lem refl (without refl) (λ k p. refl))
      (then_finds rules m (omega arith) (level_at rules 2) room refl (at2 none (λ f. f) bare) (dests none (λ f. f) bare)
      (last_finds rules m (omega arith) (level_at rules 2) room refl (at2 none (λ f. f) bare)
      (or_finds rules m (quietly rules m cause (octet_z rules m (record { said = λ k p. refl }) 0x4A _ refl)) (quietly rules m says (dialogue_finds rules m none (λ f. f) bare)))))

  message_at : {b : Body (Message Text)} (a : ℕ) (r : Parts) → ((n : ℕ) → BodyTells rules m b 2 n r portion portion none none (λ f. f) (Of r)) → ItemFinds rules m (around_item a b) 1 (tag a (parts r)) portion none none (λ f. f) (λ v g x. Tells g v x)
  message_at a r s =
      let u = around_tells rules m a (parts r) refl s in
      record { mine = u.mine; reads = λ d p part h g x e i. ends_weaken (u.reads d p part h g x e i) (λ v n w. (w.0, w.1, rw w.2.0 at w.2.1)) (λ f w. w) }

  message_finds : ItemFinds rules m (message_item rules) 1 message portion none none (λ f. f) (λ v g x. Tells g v x)
  message_finds =
      or_finds rules m (message_at 0x61 Uni uni_finds)
      (or_finds rules m (message_at 0x62 Begin begin_finds) (or_finds rules m (message_at 0x64 Finish end_finds) (or_finds rules m (message_at 0x65 Continue continue_finds) (message_at 0x67 Abort abort_finds))))

  -- at level 1 is the message alone
  pub trail_low : {l p : ℕ} {d : Bool} {r : Parts} {s : Known} {part : List ℕ} → Trail rules m l d r s p part → 1 ≤ l
  trail_low top = omega arith
  trail_low (into w j f is z y) = omega arith
  trail_low (into_endless w j f is z y) = omega arith
  trail_low (past w j f is u) = omega arith

  pub trail_top : {l p : ℕ} {d : Bool} {r : Parts} {s : Known} {part : List ℕ} → Trail rules m l d r s p part → l ≡ 1 → (p ≡ 0) × (part ≡ m) × (d ≡ true)
  trail_top top e = (refl, refl, refl)
  trail_top (into w j f is z y) e = absurd (omega (arith, trail_low w))
  trail_top (into_endless w j f is z y) e = absurd (omega (arith, trail_low w))
  trail_top (past w j f is u) e = absurd (omega arith)

  after_learnt : (v : Message Text) (n a : ℕ) (g : Holds) (x : Text) → find message a ≡ some g → Tells g v x → Right rules 1 a g 0 m n x → (n ≡ length m → ⊥) → Found rules m (learnt v (at FaultKind.OctetsAfter n))
  after_learnt v n a g x is (told_by_lem z e f) w k = rw (f FaultKind.OctetsAfter n) (after is z w k e)

  all_ended : (part : List ℕ) (n : ℕ) → n ≡ length part → end_of true (drop n part) ≡ ended
  unfolding end_of
  all_ended part n e = rw (drop_of_length-le part {i = n} (omega arith))

  module _ (a : ℕ) (r : List ℕ) (is : m ≡ a ∷ r) (mine : (message_item rules).mine a ≡ true) where
    alone_other : {p : ℕ} {d : Bool} (part : List ℕ) (b : ℕ) (q : List ℕ) → (p ≡ 0) × (part ≡ m) × (d ≡ true) → Tagged part b q → (message_item rules).mine b ≡ false → Unfit (must message end) FaultKind.NoMessage
    alone_other part b q x g e =
        let y : a ∷ r ≡ b ∷ (g.ext ++ q) = sym is ∙ sym x.1 ∙ g.octets in
        let z : a ≡ b = cc in
        absurd (false≢true (sym e ∙ (rw z at mine)))

    alone_goes : (v : Message Text) (n p : ℕ) (d : Bool) (part : List ℕ) (q : Parts) (b : ℕ) (g : Holds) (x : Text) → (p ≡ 0) × (part ≡ m) × (d ≡ true) → Like rules m q (must message end) b → find message b ≡ some g → Right rules 1 b g p part n x → Tells g v x
        → Ends (λ v n. Fits rules 1 q d p part n × Unit {0}) (λ f. Found rules m f) (blamed (learnt v) (check (eqb n (length part)) (at FaultKind.OctetsAfter (p + n)) (got v n)))
    alone_goes v n p d part q b g x (y, e, z) like it w k =
        let same : p + n ≡ n = omega arith in
        ends_blame (learnt v)
        (ends_check (eqb n (length part)) _ (λ f. rw same (after_learnt v n b g x it k (rw (y, e) at w) (λ u. eqb-false n (length part) f (u ∙ ap length (sym e))))) λ f.
        let whole : Fits rules 1 q d p part (n + 0) = also (λ u. nothing_ends (sym like.count ∙ u)) (like.may ∙ it) w (rw (like.rest x.1, z) (nothing (all_ended part n (eqb-true n (length part) f)) refl)) in
        held {a = v} {n = n} (rw add-zero at whole, tt))

    alone_finds : BodyTells rules m (alone_body rules (message_item rules)) 1 (length m) (must message end) portion portion none none (λ f. f) (Untold rules m)
    alone_finds =
        record {
          void = λ v q. nothing_ends q;
          lacks = λ q. refl;
          ends = λ k p. refl;
          full = λ e. absurd (false≢true e);
          free = λ _ q. nothing_ends q;
          owned = λ _ k p. refl;
          left = λ _. omega arith;
          mine = λ _ b. message_finds.mine b;
          other = λ _ d p part b q way g e. alone_other part b q (trail_top way refl) g e;
          goes = λ d q p part h big way like deep g _ b. goes d q p part h way like deep g (there_some (find message (first_of h)) (sym (message_finds.mine (first_of h)) ∙ b));
        }
      where
        goes : (d : Bool) (q : Parts) (p : ℕ) (part : List ℕ) (h : Head) → Trail rules m 1 d q (known portion portion none none) p part → Like rules m q (must message end) (first_of h) → 1 ≤ rules.limit → HeadOf part h → (g : Holds) × (find message (first_of h) ≡ some g)
            → Ends (λ v n. Fits rules 1 q d p part n × Unit {0}) (λ f. Found rules m f) ((alone_body rules (message_item rules)).goes d h p part)
        goes d q p part h way like deep i (g, it) =
            ends_next (message_finds.reads d p part h g (record { state = q; around = portion; owner = portion; way = way; whom = rw like.count refl; free = λ u. nothing_ends (sym like.count ∙ u); may = like.may ∙ it; level = deep }) it i) λ v n w.
            alone_goes v n p d part q (first_of h) g w.0 (trail_top way refl) like it w.1 w.2

first_finds : (rules : Rules) (m : List ℕ) → length m ≤ most_octets → Ends (λ v n. Allowed rules m) (Refuses rules m) (read_first rules (message_item rules) m)
unfolding read_first
first_finds rules [] big = failed (no_octets refl)
first_finds rules (a ∷ r) big =
    let is : (message_item rules).mine a ≡ there (find message a) = (message_finds rules (a ∷ r)).mine a in
    ends_check ((message_item rules).mine a) _ (λ e. no_message big refl (there_none (find message a) (sym is ∙ e)) (unknown_orig_lem rules (a ∷ r))) λ e.
    ends_weaken (ask_finds rules (a ∷ r) (alone_finds rules (a ∷ r) a r refl e) true 0 (a ∷ r) (omega arith) top) (λ v n w. record { short = big; size = n; fits = w.0 }) (λ f q. within big refl (there_some (find message a) (sym is ∙ e)).1 q)

pub located_finds : (rules : Rules) (m : List ℕ) → Ends (λ v n. Allowed rules m) (Refuses rules m) (located_up_to rules m)
unfolding located_up_to
located_finds rules m = ends_check (leb (length m) most_octets) _ (λ e. overlong (leb-false (length m) most_octets e)) λ e. first_finds rules m (leb-true (length m) most_octets e)

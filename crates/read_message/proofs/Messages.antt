-- A message by its tag, and a message that is all there is: what is answered; what is left of it, or whom its fault belongs to. Assumes nothing.
use Prim.Native.Nat.{ℕ, ◌+◌, ◌≤◌, ◌<◌}
use mathlib.Core.Path.{◌≡◌, refl, sym, ap, ◌∙◌, fun_ext}
use mathlib.Core.Bool.{Bool, true, false}
use mathlib.Core.List.{List, [], ◌∷◌}
use mathlib.Core.Option
use mathlib.Core.Option.{none}
use native.Mathlib.Omega.{arith}
use lib.ListN.{length, get_or, take, drop, set}
use lib.Dec.{eqb, leb}
use lib.Seq.{take_all}
use borrow.Author.Tests.{eqb-true, eq-eqb, ne_eqb, le-leb, lt-leb, lt-ltb}
use Rattle.element.specs.declared.FaultKind.{FaultKind}
use Rattle.element.specs.Element.{constructor_of}
use Rattle.element.specs.Fault.{Fault, fault, portion, Text, at}
use Rattle.element.specs.Head.{length_of}
use Rattle.element.specs.inner.Fronts.{span, length_size}
use Rattle.element.specs.Ask.{Got, got, bad, next, check, blamed, Head, head, Body, ask}
use Rattle.element.specs.Parts.{Item, level, place, around_item, bind_body, then_body, map_body}
use Rattle.element.proofs.Asking.{Then, fact, void, the_fact}
use Rattle.tcap.specs.Meaning.{Message, silent, unidirectional, begin, finish, continue, abort}
use Rattle.tcap.specs.WellFormed.{the93}
use Rattle.tcap.specs.Productions.{orig_item, dest_item, carried, tail_body, uni_body, begin_body, end_body, continue_body, abort_body, message_item}
use Rattle.tcap.specs.Reading.{unknown_orig, learnt, alone_body, read_first, located_up_to}
use Rattle.read_place.specs.Places.{Far, Near, until, finite, part, base, fault_place, front, Placed, Reads, Leads, stands_of, entry_place, length_place, octets_after, no_message, overlong, cut_off, opening}
use Rattle.read_place.specs.Leaves.{Left, Leaves, untold}
use Rattle.read_place.specs.Laying.{lay_message, tag_in, lay_accepted}
use Rattle.read_place.specs.Blames.{Blames}
use Rattle.read_place.proofs.Answers.{Keeps, next_far, next_near, placed_blamed}
use Rattle.read_place.proofs.Asked.{blamed_same, ask_onto, missing_both}
use Rattle.read_place.proofs.Bodies.{placed_where}
use Rattle.read_place.proofs.Optional.{entry_inside, entry_from, entry_to, around_entry, around_read}
use Rattle.read_place.proofs.Leaves.{Stays, left_blamed, left_far, left_near, left_where, around_left}
use Rattle.read_place.proofs.Values.{map_value}
use Rattle.read_row.proofs.Pairs.{Does, DoesAll, kind_asked, of_five, or_tag}
use Rattle.read_dialogue.proofs.Owners.{entry_belongs}
use Rattle.read_dialogue.proofs.Told.{says_portion, told_far, told_near}
use Rattle.read_message.specs.Messages.{ending_body, unidirectional_body, message_body_of, Answers}
use Rattle.read_message.proofs.PortionFaults.{carried_stays}
use Rattle.read_message.proofs.Portions.{carried_keeps, to_dest}

-- A message by its tag

abbrev Lead : ℕ → Type 0
Lead tag = Leads tag × (constructor_of tag ≡ true)

abbrev kinds : Item (Message Text)
kinds = message_item the93

lead : (tag : ℕ) → kinds.mine tag ≡ true → Lead tag
unfolding constructor_of
lead tag =
    or_tag Lead tag 97 _ ((omega arith, omega arith, omega arith), refl) (or_tag Lead tag 98 _ ((omega arith, omega arith, omega arith), refl)
    (or_tag Lead tag 100 _ ((omega arith, omega arith, omega arith), refl) (or_tag Lead tag 101 _ ((omega arith, omega arith, omega arith), refl)
    (λ e. let t : tag ≡ 103 = eqb-true tag 103 e in rw t ((omega arith, omega arith, omega arith), refl)))))

-- where the tag of a message stands, the fault of another does not matter
pub by_tag : (o : FaultKind) (m : List ℕ) (at stop : ℕ) → until stop ≤ length m → kinds.mine (get_or m at 0) ≡ true
    → ask (front (level 1) o kinds) (finite stop) at (part m at stop) ≡ ask (front (level 1) FaultKind.Another (around_item (get_or m at 0) (message_body_of (get_or m at 0)))) (finite stop) at (part m at stop)
unfolding message_body_of
by_tag o m at stop h mine =
    let tag = get_or m at 0 in
    kind_asked m at stop h o kinds message_body_of mine (λ n z.
    of_five (uni_body the93) (begin_body the93) (end_body the93) (continue_body the93) (abort_body the93) (head tag n z) at (part m at stop) (eqb tag 97) (eqb tag 98) (eqb tag 100) (eqb tag 101))

-- the contents of a tag are those of a message that has it
module _ (d : Bool) (p : ℕ) (l : List ℕ) where
  any : {A : Type 0} (x : Got A) → Then (λ a n. Unit {0}) x
  any (got a n) = fact tt
  any (bad f) = void

  abbrev Has-tag : ℕ → Type 0
  Has-tag tag = Then (λ v n. tag_in v ≡ tag) (ask (message_body_of tag) d p l)

  by_name : {A : Type 0} (tag : ℕ) (b : Body A) (f : A → Message Text) → ((a : A) → tag_in (f a) ≡ tag) → Then (λ v n. tag_in v ≡ tag) (ask (map_body f b) d p l)
  by_name tag b f h = map_value f b d p l (λ a. Unit {0}) (λ v. tag_in v ≡ tag) (λ a q. h a) (any (ask b d p l))

  tag_had : (tag : ℕ) → kinds.mine tag ≡ true → Has-tag tag
  unfolding message_body_of tag_in
  tag_had tag =
      or_tag Has-tag tag 97 _ (by_name 97 unidirectional_body (λ v. unidirectional v.0 v.1) (λ v. refl))
      (or_tag Has-tag tag 98 _ (by_name 98 (bind_body (level 15) carried orig_item (λ o. tail_body the93)) (λ v. begin v.0 v.1.0 v.1.1) (λ v. refl))
      (or_tag Has-tag tag 100 _ (by_name 100 to_dest (λ v. finish v.0 v.1.0 v.1.1) (λ v. refl))
      (or_tag Has-tag tag 101 _ (by_name 101 (bind_body (level 15) carried orig_item (λ o. to_dest)) (λ v. continue v.0 v.1.0 v.1.1.0 v.1.1.1) (λ v. refl))
      (λ e. let t : tag ≡ 103 = eqb-true tag 103 e in rw t (by_name 103 (then_body (level 15) dest_item ending_body) (λ v. abort v.0 (Option.get_or v.1 silent)) (λ v. refl))))))

tagged : (x : Got (Message Text)) (tag : ℕ) (old mid : List ℕ) → Left lay_message Blames x old mid → Then (λ v n. tag_in v ≡ tag) x → Left lay_accepted untold x old (set mid 0 tag)
unfolding Left lay_accepted
tagged (got v n) tag old mid q t = rw (q, the_fact t)
tagged (bad f) tag old mid q t = tt

-- the contents stand within the whole
module _ (m : List ℕ) (len tag inner : ℕ) (is : len ≡ length m) (short : len ≤ 255) (entry : inner ≡ entry_place true m 0 len tag) (near : Near inner) where
  pub alone_inside : 1 < length m
  alone_inside = entry_inside m 0 len tag inner (omega arith) (omega (arith, is, short)) entry near

  module _ (st : ℕ) (start : st ≡ 1 + length_size (get_or m 1 0)) where
    pub alone_from : st ≤ until inner
    alone_from = entry_from m 0 len tag inner (omega arith) (omega (arith, is, short)) entry near (omega (arith, is, short)) st start

    pub alone_to : until inner ≤ length m
    alone_to = entry_to m 0 len tag inner (omega arith) (omega (arith, is, short)) entry near (omega (arith, is, short)) st start

-- What is learnt of a message does not change a fault's number and owner

learnt_keeps : (v : Message Text) → Keeps (learnt v)
learnt_keeps (unidirectional d cs) = λ f. refl
learnt_keeps (begin o d cs) = carried_keeps o
learnt_keeps (finish e d cs) = λ f. refl
learnt_keeps (continue o e d cs) = carried_keeps o
learnt_keeps (abort e s) = λ f. refl

learnt_stays : (v : Message Text) → Stays Blames (learnt v)
learnt_stays (unidirectional d cs) = λ f l t. t
learnt_stays (begin o d cs) = carried_stays o
learnt_stays (finish e d cs) = λ f l t. t
learnt_stays (continue o e d cs) = carried_stays o
learnt_stays (abort e s) = λ f l t. t

-- The message is all there is

module _ (m : List ℕ) where
  abbrev Answered : ℕ → List ℕ → List ℕ → Type 0
  Answered r old new = Answers m (located_up_to the93 m) r × Left lay_accepted Blames (located_up_to the93 m) old new

  abbrev plain : Body (Message Text)
  plain = place (level 16) none kinds.mine FaultKind.NoMessage (λ d h p part. kinds.contents h p part)

  abbrev closing : Message Text → ℕ → Got (Message Text)
  closing v n = blamed (learnt v) (check (eqb n (length m)) (at FaultKind.OctetsAfter (0 + n)) (got v n))

  plain_is : front (level 16) FaultKind.NoMessage kinds ≡ plain
  plain_is = ap (λ (g : Bool → Head → ℕ → List ℕ → Got (Message Text)). place (level 16) none kinds.mine FaultKind.NoMessage g) (fun_ext λ d. fun_ext λ h. fun_ext λ p. fun_ext λ part. blamed_same (kinds.contents h p part))

  pub alone_is : ask (alone_body the93 kinds) true 0 m ≡ next (ask (front (level 16) FaultKind.NoMessage kinds) true 0 m) closing
  alone_is =
      ask_onto plain none (λ d p part v n. blamed (learnt v) (check (eqb n (length part)) (at FaultKind.OctetsAfter (p + n)) (got v n))) true 0 m (λ e. missing_both plain _ true 0 m _)
      ∙ ap (λ (b : Body (Message Text)). next (ask b true 0 m) closing) (sym plain_is)

  module _ (len : ℕ) (is : len ≡ length m) (old new : List ℕ) (long : length old ≡ 428) (put : new ≡ set old 0 0) (r : ℕ) where
    pub too_long : 255 < len → r ≡ overlong + 255 → Answered r old new
    unfolding located_up_to check Placed fault_place base Left
    too_long l z = rw (lt-leb (length m) 255 (omega (arith, l, is)), put, z) (refl, says_portion old long FaultKind.Overlong 255 none none)

    pub no_octets_lem : len ≤ 255 → len ≡ 0 → r ≡ cut_off → Answered r old new
    unfolding located_up_to read_first check Placed fault_place base Left
    no_octets_lem short none_here z = rw (put, z) (go m (sym is ∙ none_here))
      where
        located : List ℕ → Got (Message Text)
        located l = check (leb (length l) 255) (at FaultKind.Overlong 255) (read_first the93 kinds l)

        go : (l : List ℕ) → length l ≡ 0 → Placed 0 (length m) (located l) cut_off × Left lay_accepted Blames (located l) old (set old 0 0)
        go [] e = (refl, says_portion old long FaultKind.CutOff 0 none none)
        go (a ∷ r) e = absurd (omega (arith, e))

  module _ (len : ℕ) (is : len ≡ length m) (some : 1 ≤ len) (short : len ≤ 255) where
    pub all_of_it : drop 0 (take (length m) m) ≡ m
    all_of_it = take_all (length m) m (omega arith)

    pub first_is : read_first the93 kinds m ≡ check (kinds.mine (get_or m 0 0)) (fault FaultKind.NoMessage 0 portion none (unknown_orig the93 m)) (ask (alone_body the93 kinds) true 0 m)
    unfolding read_first
    first_is = go m is
      where
        go : (l : List ℕ) → len ≡ length l → read_first the93 kinds l ≡ check (kinds.mine (get_or l 0 0)) (fault FaultKind.NoMessage 0 portion none (unknown_orig the93 l)) (ask (alone_body the93 kinds) true 0 l)
        go [] e = absurd (omega (arith, e, some))
        go (a ∷ r) e = refl

    located_is : located_up_to the93 m ≡ read_first the93 kinds m
    unfolding located_up_to check
    located_is = rw (le-leb (length m) 255 (omega (arith, short, is)))

    module _ (b : Bool) (asked : b ≡ kinds.mine (get_or m 0 0)) where
      pub no_message_lem : b ≡ false → (old new : List ℕ) → length old ≡ 428 → new ≡ set old 0 0 → (r : ℕ) → r ≡ no_message → Answered r old new
      unfolding check Placed fault_place base Left
      no_message_lem t old new long i r z = rw (located_is, first_is, ← asked, t, i, z) (refl, says_portion old long FaultKind.NoMessage 0 none (unknown_orig the93 m))

      module _ (told : b ≡ true) (inner : ℕ) (stops : inner ≡ length_place 0 1 len (length_of (span m 1 len) true)) where
        abbrev tag : ℕ
        tag = get_or m 0 0

        abbrev this : Item (Message Text)
        this = around_item tag (message_body_of tag)

        -- the tag stands at the front, so only the length is asked for
        pub entry : inner ≡ entry_place true m 0 len tag
        unfolding entry_place stands_of
        entry = let z : until len ≡ len = omega (arith, short) in rw (z, ne_eqb 0 len (λ q. omega (arith, q, some)), eq-eqb tag tag refl) stops

        sound : Lead tag
        sound = lead tag (sym asked ∙ told)

        inside : until len ≤ length m
        inside = omega (arith, is, short)

        opened : located_up_to the93 m ≡ next (ask (front (level 16) FaultKind.NoMessage kinds) true 0 m) closing
        unfolding check
        opened = located_is ∙ first_is ∙ rw (← asked, told) alone_is

        -- whatever the levels left, and whatever the fault of another tag
        front_is : ask (front (level 1) FaultKind.NoMessage kinds) true 0 m ≡ ask (front (level 1) FaultKind.Another this) (finite len) 0 (part m 0 len)
        front_is =
            let z : until len ≡ length m = omega (arith, is, short) in
            let same : ask (front (level 1) FaultKind.NoMessage kinds) (finite len) 0 (part m 0 len) ≡ ask (front (level 1) FaultKind.NoMessage kinds) true 0 m = rw (z, lt-ltb len opening (omega (arith, short)), all_of_it) in
            sym same ∙ by_tag FaultKind.NoMessage m 0 len inside (sym asked ∙ told)

        here : (r : ℕ) → Reads this m 0 len r → Placed 0 (length m) (ask (front (level 16) FaultKind.NoMessage kinds) true 0 m) r
        here r e =
            let z : until len ≡ length m = omega (arith, is, short) in
            let w : Placed 0 (length m) (ask (front (level 1) FaultKind.NoMessage kinds) true 0 m) r = rw (front_is, ← z) e in
            placed_where kinds FaultKind.NoMessage (level 16) (λ f. refl) true 0 m (length m) r refl w

        up : (tell : Fault → List ℕ → Type 0) (lay : Message Text → List ℕ → List ℕ) (old new : List ℕ) → Leaves lay tell this m 0 len old new → Left lay tell (ask (front (level 16) FaultKind.NoMessage kinds) true 0 m) old new
        up tell lay old new q =
            let w : Left lay tell (ask (front (level 1) FaultKind.NoMessage kinds) true 0 m) old new = rw front_is q in
            left_where tell lay kinds FaultKind.NoMessage (level 16) (λ f l t. t) true 0 m old new refl w

        far_on : (r : ℕ) (old new : List ℕ) → Does Blames lay_message this m 0 len r old new → Far r → Answered r old new
        far_on r old new e f =
            rw opened (
              next_far _ closing 0 (length m) r (here r e.0) 0 (length m) (omega (arith, is, short)) f,
              left_far Blames lay_message lay_accepted _ closing 0 (length m) r (here r e.0) old old new (omega (arith, is, short)) f (up Blames lay_message old new e.1),
            )

        pub bad_length_lem : Far inner → (old new : List ℕ) → length old ≡ 428 → new ≡ set old 0 0 → (r : ℕ) → r ≡ inner → Answered r old new
        bad_length_lem f old new long i r z =
            let e : Reads this m 0 len inner = around_entry tag sound.0 sound.1 (message_body_of tag) m 0 len inner (omega arith) inside entry f in
            let t = told_far lay_message portion _ old (set old 0 0) (entry_belongs tag sound.0 sound.1 (message_body_of tag) m 0 len inner (omega arith) inside entry f) (says_portion old long) 0 (until len) inner e (omega arith) f in
            rw (i, z) (far_on inner old (set old 0 0) (e, t) f)

        module _ (near : Near inner) (st : ℕ) (start : st ≡ 1 + length_size (get_or m 1 0)) (r : ℕ) (old mid : List ℕ) (e : DoesAll Blames lay_message (message_body_of tag) m st inner r old mid) where
          whole : Reads this m 0 len r
          whole = around_read tag sound.0 sound.1 (message_body_of tag) m 0 len inner (omega arith) inside entry (omega (arith, is, short)) near st start r e.0

          around : (tell : Fault → List ℕ → Type 0) (lay : Message Text → List ℕ → List ℕ) (new : List ℕ) → Left lay tell (ask (message_body_of tag) (finite inner) st (part m st inner)) old new → Leaves lay tell this m 0 len old new
          around tell lay new q = around_left tell (message_body_of tag) m 0 len tag inner st (omega arith) inside (omega (arith, is, short)) sound.0 sound.1 entry near start lay old new q

          pub bad_inside : Far r → Answered r old mid
          bad_inside f = far_on r old mid (whole, around Blames lay_message mid e.1) f

          module _ (f : Near r) where
            all_of_them : r ≡ len → Answers m (located_up_to the93 m) r
            unfolding check Placed
            all_of_them t = rw opened (next_near _ closing 0 (length m) r (here r whole) 0 (length m) r f (λ v n i z.
                placed_blamed (learnt v) (learnt_keeps v) _ 0 (length m) r (let q : n ≡ length m = omega (arith, z, t, is) in rw (eq-eqb n (length m) q) (omega (arith, z), omega (arith, t, is)))))

            pub accepted : r ≡ len → Answered r old (set mid 0 tag)
            unfolding check blamed Left
            accepted t =
                let new : List ℕ = set mid 0 tag in
                let kept = tagged _ tag old mid e.1 (tag_had (finite inner) st (part m st inner) tag (sym asked ∙ told)) in (
                  all_of_them t,
                  told_near lay_accepted (located_up_to the93 m) old new 0 (length m) r (all_of_them t) f
                      (rw opened (left_near untold lay_accepted lay_accepted _ closing 0 (length m) r (here r whole) old new new f (up untold lay_accepted old new (around untold lay_accepted new kept))
                      (λ v n z i. let w : n ≡ length m = omega (arith, z, t, is) in rw (eq-eqb n (length m) w) i))),
                )

            pub octets_after_lem : (r ≡ len → ⊥) → length mid ≡ 428 → (new : List ℕ) → new ≡ set mid 0 0 → (s : ℕ) → s ≡ octets_after + r → Answered s old new
            unfolding check Placed fault_place base Left
            octets_after_lem t long new i s z =
                rw (i, z, opened) (
                  next_near _ closing 0 (length m) r (here r whole) 0 (length m) (octets_after + r) f (λ v n i z.
                      placed_blamed (learnt v) (learnt_keeps v) _ 0 (length m) (octets_after + r) (rw (ne_eqb n (length m) (λ q. t (omega (arith, q, z, is)))) (omega (arith, z)))),
                  left_near Blames lay_message lay_accepted _ closing 0 (length m) r (here r whole) old mid (set mid 0 0) f (up Blames lay_message old mid (around Blames lay_message mid e.1))
                      (λ v n z w. left_blamed Blames lay_accepted (learnt v) (learnt_stays v) _ old (set mid 0 0) (rw (ne_eqb n (length m) (λ q. t (omega (arith, q, z, is)))) (says_portion mid long FaultKind.OctetsAfter (0 + n) none none))),
                )

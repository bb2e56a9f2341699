-- A null, a transaction ID, and fields of which one of several stands here. Assumes nothing.
use Prim.Native.Nat.{ℕ, ◌+◌, ◌-◌, ◌/◌, ◌%◌, ◌≤◌}
use mathlib.Core.Path.{◌≡◌, refl, sym, ap, ◌∙◌}
use mathlib.Core.Bool.{Bool, true, false, ◌||◌, ◌&&◌, false≢true}
use mathlib.Core.List.{List, [], ◌∷◌}
use mathlib.Core.Option.{none, some}
use native.Mathlib.Omega.{arith}
use lib.ListN.{length, get_or, drop, take, length-drop}
use lib.Dec.{eqb, leb}
use lib.Seq.{length-take-le}
use borrow.Author.Tests.{leb-true, le-leb}
use Rattle.base.specs.Value.{same}
use Rattle.element.specs.declared.FaultKind.{FaultKind}
use Rattle.element.specs.declared.TagRead.{TagRead}
use Rattle.element.specs.declared.LengthRead.{LengthRead}
use Rattle.element.specs.Element.{constructor_of}
use Rattle.element.specs.Form.{StandsFor}
use Rattle.element.specs.inner.Fronts.{front_of}
use Rattle.element.specs.Ask.{Got, check, blamed, ask, ask_length}
use Rattle.element.specs.Parts.{Item, level, leaf_contents, leaf_item, map_item, or_item, integer_item}
use Rattle.element.proofs.Heads.{LengthIs, length_sound}
use Rattle.element.proofs.Reading.{definite_size, indefinite_size}
use Rattle.element.proofs.Views.{span_length}
use Rattle.tcap.specs.declared.Problem.{Problem}
use Rattle.tcap.specs.WellFormed.{most_transaction_id_octets, most_general_problem, most_invoke_problem, most_result_problem, most_error_problem, id_ok}
use Rattle.tcap.specs.Meaning.{local, global}
use Rattle.tcap.specs.Productions.{octet_item, id_item, id_or_null_item, name_item, code_item, problem_item}
use Rattle.read_place.specs.Places.{Far, Near, until, finite, part, base, fault_place, length_place, Placed, front, Reads, Leads, stands_of, entry_place, bad_place, count_of, bad_contents}
use Rattle.read_place.proofs.Answers.{far}
use Rattle.read_place.proofs.Items.{Entered, entered, entry_far, ask_entered, stands_short, take_head, stands_only, stands_other, counted, leaf_good, leaf_none, placed_item, or_left, or_right}
use Rattle.read_field.proofs.Fields.{plain}

-- Of two, the one whose tag stands here, or that which does not fit it

abbrev pub asked : {A : Type 0} → Item A → List ℕ → ℕ → ℕ → Got A
asked x m at stop = ask (front (level 1) FaultKind.Another x) (finite stop) at (part m at stop)

module _ {A : Type 0} (x y : Item A) (m : List ℕ) (at stop : ℕ) where
  the_first : ((a s : ℕ) → front_of 1 (part m at stop) ≡ TagRead.Tag a s → y.mine a ≡ false) → asked (or_item x y) m at stop ≡ asked x m at stop
  the_first h = or_left (level 1) FaultKind.Another x y (finite stop) at (part m at stop) refl h

  the_second : ((a s : ℕ) → front_of 1 (part m at stop) ≡ TagRead.Tag a s → x.mine a ≡ false) → asked (or_item x y) m at stop ≡ asked y m at stop
  the_second h = or_right (level 1) FaultKind.Another x y (finite stop) at (part m at stop) refl h

  pub first_of_lem : (r : ℕ) → ((a s : ℕ) → front_of 1 (part m at stop) ≡ TagRead.Tag a s → y.mine a ≡ false) → Reads x m at stop r → Reads (or_item x y) m at stop r
  first_of_lem r h e = rw (the_first h) e

  pub second_of : (r : ℕ) → ((a s : ℕ) → front_of 1 (part m at stop) ≡ TagRead.Tag a s → x.mine a ≡ false) → Reads y m at stop r → Reads (or_item x y) m at stop r
  second_of r h e = rw (the_second h) e

pub reads_map : {A B : Type 0} (f : A → B) (x : Item A) (m : List ℕ) (at stop r : ℕ) → Reads x m at stop r → Reads (map_item f x) m at stop r
reads_map f x m at stop r e = placed_item (level 1) FaultKind.Another f x (finite stop) at (part m at stop) (until stop) r e

-- A null: a primitive without contents

not_empty : (l : List ℕ) → 1 ≤ length l → same [] l ≡ false
unfolding same
not_empty [] h = absurd (omega (arith, h))
not_empty (x ∷ r) h = refl

one_length : (n k : ℕ) (p : List ℕ) → StandsFor (take k p) n → 1 ≤ k → k ≤ length p → n ≡ 0 → k ≡ 1
one_length n k p s l f e = (take_head k p n (stands_short (take k p) n s (omega (arith, e))) l f).0

module _ (m : List ℕ) (at stop r : ℕ) (g : at ≤ until stop) (h : until stop ≤ length m) (is : r ≡ entry_place false m at stop 5) where
  leads : Leads 5
  leads = (omega arith, omega arith, omega arith)

  pub null_far : Far r → Reads (leaf_item 5 (same [])) m at stop r
  unfolding constructor_of
  null_far f = entry_far false m at stop 5 r g h is (leaf_item 5 (same [])) leads refl (λ a. refl) f

  module _ (near : Near r) where
    in_it : Entered false m at stop 5 r
    in_it = entered false m at stop 5 r g h is near

    as_null : asked (leaf_item 5 (same [])) m at stop ≡ ask_length (front (level 1) FaultKind.Another (leaf_item 5 (same []))) (finite stop) at (part m at stop) 5 1 in_it.len
    unfolding constructor_of
    as_null = ask_entered false m at stop 5 r g h is (leaf_item 5 (same [])) leads refl (λ a. refl) in_it

    -- by its length, of which one octet says that there are none
    by_length : (l : LengthRead) → in_it.len ≡ l → ((r ≡ at + 2) → Reads (leaf_item 5 (same [])) m at stop r) × ((r ≡ at + 2 → ⊥) → Reads (leaf_item 5 (same [])) m at stop (bad_contents + at))
    unfolding length_place ask_length leaf_contents blamed check Placed fault_place base LengthIs same
    by_length (LengthRead.Fault k) e = absurd (omega (arith, near, far k, (in_it.answer ∙ ap (length_place at (at + 1) (until stop)) e)))
    by_length (LengthRead.Definite k n) e =
        let i = in_it in
        let p : List ℕ = part m (at + 1) stop in
        let where_it : r ≡ at + 1 + (k + n) = i.answer ∙ ap (length_place at (at + 1) (until stop)) e in
        let (s, room) : LengthIs p false (LengthRead.Definite k n) = rw (i.len_is ∙ e) at (length_sound p false) in
        let z = definite_size p false k n (LengthRead.Definite k n) (sym (i.len_is ∙ e)) refl in
        let long : length p ≡ until stop - (at + 1) = span_length m (at + 1) (until stop) h in (
          λ two. let none_left : n ≡ 0 = omega (arith, where_it, two, z.0) in rw (as_null, e, none_left) (omega (arith, where_it, none_left), omega (arith, where_it, room, long, i.here)),
          λ other.
              let not_none : n ≡ 0 → ⊥ = λ q. other (omega (arith, where_it, q, one_length n k p s z.0 (omega (arith, z)) q)) in
              let some_left : 1 ≤ n = omega (arith, not_none) in
              let all : length (take n (drop (1 + k) (part m at stop))) ≡ n = length-take-le n (drop (1 + k) (part m at stop)) (omega (arith, length-drop (1 + k) (part m at stop), span_length m at (until stop) h, room, long, i.here)) in
              rw (as_null, e, not_empty (take n (drop (1 + k) (part m at stop))) (omega (arith, all, some_left))),
        )
    by_length LengthRead.Indefinite e = absurd (false≢true (indefinite_size (part m (at + 1) stop) false LengthRead.Indefinite (sym (in_it.len_is ∙ e)) refl).1)

    pub null_good : r ≡ at + 2 → Reads (leaf_item 5 (same [])) m at stop r
    null_good e = (by_length in_it.len refl).0 e

    pub null_bad : (r ≡ at + 2 → ⊥) → Reads (leaf_item 5 (same [])) m at stop (bad_contents + at)
    null_bad e = (by_length in_it.len refl).1 e

-- The tag that stands here is another, or one does not stand here

module _ (m : List ℕ) (at stop : ℕ) (h : until stop ≤ length m) (tag : ℕ) (b : Bool) (is : b ≡ stands_of m at stop tag) where
  another_tag : b ≡ true → (f : ℕ → Bool) → f tag ≡ false → (a s : ℕ) → front_of 1 (part m at stop) ≡ TagRead.Tag a s → f a ≡ false
  another_tag t f q a s z = ap f (stands_only m at stop tag h (sym is ∙ t) a s z) ∙ q

  no_tag_lem : b ≡ false → (a s : ℕ) → front_of 1 (part m at stop) ≡ TagRead.Tag a s → eqb a tag ≡ false
  no_tag_lem t a s z = stands_other m at stop tag h (sym is ∙ t) a s z

-- The invoke ID of a Reject

module _ (m : List ℕ) (at stop : ℕ) (h : until stop ≤ length m) (b : Bool) (is : b ≡ stands_of m at stop 5) where
  pub id_null : b ≡ true → asked id_or_null_item m at stop ≡ asked (map_item (λ v. none) (leaf_item 5 (same []))) m at stop
  id_null t = the_second (map_item some id_item) (map_item (λ v. none) (leaf_item 5 (same []))) m at stop (another_tag m at stop h 5 b is t (λ q. eqb q 2) refl)

  pub id_number : b ≡ false → asked id_or_null_item m at stop ≡ asked (map_item some id_item) m at stop
  id_number t = the_first (map_item some id_item) (map_item (λ v. none) (leaf_item 5 (same []))) m at stop (no_tag_lem m at stop h 5 b is t)

-- A code: global if that tag stands here, otherwise local

module _ (m : List ℕ) (at stop : ℕ) (h : until stop ≤ length m) (b : Bool) (is : b ≡ stands_of m at stop 6) where
  pub code_global : b ≡ true → asked code_item m at stop ≡ asked (map_item global name_item) m at stop
  code_global t = the_second (map_item local (integer_item 2 4)) (map_item global name_item) m at stop (another_tag m at stop h 6 b is t (λ q. eqb q 2) refl)

  pub code_local : b ≡ false → asked code_item m at stop ≡ asked (map_item local (integer_item 2 4)) m at stop
  code_local t = the_first (map_item local (integer_item 2 4)) (map_item global name_item) m at stop (no_tag_lem m at stop h 6 b is t)

-- A problem, by its tag

module _ (m : List ℕ) (at stop : ℕ) (h : until stop ≤ length m) where
  module _ (b : Bool) (t : b ≡ true) where
    -- not of the tag 80, nor 81
    not_general : (tag : ℕ) → b ≡ stands_of m at stop tag → eqb tag 128 ≡ false → asked problem_item m at stop ≡ asked (or_item (map_item Problem.OfInvoke (octet_item 129 most_invoke_problem)) (or_item (map_item Problem.OfResult (octet_item 130 most_result_problem)) (map_item Problem.OfError (octet_item 131 most_error_problem)))) m at stop
    not_general tag is q = the_second (map_item Problem.General (octet_item 128 most_general_problem)) _ m at stop (another_tag m at stop h tag b is t (λ q. eqb q 128) q)

    not_invoke : (tag : ℕ) → b ≡ stands_of m at stop tag → eqb tag 128 ≡ false → eqb tag 129 ≡ false → asked problem_item m at stop ≡ asked (or_item (map_item Problem.OfResult (octet_item 130 most_result_problem)) (map_item Problem.OfError (octet_item 131 most_error_problem))) m at stop
    not_invoke tag is q o = not_general tag is q ∙ the_second (map_item Problem.OfInvoke (octet_item 129 most_invoke_problem)) _ m at stop (another_tag m at stop h tag b is t (λ q. eqb q 129) o)

    pub problem_invoke : b ≡ stands_of m at stop 129 → asked problem_item m at stop ≡ asked (map_item Problem.OfInvoke (octet_item 129 most_invoke_problem)) m at stop
    problem_invoke is = not_general 129 is refl ∙ the_first (map_item Problem.OfInvoke (octet_item 129 most_invoke_problem)) _ m at stop (another_tag m at stop h 129 b is t (λ q. eqb q 130 || eqb q 131) refl)

    pub problem_result : b ≡ stands_of m at stop 130 → asked problem_item m at stop ≡ asked (map_item Problem.OfResult (octet_item 130 2)) m at stop
    problem_result is = not_invoke 130 is refl refl ∙ the_first (map_item Problem.OfResult (octet_item 130 2)) _ m at stop (another_tag m at stop h 130 b is t (λ q. eqb q 131) refl)

    pub problem_error : b ≡ stands_of m at stop 131 → asked problem_item m at stop ≡ asked (map_item Problem.OfError (octet_item 131 most_error_problem)) m at stop
    problem_error is = not_invoke 131 is refl refl ∙ the_second (map_item Problem.OfResult (octet_item 130 most_result_problem)) _ m at stop (another_tag m at stop h 131 b is t (λ q. eqb q 130) refl)

  pub problem_general : (b c d : Bool) → b ≡ stands_of m at stop 129 → c ≡ stands_of m at stop 130 → d ≡ stands_of m at stop 131 → b ≡ false → c ≡ false → d ≡ false → asked problem_item m at stop ≡ asked (map_item Problem.General (octet_item 128 most_general_problem)) m at stop
  problem_general b c d one two three x y z =
      the_first (map_item Problem.General (octet_item 128 most_general_problem)) _ m at stop (λ a s q. rw (no_tag_lem m at stop h 129 b one x a s q, no_tag_lem m at stop h 130 c two y a s q, no_tag_lem m at stop h 131 d three z a s q))

-- A transaction ID

pub transaction_sized : (c : List ℕ) → id_ok c ≡ true → (1 ≤ length c) × (length c ≤ most_transaction_id_octets)
unfolding id_ok
transaction_sized c e = go (leb 1 (length c)) (leb (length c) most_transaction_id_octets) refl refl e
  where
    go : (a b : Bool) → leb 1 (length c) ≡ a → leb (length c) most_transaction_id_octets ≡ b → (a && b) ≡ true → (1 ≤ length c) × (length c ≤ most_transaction_id_octets)
    go true true p q e = (leb-true 1 (length c) p, leb-true (length c) most_transaction_id_octets q)
    go true false p q e = absurd (false≢true e)
    go false b p q e = absurd (false≢true e)

transaction_fits : (c : List ℕ) → 1 ≤ length c → length c ≤ most_transaction_id_octets → id_ok c ≡ true
unfolding id_ok
transaction_fits c p q = rw (le-leb 1 (length c) p, le-leb (length c) most_transaction_id_octets q)

module _ (m : List ℕ) (at stop tag n : ℕ) (g : at ≤ until stop) (h : until stop ≤ length m) (leads : Leads tag) (kind : tag / 32 % 2 ≡ 0) (is : n ≡ count_of (until stop) at (get_or m at 0) (get_or m (at + 1) 0) tag most_transaction_id_octets) where
  pub transaction_none : n ≡ 0 → (r : ℕ) → r ≡ bad_place m at stop tag → Reads (leaf_item tag id_ok) m at stop r
  transaction_none z r e = leaf_none m at stop tag _ n id_ok g h leads (plain tag kind) (omega arith) is z transaction_sized r e

  pub transaction_good : 1 ≤ n → Reads (leaf_item tag id_ok) m at stop (at + 2 + n)
  transaction_good there =
      let i = counted m at (until stop) tag _ n is there in
      let all : length (take n (drop (at + 2) m)) ≡ n = length-take-le n (drop (at + 2) m) (omega (arith, length-drop (at + 2) m, i.room, h)) in
      leaf_good m at stop tag _ n id_ok g h leads (plain tag kind) (omega arith) is there (transaction_fits (take n (drop (at + 2) m)) (omega (arith, all, there)) (omega (arith, all, i.few)))

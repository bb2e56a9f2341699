-- What the readers of a component's contents answer and leave in its row; and a component by its tag. Assumes nothing.
use Prim.Native.Nat.{ℕ, ◌+◌, ◌≤◌, ◌<◌}
use mathlib.Core.Path.{◌≡◌, refl, sym, ap, ◌∙◌}
use mathlib.Core.Bool.{Bool, true, false, ◌||◌}
use mathlib.Core.List.{List}
use mathlib.Core.Option.{Option, some}
use native.Mathlib.Omega.{arith}
use lib.ListN.{length, get_or, set}
use lib.Dec.{eqb}
use lib.IntN.{ℤ}
use borrow.Author.Tests.{eqb-true, eqb-false, ne_eqb}
use Rattle.base.specs.Number.{top_of, bits_at}
use Rattle.element.specs.declared.{FaultKind.FaultKind, EndRead.EndRead, TagRead.TagRead}
use Rattle.element.specs.Element.{constructor_of}
use Rattle.element.specs.Fault.{fault, Text, with_invoke_id}
use Rattle.element.specs.Head.{end_of, length_of}
use Rattle.element.specs.inner.Fronts.{front_of, length_size}
use Rattle.element.specs.Ask.{head, Body, ask}
use Rattle.element.specs.Parts.{level, silently, around_item, bind_body, only_body, last_body, map_body, integer_item}
use Rattle.tcap.specs.declared.Problem.{Problem}
use Rattle.tcap.specs.Meaning.{Code, Component, invoke, last, not_last, error, reject}
use Rattle.tcap.specs.WellFormed.{the93}
use Rattle.tcap.specs.Productions.{id_item, id_or_null_item, problem_item, code_item, both_item, level_at, noted, invoke_body, result_body, error_body, reject_body, component_item}
use Rattle.read_place.specs.Places.{Far, Near, until, finite, part, front, fault_place, base, nothing, Reads, Finishes, Leads, stands_of, ended_of, entry_place, length_place, asked_place, wrong_place, unknown_component}
use Rattle.read_place.specs.Leaves.{untold}
use Rattle.read_place.specs.Laying.{lay_id, lay_reject_id, lay_linked, lay_code, lay_element, lay_returned, lay_problem, lay_component}
use Rattle.read_place.proofs.Answers.{Keeps, far}
use Rattle.read_place.proofs.Fronts.{wrong_ask}
use Rattle.read_place.proofs.Items.{front_octet, around_near, entry_far, entry_of}
use Rattle.read_place.proofs.Asked.{ask_map}
use Rattle.read_place.proofs.Bodies.{map_closed}
use Rattle.read_place.proofs.Optional.{opt_far, opt_near, opt_none, reads_within, deep_enough, around_entry, around_read, entry_inside, entry_from, entry_to}
use Rattle.read_place.proofs.Leaves.{far_left, leaves_far, left_next, around_left, opt_left_none, opt_left}
use Rattle.read_part.specs.Parts.{HeldText, parameter_body, lay_held}
use Rattle.read_part.proofs.FieldsLeft.{fault_all, quiet, linked_left}
use Rattle.read_row.specs.Component.{coded_body, linked_body, rejected_body, component_body_of, lay_both, lay_coded, ReadsComponent, LeavesComponent}
use Rattle.read_row.proofs.Pairs.{Does, DoesAll, bind_fault, bind_rest, only_fault, only_end, last_fault, last_end, kind_asked, of_five, or_tag}

-- A code and what stands behind it

module _ (must : Bool) (left : ℕ) (deep : 1 ≤ left) (m : List ℕ) (at stop r : ℕ) (old mid : List ℕ) (e : Does untold lay_code code_item m at stop r old mid) where
  pub code_fault : Far r → DoesAll untold (lay_coded must) (coded_body must left) m at stop r old mid
  code_fault = bind_fault untold left (deep_enough left deep) code_item lay_code m at stop r old mid e silently (λ a f. refl) (λ a f l u. u) (parameter_body must left) (lay_held must)

  pub code_rest : Near r → (s : ℕ) (new : List ℕ) → DoesAll untold (lay_held must) (parameter_body must left) m r stop s mid new → DoesAll untold (lay_coded must) (coded_body must left) m at stop s old new
  code_rest = bind_rest untold left (deep_enough left deep) code_item lay_code m at stop r old mid e silently (λ a f. refl) (λ a f l u. u) (parameter_body must left) (lay_held must)

-- A linked ID or none

module _ (m : List ℕ) (at stop : ℕ) (g : at ≤ until stop) (h : until stop ≤ length m) (b : Bool) (is : b ≡ stands_of m at stop 128) (old new : List ℕ) where
  abbrev Linked : ℕ → Type 0
  Linked r = DoesAll untold (lay_both lay_linked (lay_coded false)) linked_body m at stop r old new

  abbrev coded : Body (Code Text × HeldText false)
  coded = coded_body false 13

  abbrev put_linked : ℤ → List ℕ → List ℕ
  put_linked i l = set (set l 3 1) 4 (bits_at (top_of 1) i)

  abbrev leads : Leads 128
  leads = (omega arith, omega arith, omega arith)

  pub linked_none : b ≡ false → (r : ℕ) → DoesAll untold (lay_coded false) coded m at stop r old new → Linked r
  unfolding lay_linked
  linked_none t r e = (
    opt_none 128 (integer_item 128 1) (λ a. refl) coded refl refl refl (λ f. refl) leads m at stop g h b is t r e.0,
    opt_left_none untold 128 (integer_item 128 1) (λ a. refl) coded refl refl refl (λ f. refl) leads m at stop g h b is put_linked (lay_coded false) (lay_both lay_linked (lay_coded false)) old t (λ v l. refl) new e.1,
  )

  module _ (t : b ≡ true) (r : ℕ) (e : Reads (integer_item 128 1) m at stop r) where
    pub linked_fault : Far r → Linked r
    linked_fault f = fault_all (lay_both lay_linked (lay_coded false)) linked_body m at stop r old new (opt_far 128 (integer_item 128 1) (λ a. refl) coded refl refl refl (λ f. refl) leads m at stop g h b is t r e f) f

    pub linked_rest : Near r → ((i : ℕ) → get_or m i 0 < 256) → (s : ℕ) → DoesAll untold (lay_coded false) coded m r stop s (set (set old 3 1) 4 (get_or m (at + 2) 0)) new → Linked s
    unfolding lay_linked
    linked_rest f low s q = (
      opt_near 128 (integer_item 128 1) (λ a. refl) coded refl refl refl (λ f. refl) leads m at stop g h b is t r e f s q.0,
      opt_left untold 128 (integer_item 128 1) (λ a. refl) coded refl refl refl (λ f. refl) leads m at stop g h b is put_linked (lay_coded false) (lay_both lay_linked (lay_coded false)) old t r e (λ f l u. u) (λ a v l. refl) _ new f
          (linked_left m at stop r h 128 leads e f low old) q.1,
    )

-- An invoke ID and the rest; it goes with later faults, whose number it does not change

known_keeps : (j : Option ℤ) → Keeps (with_invoke_id j)
unfolding with_invoke_id fault_place
known_keeps j (fault k q o i t) = refl

module _ {B : Type 0} (y : Body B) (put : B → List ℕ → List ℕ) (m : List ℕ) (at stop r : ℕ) (old mid : List ℕ) (e : Does untold lay_id id_item m at stop r old mid) where
  pub id_fault : Far r → DoesAll untold (lay_both lay_id put) (bind_body (level 13) noted id_item (λ i. y)) m at stop r old mid
  id_fault = bind_fault untold 13 refl id_item lay_id m at stop r old mid e noted (λ i. known_keeps (some i)) (λ i f l u. u) y put

  pub id_rest : Near r → (s : ℕ) (new : List ℕ) → DoesAll untold put y m r stop s mid new → DoesAll untold (lay_both lay_id put) (bind_body (level 13) noted id_item (λ i. y)) m at stop s old new
  id_rest = bind_rest untold 13 refl id_item lay_id m at stop r old mid e noted (λ i. known_keeps (some i)) (λ i f l u. u) y put

-- 30, or nothing

abbrev pub results_body : Body (Option (Code Text × Text))
results_body = last_body (level_at the93 4) (both_item the93)

module _ (m : List ℕ) (at stop : ℕ) (g : at ≤ until stop) (h : until stop ≤ length m) (b : Bool) (is : b ≡ ended_of (end_of (finite stop) (part m at stop))) (no : b ≡ false) (inner : ℕ) (entry : inner ≡ entry_place true m at stop 48) (old new : List ℕ) where
  same_returned : (v : Code Text × Text) (l : List ℕ) → lay_both lay_code lay_element v l ≡ lay_returned (some v) l
  unfolding lay_returned
  same_returned (c, t) l = refl

  pub result_entry : Far inner → DoesAll untold lay_returned results_body m at stop inner old new
  unfolding constructor_of
  result_entry f =
      let e : Reads (both_item the93) m at stop inner = entry_far true m at stop 48 inner g h entry (both_item the93) (omega arith, omega arith, omega arith) refl (λ a. refl) f in
      last_fault untold 13 refl (both_item the93) (lay_both lay_code lay_element) m at stop inner old new (e, leaves_far (lay_both lay_code lay_element) (both_item the93) m at stop inner old new e f) b is no lay_returned f

  module _ (top : length m ≤ 65535) (near : Near inner) (st : ℕ) (start : st ≡ at + 1 + length_size (get_or m (at + 1) 0)) (r : ℕ) (e : DoesAll untold (lay_coded true) (coded_body true 12) m st inner r old new) where
    both : Does untold (lay_both lay_code lay_element) (both_item the93) m at stop r old new
    unfolding constructor_of HeldText parameter_body lay_held
    both = (around_near (coded_body true 12) m at stop 48 inner st r g h top (omega arith, omega arith, omega arith) refl entry near start e.0, around_left untold (coded_body true 12) m at stop 48 inner st g h top (omega arith, omega arith, omega arith) refl entry near start (lay_both lay_code lay_element) old new e.1)

    pub result_fault : Far r → DoesAll untold lay_returned results_body m at stop r old new
    result_fault f = last_fault untold 13 refl (both_item the93) (lay_both lay_code lay_element) m at stop r old new both b is no lay_returned f

    pub result_end : Near r → (s : ℕ) → Finishes nothing m r stop s → DoesAll untold lay_returned results_body m at stop s old new
    result_end f s q = last_end untold 13 refl (both_item the93) (lay_both lay_code lay_element) m at stop r old new both f s new (q, quiet _ new) b is no lay_returned same_returned

    pub result_within : Near r → r ≤ until stop
    result_within f = reads_within (both_item the93) m at stop r both.0 f

-- The contents of a Reject

module _ (m : List ℕ) (at stop r : ℕ) (old mid : List ℕ) (e : Does untold lay_reject_id id_or_null_item m at stop r old mid) where
  abbrev a_problem : Body Problem
  a_problem = only_body (level 13) problem_item

  pub reject_fault : Far r → DoesAll untold (lay_both lay_reject_id lay_problem) rejected_body m at stop r old mid
  reject_fault = bind_fault untold 13 refl id_or_null_item lay_reject_id m at stop r old mid e with_invoke_id known_keeps (λ i f l u. u) a_problem lay_problem

  module _ (near : Near r) (s : ℕ) (new : List ℕ) (p : Does untold lay_problem problem_item m r stop s mid new) where
    rejected : (q : ℕ) → DoesAll untold lay_problem a_problem m r stop q mid new → DoesAll untold (lay_both lay_reject_id lay_problem) rejected_body m at stop q old new
    rejected q = bind_rest untold 13 refl id_or_null_item lay_reject_id m at stop r old mid e with_invoke_id known_keeps (λ i f l u. u) a_problem lay_problem near q new

    pub problem_fault : Far s → DoesAll untold (lay_both lay_reject_id lay_problem) rejected_body m at stop s old new
    problem_fault f = rejected s (only_fault untold 13 refl problem_item lay_problem m r stop s mid new p f)

    pub reject_end : Near s → (q : ℕ) → Finishes nothing m s stop q → DoesAll untold (lay_both lay_reject_id lay_problem) rejected_body m at stop q old new
    reject_end f q z = rejected q (only_end untold 13 refl problem_item lay_problem m r stop s mid new p f q new (z, quiet _ new))

-- The contents by the tag, which is laid out first

module _ (tag : ℕ) (m : List ℕ) (at stop r : ℕ) (old new : List ℕ) where
  abbrev Contents : Type 0
  Contents = DoesAll untold lay_component (component_body_of tag) m at stop r old new

  by_name : {A : Type 0} (f : A → Component Text) (b : Body A) (lay : A → List ℕ → List ℕ) → component_body_of tag ≡ map_body f b → ((a : A) → lay a (set old 0 tag) ≡ lay_component (f a) old) → DoesAll untold lay b m at stop r (set old 0 tag) new → Contents
  by_name f b lay is same e = rw is (map_closed f b m at stop r e.0, rw (ask_map f b (finite stop) at (part m at stop)) (left_next untold lay lay_component f (λ n. n) _ old (set old 0 tag) new same e.1))

  pub of_invoke : tag ≡ 161 → DoesAll untold (lay_both lay_id (lay_both lay_linked (lay_coded false))) (bind_body (level 13) noted id_item (λ i. linked_body)) m at stop r (set old 0 tag) new → Contents
  unfolding component_body_of lay_component HeldText parameter_body lay_held
  of_invoke t e = by_name (λ v. invoke v.0 v.1.0 v.1.1.0 v.1.1.1) _ _ (ap component_body_of t) (λ v. ap (λ (a : ℕ). lay_both lay_id (lay_both lay_linked (lay_coded false)) v (set old 0 a)) t) e

  pub of_error : tag ≡ 163 → DoesAll untold (lay_both lay_id (lay_coded false)) (bind_body (level 13) noted id_item (λ i. coded_body false 13)) m at stop r (set old 0 tag) new → Contents
  unfolding component_body_of lay_component HeldText parameter_body lay_held
  of_error t e = by_name (λ v. error v.0 v.1.0 v.1.1) _ _ (ap component_body_of t) (λ v. ap (λ (a : ℕ). lay_both lay_id (lay_coded false) v (set old 0 a)) t) e

  pub of_reject : tag ≡ 164 → DoesAll untold (lay_both lay_reject_id lay_problem) rejected_body m at stop r (set old 0 tag) new → Contents
  unfolding component_body_of lay_component
  of_reject t e = by_name (λ v. reject v.0 v.1) _ _ (ap component_body_of t) (λ v. ap (λ (a : ℕ). lay_both lay_reject_id lay_problem v (set old 0 a)) t) e

  pub of_result : (tag ≡ 161 → ⊥) → (tag ≡ 163 → ⊥) → (tag ≡ 164 → ⊥) → (component_item the93).mine tag ≡ true → DoesAll untold (lay_both lay_id lay_returned) (bind_body (level 13) noted id_item (λ i. results_body)) m at stop r (set old 0 tag) new → Contents
  unfolding component_body_of lay_component
  of_result a b c mine e = go (eqb tag 162) refl (rw (ne_eqb tag 161 a, ne_eqb tag 163 b, ne_eqb tag 164 c) at mine)
    where
      go : (d : Bool) → eqb tag 162 ≡ d → (d || eqb tag 167) ≡ true → Contents
      go true i o = by_name (λ v. last v.0 v.1) _ _ (ap component_body_of (eqb-true tag 162 i)) (λ v. ap (λ (a : ℕ). lay_both lay_id lay_returned v (set old 0 a)) (eqb-true tag 162 i)) e
      go false i o = by_name (λ v. not_last v.0 v.1) _ _ (ap component_body_of (eqb-true tag 167 o)) (λ v. ap (λ (a : ℕ). lay_both lay_id lay_returned v (set old 0 a)) (eqb-true tag 167 o)) e

-- the invoke ID, which all but a Reject must have, cannot be read
pub id_far : (tag : ℕ) (m : List ℕ) (at stop r : ℕ) (old new : List ℕ) → (tag ≡ 164 → ⊥) → (component_item the93).mine tag ≡ true → Does untold lay_id id_item m at stop r (set old 0 tag) new → Far r → DoesAll untold lay_component (component_body_of tag) m at stop r old new
id_far tag m at stop r old new not_164 mine e f = go (eqb tag 161) (eqb tag 163) refl refl
  where
    go : (b c : Bool) → eqb tag 161 ≡ b → eqb tag 163 ≡ c → DoesAll untold lay_component (component_body_of tag) m at stop r old new
    go true c i j = of_invoke tag m at stop r old new (eqb-true tag 161 i) (id_fault linked_body (lay_both lay_linked (lay_coded false)) _ _ _ _ _ _ e f)
    go false true i j = of_error tag m at stop r old new (eqb-true tag 163 j) (id_fault (coded_body false 13) (lay_coded false) _ _ _ _ _ _ e f)
    go false false i j = of_result tag m at stop r old new (eqb-false tag 161 i) (eqb-false tag 163 j) not_164 mine (id_fault results_body lay_returned _ _ _ _ _ _ e f)

-- A component that must stand here

abbrev pub Lead : ℕ → Type 0
Lead tag = Leads tag × (constructor_of tag ≡ true)

pub lead : (tag : ℕ) → (component_item the93).mine tag ≡ true → Lead tag
unfolding constructor_of
lead tag =
    or_tag Lead tag 161 _ ((omega arith, omega arith, omega arith), refl) (or_tag Lead tag 162 _ ((omega arith, omega arith, omega arith), refl)
    (or_tag Lead tag 163 _ ((omega arith, omega arith, omega arith), refl) (or_tag Lead tag 164 _ ((omega arith, omega arith, omega arith), refl)
    (λ e. let t : tag ≡ 167 = eqb-true tag 167 e in rw t ((omega arith, omega arith, omega arith), refl)))))

pub by_tag : (m : List ℕ) (at stop : ℕ) → until stop ≤ length m → (component_item the93).mine (get_or m at 0) ≡ true
    → ask (front (level 1) FaultKind.UnknownComponent (component_item the93)) (finite stop) at (part m at stop) ≡ ask (front (level 1) FaultKind.Another (around_item (get_or m at 0) (component_body_of (get_or m at 0)))) (finite stop) at (part m at stop)
unfolding component_body_of
by_tag m at stop h mine =
    let tag = get_or m at 0 in
    kind_asked m at stop h FaultKind.UnknownComponent (component_item the93) component_body_of mine (λ n z.
    of_five (invoke_body the93) (result_body the93 last) (error_body the93) (reject_body the93) (result_body the93 not_last) (head tag n z) at (part m at stop) (eqb tag 161) (eqb tag 162) (eqb tag 163) (eqb tag 164))

wrong_by : (at other : ℕ) (e : EndRead) (t : TagRead) → Far other → Far (asked_place (λ a. false) (λ s. 0) other at e t)
unfolding asked_place base
wrong_by at other EndRead.Ended t h = omega arith
wrong_by at other EndRead.Unfinished t h = omega arith
wrong_by at other EndRead.More (TagRead.Fault k) h = unfold base in omega (arith, far k)
wrong_by at other EndRead.More (TagRead.Tag a s) h = omega (arith, h)

module _ (m : List ℕ) (at stop : ℕ) (h : until stop ≤ length m) (here : at < until stop) (b : Bool) (asked : b ≡ (component_item the93).mine (get_or m at 0)) where
  abbrev Answered : ℕ → List ℕ → List ℕ → Type 0
  Answered r old new = ReadsComponent m at stop r × LeavesComponent m at stop old new

  with_fault : (r : ℕ) (old new : List ℕ) → ReadsComponent m at stop r → Far r → Answered r old new
  with_fault r old new e f = (e, far_left lay_component _ at (until stop) r old new e (omega arith) f)

  pub component_wrong : b ≡ false → (r : ℕ) → r ≡ wrong_place m at stop unknown_component → (old new : List ℕ) → Answered r old new
  unfolding base
  component_wrong un r e old new =
      with_fault r old new (rw e (wrong_ask (front (level 1) FaultKind.UnknownComponent (component_item the93)) (finite stop) at (part m at stop) (λ f. refl) refl refl (until stop) (λ z. refl)
      (λ a s z. ap (λ (q : ℕ). (component_item the93).mine q) (sym (front_octet m at (until stop) a s h z).1) ∙ sym asked ∙ un))) (rw e (wrong_by at unknown_component (end_of (finite stop) (part m at stop)) (front_of 1 (part m at stop)) (omega arith)))

  module _ (told : b ≡ true) (inner : ℕ) (is : inner ≡ length_place at (at + 1) (until stop) (length_of (part m (at + 1) stop) true)) where
    abbrev tag : ℕ
    tag = get_or m at 0

    entry : inner ≡ entry_place true m at stop tag
    entry = is ∙ entry_of true m at stop tag (length_of (part m (at + 1) stop) true) here refl refl

    pub component_stops : Far inner → (old new : List ℕ) → Answered inner old new
    component_stops f old new = let s = lead tag (sym asked ∙ told) in with_fault inner old new (rw (by_tag m at stop h (sym asked ∙ told)) (around_entry tag s.0 s.1 (component_body_of tag) m at stop inner (omega (arith, here)) h entry f)) f

    module _ (near : Near inner) where
      pub start_inside : at + 1 < length m
      start_inside = entry_inside m at stop tag inner (omega (arith, here)) h entry near

      module _ (top : length m ≤ 65535) (st : ℕ) (start : st ≡ at + 1 + length_size (get_or m (at + 1) 0)) where
        pub start_stands : (st ≤ until inner) × (until inner ≤ length m)
        start_stands = (entry_from m at stop tag inner (omega (arith, here)) h entry near top st start, entry_to m at stop tag inner (omega (arith, here)) h entry near top st start)

        pub component_done : (r : ℕ) (old new : List ℕ) → DoesAll untold lay_component (component_body_of tag) m st inner r old new → Answered r old new
        component_done r old new q =
            let s = lead tag (sym asked ∙ told) in
            rw (by_tag m at stop h (sym asked ∙ told)) (around_read tag s.0 s.1 (component_body_of tag) m at stop inner (omega (arith, here)) h entry top near st start r q.0, around_left untold (component_body_of tag) m at stop tag inner st (omega (arith, here)) h top s.0 s.1 entry near start lay_component old new q.1)

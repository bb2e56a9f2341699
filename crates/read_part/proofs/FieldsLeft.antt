-- What the readers of a component's fields lay out, and how its contents are put together. Assumes nothing.
use Rattle.std.specs.Prelude.{Option as Optional, Some, None}
use Prim.Native.Nat.{ℕ, suc, ◌+◌, ◌-◌, ◌*◌, ◌/◌, ◌%◌, ◌≤◌, ◌<◌}
use mathlib.Core.Path.{◌≡◌, refl, sym, ap, ◌∙◌}
use mathlib.Core.Bool.{Bool, true, false, cond}
use mathlib.Core.List.{List, [], ◌∷◌}
use mathlib.Core.Option.{none, some}
use native.Mathlib.Omega.{arith}
use lib.ListN.{length, get_or, drop, take, set, length-set, length-drop}
use lib.Seq.{sets, length-take-le, drop-cons}
use lib.Dec.{leb}
use lib.IntN.{ℤ}
use borrow.Author.Tests.{leb-true}
use Rattle.base.specs.Number.{number_from, octets_in, top_of, bits_at}
use Rattle.base.specs.Value.{same}
use Rattle.base.proofs.Numbers.{bits_signed}
use Rattle.primitive.specs.Primitive.{most_integer_octets, most_identifier_octets, identifier_ok, integer_ok, signed_of}
use Rattle.primitive.specs.inner.Answers.{integer_of}
use Rattle.element.specs.declared.FaultKind.{FaultKind}
use Rattle.element.specs.Fault.{Text}
use Rattle.element.specs.Head.{end_of}
use Rattle.element.specs.Answers.{element_walk}
use Rattle.element.specs.Walk.{walk_item}
use Rattle.element.specs.Ask.{Got, got, bad, Body, ask}
use Rattle.element.specs.Parts.{Item, level, leaf_item, map_item, integer_item}
use Rattle.element.proofs.Asking.{Then, fact, the_fact, then_next, then_blamed, ask_sound}
use Rattle.element.proofs.Views.{span_take, span_length}
use Rattle.tcap.specs.declared.Problem.{Problem}
use Rattle.tcap.specs.Meaning.{local, global}
use Rattle.tcap.specs.WellFormed.{most_general_problem, most_invoke_problem, most_result_problem, most_error_problem}
use Rattle.tcap.specs.Productions.{single?, octet_item, id_item, name_item, code_item, id_or_null_item, problem_item}
use Rattle.read_place.specs.Places.{Far, Near, until, finite, part, front, Placed, Reads, Finishes, Leads, Walked, stands_of, count_of, entry_place, bad_place, base, ended_of, unfinished_of, behind_of, nothing, missing, cut_off}
use Rattle.read_place.specs.Leaves.{Left, Leaves, LeavesAll, untold}
use Rattle.read_place.specs.Laying.{lay_text, lay_id, lay_reject_id, lay_code, lay_element, lay_parameter, lay_problem}
use Rattle.read_place.proofs.Answers.{placed_near}
use Rattle.read_place.proofs.Fronts.{ended_is, not_ended}
use Rattle.read_place.proofs.Items.{front_map, counted}
use Rattle.read_place.proofs.Values.{placed_got, leaf_stood, value_walk}
use Rattle.read_place.proofs.Optional.{deep_enough, here_placed, last_ended, last_walk_far, last_walk, cut_here, sole_missing, sole_walk_far, sole_walk}
use Rattle.read_place.proofs.Leaves.{leaves_far, leaves_all_far, left_next, only_left, last_left, last_left_none}
use Rattle.read_field.proofs.Fields.{integer_sized, single_sized, name_sized, local_good}
use Rattle.read_field.proofs.Choices.{asked, reads_map, id_null, id_number, code_global, code_local, problem_invoke, problem_result, problem_error, problem_general}
use Rattle.read_part.specs.Parts.{lay_octet, HeldText, parameter_body, lay_held}

-- what is read and what is laid out
abbrev Both : {A : Type 0} → (A → List ℕ → List ℕ) → Item A → List ℕ → ℕ → ℕ → ℕ → List ℕ → List ℕ → Type 0
Both lay x m at stop r old new = Reads x m at stop r × Leaves lay untold x m at stop old new

-- a fault leaves anything
pub fault_one : {A : Type 0} (lay : A → List ℕ → List ℕ) (x : Item A) (m : List ℕ) (at stop r : ℕ) (old new : List ℕ) → Reads x m at stop r → Far r → Both lay x m at stop r old new
fault_one lay x m at stop r old new e f = (e, leaves_far lay x m at stop r old new e f)

pub fault_all : {A : Type 0} (lay : A → List ℕ → List ℕ) (b : Body A) (m : List ℕ) (at stop r : ℕ) (old new : List ℕ) → Finishes b m at stop r → Far r → Finishes b m at stop r × LeavesAll lay untold b m at stop old new
fault_all lay b m at stop r old new e f = (e, leaves_all_far lay b m at stop r old new e f)

pub bad_far : (m : List ℕ) (at stop tag r : ℕ) → r ≡ bad_place m at stop tag → Far r
unfolding bad_place base
bad_far m at stop tag r e = rw e (go (entry_place false m at stop tag) (leb 131072 (entry_place false m at stop tag)) refl)
  where
    go : (q : ℕ) (b : Bool) → leb 131072 q ≡ b → Far (cond b q (917504 + at))
    go q true t = leb-true 131072 q t
    go q false t = omega arith

-- a store keeps the length
pub stored : (l : List ℕ) (i a : ℕ) → length (set l i a) ≡ length l
stored l i a = length-set l i a

-- four stores, side by side
pub number_laid : (l : List ℕ) (o n : ℕ) → set (set (set (set l o (n / 256 / 256 / 256 % 256)) (o + 1) (n / 256 / 256 % 256)) (o + 2) (n / 256 % 256)) (o + 3) (n % 256) ≡ sets l o (octets_in 4 n)
unfolding octets_in
number_laid l o n =
    let a : o + 1 ≡ suc o = omega arith in
    let b : o + 2 ≡ suc (suc o) = omega arith in
    let c : o + 3 ≡ suc (suc (suc o)) = omega arith in
    rw (a, b, c)

-- what was got is known, and laid out
got_left : {A : Type 0} (lay : A → List ℕ → List ℕ) (P : A → ℕ → Type 0) (x : Got A) (p end r : ℕ) (old new : List ℕ) → Placed p end x r → Then P x → ((a : A) → P a (r - p) → new ≡ lay a old) → Left lay untold x old new
unfolding Placed Left
got_left lay P (got a n) p end r old new e t g = let i : n ≡ r - p = omega (arith, e) in g a (rw i at (the_fact t))
got_left lay P (bad b) p end r old new e t g = tt

-- what lays nothing out changes nothing
pub quiet : {A : Type 0} (x : Got A) (l : List ℕ) → Left (λ (a : A) (l : List ℕ). l) untold x l l
unfolding Left
quiet (got a n) l = refl
quiet (bad f) l = tt

-- A primitive of few octets

module _ {B : Type 0} (f : Text → B) (tag most : ℕ) (fits : List ℕ → Bool) (leads : Leads tag) (few : most ≤ 127) (sized : (c : List ℕ) → fits c ≡ true → (1 ≤ length c) × (length c ≤ most)) where
  abbrev leaf : Item B
  leaf = map_item f (leaf_item tag fits)

  abbrev Stood : ℕ → List ℕ → B → ℕ → Type 0
  Stood p part b n = (3 ≤ n) × (b ≡ f (p + 2, take (n - 2) (drop 2 part))) × (n ≤ most + 2)

  value_few : (d : Bool) (p : ℕ) (part : List ℕ) → Then (Stood p part) (ask (front (level 1) FaultKind.Another leaf) d p part)
  value_few d p part =
      ask_sound (Stood p part) (front (level 1) FaultKind.Another leaf) d p part (λ v e f. let z : ◌≡◌ {A = ℕ} 0 1 = cc in absurd (omega arith)) (λ h i m. then_blamed (λ f. f)
      (then_next (leaf_stood tag most fits leads few sized p part h i m) (λ v n q. fact (q.0, ap f q.1, q.2))))

  module _ (m : List ℕ) (at stop r : ℕ) (h : until stop ≤ length m) (e : Reads leaf m at stop r) (near : Near r) where
    few_size : (at + 3 ≤ r) × (r ≤ until stop) × (r ≤ at + 2 + most)
    few_size =
        let (a, q, z) = placed_got (ask (front (level 1) FaultKind.Another leaf) (finite stop) at (part m at stop)) at (until stop) r (Stood at (part m at stop)) e near (value_few (finite stop) at (part m at stop)) in
        let w = placed_near (ask (front (level 1) FaultKind.Another leaf) (finite stop) at (part m at stop)) at (until stop) r e near in
        (omega (arith, z.0, w), w.1, omega (arith, z.2, w))

    few_left : (lay : B → List ℕ → List ℕ) (old new : List ℕ) → ((b : B) → b ≡ f (at + 2, take (r - at - 2) (drop (at + 2) m)) → new ≡ lay b old) → Leaves lay untold leaf m at stop old new
    few_left lay old new g =
        let s = few_size in
        let room : at + 2 + (r - at - 2) ≤ until stop = omega (arith, s) in
        got_left lay (Stood at (part m at stop)) _ at (until stop) r old new e (value_few (finite stop) at (part m at stop)) (λ b q. g b (q.1 ∙ rw (span_take m at (until stop) 2 (r - at - 2) room h)))

-- one octet
module _ {B : Type 0} (f : Text → B) (tag : ℕ) (fits : List ℕ → Bool) (leads : Leads tag) (sized : (c : List ℕ) → fits c ≡ true → (1 ≤ length c) × (length c ≤ 1)) (m : List ℕ) (at stop r : ℕ) (h : until stop ≤ length m) (e : Reads (map_item f (leaf_item tag fits)) m at stop r) (near : Near r) where
  one_inside : at + 2 < length m
  one_inside = let s = few_size f tag 1 fits leads (omega arith) sized m at stop r h e near in omega (arith, s, h)

  one_left : (lay : B → List ℕ → List ℕ) (old new : List ℕ) → ((b : B) → b ≡ f (at + 2, get_or m (at + 2) 0 ∷ []) → new ≡ lay b old) → Leaves lay untold (map_item f (leaf_item tag fits)) m at stop old new
  one_left lay old new g =
      let s = few_size f tag 1 fits leads (omega arith) sized m at stop r h e near in
      let one : r - at - 2 ≡ 1 = omega (arith, s) in
      let is : take (r - at - 2) (drop (at + 2) m) ≡ get_or m (at + 2) 0 ∷ [] = rw (one, drop-cons m (at + 2) 0 one_inside) in
      few_left f tag 1 fits leads (omega arith) sized m at stop r h e near lay old new (λ b q. g b (q ∙ rw is))

octet_back : (x : ℕ) → x < 256 → bits_at (top_of 1) (signed_of (x ∷ [])) ≡ x
unfolding signed_of top_of number_from
octet_back x h = bits_signed 255 (0 * 256 + x) (omega (arith, h)) ∙ omega arith

-- an ID, and one that is linked
module _ (m : List ℕ) (at stop r : ℕ) (h : until stop ≤ length m) (tag : ℕ) (leads : Leads tag) (e : Reads (integer_item tag 1) m at stop r) (near : Near r) where
  pub octet_inside : at + 2 < length m
  octet_inside = one_inside (λ v. signed_of v.1) tag (integer_ok 1) leads (integer_sized 1) m at stop r h e near

  module _ (low : (i : ℕ) → get_or m i 0 < 256) (old : List ℕ) where
    by_octet : (lay : ℤ → List ℕ → List ℕ) (new : List ℕ) → ((i : ℤ) → get_or m (at + 2) 0 ≡ bits_at (top_of 1) i → new ≡ lay i old) → Leaves lay untold (integer_item tag 1) m at stop old new
    by_octet lay new g = one_left (λ v. signed_of v.1) tag (integer_ok 1) leads (integer_sized 1) m at stop r h e near lay old new (λ i q. g i (sym (ap (bits_at (top_of 1)) q ∙ octet_back (get_or m (at + 2) 0) (low (at + 2)))))

    pub id_left : Leaves lay_id untold (integer_item tag 1) m at stop old (set (set old 1 1) 2 (get_or m (at + 2) 0))
    unfolding lay_id
    id_left = by_octet lay_id _ (λ i q. ap (set (set old 1 1) 2) q)

    pub linked_left : Leaves (λ i l. set (set l 3 1) 4 (bits_at (top_of 1) i)) untold (integer_item tag 1) m at stop old (set (set old 3 1) 4 (get_or m (at + 2) 0))
    linked_left = by_octet (λ i l. set (set l 3 1) 4 (bits_at (top_of 1) i)) _ (λ i q. ap (set (set old 3 1) 4) q)

-- a problem of one tag
module _ (m : List ℕ) (at stop r : ℕ) (h : until stop ≤ length m) (tag most : ℕ) (leads : Leads tag) (e : Reads (octet_item tag most) m at stop r) (near : Near r) where
  pub small_inside : at + 2 < length m
  small_inside = one_inside (λ v. get_or v.1 0 0) tag (single? most) leads (single_sized most) m at stop r h e near

  pub small_left : (old : List ℕ) → Leaves (lay_octet tag) untold (octet_item tag most) m at stop old (set (set old 5 tag) 7 (get_or m (at + 2) 0))
  small_left old = one_left (λ v. get_or v.1 0 0) tag (single? most) leads (single_sized most) m at stop r h e near (lay_octet tag) old _ (λ b q. ap (set (set old 5 tag) 7) (sym q))

-- An item under another name, and one of two

leaves_map : {A B : Type 0} (f : A → B) (x : Item A) (lay : A → List ℕ → List ℕ) (out : B → List ℕ → List ℕ) (m : List ℕ) (at stop : ℕ) (old new : List ℕ) → ((a : A) → lay a old ≡ out (f a) old) → Leaves lay untold x m at stop old new → Leaves out untold (map_item f x) m at stop old new
leaves_map f x lay out m at stop old new same e = rw (front_map (level 1) FaultKind.Another f x (finite stop) at (part m at stop)) (left_next untold lay out f (λ n. n) _ old old new same e)

-- an item that is asked as another is, under another name
named : {A B : Type 0} (f : A → B) (x : Item A) (y : Item B) (lay : A → List ℕ → List ℕ) (out : B → List ℕ → List ℕ) (m : List ℕ) (at stop r : ℕ) (old new : List ℕ)
    → asked y m at stop ≡ asked (map_item f x) m at stop → ((a : A) → lay a old ≡ out (f a) old) → Both lay x m at stop r old new → Both out y m at stop r old new
named f x y lay out m at stop r old new is same e = (rw is (reads_map f x m at stop r e.0), rw is (leaves_map f x lay out m at stop old new same e.1))

-- A code

value_is : (b : Bool) (z v : ℤ) → cond b (Some z) None ≡ Some v → z ≡ v
value_is true z v e = cc
value_is false z v e = let q : ◌≡◌ {A = ℕ} 0 1 = cc in absurd (omega arith)

module _ (m : List ℕ) (at stop n : ℕ) (g : at ≤ until stop) (h : until stop ≤ length m) (is : n ≡ count_of (until stop) at (get_or m at 0) (get_or m (at + 1) 0) 2 most_integer_octets) (there : 1 ≤ n)
    (xs : List ℕ) (i : Optional ℤ) (xs-is : xs ≡ take n (drop (at + 2) m)) (told : i ≡ integer_of most_integer_octets xs) (v : ℤ) (t : i ≡ Some v) where
  value_here : v ≡ signed_of (take n (drop (at + 2) m))
  unfolding integer_of
  value_here = sym (value_is (integer_ok most_integer_octets xs) (signed_of xs) v (sym told ∙ t)) ∙ ap signed_of xs-is

  pub local_left : (old new : List ℕ) (number : ℕ) → number ≡ bits_at 4294967295 v → new ≡ sets (set old 5 2) 8 (octets_in 4 number) → Leaves lay_code untold (map_item local (integer_item 2 most_integer_octets)) m at stop old new
  unfolding lay_code top_of
  local_left old new number bits laid =
      let room = (counted m at (until stop) 2 _ n is there).room in
      let size : at + 2 + n - at - 2 ≡ n = omega arith in
      leaves_map local (integer_item 2 most_integer_octets) (λ z. lay_code (local z)) lay_code m at stop old new (λ a. refl)
      (few_left (λ v. signed_of v.1) 2 most_integer_octets (integer_ok most_integer_octets) (omega arith, omega arith, omega arith) (omega arith) (integer_sized _) m at stop (at + 2 + n) h (local_good m at stop n g h is there xs i xs-is told v t) (omega (arith, room)) (λ z. lay_code (local z)) old new
      (λ z q. let same-value : v ≡ z = value_here ∙ sym (q ∙ rw size) in laid ∙ ap (λ (b : ℕ). sets (set old 5 2) 8 (octets_in 4 b)) (bits ∙ ap (bits_at 4294967295) same-value)))

global_left : (m : List ℕ) (at stop r : ℕ) → until stop ≤ length m → Reads name_item m at stop r → Near r → (old new : List ℕ) → new ≡ lay_text 8 (at + 2) (r - at - 2) (set old 5 6) → Leaves lay_code untold (map_item global name_item) m at stop old new
unfolding lay_code
global_left m at stop r h e near old new laid =
    let leads : Leads 6 = (omega arith, omega arith, omega arith) in
    let there = reads_map global name_item m at stop r e in
    let s = few_size global 6 most_identifier_octets identifier_ok leads (omega arith) name_sized m at stop r h there near in
    let long : length (take (r - at - 2) (drop (at + 2) m)) ≡ r - at - 2 = length-take-le (r - at - 2) (drop (at + 2) m) (omega (arith, s, h, length-drop (at + 2) m)) in
    few_left global 6 most_identifier_octets identifier_ok leads (omega arith) name_sized m at stop r h there near lay_code old new (λ b q. laid ∙ rw (q, long))

pub name_sizes : (m : List ℕ) (at stop r : ℕ) → until stop ≤ length m → Reads name_item m at stop r → Near r → (at + 3 ≤ r) × (r ≤ until stop)
name_sizes m at stop r h e near = let s = few_size global 6 most_identifier_octets identifier_ok (omega arith, omega arith, omega arith) (omega arith) name_sized m at stop r h (reads_map global name_item m at stop r e) near in (s.0, s.1)

module _ (m : List ℕ) (at stop : ℕ) (h : until stop ≤ length m) (b : Bool) (is : b ≡ stands_of m at stop 6) (r : ℕ) (old new : List ℕ) where
  module _ (t : b ≡ true) (e : Reads name_item m at stop r) where
    global_reads : Reads code_item m at stop r
    global_reads = rw (code_global m at stop h b is t) (reads_map global name_item m at stop r e)

    pub global_far : Far r → Both lay_code code_item m at stop r old new
    global_far f = fault_one lay_code code_item m at stop r old new global_reads f

    pub global_near : Near r → new ≡ lay_text 8 (at + 2) (r - at - 2) (set old 5 6) → Both lay_code code_item m at stop r old new
    global_near near laid = (global_reads, rw (code_global m at stop h b is t) (global_left m at stop r h e near old new laid))

  module _ (t : b ≡ false) (e : Reads (integer_item 2 most_integer_octets) m at stop r) where
    local_reads : Reads code_item m at stop r
    local_reads = rw (code_local m at stop h b is t) (reads_map local (integer_item 2 most_integer_octets) m at stop r e)

    pub local_far : Far r → Both lay_code code_item m at stop r old new
    local_far f = fault_one lay_code code_item m at stop r old new local_reads f

    pub local_near : Leaves lay_code untold (map_item local (integer_item 2 most_integer_octets)) m at stop old new → Both lay_code code_item m at stop r old new
    local_near l = (local_reads, rw (code_local m at stop h b is t) l)

-- The invoke ID of a Reject

module _ (m : List ℕ) (at stop r : ℕ) (h : until stop ≤ length m) (b : Bool) (is : b ≡ stands_of m at stop 5) (old : List ℕ) where
  pub null_both : b ≡ true → Reads (leaf_item 5 (same [])) m at stop r → Both lay_reject_id id_or_null_item m at stop r old old
  unfolding lay_reject_id
  null_both t e = named (λ v. none) (leaf_item 5 (same [])) id_or_null_item (λ a l. l) lay_reject_id m at stop r old old (id_null m at stop h b is t) (λ a. refl) (e, quiet _ old)

  pub number_both : b ≡ false → (new : List ℕ) → Both lay_id id_item m at stop r old new → Both lay_reject_id id_or_null_item m at stop r old new
  unfolding lay_reject_id
  number_both t new e = named some id_item id_or_null_item lay_id lay_reject_id m at stop r old new (id_number m at stop h b is t) (λ a. refl) e

-- A problem, by its tag

module _ (m : List ℕ) (at stop r : ℕ) (h : until stop ≤ length m) (old new : List ℕ) where
  module _ (b : Bool) (t : b ≡ true) where
    pub invoke_both : b ≡ stands_of m at stop 129 → Both (lay_octet 129) (octet_item 129 most_invoke_problem) m at stop r old new → Both lay_problem problem_item m at stop r old new
    unfolding lay_problem
    invoke_both is e = named Problem.OfInvoke (octet_item 129 most_invoke_problem) problem_item (lay_octet 129) lay_problem m at stop r old new (problem_invoke m at stop h b t is) (λ n. refl) e

    pub result_both : b ≡ stands_of m at stop 130 → Both (lay_octet 130) (octet_item 130 most_result_problem) m at stop r old new → Both lay_problem problem_item m at stop r old new
    unfolding lay_problem
    result_both is e = named Problem.OfResult (octet_item 130 most_result_problem) problem_item (lay_octet 130) lay_problem m at stop r old new (problem_result m at stop h b t is) (λ n. refl) e

    pub error_both : b ≡ stands_of m at stop 131 → Both (lay_octet 131) (octet_item 131 most_error_problem) m at stop r old new → Both lay_problem problem_item m at stop r old new
    unfolding lay_problem
    error_both is e = named Problem.OfError (octet_item 131 most_error_problem) problem_item (lay_octet 131) lay_problem m at stop r old new (problem_error m at stop h b t is) (λ n. refl) e

  pub general_both : (b c d : Bool) → b ≡ stands_of m at stop 129 → c ≡ stands_of m at stop 130 → d ≡ stands_of m at stop 131 → b ≡ false → c ≡ false → d ≡ false → Both (lay_octet 128) (octet_item 128 most_general_problem) m at stop r old new → Both lay_problem problem_item m at stop r old new
  unfolding lay_problem
  general_both b c d one two three x y z e = named Problem.General (octet_item 128 most_general_problem) problem_item (lay_octet 128) lay_problem m at stop r old new (problem_general m at stop h b c d one two three x y z) (λ n. refl) e

-- A parameter

module _ (must : Bool) (left : ℕ) (m : List ℕ) (at stop : ℕ) (b : Bool) (is : b ≡ ended_of (end_of (finite stop) (part m at stop))) where
  pub parameter_missing : b ≡ true → must ≡ true → Finishes (parameter_body must left) m at stop (missing + at)
  unfolding HeldText parameter_body
  parameter_missing t u = rw u (sole_missing m at stop left b is t)

  module _ (none-asked : must ≡ false) (t : b ≡ true) where
    pub no_parameter : at ≤ until stop → until stop ≤ length m → (r : ℕ) → r ≡ behind_of at stop → Finishes (parameter_body must left) m at stop r
    unfolding HeldText parameter_body
    no_parameter g h r e = rw none-asked (last_ended m at stop left b is g h t r e)

    pub no_parameter_left : (old : List ℕ) → LeavesAll (lay_held must) untold (parameter_body must left) m at stop old old
    unfolding HeldText parameter_body lay_held lay_parameter
    no_parameter_left old = rw none-asked (last_left_none untold (level left) (walk_item left) lay_parameter m at stop old (λ l. refl) (ended_is (end_of (finite stop) (part m at stop)) b is t))

  module _ (c : Bool) (also : c ≡ unfinished_of (end_of (finite stop) (part m at stop))) where
    pub parameter_cut : c ≡ true → Finishes (parameter_body must left) m at stop (cut_off + at)
    parameter_cut t = cut_here (parameter_body must left) m at stop c also t

    module _ (no : b ≡ false) (nor : c ≡ false) (r : ℕ) (walked : Walked at (until stop) (element_walk 0 left at (part m at stop)) r) where
      pub parameter_far : Far r → Finishes (parameter_body must left) m at stop r
      unfolding HeldText parameter_body
      parameter_far f = go must
        where
          go : (must : Bool) → Finishes (parameter_body must left) m at stop r
          go true = sole_walk_far m at stop left b is c also no nor r walked f
          go false = last_walk_far m at stop left b is c also no nor r walked f

      module _ (near : Near r) where
        abbrev here : Placed at (until stop) (ask (front (level left) FaultKind.Another (walk_item left)) (finite stop) at (part m at stop)) r
        here = here_placed m at stop left b is c also no nor r walked

        pub walk_from : at ≤ r
        walk_from = (placed_near (ask (front (level left) FaultKind.Another (walk_item left)) (finite stop) at (part m at stop)) at (until stop) r here near).0

        pub parameter_near : 1 ≤ left → (s : ℕ) → Finishes nothing m r stop s → Finishes (parameter_body must left) m at stop s
        unfolding HeldText parameter_body
        parameter_near deep s e = go must
          where
            go : (must : Bool) → Finishes (parameter_body must left) m at stop s
            go true = sole_walk m at stop left b is c also no nor r walked deep near s e
            go false = last_walk m at stop left b is c also no nor r walked deep near s e

        module _ (h : until stop ≤ length m) (old new : List ℕ) (laid : new ≡ lay_text 16 at (r - at) (set old 6 1)) where
          walk_left : Left lay_element untold (ask (front (level left) FaultKind.Another (walk_item left)) (finite stop) at (part m at stop)) old new
          unfolding lay_element
          walk_left =
              let to = (placed_near (ask (front (level left) FaultKind.Another (walk_item left)) (finite stop) at (part m at stop)) at (until stop) r here near).1 in
              let long : length (take (r - at) (part m at stop)) ≡ r - at = length-take-le (r - at) (part m at stop) (omega (arith, walk_from, to, span_length m at (until stop) h)) in
              got_left lay_element (λ v n. v ≡ (at, take n (part m at stop))) _ at (until stop) r old new here (value_walk left (level left) (finite stop) at (part m at stop)) (λ v q. laid ∙ rw (q, long))

          pub parameter_left : 1 ≤ left → LeavesAll (lay_held must) untold (parameter_body must left) m at stop old new
          unfolding HeldText parameter_body lay_held lay_parameter
          parameter_left deep = go must
            where
              go : (must : Bool) → LeavesAll (lay_held must) untold (parameter_body must left) m at stop old new
              go true = only_left untold (level left) (walk_item left) m at stop r here lay_element old (λ f l u. u) (deep_enough left deep) new near walk_left (quiet _ new)
              go false = last_left untold (level left) (walk_item left) m at stop r here lay_element old (λ f l u. u) (deep_enough left deep) (not_ended (end_of (finite stop) (part m at stop)) b is no) lay_parameter (λ a l. refl) new near walk_left (quiet _ new)

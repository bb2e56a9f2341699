-- Components are read right. Assumes nothing.
use Prim.Native.Nat.{ℕ, suc, ◌-◌, ◌≤◌}
use mathlib.Core.Path.{◌≡◌, refl, ap}
use mathlib.Core.Logic.{◌⊎◌, inl, inr, ⊎_elim}
use mathlib.Core.Bool.{true, false, false≢true}
use mathlib.Core.List.{List, [], ◌∷◌, map}
use mathlib.Core.Option
use mathlib.Core.Option.{Option, none, some}
use native.Mathlib.Omega.{arith}
use lib.ListN.{get_or}
use lib.Dec.{ltb, leb}
use lib.IntN.{ℤ}
use borrow.Author.Tests.{lt-ltb}
use Rattle.base.specs.Number.{holds}
use Rattle.base.specs.Value.{Maybe, same}
use Rattle.base.proofs.Values.{same_equal, same_refl}
use Rattle.element.specs.declared.{FaultKind.FaultKind}
use Rattle.element.specs.Form.{Form, exactly, then, leaf, around, maybe, series_form, Matches, document01}
use Rattle.element.specs.Element.{Element, code_zero, extended_of, constructor_of}
use Rattle.primitive.specs.Primitive.{identifier_ok, most_integer_octets}
use Rattle.element.specs.Fault.{Text, with_invoke_id}
use Rattle.element.specs.Ask.{Body}
use Rattle.element.specs.Parts.{integer_item, around_item, map_item, silently}
use Rattle.element.proofs.ItemLaws.{ItemLaws, BodyLaws, leaf_laws, around_laws}
use Rattle.element.proofs.Joins.{map_laws, or_laws, item_range, item_form, Image, image_out, image_laws, image_body_laws, pairs, then_forms, then_oks, bind_laws, only_laws, last_laws, opt_pairs, opt_forms, opt_oks, opt_laws, SeriesOk, series_laws}
use Rattle.element.proofs.Walker.{element_laws}
use Rattle.element.proofs.Integers.{integer_laws}
use Rattle.tcap.specs.declared.{Problem.Problem}
use Rattle.tcap.specs.Meaning.{Code, local, global, Component, invoke, last, not_last, error, reject, octet, integer, code_form, problem_form, holding, id_or_null, component_form}
use Rattle.tcap.specs.WellFormed.{Rules, left_at, most_components, most_general_problem, most_invoke_problem, most_result_problem, most_error_problem, InvokeIdOk, CodeOk, ProblemOk, BothOk, ComponentOk}
use Rattle.tcap.specs.Productions.{single?, octet_item, id_item, name_item, code_item, problem_item, id_or_null_item, noted, level_at, parameter_item, code_body, invoke_body, both_item, result_body, error_body, reject_body, component_item, component_at, components_item}
use Rattle.tcap.proofs.Strings.{octets_of, code_as, both_as, component_as}

-- Fields

abbrev pub id : {A : Type 0} → A → A
id a = a

octet_back : (t most : ℕ) (c m : List ℕ) → single? most c ≡ true → Matches document01 (leaf t c) m → (leb (get_or c 0 0) most ≡ true) × Matches document01 (octet t (get_or c 0 0)) m
unfolding single?
octet_back t most [] m o e = absurd (false≢true o)
octet_back t most (x ∷ []) m o e = (o, e)
octet_back t most (x ∷ y ∷ r) m o e = absurd (false≢true o)

pub octet_laws : (t most : ℕ) → extended_of t ≡ false → code_zero t ≡ false → ItemLaws (octet_item t most) id (octet t) (λ x. leb x most ≡ true)
unfolding single?
octet_laws t most e z =
    map_laws (λ v. get_or v.1 0 0) (λ c. get_or c 0 0) octets_of id (λ v. refl) (leaf t) (λ c. single? most c ≡ true) (octet t) (λ x. leb x most ≡ true)
    (λ b m o f. (b ∷ [], refl, o, f)) (octet_back t most) _ (leaf_laws t (single? most) e z)

pub id_laws : ItemLaws id_item id (integer 0x02) InvokeIdOk
unfolding extended_of code_zero
id_laws = integer_laws 0x02 1 refl refl (omega arith) (omega arith)

linked_laws : ItemLaws (integer_item 0x80 1) id (integer 0x80) InvokeIdOk
unfolding extended_of code_zero
linked_laws = integer_laws 0x80 1 refl refl (omega arith) (omega arith)

pub name_laws : ItemLaws name_item octets_of (leaf 0x06) (λ c. identifier_ok c ≡ true)
unfolding extended_of code_zero
name_laws = leaf_laws 0x06 identifier_ok refl refl

abbrev code_meaning : Code Text → Code (List ℕ)
code_meaning = code_as octets_of

code_kinds : (a : Code (List ℕ)) → CodeOk a → Image local (λ z. holds most_integer_octets z ≡ true) a ⊎ Image global (λ c. identifier_ok c ≡ true) a
code_kinds (local z) o = inl (z, refl, o)
code_kinds (global c) o = inr (c, refl, o)

pub code_laws : ItemLaws code_item code_meaning code_form CodeOk
unfolding extended_of code_zero
code_laws =
    item_range code_kinds (λ a. ⊎_elim (image_out CodeOk (λ z o. o) a) (image_out CodeOk (λ c o. o) a))
    (or_laws 0x02 _ _
    (image_laws local local id code_meaning (λ v. refl) (integer 0x02) code_form _ (λ z o. refl) _ (integer_laws 0x02 most_integer_octets refl refl (omega arith) (omega arith)))
    (image_laws global global octets_of code_meaning (λ v. refl) (leaf 0x06) code_form _ (λ c o. refl) _ name_laws)
    (λ a. refl) refl)

-- the problem of a Reject
abbrev pub AtMost : ℕ → ℕ → Type 0
AtMost most n = leb n most ≡ true

problem_kinds : (a : Problem) → ProblemOk a →
    Image Problem.General (AtMost most_general_problem) a
    ⊎ (Image Problem.OfInvoke (AtMost most_invoke_problem) a ⊎ (Image Problem.OfResult (AtMost most_result_problem) a ⊎ Image Problem.OfError (AtMost most_error_problem) a))
problem_kinds (Problem.General n) o = inl (n, refl, o)
problem_kinds (Problem.OfInvoke n) o = inr (inl (n, refl, o))
problem_kinds (Problem.OfResult n) o = inr (inr (inl (n, refl, o)))
problem_kinds (Problem.OfError n) o = inr (inr (inr (n, refl, o)))

problem_laws : ItemLaws problem_item id problem_form ProblemOk
unfolding extended_of code_zero
problem_laws =
    item_range problem_kinds
    (λ a. ⊎_elim (image_out ProblemOk (λ n o. o) a) (⊎_elim (image_out ProblemOk (λ n o. o) a) (⊎_elim (image_out ProblemOk (λ n o. o) a) (image_out ProblemOk (λ n o. o) a))))
    (or_laws 0x80 _ _ (kind Problem.General 0x80 _ (λ n. refl) refl refl)
    (or_laws 0x81 _ _ (kind Problem.OfInvoke 0x81 _ (λ n. refl) refl refl) (or_laws 0x82 _ _ (kind Problem.OfResult 0x82 _ (λ n. refl) refl refl) (kind Problem.OfError 0x83 _ (λ n. refl) refl refl) (λ a. refl) refl) (λ a. refl) refl)
    (λ a. refl) refl)
  where
    kind : (f : ℕ → Problem) (t most : ℕ) → ((n : ℕ) → problem_form (f n) ≡ octet t n) → extended_of t ≡ false → code_zero t ≡ false → ItemLaws (map_item f (octet_item t most)) id problem_form (Image f (AtMost most))
    kind f t most forms e z = image_laws f f id id (λ v. refl) (octet t) problem_form (AtMost most) (λ n o. forms n) _ (octet_laws t most e z)

-- its invoke ID, or null
null_kinds : (a : Option ℤ) → Maybe InvokeIdOk a → Image some InvokeIdOk a ⊎ Image (λ c. none) (λ c. same [] c ≡ true) a
null_kinds none o = inr ([], refl, same_refl [])
null_kinds (some i) o = inl (i, refl, o)

pub null_laws : ItemLaws id_or_null_item id id_or_null (Maybe InvokeIdOk)
unfolding extended_of code_zero
null_laws =
    item_range null_kinds (λ a. ⊎_elim (image_out (Maybe InvokeIdOk) (λ i o. o) a) (image_out (Maybe InvokeIdOk) (λ c o. tt) a))
    (or_laws 0x02 _ _ (image_laws some some id id (λ v. refl) (integer 0x02) id_or_null _ (λ i o. refl) _ id_laws)
    (image_laws (λ v. none) (λ c. none) octets_of id (λ v. refl) (leaf 0x05) id_or_null _ (λ c o. rw (same_equal [] c o)) _ (leaf_laws 0x05 (same []) refl refl))
    (λ a. refl) refl)

pub deep_at : (rules : Rules) (n : ℕ) → n ≤ rules.limit → ltb 0 (left_at rules n) ≡ true
deep_at rules n h = lt-ltb 0 (suc rules.limit - n) (omega arith)

-- The five components

-- the contents of a component
abbrev inside_form : Component (List ℕ) → Form
inside_form (invoke i l c p) = then (integer 0x02 i) (then (maybe (integer 0x80) l) (then (code_form c) (maybe exactly p)))
inside_form (last i r) = then (integer 0x02 i) (maybe holding r)
inside_form (not_last i r) = then (integer 0x02 i) (maybe holding r)
inside_form (error i c p) = then (integer 0x02 i) (then (code_form c) (maybe exactly p))
inside_form (reject i q) = then (id_or_null i) (problem_form q)

module _ (rules : Rules) (big : 8 ≤ rules.limit) where
  at_4 : ltb 0 (left_at rules 4) ≡ true
  at_4 = deep_at rules 4 (omega arith)

  at_5 : ltb 0 (left_at rules 5) ≡ true
  at_5 = deep_at rules 5 (omega arith)

  abbrev Parameter : ℕ → List ℕ → Type 0
  Parameter n = Element (left_at rules n)

  abbrev component_meaning : Component Text → Component (List ℕ)
  component_meaning = component_as octets_of

  abbrev code_ok : Code (List ℕ) × Option (List ℕ) → Type 0
  code_ok = then_oks CodeOk (λ c. Maybe (Parameter 4))

  code_body_laws : (n : ℕ) → BodyLaws n (code_body rules) (pairs code_meaning (Option.map octets_of)) (then_forms code_form (λ c. maybe exactly)) code_ok
  code_body_laws n =
      bind_laws (level_at rules 4) silently code_item _ code_meaning (Option.map octets_of) code_form (λ c. maybe exactly) CodeOk (λ c. Maybe (Parameter 4)) n code_laws
      (λ v. last_laws (level_at rules 4) (parameter_item rules 4) octets_of exactly (Parameter 4) n (element_laws (left_at rules 4)) at_4) at_4

  abbrev invoked : ℤ × (Option ℤ × (Code (List ℕ) × Option (List ℕ))) → Component (List ℕ)
  invoked v = invoke v.0 v.1.0 v.1.1.0 v.1.1.1

  abbrev InvokedOk : ℤ × (Option ℤ × (Code (List ℕ) × Option (List ℕ))) → Type 0
  InvokedOk = then_oks InvokeIdOk (λ i. opt_oks InvokeIdOk code_ok)

  option_id : {A : Type 0} (o : Option A) → o ≡ Option.map id o
  option_id none = refl
  option_id (some a) = refl

  invoke_laws : (n : ℕ) → BodyLaws n (invoke_body rules) component_meaning inside_form (Image invoked InvokedOk)
  invoke_laws n =
      image_body_laws (λ v. invoke v.0 v.1.0 v.1.1.0 v.1.1.1) invoked (pairs id (opt_pairs id (pairs code_meaning (Option.map octets_of)))) component_meaning
      (λ v. ap (λ (o : Option ℤ). invoke v.0 o (code_meaning v.1.1.0) (Option.map octets_of v.1.1.1)) (option_id v.1.0))
      (then_forms (integer 0x02) (λ i. opt_forms (integer 0x80) (then_forms code_form (λ c. maybe exactly)))) inside_form InvokedOk (λ v o. refl) n _
      (bind_laws (level_at rules 4) noted id_item _ id (opt_pairs id (pairs code_meaning (Option.map octets_of))) (integer 0x02) (λ i. opt_forms (integer 0x80) (then_forms code_form (λ c. maybe exactly))) InvokeIdOk (λ i. opt_oks InvokeIdOk code_ok) n id_laws
      (λ v. opt_laws 0x80 (integer_item 0x80 1) _ id (pairs code_meaning (Option.map octets_of)) (integer 0x80) (then_forms code_form (λ c. maybe exactly)) InvokeIdOk code_ok n linked_laws (code_body_laws n) (λ a. refl) refl at_4 refl) at_4)

  abbrev failed : ℤ × (Code (List ℕ) × Option (List ℕ)) → Component (List ℕ)
  failed v = error v.0 v.1.0 v.1.1

  abbrev FailedOk : ℤ × (Code (List ℕ) × Option (List ℕ)) → Type 0
  FailedOk = then_oks InvokeIdOk (λ i. code_ok)

  error_laws : (n : ℕ) → BodyLaws n (error_body rules) component_meaning inside_form (Image failed FailedOk)
  error_laws n =
      image_body_laws (λ v. error v.0 v.1.0 v.1.1) failed (pairs id (pairs code_meaning (Option.map octets_of))) component_meaning (λ v. refl)
      (then_forms (integer 0x02) (λ i. then_forms code_form (λ c. maybe exactly))) inside_form FailedOk (λ v o. refl) n _
      (bind_laws (level_at rules 4) noted id_item _ id (pairs code_meaning (Option.map octets_of)) (integer 0x02) (λ i. then_forms code_form (λ c. maybe exactly)) InvokeIdOk (λ i. code_ok) n id_laws (λ v. code_body_laws n) at_4)

  -- 30 with both
  abbrev both_ok : Code (List ℕ) × List ℕ → Type 0
  both_ok = then_oks CodeOk (λ c. Parameter 5)

  both_laws : ItemLaws (both_item rules) (both_as octets_of) holding both_ok
  unfolding extended_of code_zero constructor_of
  both_laws =
      around_laws 0x30 _ (λ n. bind_laws (level_at rules 5) silently code_item _ code_meaning octets_of code_form (λ c. exactly) CodeOk (λ c. Parameter 5) n code_laws
      (λ v. only_laws (level_at rules 5) (parameter_item rules 5) octets_of exactly (Parameter 5) n (element_laws (left_at rules 5)) at_5) at_5) refl refl refl

  abbrev ResultedOk : ℤ × Option (Code (List ℕ) × List ℕ) → Type 0
  ResultedOk = then_oks InvokeIdOk (λ i. Maybe both_ok)

  -- a last or not last result
  result_laws : (f : ℤ → Option (Code Text × Text) → Component Text) (g : ℤ → Option (Code (List ℕ) × List ℕ) → Component (List ℕ)) → ((i : ℤ) (r : Option (Code Text × Text)) → component_meaning (f i r) ≡ g i (Option.map (both_as octets_of) r))
      → ((i : ℤ) (r : Option (Code (List ℕ) × List ℕ)) → inside_form (g i r) ≡ then (integer 0x02 i) (maybe holding r)) → (n : ℕ) → BodyLaws n (result_body rules f) component_meaning inside_form (Image (λ v. g v.0 v.1) ResultedOk)
  result_laws f g means forms n =
      image_body_laws (λ v. f v.0 v.1) (λ v. g v.0 v.1) (pairs id (Option.map (both_as octets_of))) component_meaning (λ v. means v.0 v.1)
      (then_forms (integer 0x02) (λ i. maybe holding)) inside_form ResultedOk (λ v o. forms v.0 v.1) n _
      (bind_laws (level_at rules 4) noted id_item _ id (Option.map (both_as octets_of)) (integer 0x02) (λ i. maybe holding) InvokeIdOk (λ i. Maybe both_ok) n id_laws
      (λ v. last_laws (level_at rules 4) (both_item rules) (both_as octets_of) holding both_ok n both_laws at_4) at_4)

  abbrev rejected : Option ℤ × Problem → Component (List ℕ)
  rejected v = reject v.0 v.1

  abbrev RejectedOk : Option ℤ × Problem → Type 0
  RejectedOk = then_oks (Maybe InvokeIdOk) (λ i. ProblemOk)

  reject_laws : (n : ℕ) → BodyLaws n (reject_body rules) component_meaning inside_form (Image rejected RejectedOk)
  reject_laws n =
      image_body_laws (λ v. reject v.0 v.1) rejected (pairs id id) component_meaning (λ v. refl) (then_forms id_or_null (λ i. problem_form)) inside_form RejectedOk (λ v o. refl) n _
      (bind_laws (level_at rules 4) with_invoke_id id_or_null_item _ id id id_or_null (λ i. problem_form) (Maybe InvokeIdOk) (λ i. ProblemOk) n null_laws
      (λ v. only_laws (level_at rules 4) problem_item id problem_form ProblemOk n problem_laws at_4) at_4)

  abbrev lastly : ℤ × Option (Code (List ℕ) × List ℕ) → Component (List ℕ)
  lastly v = last v.0 v.1

  abbrev not_lastly : ℤ × Option (Code (List ℕ) × List ℕ) → Component (List ℕ)
  not_lastly v = not_last v.0 v.1

  -- a result's parts, as the range says them and as they are read
  both_to : (r : Option (Code (List ℕ) × List ℕ)) → Maybe (BothOk rules) r → Maybe both_ok r
  both_to none o = tt
  both_to (some (c, p)) o = o

  both_from : (r : Option (Code (List ℕ) × List ℕ)) → Maybe both_ok r → Maybe (BothOk rules) r
  both_from none o = tt
  both_from (some (c, p)) o = o

  component_kinds : (a : Component (List ℕ)) → ComponentOk rules a → Image invoked InvokedOk a ⊎ (Image lastly ResultedOk a ⊎ (Image failed FailedOk a ⊎ (Image rejected RejectedOk a ⊎ Image not_lastly ResultedOk a)))
  unfolding ComponentOk
  component_kinds (invoke i l c p) o = inl ((i, (l, (c, p))), refl, (o.0, (o.1, (o.2, o.3))))
  component_kinds (last i r) o = inr (inl ((i, r), refl, (o.0, both_to r o.1)))
  component_kinds (not_last i r) o = inr (inr (inr (inr ((i, r), refl, (o.0, both_to r o.1)))))
  component_kinds (error i c p) o = inr (inr (inl ((i, (c, p)), refl, (o.0, (o.1, o.2)))))
  component_kinds (reject i q) o = inr (inr (inr (inl ((i, q), refl, o))))

  -- a component of one kind: its tag around its contents
  module _ {A : Type 0} (t : ℕ) (b : Body (Component Text)) (g : A → Component (List ℕ)) (ok : A → Type 0) (forms : (a : A) → around t (inside_form (g a)) ≡ component_form (g a))
      (laws : (n : ℕ) → BodyLaws n b component_meaning inside_form (Image g ok)) (e : extended_of t ≡ false) (z : code_zero t ≡ false) (k : constructor_of t ≡ true) where
    kind_laws : ItemLaws (around_item t b) component_meaning component_form (Image g ok)
    kind_laws = item_form (image_out (λ c. around t (inside_form c) ≡ component_form c) (λ a o. forms a)) (around_laws t b laws e z k)

  pub component_laws : ItemLaws (component_item rules) component_meaning component_form (ComponentOk rules)
  unfolding extended_of code_zero constructor_of component_form ComponentOk
  component_laws =
      item_range component_kinds
      (λ a. ⊎_elim (image_out (ComponentOk rules) (λ v o. (o.0, o.1.0, o.1.1.0, o.1.1.1)) a)
      (⊎_elim (image_out (ComponentOk rules) (λ v o. (o.0, both_from v.1 o.1)) a)
      (⊎_elim (image_out (ComponentOk rules) (λ v o. (o.0, o.1.0, o.1.1)) a)
      (⊎_elim (image_out (ComponentOk rules) (λ v o. o) a)
      (image_out (ComponentOk rules) (λ v o. (o.0, both_from v.1 o.1)) a)))))
      (or_laws 0xA1 _ _ (kind_laws 0xA1 (invoke_body rules) invoked InvokedOk (λ v. refl) invoke_laws refl refl refl)
      (or_laws 0xA2 _ _ (kind_laws 0xA2 (result_body rules last) lastly ResultedOk (λ v. refl) (result_laws last last (λ i r. refl) (λ i r. refl)) refl refl refl)
      (or_laws 0xA3 _ _ (kind_laws 0xA3 (error_body rules) failed FailedOk (λ v. refl) error_laws refl refl refl)
      (or_laws 0xA4 _ _ (kind_laws 0xA4 (reject_body rules) rejected RejectedOk (λ v. refl) reject_laws refl refl refl)
      (kind_laws 0xA7 (result_body rules not_last) not_lastly ResultedOk (λ v. refl) (result_laws not_last not_last (λ i r. refl) (λ i r. refl)) refl refl refl)
      (λ a. refl) refl) (λ a. refl) refl) (λ a. refl) refl) (λ a. refl) refl)

  -- 6C: one or more, at most 16
  pub components_laws : ItemLaws (components_item rules) (map component_meaning) (λ cs. around 0x6C (series_form component_form cs)) (SeriesOk {L = Component Text} (ComponentOk rules) none most_components)
  unfolding extended_of code_zero constructor_of
  components_laws =
      around_laws 0x6C _ (λ n. series_laws (component_at rules) FaultKind.UnknownComponent (component_item rules) component_meaning component_form (ComponentOk rules) n component_laws (λ k a o. deep_at rules 3 (omega arith)) none (λ v i. nope v i) most_components 0) refl refl refl
    where
      nope : (v : List (Component Text)) → none ≡ some v → v ≡ []
      nope v i = let z : ◌≡◌ {A = ℕ} 0 1 = cc in absurd (omega arith)

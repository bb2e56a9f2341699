-- How each production of document 01 is read: one expression for each. The message is level 1, its parts level 2.
-- Assumes nothing: these are definitions.
use Rattle.std.specs.Prelude.{ℕ}
use Rattle.std.proofs.Math.Option
use mathlib.Core.{Bool.Bool, Bool.true, Bool.false, List.List, List.[], List.◌∷◌, Option.Option, Option.none, Option.some}
use lib.{ListN.get_or, Dec.leb, IntN.ℤ}
use Rattle.base.specs.{Value.same}
use Rattle.primitive.specs.{Primitive.identifier_ok, Primitive.most_integer_octets}
use Rattle.element.specs.{declared.FaultKind.FaultKind, Fault.Text, Fault.Fault, Fault.in_dialogue, Fault.in_component, Fault.with_invoke_id, Fault.with_orig_id, Ask.Body, Parts.Item, Parts.Where, Parts.level, Parts.leaf_item, Parts.integer_item, Parts.around_item, Parts.kept_item, Parts.map_item, Parts.or_item, Parts.bind_body, Parts.then_body, Parts.silently, Parts.only_body, Parts.last_body, Parts.opt_body, Parts.map_body, Parts.series_body, Walk.walk_item, Walk.walk_tag_item}
use Rattle.tcap.specs.{declared.Problem.Problem, declared.Diagnostic.Diagnostic, Meaning.Originating, Meaning.orig, Meaning.Destination, Meaning.dest, Meaning.Code, Meaning.local, Meaning.global, Meaning.Component, Meaning.invoke, Meaning.last, Meaning.not_last, Meaning.error, Meaning.reject, Meaning.Dialogue, Meaning.request, Meaning.unidialogue, Meaning.response, Meaning.aborted, Meaning.single, Meaning.octets, Meaning.silent, Meaning.cause, Meaning.says, Meaning.Message, Meaning.unidirectional, Meaning.begin, Meaning.finish, Meaning.continue, Meaning.abort, Meaning.structured, Meaning.unstructured, Meaning.version, WellFormed.Rules, WellFormed.most_components, WellFormed.left_at, WellFormed.id_ok}
use Rattle.tcap.specs.{WellFormed.most_general_problem, WellFormed.most_invoke_problem, WellFormed.most_result_problem, WellFormed.most_error_problem, WellFormed.most_cause, WellFormed.most_result, WellFormed.most_user_diagnostic, WellFormed.most_provider_diagnostic, WellFormed.most_abort_source}

-- Fields

-- a primitive of one octet, 0 to `most`
unfoldable pub single? : ℕ → List ℕ → Bool
single? most [] = false
single? most (x ∷ []) = leb x most
single? most (x ∷ y ∷ r) = false

abbrev pub octet_item : ℕ → ℕ → Item ℕ
octet_item t most = map_item (λ v. get_or v.1 0 0) (leaf_item t (single? most))

abbrev pub id_item : Item ℤ
id_item = integer_item 0x02 1

abbrev pub name_item : Item Text
name_item = leaf_item 0x06 identifier_ok

abbrev pub code_item : Item (Code Text)
code_item = or_item (map_item local (integer_item 0x02 most_integer_octets)) (map_item global name_item)

abbrev pub problem_item : Item Problem
problem_item =
    or_item (map_item Problem.General (octet_item 0x80 most_general_problem))
    (or_item (map_item Problem.OfInvoke (octet_item 0x81 most_invoke_problem))
    (or_item (map_item Problem.OfResult (octet_item 0x82 most_result_problem)) (map_item Problem.OfError (octet_item 0x83 most_error_problem))))

abbrev pub id_or_null_item : Item (Option ℤ)
id_or_null_item = or_item (map_item some id_item) (map_item (λ v. none) (leaf_item 0x05 (same [])))

abbrev pub orig_item : Item (Originating Text)
orig_item = map_item orig (leaf_item 0x48 id_ok)

abbrev pub dest_item : Item (Destination Text)
dest_item = map_item dest (leaf_item 0x49 id_ok)

-- later faults carry the originating ID, and those in a component its invoke ID
abbrev pub carried : Originating Text → Fault → Fault
carried (orig i) = with_orig_id i

abbrev pub noted : ℤ → Fault → Fault
noted i = with_invoke_id (some i)

-- version 1 may be there or not, and says nothing
abbrev pub version_body : {A : Type 0} → Body A → Body A
version_body b = map_body (λ v. v.1) (opt_body (leaf_item 0x80 (same version)) b)

module _ (rules : Rules) where
  abbrev pub level_at : ℕ → Where
  level_at n = level (left_at rules n)

  -- exactly one element
  abbrev pub parameter_item : ℕ → Item Text
  parameter_item n = walk_item (left_at rules n)

  -- Components: their fields stand at level 4

  abbrev pub code_body : Body (Code Text × Option Text)
  code_body = then_body (level_at 4) code_item (last_body (level_at 4) (parameter_item 4))

  abbrev pub invoke_body : Body (Component Text)
  invoke_body = map_body (λ v. invoke v.0 v.1.0 v.1.1.0 v.1.1.1) (bind_body (level_at 4) noted id_item (λ i. opt_body (integer_item 0x80 1) code_body))

  abbrev pub both_item : Item (Code Text × Text)
  both_item = around_item 0x30 (then_body (level_at 5) code_item (only_body (level_at 5) (parameter_item 5)))

  abbrev pub result_body : (ℤ → Option (Code Text × Text) → Component Text) → Body (Component Text)
  result_body f = map_body (λ v. f v.0 v.1) (bind_body (level_at 4) noted id_item (λ i. last_body (level_at 4) both_item))

  abbrev pub error_body : Body (Component Text)
  error_body = map_body (λ v. error v.0 v.1.0 v.1.1) (bind_body (level_at 4) noted id_item (λ i. code_body))

  abbrev pub reject_body : Body (Component Text)
  reject_body = map_body (λ v. reject v.0 v.1) (bind_body (level_at 4) with_invoke_id id_or_null_item (λ i. only_body (level_at 4) problem_item))

  abbrev pub component_item : Item (Component Text)
  component_item =
      or_item (around_item 0xA1 invoke_body)
      (or_item (around_item 0xA2 (result_body last))
      (or_item (around_item 0xA3 error_body)
      (or_item (around_item 0xA4 reject_body)
      (around_item 0xA7 (result_body not_last)))))

  -- one or more, at most 16; an element at a component's position belongs to that component
  abbrev pub component_at : ℕ → Where
  component_at k = record { left = left_at rules 3; owner = in_component k }

  abbrev pub components_item : Item (List (Component Text))
  components_item = around_item 0x6C (series_body component_at FaultKind.UnknownComponent component_item none most_components 0)

  -- Dialogue portion: 28 at level 3, name and A0 at 4, the PDU at 5, its fields at 6

  -- BE holds zero or more elements, each 28
  abbrev pub info_body : Body (Option Text)
  info_body = last_body (level_at 6) (kept_item 0xBE (λ n. series_body (λ k. level_at 7) FaultKind.Another (walk_tag_item 0x28 (left_at rules 7)) (some []) n 0))

  abbrev pub context_item : Item Text
  context_item = around_item 0xA1 (only_body (level_at 7) name_item)

  -- 60: a request or a unidialogue
  abbrev pub asked_item : (Text → Option Text → Dialogue Text) → Item (Dialogue Text)
  asked_item f = around_item 0x60 (map_body (λ v. f v.0 v.1) (version_body (then_body (level_at 6) context_item info_body)))

  -- a constructor that holds 02 01 with 0 to `most`, at level n
  abbrev pub number_item : ℕ → ℕ → ℕ → Item ℕ
  number_item t n most = around_item t (only_body (level_at n) (octet_item 0x02 most))

  abbrev pub source_item : Item Diagnostic
  source_item =
      around_item 0xA3
      (only_body (level_at 7) (or_item (map_item Diagnostic.ByUser (number_item 0xA1 8 most_user_diagnostic)) (map_item Diagnostic.ByProvider (number_item 0xA2 8 most_provider_diagnostic))))

  abbrev pub answered_item : Item (Dialogue Text)
  answered_item =
      around_item 0x61
      (map_body (λ v. response v.0 v.1.0 v.1.1.0 v.1.1.1)
      (version_body (then_body (level_at 6) context_item (then_body (level_at 6) (number_item 0xA2 7 most_result) (then_body (level_at 6) source_item info_body)))))

  abbrev pub aborted_item : Item (Dialogue Text)
  aborted_item = around_item 0x64 (map_body (λ v. aborted v.0 v.1) (then_body (level_at 6) (octet_item 0x80 most_abort_source) info_body))

  -- what stands behind the name n: the structured dialogue, the unstructured, another
  abbrev pub held_item : Text → Bool → Bool → Item (Dialogue Text)
  held_item n true u = around_item 0xA0 (only_body (level_at 5) (or_item (asked_item request) (or_item answered_item aborted_item)))
  held_item n false true = around_item 0xA0 (only_body (level_at 5) (asked_item unidialogue))
  held_item n false false = or_item (map_item (single n) (around_item 0xA0 (only_body (level_at 5) (parameter_item 5)))) (map_item (octets n) (leaf_item 0x81 (λ c. true)))

  abbrev pub external_body : Body (Dialogue Text)
  external_body = map_body (λ v. v.1) (bind_body (level_at 4) silently name_item (λ n. only_body (level_at 4) (held_item n (same structured n.1) (same unstructured n.1))))

  -- what stands in 6B is inside its contents; a missing end pair of 6B itself is not
  abbrev pub inside6_b : Where
  inside6_b = record { left = left_at rules 3; owner = in_dialogue }

  abbrev pub dialogue_item : Item (Dialogue Text)
  dialogue_item = around_item 0x6B (only_body inside6_b (around_item 0x28 external_body))

  -- Messages: after the IDs [6B] [6C]; in Unidirectional [6B] 6C; in Abort nothing, 4A or 6B

  abbrev pub tail_body : Body (Option (Dialogue Text) × List (Component Text))
  tail_body = opt_body dialogue_item (map_body (λ v. Option.get_or v []) (last_body (level_at 2) components_item))

  abbrev pub uni_body : Body (Message Text)
  uni_body = map_body (λ v. unidirectional v.0 v.1) (opt_body dialogue_item (only_body (level_at 2) components_item))

  abbrev pub begin_body : Body (Message Text)
  begin_body = map_body (λ v. begin v.0 v.1.0 v.1.1) (bind_body (level_at 2) carried orig_item (λ o. tail_body))

  abbrev pub end_body : Body (Message Text)
  end_body = map_body (λ v. finish v.0 v.1.0 v.1.1) (then_body (level_at 2) dest_item tail_body)

  abbrev pub continue_body : Body (Message Text)
  continue_body = map_body (λ v. continue v.0 v.1.0 v.1.1.0 v.1.1.1) (bind_body (level_at 2) carried orig_item (λ o. then_body (level_at 2) dest_item tail_body))

  abbrev pub abort_body : Body (Message Text)
  abort_body =
      map_body (λ v. abort v.0 (Option.get_or v.1 silent))
      (then_body (level_at 2) dest_item (last_body (level_at 2) (or_item (map_item cause (octet_item 0x4A most_cause)) (map_item says dialogue_item))))

  abbrev pub message_item : Item (Message Text)
  message_item =
      or_item (around_item 0x61 uni_body)
      (or_item (around_item 0x62 begin_body)
      (or_item (around_item 0x64 end_body)
      (or_item (around_item 0x65 continue_body)
      (around_item 0x67 abort_body))))

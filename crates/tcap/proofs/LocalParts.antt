-- Every production of document 01 finds what it finds by nothing behind what its clauses look at: by the laws of its combinators.
-- Assumes nothing.
use Prim.Native.Nat.{ℕ}
use mathlib.Core.Path.{◌≡◌, refl}
use mathlib.Core.Bool.{Bool, true, false}
use mathlib.Core.List.{[]}
use mathlib.Core.Option
use mathlib.Core.Option.{Option, none, some}
use lib.ListN.{get_or}
use lib.IntN.{ℤ}
use Rattle.base.specs.Value.{same}
use Rattle.primitive.specs.Primitive.{signed_of, integer_ok, identifier_ok, most_integer_octets}
use Rattle.element.specs.Element.{constructor_of}
use Rattle.element.specs.declared.{FaultKind.FaultKind}
use Rattle.element.specs.Fault.{Text, fault, in_dialogue, in_component, with_invoke_id, with_orig_id}
use Rattle.element.specs.Ask.{Body}
use Rattle.element.specs.Parts.{integer_item}
use Rattle.element.proofs.LocalClauses.{other, unknown, kind_of, place_of, Spares}
use Rattle.element.proofs.Local.{ItemLocal, BodyLocal, leaf_local, around_local, kept_local, map_local, or_local, bind_local, then_local, only_local, last_local, opt_local, map_body_local, series_local, walk_local}
use Rattle.tcap.specs.declared.{Problem.Problem, Diagnostic.Diagnostic}
use Rattle.tcap.specs.Meaning.{Originating, orig, dest, Code, local, global, Component, invoke, last, not_last, error, reject, Dialogue, request, unidialogue, response, aborted, single, octets, silent, cause, says, Message, unidirectional, begin, finish, continue, abort, structured, unstructured, version}
use Rattle.tcap.specs.WellFormed.{Rules, most_components, left_at, id_ok}
use Rattle.tcap.specs.Productions.{single?, octet_item, name_item, code_item, problem_item, id_or_null_item, orig_item, dest_item, carried, noted, version_body, level_at, parameter_item, code_body, invoke_body, both_item, result_body, error_body, reject_body, component_item, component_at, components_item, info_body, context_item, asked_item, number_item, source_item, answered_item, aborted_item, held_item, external_body, inside6_b, dialogue_item, tail_body, uni_body, begin_body, end_body, continue_body, abort_body, message_item}
use Rattle.tcap.specs.Reading.{learnt}

-- What is known from outside leaves kind and place

pub plainly : Spares (λ f. f)
plainly f = (refl, refl)

spares_dialogue : Spares in_dialogue
unfolding in_dialogue kind_of place_of
spares_dialogue (fault k p o i t) = (refl, refl)

spares_component : (n : ℕ) → Spares (in_component n)
unfolding in_component kind_of place_of
spares_component n (fault k p o i t) = (refl, refl)

spares_invoke : (j : Option ℤ) → Spares (with_invoke_id j)
unfolding with_invoke_id kind_of place_of
spares_invoke j (fault k p o i t) = (refl, refl)

spares_carried : (o : Originating Text) → Spares (carried o)
unfolding with_orig_id kind_of place_of
spares_carried (orig s) (fault k p o i t) = (refl, refl)

pub spares_learnt : (v : Message Text) → Spares (learnt v)
spares_learnt (unidirectional d cs) = plainly
spares_learnt (begin o d cs) = spares_carried o
spares_learnt (finish e d cs) = plainly
spares_learnt (continue o e d cs) = spares_carried o
spares_learnt (abort e s) = plainly

-- Fields

module _ (l : ℕ) where
  integers : (t most : ℕ) → constructor_of t ≡ false → ItemLocal l (integer_item t most)
  integers t most c = map_local (λ v. signed_of v.1) (leaf_local l t (integer_ok most) c)

  octets_of_lem : (t most : ℕ) → constructor_of t ≡ false → ItemLocal l (octet_item t most)
  octets_of_lem t most c = map_local (λ v. get_or v.1 0 0) (leaf_local l t (single? most) c)

  names : ItemLocal l name_item
  unfolding constructor_of
  names = leaf_local l 0x06 identifier_ok refl

  codes : ItemLocal l code_item
  unfolding constructor_of
  codes = or_local (map_local local (integers 0x02 most_integer_octets refl)) (map_local global names)

  problems : ItemLocal l problem_item
  unfolding constructor_of
  problems =
      or_local (map_local Problem.General (octets_of_lem 0x80 _ refl))
      (or_local (map_local Problem.OfInvoke (octets_of_lem 0x81 _ refl)) (or_local (map_local Problem.OfResult (octets_of_lem 0x82 _ refl)) (map_local Problem.OfError (octets_of_lem 0x83 _ refl))))

  ids_or_null : ItemLocal l id_or_null_item
  unfolding constructor_of
  ids_or_null = or_local (map_local some (integers 0x02 1 refl)) (map_local (λ v. none) (leaf_local l 0x05 (same []) refl))

  pub origs : ItemLocal l orig_item
  unfolding constructor_of
  origs = map_local orig (leaf_local l 0x48 id_ok refl)

  dests : ItemLocal l dest_item
  unfolding constructor_of
  dests = map_local dest (leaf_local l 0x49 id_ok refl)

versions : {A : Type 0} {b : Body A} → BodyLocal b → BodyLocal (version_body b)
unfolding constructor_of
versions {b = b} s = map_body_local (λ v. v.1) (opt_local (leaf_local b.left 0x80 (same version) refl) s)

-- Productions

module _ (rules : Rules) where
  parameters : (n : ℕ) → ItemLocal (left_at rules n) (parameter_item rules n)
  parameters n = walk_local _ (left_at rules n)

  code_bodies : BodyLocal (code_body rules)
  code_bodies = then_local (level_at rules 4) plainly (codes (left_at rules 4)) (last_local (level_at rules 4) plainly (parameters 4))

  invokes : BodyLocal (invoke_body rules)
  unfolding constructor_of
  invokes =
      map_body_local (λ v. invoke v.0 v.1.0 v.1.1.0 v.1.1.1)
      (bind_local (level_at rules 4) noted plainly (λ i. spares_invoke (some i)) (integers (left_at rules 4) 0x02 1 refl) (λ i. opt_local (integers (left_at rules 4) 0x80 1 refl) code_bodies))

  boths : ItemLocal (left_at rules 4) (both_item rules)
  boths = around_local (left_at rules 4) 0x30 (then_local (level_at rules 5) plainly (codes (left_at rules 5)) (only_local (level_at rules 5) plainly (parameters 5)))

  results : (f : ℤ → Option (Code Text × Text) → Component Text) → BodyLocal (result_body rules f)
  unfolding constructor_of
  results f =
      map_body_local (λ v. f v.0 v.1)
      (bind_local (level_at rules 4) noted plainly (λ i. spares_invoke (some i)) (integers (left_at rules 4) 0x02 1 refl) (λ i. last_local (level_at rules 4) plainly boths))

  errors : BodyLocal (error_body rules)
  unfolding constructor_of
  errors = map_body_local (λ v. error v.0 v.1.0 v.1.1) (bind_local (level_at rules 4) noted plainly (λ i. spares_invoke (some i)) (integers (left_at rules 4) 0x02 1 refl) (λ i. code_bodies))

  rejects : BodyLocal (reject_body rules)
  rejects =
      map_body_local (λ v. reject v.0 v.1) (bind_local (level_at rules 4) with_invoke_id plainly spares_invoke (ids_or_null (left_at rules 4)) (λ i. only_local (level_at rules 4) plainly (problems (left_at rules 4))))

  components : (l : ℕ) → ItemLocal l (component_item rules)
  components l =
      or_local (around_local l 0xA1 invokes)
      (or_local (around_local l 0xA2 (results last)) (or_local (around_local l 0xA3 errors) (or_local (around_local l 0xA4 rejects) (around_local l 0xA7 (results not_last)))))

  component_series : ItemLocal (left_at rules 2) (components_item rules)
  component_series =
      around_local (left_at rules 2) 0x6C (series_local (component_at rules) FaultKind.UnknownComponent unknown spares_component (λ k. components (left_at rules 3)) none most_components 0)

  infos : BodyLocal (info_body rules)
  infos = last_local (level_at rules 6) plainly (kept_local (left_at rules 6) 0xBE (λ n. series_local (λ k. level_at rules 7) FaultKind.Another other (λ k. plainly) (λ k. walk_local _ (left_at rules 7)) (some []) n 0))

  contexts : ItemLocal (left_at rules 6) (context_item rules)
  contexts = around_local (left_at rules 6) 0xA1 (only_local (level_at rules 7) plainly (names (left_at rules 7)))

  askeds : (f : Text → Option Text → Dialogue Text) → ItemLocal (left_at rules 5) (asked_item rules f)
  askeds f = around_local (left_at rules 5) 0x60 (map_body_local (λ v. f v.0 v.1) (versions (then_local (level_at rules 6) plainly contexts infos)))

  numbers : (l t n most : ℕ) → ItemLocal l (number_item rules t n most)
  unfolding constructor_of
  numbers l t n most = around_local l t (only_local (level_at rules n) plainly (octets_of_lem (left_at rules n) 0x02 most refl))

  sources : ItemLocal (left_at rules 6) (source_item rules)
  sources =
      around_local (left_at rules 6) 0xA3
      (only_local (level_at rules 7) plainly (or_local (map_local Diagnostic.ByUser (numbers (left_at rules 7) 0xA1 8 _)) (map_local Diagnostic.ByProvider (numbers (left_at rules 7) 0xA2 8 _))))

  answereds : ItemLocal (left_at rules 5) (answered_item rules)
  answereds =
      around_local (left_at rules 5) 0x61
      (map_body_local (λ v. response v.0 v.1.0 v.1.1.0 v.1.1.1)
      (versions (then_local (level_at rules 6) plainly contexts (then_local (level_at rules 6) plainly (numbers (left_at rules 6) 0xA2 7 _) (then_local (level_at rules 6) plainly sources infos)))))

  aborteds : ItemLocal (left_at rules 5) (aborted_item rules)
  unfolding constructor_of
  aborteds = around_local (left_at rules 5) 0x64 (map_body_local (λ v. aborted v.0 v.1) (then_local (level_at rules 6) plainly (octets_of_lem (left_at rules 6) 0x80 _ refl) infos))

  helds : (n : Text) (s u : Bool) → ItemLocal (left_at rules 4) (held_item rules n s u)
  unfolding constructor_of
  helds n true u = around_local (left_at rules 4) 0xA0 (only_local (level_at rules 5) plainly (or_local (askeds request) (or_local answereds aborteds)))
  helds n false true = around_local (left_at rules 4) 0xA0 (only_local (level_at rules 5) plainly (askeds unidialogue))
  helds n false false =
      or_local (map_local (single n) (around_local (left_at rules 4) 0xA0 (only_local (level_at rules 5) plainly (parameters 5)))) (map_local (octets n) (leaf_local (left_at rules 4) 0x81 (λ c. true) refl))

  externals : BodyLocal (external_body rules)
  externals =
      map_body_local (λ v. v.1)
      (bind_local (level_at rules 4) (λ n f. f) plainly (λ n. plainly) (names (left_at rules 4)) (λ n. only_local (level_at rules 4) plainly (helds n (same structured n.1) (same unstructured n.1))))

  dialogues : ItemLocal (left_at rules 2) (dialogue_item rules)
  dialogues = around_local (left_at rules 2) 0x6B (only_local (inside6_b rules) spares_dialogue (around_local (left_at rules 3) 0x28 externals))

  tails : BodyLocal (tail_body rules)
  tails = opt_local dialogues (map_body_local (λ v. Option.get_or v []) (last_local (level_at rules 2) plainly component_series))

  unis : BodyLocal (uni_body rules)
  unis = map_body_local (λ v. unidirectional v.0 v.1) (opt_local dialogues (only_local (level_at rules 2) plainly component_series))

  begins : BodyLocal (begin_body rules)
  begins = map_body_local (λ v. begin v.0 v.1.0 v.1.1) (bind_local (level_at rules 2) carried plainly spares_carried (origs (left_at rules 2)) (λ o. tails))

  ends_bodies : BodyLocal (end_body rules)
  ends_bodies = map_body_local (λ v. finish v.0 v.1.0 v.1.1) (then_local (level_at rules 2) plainly (dests (left_at rules 2)) tails)

  continues : BodyLocal (continue_body rules)
  continues =
      map_body_local (λ v. continue v.0 v.1.0 v.1.1.0 v.1.1.1)
      (bind_local (level_at rules 2) carried plainly spares_carried (origs (left_at rules 2)) (λ o. then_local (level_at rules 2) plainly (dests (left_at rules 2)) tails))

  aborts : BodyLocal (abort_body rules)
  unfolding constructor_of
  aborts =
      map_body_local (λ v. abort v.0 (Option.get_or v.1 silent))
      (then_local (level_at rules 2) plainly (dests (left_at rules 2)) (last_local (level_at rules 2) plainly (or_local (map_local cause (octets_of_lem (left_at rules 2) 0x4A _ refl)) (map_local says dialogues))))

  pub messages : ItemLocal rules.limit (message_item rules)
  messages =
      or_local (around_local rules.limit 0x61 unis)
      (or_local (around_local rules.limit 0x62 begins) (or_local (around_local rules.limit 0x64 ends_bodies) (or_local (around_local rules.limit 0x65 continues) (around_local rules.limit 0x67 aborts))))

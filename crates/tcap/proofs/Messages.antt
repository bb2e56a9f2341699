-- Messages are read right. Assumes nothing.
use Prim.Native.Nat.{ℕ, ◌≤◌}
use mathlib.Core.Path.{◌≡◌, refl}
use mathlib.Core.Logic.{◌⊎◌, inl, inr, ⊎_elim}
use mathlib.Core.Bool.{true, false}
use mathlib.Core.List.{List, [], ◌∷◌, map}
use mathlib.Core.Option
use mathlib.Core.Option.{get_or, Option, none, some}
use native.Mathlib.Omega.{arith}
use lib.ListN.{length}
use lib.Dec.{ltb}
use Rattle.base.specs.Value.{Every, Maybe}
use Rattle.element.specs.Form.{Form, then, leaf, around, maybe, series_form, Matches, document01}
use Rattle.element.specs.Element.{code_zero, extended_of, constructor_of}
use Rattle.element.specs.Fault.{Text}
use Rattle.element.specs.Ask.{Body}
use Rattle.element.specs.Parts.{around_item, then_body, silently}
use Rattle.element.proofs.ItemLaws.{ItemLaws, BodyLaws, leaf_laws, around_laws}
use Rattle.element.proofs.Joins.{map_body_laws, or_laws, item_range, item_form, Image, image_out, image_laws, image_body_laws, pairs, then_forms, then_oks, bind_laws, only_laws, last_laws, opt_pairs, opt_forms, opt_oks, opt_laws, SeriesOk}
use Rattle.tcap.specs.Meaning.{Originating, orig, Destination, dest, Component, Dialogue, Ending, silent, cause, says, Message, unidirectional, begin, finish, continue, abort, Meaning, octet, component_form, components_form, dialogue_form, ending_form, orig_form, dest_form, message_form}
use Rattle.tcap.specs.WellFormed.{Rules, left_at, most_components, most_cause, id_ok, ComponentOk, ComponentsOk, DialogueOk, EndingOk, OrigOk, DestOk, WellFormedUpTo}
use Rattle.tcap.specs.Productions.{orig_item, dest_item, carried, level_at, components_item, dialogue_item, tail_body, uni_body, begin_body, end_body, continue_body, abort_body, message_item}
use Rattle.tcap.proofs.Strings.{octets_of, component_as, dialogue_as, ending_as, orig_as, dest_as, forget}
use Rattle.tcap.proofs.Components.{AtMost, id, octet_laws, components_laws, deep_at}
use Rattle.tcap.proofs.Dialogues.{dialogue_laws}

abbrev Octets : Type 0
Octets = List ℕ

abbrev or_none : {A : Type 0} → Option (List A) → List A
or_none v = get_or v []

abbrev or_silent : {S : Type 0} → Option (Ending S) → Ending S
or_silent v = get_or v silent

IdOk : Octets → Type 0
IdOk c = id_ok c ≡ true

orig_kinds : (o : Originating Octets) → OrigOk o → Image orig IdOk o
unfolding IdOk
orig_kinds (orig i) o = (i, refl, o)

pub orig_laws : ItemLaws orig_item (orig_as octets_of) orig_form OrigOk
unfolding extended_of code_zero IdOk
orig_laws = item_range orig_kinds (image_out OrigOk (λ i o. o)) (image_laws orig orig octets_of (orig_as octets_of) (λ v. refl) (leaf 0x48) orig_form IdOk (λ i o. refl) _ (leaf_laws 0x48 id_ok refl refl))

dest_kinds : (e : Destination Octets) → DestOk e → Image dest IdOk e
unfolding IdOk
dest_kinds (dest i) o = (i, refl, o)

dest_laws : ItemLaws dest_item (dest_as octets_of) dest_form DestOk
unfolding extended_of code_zero IdOk
dest_laws = item_range dest_kinds (image_out DestOk (λ i o. o)) (image_laws dest dest octets_of (dest_as octets_of) (λ v. refl) (leaf 0x49) dest_form IdOk (λ i o. refl) _ (leaf_laws 0x49 id_ok refl refl))

-- the contents of a message
abbrev inside_form : Meaning → Form
inside_form (unidirectional d cs) = then (maybe dialogue_form d) (components_form cs)
inside_form (begin o d cs) = then (orig_form o) (then (maybe dialogue_form d) (components_form cs))
inside_form (finish e d cs) = then (dest_form e) (then (maybe dialogue_form d) (components_form cs))
inside_form (continue o e d cs) = then (orig_form o) (then (dest_form e) (then (maybe dialogue_form d) (components_form cs)))
inside_form (abort e s) = then (dest_form e) (ending_form s)

module _ (rules : Rules) (big : 8 ≤ rules.limit) where
  at_2 : ltb 0 (left_at rules 2) ≡ true
  at_2 = deep_at rules 2 (omega arith)

  abbrev Components : Type 0
  Components = List (Component Octets)

  abbrev Portion : Type 0
  Portion = Option (Dialogue Octets)

  abbrev Rest : Type 0
  Rest = Portion × Components

  abbrev dialogue_meaning : Dialogue Text → Dialogue Octets
  dialogue_meaning = dialogue_as octets_of

  abbrev components_meaning : List (Component Text) → Components
  components_meaning = map (component_as octets_of)

  abbrev rest_meaning : Option (Dialogue Text) × List (Component Text) → Rest
  rest_meaning = opt_pairs dialogue_meaning components_meaning

  abbrev portion_form : Components → Form
  portion_form cs = around 0x6C (series_form component_form cs)

  abbrev PortionOk : Components → Type 0
  PortionOk = SeriesOk {L = Component Text} (ComponentOk rules) none most_components

  -- [6C]
  list_same : (v : Option (List (Component Text))) → components_meaning (or_none v) ≡ or_none (Option.map components_meaning v)
  list_same none = refl
  list_same (some l) = refl

  list_there : (b : Components) (m : Octets) → ComponentsOk rules b → Matches document01 (components_form b) m → (a : Option Components) × (or_none a ≡ b) × Maybe PortionOk a × Matches document01 (maybe portion_form a) m
  unfolding components_form
  list_there [] m o e = (none, refl, tt, e)
  list_there (c ∷ cs) m o e = (some (c ∷ cs), refl, (o.0, o.1, tt), e)

  list_back : (a : Option Components) (m : Octets) → Maybe PortionOk a → Matches document01 (maybe portion_form a) m → ComponentsOk rules (or_none a) × Matches document01 (components_form (or_none a)) m
  unfolding components_form Every
  list_back none m o e = ((omega arith, tt), e)
  list_back (some []) m o e = absurd o.2
  list_back (some (c ∷ cs)) m o e = ((o.0, o.1), e)

  abbrev rest_form : Rest → Form
  rest_form = opt_forms dialogue_form components_form

  abbrev RestOk : Rest → Type 0
  RestOk = opt_oks (DialogueOk rules) (ComponentsOk rules)

  tail_laws : (n : ℕ) → BodyLaws n (tail_body rules) rest_meaning rest_form RestOk
  tail_laws n =
      opt_laws 0x6B (dialogue_item rules) _ dialogue_meaning components_meaning dialogue_form components_form (DialogueOk rules) (ComponentsOk rules) n (dialogue_laws rules big)
      (map_body_laws or_none or_none (Option.map components_meaning) components_meaning list_same (maybe portion_form) (Maybe PortionOk) components_form (ComponentsOk rules) list_there list_back n _
      (last_laws (level_at rules 2) (components_item rules) components_meaning portion_form PortionOk n (components_laws rules big) at_2))
      (λ a. refl) refl at_2 refl

  -- Unidirectional: [6B] 6C
  abbrev sent : Rest → Meaning
  sent v = unidirectional v.0 v.1

  abbrev SentOk : Rest → Type 0
  SentOk = opt_oks (DialogueOk rules) PortionOk

  sent_form : (d : Portion) (cs : Components) → PortionOk cs → inside_form (unidirectional d cs) ≡ then (maybe dialogue_form d) (portion_form cs)
  unfolding components_form
  sent_form d [] o = absurd o.2
  sent_form d (c ∷ cs) o = refl

  uni_laws : (n : ℕ) → BodyLaws n (uni_body rules) forget inside_form (Image sent SentOk)
  uni_laws n =
      image_body_laws (λ v. unidirectional v.0 v.1) sent rest_meaning forget (λ v. refl) (opt_forms dialogue_form portion_form) inside_form SentOk (λ v o. sent_form v.0 v.1 o.1) n _
      (opt_laws 0x6B (dialogue_item rules) _ dialogue_meaning components_meaning dialogue_form portion_form (DialogueOk rules) PortionOk n (dialogue_laws rules big)
      (only_laws (level_at rules 2) (components_item rules) components_meaning portion_form PortionOk n (components_laws rules big) at_2)
      (λ a. refl) refl at_2 refl)

  -- Begin, End, Continue
  abbrev begun : Originating Octets × Rest → Meaning
  begun v = begin v.0 v.1.0 v.1.1

  abbrev BegunOk : Originating Octets × Rest → Type 0
  BegunOk = then_oks OrigOk (λ o. RestOk)

  begin_laws : (n : ℕ) → BodyLaws n (begin_body rules) forget inside_form (Image begun BegunOk)
  begin_laws n =
      image_body_laws (λ v. begin v.0 v.1.0 v.1.1) begun (pairs (orig_as octets_of) rest_meaning) forget (λ v. refl) (then_forms orig_form (λ o. rest_form)) inside_form BegunOk (λ v o. refl) n _
      (bind_laws (level_at rules 2) carried orig_item _ (orig_as octets_of) rest_meaning orig_form (λ o. rest_form) OrigOk (λ o. RestOk) n orig_laws (λ v. tail_laws n) at_2)

  abbrev ended : Destination Octets × Rest → Meaning
  ended v = finish v.0 v.1.0 v.1.1

  abbrev EndedOk : Destination Octets × Rest → Type 0
  EndedOk = then_oks DestOk (λ e. RestOk)

  dest_tail : (n : ℕ) → BodyLaws n (then_body (level_at rules 2) dest_item (tail_body rules)) (pairs (dest_as octets_of) rest_meaning) (then_forms dest_form (λ e. rest_form)) EndedOk
  dest_tail n = bind_laws (level_at rules 2) silently dest_item _ (dest_as octets_of) rest_meaning dest_form (λ e. rest_form) DestOk (λ e. RestOk) n dest_laws (λ v. tail_laws n) at_2

  end_laws : (n : ℕ) → BodyLaws n (end_body rules) forget inside_form (Image ended EndedOk)
  end_laws n = image_body_laws (λ v. finish v.0 v.1.0 v.1.1) ended (pairs (dest_as octets_of) rest_meaning) forget (λ v. refl) (then_forms dest_form (λ e. rest_form)) inside_form EndedOk (λ v o. refl) n _ (dest_tail n)

  abbrev continued : Originating Octets × (Destination Octets × Rest) → Meaning
  continued v = continue v.0 v.1.0 v.1.1.0 v.1.1.1

  abbrev ContinuedOk : Originating Octets × (Destination Octets × Rest) → Type 0
  ContinuedOk = then_oks OrigOk (λ o. EndedOk)

  continue_laws : (n : ℕ) → BodyLaws n (continue_body rules) forget inside_form (Image continued ContinuedOk)
  continue_laws n =
      image_body_laws (λ v. continue v.0 v.1.0 v.1.1.0 v.1.1.1) continued (pairs (orig_as octets_of) (pairs (dest_as octets_of) rest_meaning)) forget (λ v. refl)
      (then_forms orig_form (λ o. then_forms dest_form (λ e. rest_form))) inside_form ContinuedOk (λ v o. refl) n _
      (bind_laws (level_at rules 2) carried orig_item _ (orig_as octets_of) (pairs (dest_as octets_of) rest_meaning) orig_form (λ o. then_forms dest_form (λ e. rest_form)) OrigOk (λ o. EndedOk) n orig_laws (λ v. dest_tail n) at_2)

  -- Abort: nothing, 4A or 6B
  abbrev StopOk : Ending Octets → Type 0
  StopOk s = Image cause (AtMost most_cause) s ⊎ Image says (DialogueOk rules) s

  abbrev stopped : Destination Octets × Option (Ending Octets) → Meaning
  stopped v = abort v.0 (or_silent v.1)

  abbrev StoppedOk : Destination Octets × Option (Ending Octets) → Type 0
  StoppedOk = then_oks DestOk (λ e. Maybe StopOk)

  stopped_form : (e : Destination Octets) (s : Option (Ending Octets)) → inside_form (abort e (or_silent s)) ≡ then (dest_form e) (maybe ending_form s)
  unfolding ending_form
  stopped_form e none = refl
  stopped_form e (some s) = refl

  stopped_same : (e : Destination Text) (s : Option (Ending Text)) → forget (abort e (or_silent s)) ≡ abort (dest_as octets_of e) (or_silent (Option.map (ending_as octets_of) s))
  stopped_same e none = refl
  stopped_same e (some s) = refl

  abort_laws : (n : ℕ) → BodyLaws n (abort_body rules) forget inside_form (Image stopped StoppedOk)
  unfolding extended_of code_zero ending_form
  abort_laws n =
      image_body_laws (λ v. abort v.0 (or_silent v.1)) stopped (pairs (dest_as octets_of) (Option.map (ending_as octets_of))) forget (λ v. stopped_same v.0 v.1) (then_forms dest_form (λ e. maybe ending_form)) inside_form StoppedOk (λ v o. stopped_form v.0 v.1) n _
      (bind_laws (level_at rules 2) silently dest_item _ (dest_as octets_of) (Option.map (ending_as octets_of)) dest_form (λ e. maybe ending_form) DestOk (λ e. Maybe StopOk) n dest_laws
      (λ v. last_laws (level_at rules 2) _ (ending_as octets_of) ending_form StopOk n
      (or_laws 0x4A _ _ (image_laws cause cause id (ending_as octets_of) (λ v. refl) (octet 0x4A) ending_form _ (λ n o. refl) _ (octet_laws 0x4A _ refl refl))
      (image_laws says says dialogue_meaning (ending_as octets_of) (λ v. refl) dialogue_form ending_form (DialogueOk rules) (λ d o. refl) _ (dialogue_laws rules big)) (λ a. refl) refl) at_2) at_2)

  -- the five messages
  message_kinds : (μ : Meaning) → WellFormedUpTo rules μ → Image sent SentOk μ ⊎ (Image begun BegunOk μ ⊎ (Image ended EndedOk μ ⊎ (Image continued ContinuedOk μ ⊎ Image stopped StoppedOk μ)))
  unfolding WellFormedUpTo
  message_kinds (unidirectional d []) o = absurd (omega (arith, o.1))
  message_kinds (unidirectional d (c ∷ cs)) o = inl ((d, c ∷ cs), refl, (o.0, (o.2.0, o.2.1, tt)))
  message_kinds (begin i d cs) o = inr (inl ((i, (d, cs)), refl, (o.0, (o.1, o.2))))
  message_kinds (finish i d cs) o = inr (inr (inl ((i, (d, cs)), refl, (o.0, (o.1, o.2)))))
  message_kinds (continue i j d cs) o = inr (inr (inr (inl ((i, (j, (d, cs))), refl, (o.0, (o.1, (o.2, o.3)))))))
  message_kinds (abort e silent) o = inr (inr (inr (inr ((e, none), refl, (o.0, tt)))))
  message_kinds (abort e (cause n)) o = inr (inr (inr (inr ((e, some (cause n)), refl, (o.0, inl (n, refl, o.1))))))
  message_kinds (abort e (says d)) o = inr (inr (inr (inr ((e, some (says d)), refl, (o.0, inr (d, refl, o.1))))))

  some_sent : (cs : Components) → PortionOk cs → 1 ≤ length cs
  some_sent [] o = absurd o.2
  some_sent (c ∷ cs) o = omega arith

  stopped_fine : (s : Option (Ending Octets)) → Maybe StopOk s → EndingOk rules (or_silent s)
  stopped_fine none o = tt
  stopped_fine (some s) o = ⊎_elim (image_out (EndingOk rules) (λ n o. o) s) (image_out (EndingOk rules) (λ d o. o) s) o

  -- a message of one kind: its tag around its contents
  module _ {A : Type 0} (t : ℕ) (b : Body (Message Text)) (g : A → Meaning) (ok : A → Type 0) (forms : (a : A) → around t (inside_form (g a)) ≡ message_form (g a))
      (laws : (n : ℕ) → BodyLaws n b forget inside_form (Image g ok)) (e : extended_of t ≡ false) (z : code_zero t ≡ false) (k : constructor_of t ≡ true) where
    kind_laws : ItemLaws (around_item t b) forget message_form (Image g ok)
    kind_laws = item_form (image_out (λ c. around t (inside_form c) ≡ message_form c) (λ a o. forms a)) (around_laws t b laws e z k)

  pub message_laws : ItemLaws (message_item rules) forget message_form (WellFormedUpTo rules)
  unfolding extended_of code_zero constructor_of message_form WellFormedUpTo
  message_laws =
      item_range message_kinds
      (λ μ. ⊎_elim (image_out (WellFormedUpTo rules) (λ v o. (o.0, some_sent v.1 o.1, (o.1.0, o.1.1))) μ)
      (⊎_elim (image_out (WellFormedUpTo rules) (λ v o. (o.0, o.1.0, o.1.1)) μ)
      (⊎_elim (image_out (WellFormedUpTo rules) (λ v o. (o.0, o.1.0, o.1.1)) μ)
      (⊎_elim (image_out (WellFormedUpTo rules) (λ v o. (o.0, o.1.0, o.1.1.0, o.1.1.1)) μ)
      (image_out (WellFormedUpTo rules) (λ v o. (o.0, stopped_fine v.1 o.1)) μ)))))
      (or_laws 0x61 _ _ (kind_laws 0x61 (uni_body rules) sent SentOk (λ v. refl) uni_laws refl refl refl)
      (or_laws 0x62 _ _ (kind_laws 0x62 (begin_body rules) begun BegunOk (λ v. refl) begin_laws refl refl refl)
      (or_laws 0x64 _ _ (kind_laws 0x64 (end_body rules) ended EndedOk (λ v. refl) end_laws refl refl refl)
      (or_laws 0x65 _ _ (kind_laws 0x65 (continue_body rules) continued ContinuedOk (λ v. refl) continue_laws refl refl refl)
      (kind_laws 0x67 (abort_body rules) stopped StoppedOk (λ v. refl) abort_laws refl refl refl)
      (λ a. refl) refl) (λ a. refl) refl) (λ a. refl) refl) (λ a. refl) refl)

-- The dialogue portion is read right. Assumes nothing.
use Prim.Native.Nat.{ℕ, ◌≤◌}
use mathlib.Core.Path.{◌≡◌, refl, sym}
use mathlib.Core.Logic.{◌⊎◌, inl, inr, ⊎_elim}
use mathlib.Core.Bool.{Bool, true, false}
use mathlib.Core.List.{List, [], map}
use mathlib.Core.Option
use mathlib.Core.Option.{Option, none, some}
use native.Mathlib.Omega.{arith}
use lib.Dec.{ltb}
use Rattle.base.specs.Value.{Every, Maybe, same}
use Rattle.base.proofs.Values.{same_equal, same_refl}
use Rattle.element.specs.declared.{FaultKind.FaultKind}
use Rattle.element.specs.Form.{Form, exactly, then, leaf, around, series_form, Matches, document01}
use Rattle.element.specs.Element.{Element, IsElement, SeriesOf, code_zero, extended_of, constructor_of}
use Rattle.primitive.specs.Primitive.{identifier_ok, numbers}
use Rattle.element.specs.Fault.{Text}
use Rattle.element.specs.Ask.{Body}
use Rattle.element.specs.Parts.{leaf_item, around_item, silently}
use Rattle.element.specs.Walk.{walk_tag_item}
use Rattle.element.proofs.ItemLaws.{ItemLaws, BodyLaws, leaf_laws, around_laws, kept_laws}
use Rattle.element.proofs.Joins.{map_body_laws, or_laws, item_range, item_form, Image, image_out, image_laws, image_body_laws, pairs, then_forms, then_oks, bind_laws, only_laws, last_laws, opt_pairs, opt_forms, opt_oks, opt_laws}
use Rattle.element.proofs.Walker.{element_laws, element_tag_laws, enough_laws}
use Rattle.tcap.specs.declared.{Diagnostic.Diagnostic}
use Rattle.tcap.specs.Meaning.{Dialogue, request, unidialogue, response, aborted, single, octets, octet, structured, unstructured, version, version_form, context_form, info_form, source_form, dialogue_form}
use Rattle.tcap.specs.WellFormed.{Rules, left_at, most_result, most_user_diagnostic, most_provider_diagnostic, most_abort_source, SourceOk, DialogueOk}
use Rattle.tcap.specs.Productions.{octet_item, name_item, version_body, level_at, info_body, context_item, asked_item, number_item, source_item, answered_item, aborted_item, held_item, external_body, inside6_b, dialogue_item}
use Rattle.tcap.proofs.Strings.{octets_of, dialogue_as}
use Rattle.tcap.proofs.Components.{id, AtMost, octet_laws, name_laws, deep_at}

-- the version may be there or not
module _ {L A : Type 0} (room : ℕ) (b : Body L) (my : L → A) (fy : A → Form) (oky : A → Type 0) (ys : BodyLaws room b my fy oky) (other : b.mine 0x80 ≡ false) (deep : ltb 0 b.left ≡ true) (more : b.full ≡ false) where
  version_there : (a : A) (m : List ℕ) → oky a → Matches document01 (then version_form (fy a)) m
      → (v : Option (List ℕ) × A) × (v.1 ≡ a) × opt_oks (λ c. same version c ≡ true) oky v × Matches document01 (opt_forms (leaf 0x80) fy v) m
  unfolding Matches
  version_there a m o (s, r, e, inl f, g) = ((none, a), refl, (tt, o), (s, r, e, f, g))
  version_there a m o (s, r, e, inr f, g) = ((some version, a), refl, (same_refl version, o), (s, r, e, f, g))

  version_back : (v : Option (List ℕ) × A) (m : List ℕ) → opt_oks (λ c. same version c ≡ true) oky v → Matches document01 (opt_forms (leaf 0x80) fy v) m → oky v.1 × Matches document01 (then version_form (fy v.1)) m
  unfolding Matches
  version_back (none, a) m o (s, r, e, f, g) = (o.1, (s, r, e, inl f, g))
  version_back (some c, a) m o (s, r, e, f, g) = (o.1, (s, r, e, inr (rw (same_equal version c o.0) at f), g))

  version_laws : BodyLaws room (version_body b) my (λ a. then version_form (fy a)) oky
  unfolding extended_of code_zero
  version_laws =
      map_body_laws (λ v. v.1) (λ v. v.1) (opt_pairs octets_of my) my (λ v. refl) (opt_forms (leaf 0x80) fy) (opt_oks (λ c. same version c ≡ true) oky) (λ a. then version_form (fy a)) oky version_there version_back room _
      (opt_laws 0x80 (leaf_item 0x80 (same version)) b octets_of my (leaf 0x80) fy (λ c. same version c ≡ true) oky room (leaf_laws 0x80 (same version) refl refl) ys (λ a. refl) other deep more)

abbrev dialogue_meaning : Dialogue Text → Dialogue (List ℕ)
dialogue_meaning = dialogue_as octets_of

abbrev NameOk : List ℕ → Type 0
NameOk c = identifier_ok c ≡ true

-- The form of a dialogue in layers: what its PDU holds, the PDU, what stands behind the name; the name

abbrev inside_form : Dialogue (List ℕ) → Form
inside_form (request n u) = then version_form (then (context_form n) (info_form u))
inside_form (unidialogue n u) = then version_form (then (context_form n) (info_form u))
inside_form (response n r s u) = then version_form (then (context_form n) (then (around 0xA2 (octet 0x02 r)) (then (around 0xA3 (source_form s)) (info_form u))))
inside_form (aborted r u) = then (octet 0x80 r) (info_form u)
inside_form (single n e) = exactly e
inside_form (octets n c) = exactly []

abbrev pdu_form : Dialogue (List ℕ) → Form
pdu_form (request n u) = around 0x60 (inside_form (request n u))
pdu_form (unidialogue n u) = around 0x60 (inside_form (unidialogue n u))
pdu_form (response n r s u) = around 0x61 (inside_form (response n r s u))
pdu_form (aborted r u) = around 0x64 (inside_form (aborted r u))
pdu_form (single n e) = exactly e
pdu_form (octets n c) = exactly []

abbrev held_form : Dialogue (List ℕ) → Form
held_form (request n u) = around 0xA0 (pdu_form (request n u))
held_form (unidialogue n u) = around 0xA0 (pdu_form (unidialogue n u))
held_form (response n r s u) = around 0xA0 (pdu_form (response n r s u))
held_form (aborted r u) = around 0xA0 (pdu_form (aborted r u))
held_form (single n e) = around 0xA0 (exactly e)
held_form (octets n c) = leaf 0x81 c

abbrev name_of : Dialogue (List ℕ) → List ℕ
name_of (request n u) = structured
name_of (unidialogue n u) = unstructured
name_of (response n r s u) = structured
name_of (aborted r u) = structured
name_of (single n e) = n
name_of (octets n c) = n

abbrev external_form : Dialogue (List ℕ) → Form
external_form d = then (leaf 0x06 (name_of d)) (held_form d)

in_layers : (d : Dialogue (List ℕ)) → around 0x6B (around 0x28 (external_form d)) ≡ dialogue_form d
unfolding dialogue_form
in_layers (request n u) = refl
in_layers (unidialogue n u) = refl
in_layers (response n r s u) = refl
in_layers (aborted r u) = refl
in_layers (single n e) = refl
in_layers (octets n c) = refl

module _ (rules : Rules) (big : 8 ≤ rules.limit) where
  at : (n : ℕ) → n ≤ 8 → ltb 0 (left_at rules n) ≡ true
  at n h = deep_at rules n (omega arith)

  abbrev InfoOk : List ℕ → Type 0
  InfoOk = SeriesOf 0x28 (left_at rules 7)

  info_laws : (n : ℕ) → BodyLaws n (info_body rules) (Option.map octets_of) info_form (Maybe InfoOk)
  unfolding extended_of code_zero constructor_of SeriesOf
  info_laws n =
      last_laws (level_at rules 6) _ octets_of (λ c. around 0xBE (exactly c)) InfoOk n
      (kept_laws (map octets_of) (series_form exactly) (Every (IsElement (left_at rules 7) 0x28)) 0xBE _
      (λ k. enough_laws (walk_tag_item 0x28 (left_at rules 7)) octets_of exactly (IsElement (left_at rules 7) 0x28) (element_tag_laws 0x28 (left_at rules 7)) (λ i. level_at rules 7) FaultKind.Another (λ i a o. at 7 (omega arith)) k)
      refl refl refl)
      (at 6 (omega arith))

  context_laws : ItemLaws (context_item rules) octets_of context_form NameOk
  unfolding extended_of code_zero constructor_of
  context_laws = around_laws 0xA1 _ (λ n. only_laws (level_at rules 7) name_item octets_of (leaf 0x06) NameOk n name_laws (at 7 (omega arith))) refl refl refl

  -- a PDU: its tag around what it holds
  module _ {A : Type 0} (t : ℕ) (b : Body (Dialogue Text)) (g : A → Dialogue (List ℕ)) (ok : A → Type 0) (forms : (a : A) → around t (inside_form (g a)) ≡ pdu_form (g a))
      (laws : (n : ℕ) → BodyLaws n b dialogue_meaning inside_form (Image g ok)) (e : extended_of t ≡ false) (z : code_zero t ≡ false) (k : constructor_of t ≡ true) where
    pdu_laws : ItemLaws (around_item t b) dialogue_meaning pdu_form (Image g ok)
    pdu_laws = item_form (image_out (λ d. around t (inside_form d) ≡ pdu_form d) (λ a o. forms a)) (around_laws t b laws e z k)

  -- request and unidialogue
  abbrev AskedOk : List ℕ × Option (List ℕ) → Type 0
  AskedOk = then_oks NameOk (λ n. Maybe InfoOk)

  asked_laws : (f : Text → Option Text → Dialogue Text) (g : List ℕ → Option (List ℕ) → Dialogue (List ℕ)) → ((n : Text) (u : Option Text) → dialogue_meaning (f n u) ≡ g (octets_of n) (Option.map octets_of u))
      → ((n : List ℕ) (u : Option (List ℕ)) → inside_form (g n u) ≡ then version_form (then (context_form n) (info_form u))) → ((n : List ℕ) (u : Option (List ℕ)) → around 0x60 (inside_form (g n u)) ≡ pdu_form (g n u))
      → ItemLaws (asked_item rules f) dialogue_meaning pdu_form (Image (λ v. g v.0 v.1) AskedOk)
  unfolding extended_of code_zero constructor_of
  asked_laws f g means inner forms =
      pdu_laws 0x60 _ (λ v. g v.0 v.1) AskedOk (λ v. forms v.0 v.1)
      (λ n. image_body_laws (λ v. f v.0 v.1) (λ v. g v.0 v.1) (pairs octets_of (Option.map octets_of)) dialogue_meaning (λ v. means v.0 v.1)
      (λ v. then version_form (then_forms context_form (λ n. info_form) v)) inside_form AskedOk (λ v o. inner v.0 v.1) n _
      (version_laws n _ (pairs octets_of (Option.map octets_of)) (then_forms context_form (λ n. info_form)) AskedOk
      (bind_laws (level_at rules 6) silently (context_item rules) _ octets_of (Option.map octets_of) context_form (λ a. info_form) NameOk (λ a. Maybe InfoOk) n context_laws (λ v. info_laws n) (at 6 (omega arith)))
      refl (at 6 (omega arith)) refl)) refl refl refl

  -- the fields of a response
  holding_laws : (t most l : ℕ) → l ≤ 8 → extended_of t ≡ false → code_zero t ≡ false → constructor_of t ≡ true → ItemLaws (number_item rules t l most) id (λ n. around t (octet 0x02 n)) (AtMost most)
  unfolding extended_of code_zero
  holding_laws t most l h e z c = around_laws t _ (λ n. only_laws (level_at rules l) (octet_item 0x02 most) id (octet 0x02) (AtMost most) n (octet_laws 0x02 most refl refl) (at l h)) e z c

  source_kinds : (s : Diagnostic) → SourceOk s → Image Diagnostic.ByUser (AtMost most_user_diagnostic) s ⊎ Image Diagnostic.ByProvider (AtMost most_provider_diagnostic) s
  source_kinds (Diagnostic.ByUser n) o = inl (n, refl, o)
  source_kinds (Diagnostic.ByProvider n) o = inr (n, refl, o)

  source_laws : ItemLaws (source_item rules) id (λ s. around 0xA3 (source_form s)) SourceOk
  unfolding extended_of code_zero constructor_of
  source_laws =
      around_laws 0xA3 _ (λ n. only_laws (level_at rules 7) _ id source_form SourceOk n
      (item_range source_kinds (λ s. ⊎_elim (image_out SourceOk (λ n o. o) s) (image_out SourceOk (λ n o. o) s))
      (or_laws 0xA1 _ _ (image_laws Diagnostic.ByUser Diagnostic.ByUser id id (λ v. refl) _ source_form _ (λ n o. refl) _ (holding_laws 0xA1 _ 8 (omega arith) refl refl refl))
      (image_laws Diagnostic.ByProvider Diagnostic.ByProvider id id (λ v. refl) _ source_form _ (λ n o. refl) _ (holding_laws 0xA2 _ 8 (omega arith) refl refl refl)) (λ a. refl) refl))
      (at 7 (omega arith))) refl refl refl

  abbrev Answered : Type 0
  Answered = List ℕ × (ℕ × (Diagnostic × Option (List ℕ)))

  abbrev answered : Answered → Dialogue (List ℕ)
  answered v = response v.0 v.1.0 v.1.1.0 v.1.1.1

  abbrev answered_form : Answered → Form
  answered_form = then_forms context_form (λ a. then_forms (λ n. around 0xA2 (octet 0x02 n)) (λ b. then_forms (λ s. around 0xA3 (source_form s)) (λ c. info_form)))

  abbrev AnsweredOk : Answered → Type 0
  AnsweredOk = then_oks NameOk (λ a. then_oks (AtMost most_result) (λ b. then_oks SourceOk (λ c. Maybe InfoOk)))

  answered_laws : ItemLaws (answered_item rules) dialogue_meaning pdu_form (Image answered AnsweredOk)
  unfolding extended_of code_zero constructor_of
  answered_laws =
      pdu_laws 0x61 _ answered AnsweredOk (λ v. refl)
      (λ n. image_body_laws (λ v. response v.0 v.1.0 v.1.1.0 v.1.1.1) answered (pairs octets_of (pairs id (pairs id (Option.map octets_of)))) dialogue_meaning (λ v. refl)
      (λ v. then version_form (answered_form v)) inside_form AnsweredOk (λ v o. refl) n _
      (version_laws n _ (pairs octets_of (pairs id (pairs id (Option.map octets_of)))) answered_form AnsweredOk
      (bind_laws (level_at rules 6) silently (context_item rules) _ octets_of _ context_form _ NameOk _ n context_laws
      (λ u. bind_laws (level_at rules 6) silently _ _ id _ (λ n. around 0xA2 (octet 0x02 n)) _ _ _ n (holding_laws 0xA2 _ 7 (omega arith) refl refl refl)
      (λ v. bind_laws (level_at rules 6) silently (source_item rules) _ id (Option.map octets_of) (λ s. around 0xA3 (source_form s)) (λ c. info_form) SourceOk (λ c. Maybe InfoOk) n source_laws (λ w. info_laws n) (at 6 (omega arith)))
      (at 6 (omega arith))) (at 6 (omega arith)))
      refl (at 6 (omega arith)) refl)) refl refl refl

  abbrev stopped : ℕ × Option (List ℕ) → Dialogue (List ℕ)
  stopped v = aborted v.0 v.1

  abbrev StoppedOk : ℕ × Option (List ℕ) → Type 0
  StoppedOk = then_oks (AtMost most_abort_source) (λ a. Maybe InfoOk)

  aborted_laws : ItemLaws (aborted_item rules) dialogue_meaning pdu_form (Image stopped StoppedOk)
  unfolding extended_of code_zero constructor_of
  aborted_laws =
      pdu_laws 0x64 _ stopped StoppedOk (λ v. refl)
      (λ n. image_body_laws (λ v. aborted v.0 v.1) stopped (pairs id (Option.map octets_of)) dialogue_meaning (λ v. refl) (then_forms (octet 0x80) (λ a. info_form)) inside_form StoppedOk (λ v o. refl) n _
      (bind_laws (level_at rules 6) silently _ _ id (Option.map octets_of) (octet 0x80) (λ a. info_form) _ (λ a. Maybe InfoOk) n (octet_laws 0x80 _ refl refl) (λ v. info_laws n) (at 6 (omega arith)))) refl refl refl

  -- what stands behind the name n
  abbrev requested : List ℕ × Option (List ℕ) → Dialogue (List ℕ)
  requested v = request v.0 v.1

  abbrev announced : List ℕ × Option (List ℕ) → Dialogue (List ℕ)
  announced v = unidialogue v.0 v.1

  abbrev PduOk : Dialogue (List ℕ) → Type 0
  PduOk d = Image requested AskedOk d ⊎ (Image answered AnsweredOk d ⊎ Image stopped StoppedOk d)

  abbrev AnyOctets : List ℕ → Type 0
  AnyOctets c = ◌≡◌ {A = Bool} true true

  abbrev HeldOk : List ℕ → Bool → Bool → Dialogue (List ℕ) → Type 0
  HeldOk n true u d = PduOk d
  HeldOk n false true d = Image announced AskedOk d
  HeldOk n false false d = Image (single n) (Element (left_at rules 5)) d ⊎ Image (octets n) AnyOctets d

  held_laws : (n : Text) (a b : Bool) → ItemLaws (held_item rules n a b) dialogue_meaning held_form (HeldOk (octets_of n) a b)
  unfolding extended_of code_zero constructor_of
  held_laws n true b =
      item_form (λ d. ⊎_elim (image_out same_form (λ v o. refl) d) (⊎_elim (image_out same_form (λ v o. refl) d) (image_out same_form (λ v o. refl) d)))
      (around_laws 0xA0 _ (λ k. only_laws (level_at rules 5) _ dialogue_meaning pdu_form PduOk k
      (or_laws 0x60 _ _ (asked_laws request request (λ n u. refl) (λ n u. refl) (λ n u. refl)) (or_laws 0x61 _ _ answered_laws aborted_laws (λ a. refl) refl) (λ a. refl) refl) (at 5 (omega arith))) refl refl refl)
    where
      same_form : Dialogue (List ℕ) → Type 0
      same_form d = around 0xA0 (pdu_form d) ≡ held_form d
  held_laws n false true =
      item_form (image_out (λ d. around 0xA0 (pdu_form d) ≡ held_form d) (λ v o. refl))
      (around_laws 0xA0 _ (λ k. only_laws (level_at rules 5) _ dialogue_meaning pdu_form (Image announced AskedOk) k (asked_laws unidialogue unidialogue (λ n u. refl) (λ n u. refl) (λ n u. refl)) (at 5 (omega arith))) refl refl refl)
  held_laws n false false =
      or_laws 0xA0 _ _
      (image_laws (single n) (single (octets_of n)) octets_of dialogue_meaning (λ v. refl) (λ e. around 0xA0 (exactly e)) held_form _ (λ e o. refl) _
      (around_laws 0xA0 _ (λ k. only_laws (level_at rules 5) _ octets_of exactly (Element (left_at rules 5)) k (element_laws (left_at rules 5)) (at 5 (omega arith))) refl refl refl))
      (image_laws (octets n) (octets (octets_of n)) octets_of dialogue_meaning (λ v. refl) (leaf 0x81) held_form AnyOctets (λ c o. refl) _ (leaf_laws 0x81 (λ c. true) refl refl)) (λ a. refl) refl

  -- the name and what stands behind it
  abbrev NamedOk : List ℕ × Dialogue (List ℕ) → Type 0
  NamedOk = then_oks NameOk (λ n. HeldOk n (same structured n) (same unstructured n))

  abbrev Named : List ℕ → Dialogue (List ℕ) → Type 0
  Named n d = name_of d ≡ n

  name_held : (n : List ℕ) (a b : Bool) → same structured n ≡ a → same unstructured n ≡ b → (d : Dialogue (List ℕ)) → HeldOk n a b d → Named n d
  name_held n true b p q d =
      let e : structured ≡ n = sym (same_equal structured n p) in
      ⊎_elim (image_out (Named n) (λ v o. e) d) (⊎_elim (image_out (Named n) (λ v o. e) d) (image_out (Named n) (λ v o. e) d))
  name_held n false true p q d = image_out (Named n) (λ v o. sym (same_equal unstructured n q)) d
  name_held n false false p q d = ⊎_elim (image_out (Named n) (λ v o. refl) d) (image_out (Named n) (λ v o. refl) d)

  external_laws : (n : ℕ) → BodyLaws n (external_body rules) dialogue_meaning external_form (Image (λ v. v.1) NamedOk)
  external_laws n =
      image_body_laws (λ v. v.1) (λ v. v.1) (pairs octets_of dialogue_meaning) dialogue_meaning (λ v. refl) (then_forms (leaf 0x06) (λ n. held_form)) external_form NamedOk
      (λ v o. rw (name_held v.0 _ _ refl refl v.1 o.1)) n _
      (bind_laws (level_at rules 4) silently name_item _ octets_of dialogue_meaning (leaf 0x06) (λ n. held_form) NameOk (λ n. HeldOk n (same structured n) (same unstructured n)) n name_laws
      (λ v. only_laws (level_at rules 4) _ dialogue_meaning held_form _ n (held_laws v (same structured (octets_of v)) (same unstructured (octets_of v))) (at 4 (omega arith))) (at 4 (omega arith)))

  names : (identifier_ok structured ≡ true) × (identifier_ok unstructured ≡ true)
  unfolding identifier_ok numbers
  names = (refl, refl)

  dialogue_named : (d : Dialogue (List ℕ)) → DialogueOk rules d → Image (λ v. v.1) NamedOk d
  unfolding DialogueOk same
  dialogue_named (request n u) o = ((structured, request n u), refl, (names.0, inl ((n, u), refl, o)))
  dialogue_named (unidialogue n u) o = ((unstructured, unidialogue n u), refl, (names.1, ((n, u), refl, o)))
  dialogue_named (response n r s u) o = ((structured, response n r s u), refl, (names.0, inr (inl ((n, (r, (s, u))), refl, (o.0, (o.1, (o.2, o.3)))))))
  dialogue_named (aborted r u) o = ((structured, aborted r u), refl, (names.0, inr (inr ((r, u), refl, o))))
  dialogue_named (single n e) o = ((n, single n e), refl, (o.0.0, rw (o.0.1, o.0.2) (inl (e, refl, o.1))))
  dialogue_named (octets n c) o = ((n, octets n c), refl, (o.0, rw (o.1, o.2) (inr (c, refl, refl))))

  held_fine : (n : List ℕ) (a b : Bool) → same structured n ≡ a → same unstructured n ≡ b → NameOk n → (d : Dialogue (List ℕ)) → HeldOk n a b d → DialogueOk rules d
  unfolding DialogueOk
  held_fine n true b p q i d =
      ⊎_elim (image_out (DialogueOk rules) (λ v o. o) d) (⊎_elim (image_out (DialogueOk rules) (λ v o. (o.0, o.1.0, o.1.1.0, o.1.1.1)) d) (image_out (DialogueOk rules) (λ v o. o) d))
  held_fine n false true p q i d = image_out (DialogueOk rules) (λ v o. o) d
  held_fine n false false p q i d = ⊎_elim (image_out (DialogueOk rules) (λ e o. ((i, p, q), o)) d) (image_out (DialogueOk rules) (λ c o. (i, p, q)) d)

  pub dialogue_laws : ItemLaws (dialogue_item rules) dialogue_meaning dialogue_form (DialogueOk rules)
  unfolding extended_of code_zero constructor_of
  dialogue_laws =
      item_range dialogue_named (image_out (DialogueOk rules) (λ v o. held_fine v.0 _ _ refl refl o.0 v.1 o.1))
      (item_form (λ d o. in_layers d)
      (around_laws 0x6B _ (λ n. only_laws (inside6_b rules) _ dialogue_meaning (λ d. around 0x28 (external_form d)) (Image (λ v. v.1) NamedOk) n (around_laws 0x28 _ external_laws refl refl refl) (at 3 (omega arith))) refl refl refl))

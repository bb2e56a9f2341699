-- Each string of a message that is read stands in its octets where it says, one behind the other; each fault is found in its octets, and the
-- IDs that it tells are well-formed. Assumes nothing.
use Prim.Native.Nat.{ℕ, ◌+◌, ◌≤◌}
use mathlib.Core.Path.{◌≡◌, refl, sym}
use mathlib.Core.Bool.{Bool, true, false}
use mathlib.Core.List.{List, [], ◌∷◌, ◌++◌, append-nil}
use mathlib.Core.Option
use mathlib.Core.Option.{Option, none, some}
use native.Mathlib.Omega.{arith}
use lib.ListN.{length, get_or}
use lib.Dec.{leb, eqb}
use lib.IntN.{ℤ}
use borrow.Author.Tests.{leb-false}
use Rattle.base.specs.Value.{Every, same}
use Rattle.element.specs.declared.{FaultKind.FaultKind}
use Rattle.element.specs.Element.{extended_of}
use Rattle.primitive.specs.Primitive.{identifier_ok, integer_ok, signed_of, most_integer_octets}
use Rattle.element.specs.Fault.{number_of, Text, Fault, fault, at, with_invoke_id, with_orig_id}
use Rattle.element.specs.Form.{Form}
use Rattle.element.specs.Ask.{Got, got, bad, Body, ask}
use Rattle.element.specs.Parts.{Item, level, integer_item, around_item, map_item, or_item, only_body, series_body, bind_body, then_body, last_body, opt_body, silently}
use Rattle.element.proofs.Asking.{Then, the_fact, fact, void}
use Rattle.element.proofs.ItemLaws.{ItemLaws}
use Rattle.element.proofs.Ends.{Ends, held, failed, the_held, the_failed, ends_next, ends_weaken, ends_check, ends_blamed, ends_ask}
use Rattle.element.proofs.StringPlaces.{Here, Laid, stop, stands_here, here_within, laid_wider, laid_append, laid_none, laid_each, nothing_ends, Keeps, Span, strung, ItemLaid, BodyLaid, leaf_laid, around_laid, kept_laid, item_weaken, map_laid, or_laid, bind_laid, only_laid, last_laid, opt_laid, map_body_laid, series_laid, series_unmarked, walk_laid}
use Rattle.tcap.specs.declared.{Problem.Problem, Diagnostic.Diagnostic}
use Rattle.tcap.specs.Meaning.{silent, Originating, orig, dest, Code, local, global, Component, invoke, last, not_last, error, reject, Dialogue, request, unidialogue, response, aborted, single, octets, Ending, cause, says, Message, unidirectional, begin, finish, continue, abort, structured, unstructured, version}
use Rattle.tcap.specs.WellFormed.{Rules, most_octets, most_components, most_cause, left_at, id_ok, OrigOk, WellFormedUpTo}
use Rattle.tcap.specs.Productions.{single?, octet_item, name_item, code_item, problem_item, id_or_null_item, orig_item, dest_item, carried, noted, version_body, level_at, parameter_item, code_body, invoke_body, both_item, result_body, error_body, reject_body, component_item, component_at, components_item, info_body, context_item, asked_item, number_item, source_item, answered_item, aborted_item, held_item, external_body, inside6_b, dialogue_item, tail_body, uni_body, begin_body, end_body, continue_body, abort_body, message_item}
use Rattle.tcap.specs.Reading.{learnt, alone_body, unknown_orig, read_first, located_up_to}
use Rattle.tcap.proofs.Records.{Sits}
use Rattle.tcap.proofs.Components.{id_laws, null_laws}
use Rattle.tcap.proofs.Messages.{orig_laws, message_laws}
use Rattle.tcap.proofs.Strings.{octets_of, orig_as, forget, Strings, tagged, whole, option_strings, series_strings, code_strings, both_strings, component_strings, named_strings, dialogue_strings, ending_strings, orig_strings, dest_strings, rest_strings, strings}
use Rattle.tcap.proofs.UnknownType.{unknown_orig_lem}
use Rattle.tcap.proofs.FaultPlaces.{claim, RefusedFor, Refused, inside_message, no_message_lem, unknown_here, too_long, after_message, keeps_dialogue, keeps_component, keeps_invoke, orig_here, keeps_carried}

-- what is read is well-formed as well
ends_both : {A : Type 0} {P R : A → ℕ → Type 0} {Q : Fault → Type 0} {x : Got A} → Ends P Q x → Then R x → Ends (λ v n. P v n × R v n) Q x
ends_both (held h) t = held (h, the_fact t)
ends_both (failed h) t = failed h

-- under a condition
then_given : {A B : Type 0} {P : A → ℕ → Type 0} (x : Got A) → (B → Then P x) → Then (λ v n. B → P v n) x
then_given (got v n) g = fact (λ b. the_fact (g b))
then_given (bad f) g = void

-- Productions

module _ (m : List ℕ) where
  abbrev pub ItemReads : {L : Type 0} → Item L → (L → Strings) → Type 0
  ItemReads x S = ItemLaid m (claim m) x (strung m S)

  abbrev pub BodyReads : {L : Type 0} → Body L → (L → Strings) → Type 0
  BodyReads b S = BodyLaid m (claim m) b (strung m S)

  plainly : Keeps (claim m) (λ f. f)
  plainly hi f q = q

  -- an element that later faults tell of, and that is well-formed
  bind_reads : {L M A : Type 0} {x : Item L} {y : Body M} {S : L → Strings} {T : M → Strings} {meaning : L → A} {form : A → Form} {ok : A → Type 0} (l : ℕ) (note : L → Fault → Fault) → ItemLaws x meaning form ok
      → ((v : L) (lo hi : ℕ) → Laid m lo hi (S v) → ok (meaning v) → Keeps (claim m) (note v)) → ItemReads x S → BodyReads y T → BodyReads (bind_body (level l) note x (λ v. y)) (λ v. S v.0 ++ T v.1)
  bind_reads {S = S} {meaning = meaning} {ok = ok} l note w k s t =
      bind_laid (level l) note {S = λ v lo hi. Laid m lo hi (S v) × ok (meaning v)} plainly (λ v lo hi i. k v lo hi i.0 i.1) (λ v b lo mid hi i j. laid_append i.0 j)
      (record { reads = λ p part h e i k. ends_weaken (ends_both (s.reads p part h e i k) (w.sound p part h i k)) (λ v n j. record { within = j.0.within; laid = (j.0.laid, j.1.fine) }) (λ f j. j) }) (λ v. t)

  then_reads : {L M : Type 0} {x : Item L} {y : Body M} {S : L → Strings} {T : M → Strings} (l : ℕ) → ItemReads x S → BodyReads y T → BodyReads (then_body (level l) x y) (λ v. S v.0 ++ T v.1)
  then_reads l s t = bind_laid (level l) silently plainly (λ v lo hi i. plainly) (λ v b lo mid hi i j. laid_append i j) s (λ v. t)

  last_reads : {L : Type 0} {x : Item L} {S : L → Strings} (l : ℕ) → ItemReads x S → BodyReads (last_body (level l) x) (option_strings S)
  last_reads l s = last_laid (level l) plainly (λ p. stop (omega arith)) (λ v lo hi i. i) s

  opt_reads : {L M : Type 0} {x : Item L} {y : Body M} {S : L → Strings} {T : M → Strings} → ItemReads x S → BodyReads y T → BodyReads (opt_body x y) (λ v. option_strings S v.0 ++ T v.1)
  opt_reads s t = opt_laid (λ b lo hi i. i) (λ v b lo mid hi i j. laid_append i j) s t

  -- of which no string is kept
  mute_reads : {L M : Type 0} {x : Item L} {y : Body M} {S : L → Strings} {T : M → Strings} → ItemReads x S → BodyReads y T → BodyReads (opt_body x y) (λ v. T v.1)
  mute_reads s t = opt_laid (λ b lo hi i. i) (λ v b lo mid hi i j. laid_wider lo hi (laid_none i) (omega arith) j) s t

  integer_reads : (t most : ℕ) → extended_of t ≡ false → ItemReads (integer_item t most) (λ v. [])
  integer_reads t most e = map_laid (λ v. signed_of v.1) (λ v lo hi i. stop (laid_none i)) (leaf_laid t (integer_ok most) e)

  octet_reads : (t most : ℕ) → extended_of t ≡ false → ItemReads (octet_item t most) (λ v. [])
  octet_reads t most e = map_laid (λ v. get_or v.1 0 0) (λ v lo hi i. stop (laid_none i)) (leaf_laid t (single? most) e)

  name_reads : ItemReads name_item (tagged 0x06)
  unfolding extended_of
  name_reads = leaf_laid 0x06 identifier_ok refl

  code_reads : ItemReads code_item code_strings
  unfolding extended_of
  code_reads = or_laid (map_laid local (λ v lo hi i. i) (integer_reads 0x02 most_integer_octets refl)) (map_laid global (λ v lo hi i. i) name_reads)

  problem_reads : ItemReads problem_item (λ v. [])
  unfolding extended_of
  problem_reads =
      or_laid (map_laid Problem.General (λ v lo hi i. i) (octet_reads 0x80 _ refl))
      (or_laid (map_laid Problem.OfInvoke (λ v lo hi i. i) (octet_reads 0x81 _ refl))
      (or_laid (map_laid Problem.OfResult (λ v lo hi i. i) (octet_reads 0x82 _ refl)) (map_laid Problem.OfError (λ v lo hi i. i) (octet_reads 0x83 _ refl))))

  null_reads : ItemReads id_or_null_item (λ v. [])
  unfolding extended_of
  null_reads = or_laid (map_laid some (λ v lo hi i. i) (integer_reads 0x02 1 refl)) (map_laid (λ v. none) (λ v lo hi i. stop (laid_none i)) (leaf_laid 0x05 (same []) refl))

  orig_reads : ItemReads orig_item orig_strings
  unfolding extended_of
  orig_reads = map_laid orig (λ v lo hi i. i) (leaf_laid 0x48 id_ok refl)

  dest_reads : ItemReads dest_item dest_strings
  unfolding extended_of
  dest_reads = map_laid dest (λ v lo hi i. i) (leaf_laid 0x49 id_ok refl)

  version_reads : {L : Type 0} {b : Body L} {S : L → Strings} → BodyReads b S → BodyReads (version_body b) S
  unfolding extended_of
  version_reads s = map_body_laid (λ v. v.1) (λ v lo hi i. i) (mute_reads (leaf_laid 0x80 (same version) refl) s)

  -- its strings follow those of the name n before it
  abbrev Following : Text → Span (Dialogue Text)
  Following n d lo hi = (from : ℕ) → Laid m from lo (tagged 0x06 n) → Laid m from hi (dialogue_strings d)

  following : (n : Text) (d : Dialogue Text) (lo hi : ℕ) → Laid m lo hi (dialogue_strings d) → Following n d lo hi
  following n d lo hi i from j = laid_wider from hi (laid_none j) (omega arith) i

  list_strings : (v : Option (List (Component Text))) (lo hi : ℕ) → Laid m lo hi (option_strings (series_strings component_strings) v) → Laid m lo hi (series_strings component_strings (Option.get_or v []))
  unfolding series_strings
  list_strings none lo hi i = i
  list_strings (some l) lo hi i = i

  ending_strings_lem : (v : Option (Ending Text)) (s : Strings) (lo hi : ℕ) → Laid m lo hi (s ++ option_strings ending_strings v) → Laid m lo hi (s ++ ending_strings (Option.get_or v silent))
  ending_strings_lem none s lo hi i = i
  ending_strings_lem (some e) s lo hi i = i

  module _ (rules : Rules) where
    parameter_reads : (n : ℕ) → ItemReads (parameter_item rules n) whole
    parameter_reads n = walk_laid _ (left_at rules n)

    code_body_reads : BodyReads (code_body rules) (λ v. code_strings v.0 ++ option_strings whole v.1)
    code_body_reads = then_reads (left_at rules 4) code_reads (last_reads (left_at rules 4) (parameter_reads 4))

    invoke_reads : BodyReads (invoke_body rules) component_strings
    unfolding extended_of
    invoke_reads =
        map_body_laid (λ v. invoke v.0 v.1.0 v.1.1.0 v.1.1.1) (λ v lo hi i. i)
        (bind_reads (left_at rules 4) noted id_laws (λ v lo hi i o. keeps_invoke m (some v) o) (integer_reads 0x02 1 refl) (mute_reads (integer_reads 0x80 1 refl) code_body_reads))

    both_reads : ItemReads (both_item rules) both_strings
    both_reads = around_laid 0x30 (then_reads (left_at rules 5) code_reads (only_laid (level_at rules 5) plainly (parameter_reads 5)))

    result_reads : (f : ℤ → Option (Code Text × Text) → Component Text) → ((i : ℤ) (r : Option (Code Text × Text)) → option_strings both_strings r ≡ component_strings (f i r)) → BodyReads (result_body rules f) component_strings
    unfolding extended_of
    result_reads f same =
        map_body_laid (λ v. f v.0 v.1) (λ v lo hi i. rw (same v.0 v.1) at i)
        (bind_reads (left_at rules 4) noted id_laws (λ v lo hi i o. keeps_invoke m (some v) o) (integer_reads 0x02 1 refl) (last_reads (left_at rules 4) both_reads))

    error_reads : BodyReads (error_body rules) component_strings
    unfolding extended_of
    error_reads =
        map_body_laid (λ v. error v.0 v.1.0 v.1.1) (λ v lo hi i. i)
        (bind_reads (left_at rules 4) noted id_laws (λ v lo hi i o. keeps_invoke m (some v) o) (integer_reads 0x02 1 refl) code_body_reads)

    reject_reads : BodyReads (reject_body rules) component_strings
    reject_reads =
        map_body_laid (λ v. reject v.0 v.1) (λ v lo hi i. i)
        (bind_reads (left_at rules 4) with_invoke_id null_laws (λ v lo hi i o. keeps_invoke m v o) null_reads (only_laid (level_at rules 4) plainly problem_reads))

    component_reads : ItemReads (component_item rules) component_strings
    component_reads =
        or_laid (around_laid 0xA1 invoke_reads)
        (or_laid (around_laid 0xA2 (result_reads last (λ i r. refl)))
        (or_laid (around_laid 0xA3 error_reads)
        (or_laid (around_laid 0xA4 reject_reads)
        (around_laid 0xA7 (result_reads not_last (λ i r. refl))))))

    pub rows_reads : BodyReads (series_body (component_at rules) FaultKind.UnknownComponent (component_item rules) none most_components 0) (series_strings component_strings)
    unfolding series_strings number_of
    rows_reads =
        series_laid (component_at rules) FaultKind.UnknownComponent most_components (λ k h. keeps_component m k h) refl (λ p. stop (omega arith)) (λ v ws lo mid hi i j. laid_append i j) component_reads none (λ v i. nothing_ends i) most_components 0 (omega arith)

    components_reads : ItemReads (components_item rules) (series_strings component_strings)
    components_reads = around_laid 0x6C rows_reads

    info_reads : BodyReads (info_body rules) (option_strings (tagged 0xBE))
    unfolding extended_of
    info_reads = last_reads (left_at rules 6) (kept_laid 0xBE refl (λ n. series_unmarked (left_at rules 7) n (walk_laid _ (left_at rules 7))))

    context_reads : ItemReads (context_item rules) (tagged 0x06)
    context_reads = around_laid 0xA1 (only_laid (level_at rules 7) plainly name_reads)

    asked_reads : (f : Text → Option Text → Dialogue Text) → ((n : Text) (u : Option Text) → named_strings n u ≡ dialogue_strings (f n u)) → ItemReads (asked_item rules f) dialogue_strings
    asked_reads f same =
        around_laid 0x60 (map_body_laid (λ v. f v.0 v.1) (λ v lo hi i. rw (same v.0 v.1) at i) (version_reads (then_reads (left_at rules 6) context_reads info_reads)))

    number_reads : (t n most : ℕ) → ItemReads (number_item rules t n most) (λ v. [])
    unfolding extended_of
    number_reads t n most = around_laid t (only_laid (level_at rules n) plainly (octet_reads 0x02 most refl))

    source_reads : ItemReads (source_item rules) (λ v. [])
    source_reads = around_laid 0xA3 (only_laid (level_at rules 7) plainly (or_laid (map_laid Diagnostic.ByUser (λ v lo hi i. i) (number_reads 0xA1 8 _)) (map_laid Diagnostic.ByProvider (λ v lo hi i. i) (number_reads 0xA2 8 _))))

    answered_reads : ItemReads (answered_item rules) dialogue_strings
    answered_reads =
        around_laid 0x61
        (map_body_laid (λ v. response v.0 v.1.0 v.1.1.0 v.1.1.1) (λ v lo hi i. i)
        (version_reads (then_reads (left_at rules 6) context_reads (then_reads (left_at rules 6) (number_reads 0xA2 7 _) (then_reads (left_at rules 6) source_reads info_reads)))))

    aborted_reads : ItemReads (aborted_item rules) dialogue_strings
    unfolding extended_of
    aborted_reads = around_laid 0x64 (map_body_laid (λ v. aborted v.0 v.1) (λ v lo hi i. i) (then_reads (left_at rules 6) (octet_reads 0x80 _ refl) info_reads))

    held_reads : (n : Text) (s u : Bool) → ItemLaid m (claim m) (held_item rules n s u) (Following n)
    unfolding extended_of
    held_reads n true u =
        item_weaken (following n)
        (around_laid 0xA0 (only_laid (level_at rules 5) plainly (or_laid (asked_reads request (λ n u. refl)) (or_laid answered_reads aborted_reads))))
    held_reads n false true =
        item_weaken (following n) (around_laid 0xA0 (only_laid (level_at rules 5) plainly (asked_reads unidialogue (λ n u. refl))))
    held_reads n false false =
        or_laid (map_laid (single n) (λ e lo hi i from j. laid_append j i) (around_laid 0xA0 (only_laid (level_at rules 5) plainly (parameter_reads 5))))
        (map_laid (octets n) (λ c lo hi i from j. laid_append j i) (leaf_laid 0x81 (λ c. true) refl))

    external_reads : BodyReads (external_body rules) dialogue_strings
    external_reads =
        map_body_laid (λ v. v.1) (λ v lo hi i. i)
        (bind_laid (level_at rules 4) silently {T = Following} {U = strung m (λ v. dialogue_strings v.1)} plainly (λ v lo hi i. plainly) (λ n d lo mid hi i j. j lo i) name_reads
        (λ n. only_laid (level_at rules 4) plainly (held_reads n (same structured n.1) (same unstructured n.1))))

    pub inside_reads : BodyReads (only_body (inside6_b rules) (around_item 0x28 (external_body rules))) dialogue_strings
    inside_reads = only_laid (inside6_b rules) (keeps_dialogue m) (around_laid 0x28 external_reads)

    pub dialogue_reads : ItemReads (dialogue_item rules) dialogue_strings
    dialogue_reads = around_laid 0x6B inside_reads

    pub sole_rows_reads : BodyReads (only_body (level_at rules 2) (components_item rules)) (series_strings component_strings)
    sole_rows_reads = only_laid (level_at rules 2) plainly components_reads

    pub last_rows_reads : BodyReads (last_body (level_at rules 2) (components_item rules)) (option_strings (series_strings component_strings))
    last_rows_reads = last_reads (left_at rules 2) components_reads

    tail_reads : BodyReads (tail_body rules) (λ v. rest_strings v.0 v.1)
    tail_reads = opt_reads dialogue_reads (map_body_laid (λ v. Option.get_or v []) list_strings last_rows_reads)

    uni_reads : BodyReads (uni_body rules) strings
    uni_reads = map_body_laid (λ v. unidirectional v.0 v.1) (λ v lo hi i. i) (opt_reads dialogue_reads sole_rows_reads)

    begin_reads : BodyReads (begin_body rules) strings
    begin_reads = map_body_laid (λ v. begin v.0 v.1.0 v.1.1) (λ v lo hi i. i) (bind_reads (left_at rules 2) carried orig_laws (keeps_carried m) orig_reads tail_reads)

    end_reads : BodyReads (end_body rules) strings
    end_reads = map_body_laid (λ v. finish v.0 v.1.0 v.1.1) (λ v lo hi i. i) (then_reads (left_at rules 2) dest_reads tail_reads)

    continue_reads : BodyReads (continue_body rules) strings
    continue_reads =
        map_body_laid (λ v. continue v.0 v.1.0 v.1.1.0 v.1.1.1) (λ v lo hi i. i)
        (bind_reads (left_at rules 2) carried orig_laws (keeps_carried m) orig_reads (then_reads (left_at rules 2) dest_reads tail_reads))

    pub stop_reads : ItemReads (or_item (map_item cause (octet_item 0x4A most_cause)) (map_item says (dialogue_item rules))) ending_strings
    unfolding extended_of
    stop_reads = or_laid (map_laid cause (λ v lo hi i. i) (octet_reads 0x4A _ refl)) (map_laid says (λ v lo hi i. i) dialogue_reads)

    pub ending_reads : BodyReads (last_body (level_at rules 2) (or_item (map_item cause (octet_item 0x4A most_cause)) (map_item says (dialogue_item rules)))) (option_strings ending_strings)
    ending_reads = last_reads (left_at rules 2) stop_reads

    abort_reads : BodyReads (abort_body rules) strings
    abort_reads =
        map_body_laid (λ v. abort v.0 (Option.get_or v.1 silent)) (λ v lo hi i. ending_strings_lem v.1 (dest_strings v.0) lo hi i)
        (then_reads (left_at rules 2) dest_reads ending_reads)

    message_reads : ItemReads (message_item rules) strings
    message_reads = or_laid (around_laid 0x61 uni_reads) (or_laid (around_laid 0x62 begin_reads) (or_laid (around_laid 0x64 end_reads) (or_laid (around_laid 0x65 continue_reads) (around_laid 0x67 abort_reads))))

    -- the message is all there is
    all_here : Here m 0 m
    all_here = record { before = []; rest = []; octets = sym (append-nil m); place = refl }

    keeps_orig_read : (o : Originating Text) (l : Strings) (lo hi : ℕ) → Laid m lo hi (orig_strings o ++ l) → OrigOk (orig_as octets_of o) → (f : Fault) → RefusedFor m f → RefusedFor m (carried o f)
    unfolding with_orig_id
    keeps_orig_read (orig s) l lo hi i h (fault k p o n t) q =
        record { place = q.place; owner = q.owner; inner = q.inner; overlong = q.overlong; no_message = q.no_message; invoke_id = q.invoke_id; orig_id = orig_here m s l lo hi i h }

    keeps_learnt : (v : Message Text) (lo hi : ℕ) → Laid m lo hi (strings v) → WellFormedUpTo rules (forget v) → (f : Fault) → RefusedFor m f → RefusedFor m (learnt v f)
    unfolding WellFormedUpTo
    keeps_learnt (unidirectional d cs) lo hi i h f q = q
    keeps_learnt (begin o d cs) lo hi i h f q = keeps_orig_read o _ lo hi i h.0 f q
    keeps_learnt (finish e d cs) lo hi i h f q = q
    keeps_learnt (continue o e d cs) lo hi i h f q = keeps_orig_read o _ lo hi i h.0 f q
    keeps_learnt (abort e s) lo hi i h f q = q

    alone_reads : Ends (λ v n. Laid m 0 (length m) (strings v)) (Refused rules m) (ask (alone_body rules (message_item rules)) true 0 m)
    unfolding claim
    alone_reads =
        ends_ask (alone_body rules (message_item rules)) true 0 m (λ v e f. nothing_ends e) (λ k i _. inside_message m (at k 0) ((claim m).grows 0 (length m) (at k 0) (omega arith) ((claim m).found k 0 i))) (λ _ f q. q) (λ _. no_message_lem m none tt) λ h i f k.
        ends_next (ends_both (ends_weaken (message_reads.reads 0 m h all_here i k) (λ v n j. j) (λ f q _. inside_message m f ((claim m).grows (0 + length m) (length m) f (omega arith) q))) (then_given _ (λ big. (message_laws rules big).sound 0 m h i k))) λ v n j.
        ends_blamed (learnt v) (λ f q big. keeps_learnt v 0 (0 + n) j.0.laid (j.1 big).fine f (q big))
        (ends_check (eqb n (length m)) _ (λ _ _. after_message m (0 + n) (omega (arith, j.0.within))) λ _. held {a = v} {n = n} (laid_wider 0 (length m) (omega arith) (omega (arith, j.0.within)) j.0.laid))

first_reads : (rules : Rules) (m : List ℕ) → Ends (λ v n. Laid m 0 (length m) (strings v)) (Refused rules m) (read_first rules (message_item rules) m)
unfolding read_first claim number_of
first_reads rules [] = failed (λ _. inside_message [] (at FaultKind.CutOff 0) ((claim []).found FaultKind.CutOff 0 refl))
first_reads rules (a ∷ r) = ends_check ((message_item rules).mine a) _ (λ _ _. no_message_lem (a ∷ r) (unknown_orig rules (a ∷ r)) (unknown_here rules (a ∷ r) _ (unknown_orig_lem rules (a ∷ r)))) λ _. alone_reads (a ∷ r) rules

located_reads : (rules : Rules) (m : List ℕ) → Ends (λ v n. Laid m 0 (length m) (strings v)) (Refused rules m) (located_up_to rules m)
unfolding located_up_to
located_reads rules m = ends_check (leb (length m) most_octets) _ (λ e _. too_long m (omega (arith, leb-false (length m) most_octets e))) λ _. first_reads rules m

-- The theorems

pub strings_stand : (rules : Rules) (m : List ℕ) (v : Message Text) (n : ℕ) → located_up_to rules m ≡ got v n → Laid m 0 (length m) (strings v)
strings_stand rules m v n e = the_held {P = λ v n. Laid m 0 (length m) (strings v)} {n = n} (rw e at (located_reads rules m))

pub strings_sit : (rules : Rules) (m : List ℕ) (v : Message Text) (n : ℕ) → located_up_to rules m ≡ got v n → Every (Sits m) (strings v)
unfolding Sits
strings_sit rules m v n e = laid_each (λ s h. here_within (stands_here s h)) (strings_stand rules m v n e)

pub fault_placed : (rules : Rules) → 8 ≤ rules.limit → (m : List ℕ) (f : Fault) → located_up_to rules m ≡ bad f → RefusedFor m f
fault_placed rules big m f e = the_failed {Q = Refused rules m} (rw e at (located_reads rules m)) big

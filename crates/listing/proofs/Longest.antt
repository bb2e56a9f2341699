-- No listing of a message's reading has more than 1,153 octets: by the widths of its fields. Assumes nothing.
use Rattle.std.specs.Prelude.{Option as Optional, None}
use Prim.Native.Nat.{ℕ, suc, ◌+◌, ◌-◌, ◌*◌, ◌≤◌, ◌<◌}
use native.Mathlib.Omega.{arith}
use mathlib.Core.Path.{◌≡◌, refl, ap}
use mathlib.Core.Bool.{Bool, true, false, and-eq-true_iff}
use mathlib.Core.List.{List, [], ◌∷◌, ◌++◌, map}
use mathlib.Core.Option
use mathlib.Core.Option.{Option, none, some}
use lib.ListN.{length, take, drop, replicate, length-append, length-map, length-take}
use lib.Seq.{take_at}
use lib.Dec.{leb}
use lib.IntN.{ℤ}
use borrow.Author.Tests.{leb-true}
use Rattle.base.specs.Number.{top_of, holds}
use Rattle.base.specs.Text.{text}
use Rattle.base.specs.Value.{Every, Maybe}
use Rattle.base.proofs.Numbers.{holds_small}
use Rattle.base.proofs.Values.{every_parts}
use Rattle.primitive.specs.Primitive.{between, most_identifier_octets, identifier_ok, numbers}
use Rattle.element.specs.Fault.{number_of, Text, Owner, portion, dialogue, component, Fault, fault}
use Rattle.element.specs.Ask.{Got, got, bad, check}
use Rattle.tcap.specs.declared.{OrigTransactionId.OrigTransactionId, DestTransactionId.DestTransactionId, Problem.Problem, Dialogue.Dialogue as DialogueField, MessageKind.MessageKind, ComponentKind.ComponentKind, Answer.Answer, Ground.Ground}
use Rattle.tcap.specs.Meaning.{Originating, orig, Destination, dest, Code, local, global, Component, invoke, last, not_last, error, reject, Dialogue, request, unidialogue, response, aborted, single, octets, Ending, silent, cause, says, Message, unidirectional, begin, finish, continue, abort}
use Rattle.tcap.specs.WellFormed.{Rules, most_octets, most_components, most_transaction_id_octets, most_cause, most_general_problem, most_invoke_problem, most_result_problem, most_error_problem, the93, id_ok, InvokeIdOk, CodeOk, ProblemOk, ComponentOk, ComponentsOk, BothOk, EndingOk, OrigOk, DestOk, WellFormedUpTo}
use Rattle.tcap.specs.Record.{span_of, span_field, orig_field, dest_field, id_field, linked_field, code_field, both_field, row_of, dialogue_field, ending_field, portion_field, blank_row, record_from, record_of}
use Rattle.tcap.specs.Reading.{located_up_to, ground_of, by_owner, answer_for, refusal_of, answered, reading_up_to, reading}
use Rattle.tcap.proofs.Strings.{octets_of, code_as, both_as, component_as, ending_as, orig_as, dest_as, forget, Strings, option_strings, whole, series_strings, code_strings, both_strings, component_strings, dialogue_strings, orig_strings, dest_strings, rest_strings, strings}
use Rattle.tcap.proofs.Records.{Sits}
use Rattle.tcap.proofs.FaultPlaces.{OwnerOk, place_of}
use Rattle.tcap.proofs.Places.{strings_sit, fault_placed}
use Rattle.tcap.proofs.Refusals.{numbered}
use Rattle.tcap.proofs.Promises.{located_reads}
use Rattle.digits.specs.Digits.{decimal, signed, number, value}
use Rattle.digits.proofs.Digits.{tens, decimal_few, signed_few, hex_length}
use Rattle.listing_fields.specs.Fields.{kind_text, dialogue_text, word_text, id_or, id_text, linked_text, place_text, parameter_text, problem_of, problem_text, answer_text, string_text, transaction_text, orig_text, dest_text, ids_text, code_text}
use Rattle.listing_lines.specs.Lines.{refusal_text, reject_text, coded_text, returned_text, parts_text, row_text, rows_text, head_text}
use Rattle.listing.specs.Listing.{record_text, listing_of}

-- 49 for the first line, 69 for each of 16 components; a refusal has less
abbrev pub longest_listing : ℕ
longest_listing = 1153

-- a text of at most n octets
record Within (n : ℕ) (s : List ℕ) : Type 0 where
  pub most : length s ≤ n

infixl 5 ◌and◌
◌and◌ : {a b : ℕ} {s t : List ℕ} → Within a s → Within b t → Within (a + b) (s ++ t)
◌and◌ {a} {b} {s} {t} h k = record { most = omega (arith, length-append s t, h.most, k.most) }

wider : {a : ℕ} {s : List ℕ} → Within a s → (b : ℕ) → a ≤ b → Within b s
wider h b l = record { most = omega (arith, h.most, l) }

word : (s : List ℕ) → Within (length s) s
word s = record { most = omega arith }

-- Numbers of one, two and three digits, and behind a space

one_digit : (n : ℕ) → n < 10 → Within 1 (decimal n)
unfolding tens
one_digit n h = record { most = decimal_few 0 n h }

two_digits : (n : ℕ) → n < 100 → Within 2 (decimal n)
unfolding tens
two_digits n h = record { most = decimal_few 1 n h }

three_digits : (n : ℕ) → n < 1000 → Within 3 (decimal n)
unfolding tens
three_digits n h = record { most = decimal_few 2 n h }

spaced : (n : ℕ) {a : ℕ} → Within a (decimal n) → Within (1 + a) (number n)
unfolding number
spaced n h = word (text " ") and h

-- -128 to 127, and 32 bits
id_value : (z : ℤ) → holds 1 z ≡ true → Within 5 (value z)
unfolding value tens top_of
id_value z h = word (text " ") and (record { most = signed_few 2 z (omega (arith, holds_small 1 z h)) })

code_signed : (z : ℤ) → holds 4 z ≡ true → Within 11 (signed z)
unfolding tens top_of
code_signed z h = record { most = signed_few 9 z (omega (arith, holds_small 4 z h)) }

-- A component

id_few : (i : Option ℤ) → Maybe InvokeIdOk i → Within 5 (id_text (id_field i))
unfolding id_or
id_few none h = word (text " null")
id_few (some i) h = id_value i h

linked_few : (l : Option ℤ) → Maybe InvokeIdOk l → Within 5 (linked_text (linked_field l))
unfolding id_or
linked_few none h = wider (word (text " -")) 5 (omega arith)
linked_few (some i) h = id_value i h

problem_by : (t n : ℕ) → t < 10 → n < 10 → Within 12 (problem_of t n)
unfolding problem_of
problem_by t n h k = word (text " problem:") and one_digit t h and word (text ":") and one_digit n k

problem_few : (q : Problem) → ProblemOk q → Within 12 (problem_text q)
unfolding problem_text
problem_few (Problem.General n) h = problem_by 0 n (omega arith) (omega (arith, leb-true n most_general_problem h))
problem_few (Problem.OfInvoke n) h = problem_by 1 n (omega arith) (omega (arith, leb-true n most_invoke_problem h))
problem_few (Problem.OfResult n) h = problem_by 2 n (omega arith) (omega (arith, leb-true n most_result_problem h))
problem_few (Problem.OfError n) h = problem_by 3 n (omega arith) (omega (arith, leb-true n most_error_problem h))

reject_few : (q : Problem) → ProblemOk q → Within 16 (reject_text q)
unfolding reject_text
reject_few q h = word (text " -") and problem_few q h and word (text " -")

word_few : (k : ComponentKind) → Within 8 (word_text k)
unfolding word_text
word_few (ComponentKind.Invoke l c p) = wider (word (text " invoke")) 8 (omega arith)
word_few (ComponentKind.ResultLast r) = wider (word (text " last")) 8 (omega arith)
word_few (ComponentKind.ReturnError c p) = wider (word (text " error")) 8 (omega arith)
word_few (ComponentKind.Reject q) = wider (word (text " reject")) 8 (omega arith)
word_few (ComponentKind.ResultNotLast r) = word (text " notlast")

kind_few : (k : MessageKind) → Within 14 (kind_text k)
unfolding kind_text
kind_few MessageKind.Unidirectional = word (text "unidirectional")
kind_few MessageKind.Begin = wider (word (text "begin")) 14 (omega arith)
kind_few MessageKind.End = wider (word (text "end")) 14 (omega arith)
kind_few MessageKind.Continue = wider (word (text "continue")) 14 (omega arith)
kind_few MessageKind.Abort = wider (word (text "abort")) 14 (omega arith)

dialogue_few : (d : Dialogue Text) → Within 9 (dialogue_text (dialogue_field d))
unfolding dialogue_text
dialogue_few (request n u) = wider (word (text " request")) 9 (omega arith)
dialogue_few (unidialogue n u) = wider (word (text " uni")) 9 (omega arith)
dialogue_few (response n r s u) = word (text " response")
dialogue_few (aborted r u) = wider (word (text " abort")) 9 (omega arith)
dialogue_few (single n e) = wider (word (text " other")) 9 (omega arith)
dialogue_few (octets n c) = wider (word (text " other")) 9 (omega arith)

no_dialogue_lem : Within 9 (dialogue_text DialogueField.NoDialogue)
unfolding dialogue_text
no_dialogue_lem = wider (word (text " none")) 9 (omega arith)

portion_few : (d : Option (Dialogue Text)) → Within 9 (dialogue_text (portion_field d))
portion_few none = no_dialogue_lem
portion_few (some d) = dialogue_few d

ending_few : (rules : Rules) (e : Ending Text) → EndingOk rules (ending_as octets_of e) → Within 9 (dialogue_text (ending_field e))
unfolding dialogue_text
ending_few rules silent h = no_dialogue_lem
ending_few rules (cause n) h = wider (word (text " cause:") and one_digit n (omega (arith, leb-true n most_cause h))) 9 (omega arith)
ending_few rules (says d) h = dialogue_few d

-- octets of the message, in hex
string_few : (m : List ℕ) (t : Text) (n : ℕ) → length t.1 ≤ n → Within (2 * n) (string_text m (span_of t))
unfolding string_text
string_few m t n h = record { most = omega (arith, h, hex_length (take (length t.1) (drop t.0 m)), length-take (length t.1) (drop t.0 m)) }

between_most : (a b : ℕ) (c : List ℕ) → between a b c ≡ true → length c ≤ b
between_most a b c h = leb-true (length c) b ((and-eq-true_iff (leb a (length c)) (leb (length c) b)).0 h).1

module _ (m : List ℕ) (short : length m ≤ most_octets) where
  abbrev AllSit : Strings → Type 0
  AllSit l = Every (Sits m) l

  code_few : (c : Code Text) → CodeOk (code_as octets_of c) → Within 40 (code_text m (code_field c))
  unfolding code_text identifier_ok
  code_few (local z) h = wider (word (text " local:") and code_signed z h) 40 (omega arith)
  code_few (global t) h = word (text " global:") and string_few m t most_identifier_octets (between_most 1 most_identifier_octets t.1 ((and-eq-true_iff (between 1 most_identifier_octets t.1) (numbers t.1 true)).0 h).0)

  place_few : (t : Text) → AllSit (whole t) → Within 8 (place_text (span_of t))
  unfolding place_text Every Sits
  place_few t s = spaced t.0 (three_digits t.0 (omega (arith, s.0.0))) and word (text "+") and three_digits (length t.1) (omega (arith, s.0.0))

  parameter_few : (u : Option Text) → AllSit (option_strings whole u) → Within 8 (parameter_text (span_field u))
  unfolding parameter_text
  parameter_few none s = wider (word (text " -")) 8 (omega arith)
  parameter_few (some t) s = place_few t s

  coded_few : (l : Option ℤ) (c : Code Text) (p : Option Text) → Maybe InvokeIdOk l → CodeOk (code_as octets_of c) → AllSit (code_strings c ++ option_strings whole p) → Within 53 (coded_text m (linked_field l) (code_field c) (span_field p))
  unfolding coded_text
  coded_few l c p i h s = let (a, b) = every_parts (Sits m) (code_strings c) (option_strings whole p) s in linked_few l i and code_few c h and parameter_few p b

  returned_few : (rules : Rules) (r : Option (Code Text × Text)) → Maybe (BothOk rules) (Option.map (both_as octets_of) r) → AllSit (option_strings both_strings r) → Within 53 (returned_text m (both_field r))
  unfolding returned_text
  returned_few rules none h s = wider (word (text " - - -")) 53 (omega arith)
  returned_few rules (some (c, t)) h s = coded_few none c (some t) tt h.0 s

  parts_few : (rules : Rules) (c : Component Text) → ComponentOk rules (component_as octets_of c) → AllSit (component_strings c) → Within 53 (parts_text m (row_of c).kind)
  unfolding parts_text ComponentOk
  parts_few rules (invoke i l c p) h s = coded_few l c p h.1 h.2 s
  parts_few rules (last i r) h s = returned_few rules r h.1 s
  parts_few rules (not_last i r) h s = returned_few rules r h.1 s
  parts_few rules (error i c p) h s = coded_few none c p tt h.1 s
  parts_few rules (reject i q) h s = wider (reject_few q h.1) 53 (omega arith)

  invoked_few : (rules : Rules) (c : Component Text) → ComponentOk rules (component_as octets_of c) → Within 5 (id_text (row_of c).id)
  unfolding ComponentOk
  invoked_few rules (invoke i l c p) h = id_few (some i) h.0
  invoked_few rules (last i r) h = id_few (some i) h.0
  invoked_few rules (not_last i r) h = id_few (some i) h.0
  invoked_few rules (error i c p) h = id_few (some i) h.0
  invoked_few rules (reject i q) h = id_few i h.0

  row_few : (rules : Rules) (i : ℕ) (c : Component Text) → i < most_components → ComponentOk rules (component_as octets_of c) → AllSit (component_strings c) → Within 69 (row_text m i (row_of c))
  unfolding row_text
  row_few rules i c l h s = two_digits i (omega arith) and word_few (row_of c).kind and invoked_few rules c h and parts_few rules c h s and word (text "\n")

  rows_few : (rules : Rules) (i : ℕ) (cs : List (Component Text)) → i + length cs ≤ most_components → Every (ComponentOk rules) (map (component_as octets_of) cs) → AllSit (series_strings component_strings cs) → length (rows_text m i (map row_of cs)) ≤ 69 * length cs
  unfolding rows_text Every series_strings
  rows_few rules i [] l h s = omega arith
  rows_few rules i (c ∷ cs) l h s =
      let (a, b) = every_parts (Sits m) (component_strings c) (series_strings component_strings cs) s in
      omega (arith, length-append (row_text m i (row_of c)) (rows_text m (suc i) (map row_of cs)), (row_few rules i c (omega (arith, l)) h.0 a).most, rows_few rules (suc i) cs (omega (arith, l)) h.1 b)

  -- The first line

  orig_few : (o : Originating Text) → OrigOk (orig_as octets_of o) → Within 9 (orig_text m (orig_field o))
  unfolding orig_text transaction_text id_ok
  orig_few (orig t) h = word (text " ") and string_few m t most_transaction_id_octets (between_most 1 most_transaction_id_octets t.1 h)

  dest_few : (e : Destination Text) → DestOk (dest_as octets_of e) → Within 9 (dest_text m (dest_field e))
  unfolding dest_text transaction_text id_ok
  dest_few (dest t) h = word (text " ") and string_few m t most_transaction_id_octets (between_most 1 most_transaction_id_octets t.1 h)

  no_orig_lem : Within 9 (orig_text m None)
  unfolding orig_text
  no_orig_lem = wider (word (text " -")) 9 (omega arith)

  no_dest_lem : Within 9 (dest_text m None)
  unfolding dest_text
  no_dest_lem = wider (word (text " -")) 9 (omega arith)

  from_few : (rules : Rules) (k : MessageKind) (o : Optional OrigTransactionId) (e : Optional DestTransactionId) (d : DialogueField) (cs : List (Component Text)) → Within 9 (orig_text m o) → Within 9 (dest_text m e) → Within 9 (dialogue_text d) → ComponentsOk rules (map (component_as octets_of) cs) → AllSit (series_strings component_strings cs) → length (record_text m (record_from k o e d cs)) ≤ longest_listing
  unfolding record_text head_text ids_text
  from_few rules k o e d cs a b c w s =
      let few : length cs ≤ most_components = omega (arith, w.0, length-map cs (component_as octets_of)) in
      let first : Within 49 (head_text m (record_from k o e d cs)) = kind_few k and spaced (length m) (three_digits (length m) (omega (arith, short))) and (a and b) and c and spaced (length cs) (two_digits (length cs) (omega arith)) and word (text "\n") in
      let lines = rows_few rules 0 cs (omega (arith, few)) w.1 s in
      rw (take_at (map row_of cs) (replicate (most_components - length cs) blank_row) (length cs) (length-map cs row_of)) (omega (arith, first.most, lines, few, length-append (head_text m (record_from k o e d cs)) (rows_text m 0 (map row_of cs))))

  record_few : (rules : Rules) (v : Message Text) → WellFormedUpTo rules (forget v) → AllSit (strings v) → length (record_text m (record_of v)) ≤ longest_listing
  unfolding WellFormedUpTo record_of series_strings Every
  record_few rules (unidirectional d cs) w s =
      let (a, b) = every_parts (Sits m) (option_strings dialogue_strings d) (series_strings component_strings cs) s in
      from_few rules MessageKind.Unidirectional None None (portion_field d) cs no_orig_lem no_dest_lem (portion_few d) w.2 b
  record_few rules (begin o d cs) w s =
      let (i, r) = every_parts (Sits m) (orig_strings o) (rest_strings d cs) s in
      let (a, b) = every_parts (Sits m) (option_strings dialogue_strings d) (series_strings component_strings cs) r in
      from_few rules MessageKind.Begin (orig_field o) None (portion_field d) cs (orig_few o w.0) no_dest_lem (portion_few d) w.2 b
  record_few rules (finish e d cs) w s =
      let (i, r) = every_parts (Sits m) (dest_strings e) (rest_strings d cs) s in
      let (a, b) = every_parts (Sits m) (option_strings dialogue_strings d) (series_strings component_strings cs) r in
      from_few rules MessageKind.End None (dest_field e) (portion_field d) cs no_orig_lem (dest_few e w.0) (portion_few d) w.2 b
  record_few rules (continue o e d cs) w s =
      let (i, q) = every_parts (Sits m) (orig_strings o) (dest_strings e ++ rest_strings d cs) s in
      let (j, r) = every_parts (Sits m) (dest_strings e) (rest_strings d cs) q in
      let (a, b) = every_parts (Sits m) (option_strings dialogue_strings d) (series_strings component_strings cs) r in
      from_few rules MessageKind.Continue (orig_field o) (dest_field e) (portion_field d) cs (orig_few o w.0) (dest_few e w.1) (portion_few d) w.3 b
  record_few rules (abort e q) w s = from_few rules MessageKind.Abort None (dest_field e) (ending_field q) [] no_orig_lem (dest_few e w.0) (ending_few rules q w.1) (omega arith, tt) tt

-- A refusal: its place is at most 255, its component below 16

cause_few : (n : ℕ) → n < 10 → Within 23 (answer_text (Answer.AbortCause n))
unfolding answer_text
cause_few n h = wider (word (text " cause") and spaced n (one_digit n h)) 23 (omega arith)

answered_few : (n k : ℕ) (i : Optional ℤ) → n < 10 → k < most_components → Within 23 (answer_text (Answer.RejectProblem n k i))
unfolding answer_text
answered_few n k i h l = word (text " problem") and spaced n (one_digit n h) and word (text " component") and spaced k (two_digits k (omega arith))

owner_few : (x y : ℕ) (o : Owner) (i : Option ℤ) → x < 10 → y < 10 → OwnerOk o → Within 23 (answer_text (by_owner x y o i))
unfolding by_owner
owner_few x y portion i p c k = cause_few y c
owner_few x y dialogue i p c k = cause_few 3 (omega arith)
owner_few x y (component n) i p c k = answered_few x n (id_field i) p k

answer_few : (g : Ground) (o : Owner) (i : Option ℤ) → OwnerOk o → Within 23 (answer_text (answer_for g o i))
unfolding answer_for
answer_few Ground.UnknownMessage o i k = cause_few 0 (omega arith)
answer_few Ground.TooManyComponents o i k = cause_few 4 (omega arith)
answer_few Ground.UnknownComponent o i k = owner_few 0 2 o i (omega arith) (omega arith) k
answer_few Ground.WrongPart o i k = owner_few 1 3 o i (omega arith) (omega arith) k
answer_few Ground.BadForm o i k = owner_few 2 2 o i (omega arith) (omega arith) k

same_place : (f g : Fault) → ◌≡◌ {A = Got (Message Text)} (bad f) (bad g) → place_of f ≡ place_of g
same_place f g e = let z : f ≡ g = cc in ap place_of z

place_most : (m : List ℕ) (f : Fault) → located_up_to the93 m ≡ bad f → place_of f ≤ most_octets
unfolding located_up_to check
place_most m f h = by (leb (length m) most_octets) refl
  where
    by : (b : Bool) → leb (length m) most_octets ≡ b → place_of f ≤ most_octets
    by true e = omega (arith, (fault_placed the93 (omega arith) m f h).place, leb-true (length m) most_octets e)
    by false e = omega (arith, same_place _ f (rw e at h))

refusal_few : (m : List ℕ) (f : Fault) → located_up_to the93 m ≡ bad f → length (refusal_text (refusal_of f)) ≤ longest_listing
unfolding refusal_text refusal_of
refusal_few m (fault k p o i t) h =
    let n = number_of k in
    let l = word (text "refused") and spaced n (two_digits n (omega (arith, (numbered k).1))) and spaced p (three_digits p (omega (arith, place_most m (fault k p o i t) h))) and answer_few (ground_of k) o i (fault_placed the93 (omega arith) m (fault k p o i t) h).owner and word (text "\n") in
    omega (arith, l.most)

by_located : (m : List ℕ) (x : Got (Message Text)) → located_up_to the93 m ≡ x → length (listing_of m (answered x)) ≤ longest_listing
unfolding answered listing_of
by_located m (got v n) e = let r = located_reads the93 (omega arith) m v n e in record_few m r.short the93 v r.fine (strings_sit the93 m v n e)
by_located m (bad f) e = refusal_few m f e

-- for every octet string, of whatever length
pub listing_most : (m : List ℕ) → length (listing_of m (reading m)) ≤ longest_listing
unfolding reading reading_up_to
listing_most m = by_located m (located_up_to the93 m) refl

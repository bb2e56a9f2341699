-- Why a record may not be written over the material beside it: document 01, "Writing", each number over the whole record before the next.
-- Assumes nothing: these are definitions.
use Rattle.std.specs.Prelude.{ℤ}
use Rattle.tcap.specs.declared.DestTransactionId.{DestTransactionId}
use Rattle.tcap.specs.declared.OrigTransactionId.{OrigTransactionId}
use Rattle.std.specs.Prelude.{Option as Optional, Some, None}
use Rattle.std.specs.Prelude.{ℕ, ◌+◌}
use mathlib.Core.{Bool.Bool, Bool.true, Bool.false, Bool.not, Bool.◌&&◌, List.List, List.[], List.◌∷◌}
use lib.{ListN.length, ListN.take, ListN.drop, Dec.leb, Dec.eqb}
use Rattle.base.specs.{Value.same}
use Rattle.primitive.specs.{Primitive.identifier_ok, Primitive.most_identifier_octets}
use Rattle.element.specs.{declared.Walk.Walk, Answers.element_walk, Answers.series_walk}
use Rattle.tcap.specs.{declared.Span.Span, declared.Code.Code, declared.Problem.Problem, declared.Diagnostic.Diagnostic, declared.ComponentKind.ComponentKind, declared.Row.Row, declared.Dialogue.Dialogue, declared.MessageKind.MessageKind, declared.Record.Record, Meaning.structured, Meaning.unstructured, WellFormed.most_components, WellFormed.the93, WellFormed.left_at}
use Rattle.tcap.specs.WellFormed.{most_transaction_id_octets, most_general_problem, most_invoke_problem, most_result_problem, most_error_problem, most_cause, most_result, most_user_diagnostic, most_provider_diagnostic, most_abort_source}

-- every row that counts; with a count above 16 that is all 16
unfoldable pub every : (Row → Bool) → List Row → Bool
every f [] = true
every f (r ∷ rs) = f r && every f rs

abbrev pub counted : Record → List Row
counted r = take r.count r.rows

-- 24: a part that its kind lacks or may not have

unfoldable pub orig_there : Optional OrigTransactionId → Bool
orig_there None = false
orig_there (Some o) = true

unfoldable pub dest_there : Optional DestTransactionId → Bool
dest_there None = false
dest_there (Some e) = true

unfoldable pub cause_there : Dialogue → Bool
cause_there Dialogue.NoDialogue = false
cause_there (Dialogue.Cause n) = true
cause_there (Dialogue.Request n u) = false
cause_there (Dialogue.Response n r s u) = false
cause_there (Dialogue.DialogueAbort r u) = false
cause_there (Dialogue.Unidialogue n u) = false
cause_there (Dialogue.OutsideElement n e) = false
cause_there (Dialogue.OutsideOctets n c) = false

-- originating ID, destination ID, P-Abort cause, number of components
unfoldable pub parts_fit : MessageKind → Bool → Bool → Bool → ℕ → Bool
parts_fit MessageKind.Unidirectional o e c n = not o && (not e && (not c && leb 1 n))
parts_fit MessageKind.Begin o e c n = o && (not e && not c)
parts_fit MessageKind.End o e c n = not o && (e && not c)
parts_fit MessageKind.Continue o e c n = o && (e && not c)
parts_fit MessageKind.Abort o e c n = not o && (e && eqb n 0)

-- null is for a Reject alone
unfoldable pub id_there : Optional ℤ → Bool
id_there None = false
id_there (Some i) = true

unfoldable pub row_parts_fit : Optional ℤ → ComponentKind → Bool
row_parts_fit i (ComponentKind.Invoke l c p) = id_there i
row_parts_fit i (ComponentKind.ResultLast r) = id_there i
row_parts_fit i (ComponentKind.ResultNotLast r) = id_there i
row_parts_fit i (ComponentKind.ReturnError c p) = id_there i
row_parts_fit i (ComponentKind.Reject q) = true

unfoldable pub all_parts : Record → Bool
all_parts r = parts_fit r.kind (orig_there r.orig) (dest_there r.dest) (cause_there r.dialogue) r.count && every (λ w. row_parts_fit w.id w.kind) (counted r)

-- 23: a count, a value, or the length of an ID or identifier out of its range

unfoldable pub ranges : ℕ → ℕ → ℕ → Bool
ranges a b n = leb a n && leb n b

abbrev pub id_ranges : Span → Bool
id_ranges s = ranges 1 most_transaction_id_octets s.len

abbrev pub name_ranges : Span → Bool
name_ranges s = ranges 1 most_identifier_octets s.len

unfoldable pub orig_ranges : Optional OrigTransactionId → Bool
orig_ranges None = true
orig_ranges (Some o) = id_ranges o.0.octets

unfoldable pub dest_ranges : Optional DestTransactionId → Bool
dest_ranges None = true
dest_ranges (Some e) = id_ranges e.0.octets

-- a local code of 32 bits, and an invoke ID of 8, are always in range
unfoldable pub code_ranges : Code → Bool
code_ranges (Code.Local z) = true
code_ranges (Code.Global s) = name_ranges s

unfoldable pub problem_ranges : Problem → Bool
problem_ranges (Problem.General n) = leb n most_general_problem
problem_ranges (Problem.OfInvoke n) = leb n most_invoke_problem
problem_ranges (Problem.OfResult n) = leb n most_result_problem
problem_ranges (Problem.OfError n) = leb n most_error_problem

unfoldable pub returned_ranges : Optional (Code × Span) → Bool
returned_ranges None = true
returned_ranges (Some (c, p)) = code_ranges c

unfoldable pub row_ranges : ComponentKind → Bool
row_ranges (ComponentKind.Invoke l c p) = code_ranges c
row_ranges (ComponentKind.ResultLast r) = returned_ranges r
row_ranges (ComponentKind.ResultNotLast r) = returned_ranges r
row_ranges (ComponentKind.ReturnError c p) = code_ranges c
row_ranges (ComponentKind.Reject q) = problem_ranges q

unfoldable pub source_ranges : Diagnostic → Bool
source_ranges (Diagnostic.ByUser n) = leb n most_user_diagnostic
source_ranges (Diagnostic.ByProvider n) = leb n most_provider_diagnostic

unfoldable pub dialogue_ranges : Dialogue → Bool
dialogue_ranges Dialogue.NoDialogue = true
dialogue_ranges (Dialogue.Cause n) = leb n most_cause
dialogue_ranges (Dialogue.Request n u) = name_ranges n
dialogue_ranges (Dialogue.Response n r s u) = name_ranges n && (leb r most_result && source_ranges s)
dialogue_ranges (Dialogue.DialogueAbort r u) = leb r most_abort_source
dialogue_ranges (Dialogue.Unidialogue n u) = name_ranges n
dialogue_ranges (Dialogue.OutsideElement n e) = name_ranges n
dialogue_ranges (Dialogue.OutsideOctets n c) = name_ranges n

unfoldable pub all_ranges : Record → Bool
all_ranges r = leb r.count most_components && (orig_ranges r.orig && (dest_ranges r.dest && (dialogue_ranges r.dialogue && every (λ w. row_ranges w.kind) (counted r))))

-- 21: a place plus length past the end of the material, which has `end` octets

module _ (end : ℕ) where
  unfoldable pub lies : Span → Bool
  lies s = leb (s.place + s.len) end

  unfoldable pub option_lies : Optional Span → Bool
  option_lies None = true
  option_lies (Some s) = lies s

  unfoldable pub orig_lies : Optional OrigTransactionId → Bool
  orig_lies None = true
  orig_lies (Some o) = lies o.0.octets

  unfoldable pub dest_lies : Optional DestTransactionId → Bool
  dest_lies None = true
  dest_lies (Some e) = lies e.0.octets

  unfoldable pub code_lies : Code → Bool
  code_lies (Code.Local z) = true
  code_lies (Code.Global s) = lies s

  unfoldable pub returned_lies : Optional (Code × Span) → Bool
  returned_lies None = true
  returned_lies (Some (c, p)) = code_lies c && lies p

  unfoldable pub row_lies : ComponentKind → Bool
  row_lies (ComponentKind.Invoke l c p) = code_lies c && option_lies p
  row_lies (ComponentKind.ResultLast r) = returned_lies r
  row_lies (ComponentKind.ResultNotLast r) = returned_lies r
  row_lies (ComponentKind.ReturnError c p) = code_lies c && option_lies p
  row_lies (ComponentKind.Reject q) = true

  unfoldable pub dialogue_lies : Dialogue → Bool
  dialogue_lies Dialogue.NoDialogue = true
  dialogue_lies (Dialogue.Cause n) = true
  dialogue_lies (Dialogue.Request n u) = lies n && option_lies u
  dialogue_lies (Dialogue.Response n r s u) = lies n && option_lies u
  dialogue_lies (Dialogue.DialogueAbort r u) = option_lies u
  dialogue_lies (Dialogue.Unidialogue n u) = lies n && option_lies u
  dialogue_lies (Dialogue.OutsideElement n e) = lies n && lies e
  dialogue_lies (Dialogue.OutsideOctets n c) = lies n && lies c

  unfoldable pub all_lie : Record → Bool
  all_lie r = orig_lies r.orig && (dest_lies r.dest && (dialogue_lies r.dialogue && every (λ w. row_lies w.kind) (counted r)))

-- 22: an identifier malformed, octets that are not the one element (or series of 28) wanted at that level, an outside name equal to one of the two

-- a walk that took all there is
unfoldable pub took_all : Walk → ℕ → Bool
took_all (Walk.Whole n) k = eqb n k
took_all (Walk.Fault f p) k = false

-- one element, and a series of 28, with so many levels left
unfoldable pub is_element : ℕ → List ℕ → Bool
is_element l c = took_all (element_walk 0 l 0 c) (length c)

unfoldable pub is_series : ℕ → List ℕ → Bool
is_series l c = took_all (series_walk 0x28 l true 0 c) (length c)

module _ (m : List ℕ) where
  -- the octets of a string
  unfoldable pub string_octets : Span → List ℕ
  string_octets s = take s.len (drop s.place m)

  -- how deep: a parameter stands at level 4, in a result at level 5, the element of an outside name at level 5, a 28 at level 7
  abbrev pub element_at : ℕ → Span → Bool
  element_at level s = is_element (left_at the93 level) (string_octets s)

  unfoldable pub parameter_shaped : Optional Span → Bool
  parameter_shaped None = true
  parameter_shaped (Some s) = element_at 4 s

  unfoldable pub info_shaped : Optional Span → Bool
  info_shaped None = true
  info_shaped (Some s) = is_series (left_at the93 7) (string_octets s)

  abbrev pub name_shaped : Span → Bool
  name_shaped s = identifier_ok (string_octets s)

  abbrev pub outside_shaped : Span → Bool
  outside_shaped s = identifier_ok (string_octets s) && (not (same structured (string_octets s)) && not (same unstructured (string_octets s)))

  unfoldable pub code_shaped : Code → Bool
  code_shaped (Code.Local z) = true
  code_shaped (Code.Global s) = name_shaped s

  unfoldable pub returned_shaped : Optional (Code × Span) → Bool
  returned_shaped None = true
  returned_shaped (Some (c, p)) = code_shaped c && element_at 5 p

  unfoldable pub row_shaped : ComponentKind → Bool
  row_shaped (ComponentKind.Invoke l c p) = code_shaped c && parameter_shaped p
  row_shaped (ComponentKind.ResultLast r) = returned_shaped r
  row_shaped (ComponentKind.ResultNotLast r) = returned_shaped r
  row_shaped (ComponentKind.ReturnError c p) = code_shaped c && parameter_shaped p
  row_shaped (ComponentKind.Reject q) = true

  unfoldable pub dialogue_shaped : Dialogue → Bool
  dialogue_shaped Dialogue.NoDialogue = true
  dialogue_shaped (Dialogue.Cause n) = true
  dialogue_shaped (Dialogue.Request n u) = name_shaped n && info_shaped u
  dialogue_shaped (Dialogue.Response n r s u) = name_shaped n && info_shaped u
  dialogue_shaped (Dialogue.DialogueAbort r u) = info_shaped u
  dialogue_shaped (Dialogue.Unidialogue n u) = name_shaped n && info_shaped u
  dialogue_shaped (Dialogue.OutsideElement n e) = outside_shaped n && element_at 5 e
  dialogue_shaped (Dialogue.OutsideOctets n c) = outside_shaped n

  unfoldable pub all_shaped : Record → Bool
  all_shaped r = dialogue_shaped r.dialogue && every (λ w. row_shaped w.kind) (counted r)

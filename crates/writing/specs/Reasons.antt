-- What can be wrong with a record over the material beside it, part by part: document 01, "Writing", 24, 23, 21 and 22. `writing` asks these of whole
-- records, in its own order; writing/proofs/Order says that it answers as these do. Assumes nothing: these are definitions.
use Rattle.tcap.specs.declared.DestTransactionId.{DestTransactionId}
use Rattle.tcap.specs.declared.OrigTransactionId.{OrigTransactionId}
use Rattle.std.specs.Prelude.{Option as Optional, Some, None}
use Rattle.std.specs.Prelude.{ℕ, ◌+◌, ◌<◌}
use mathlib.Core.{Path.◌≡◌, Logic.◌⊎◌, Bool.Bool, Bool.true, Bool.false, Bool.not, List.List, List.[], List.◌∷◌, List.◌++◌}
use lib.{ListN.length, ListN.take, ListN.drop, Dec.eqb, IntN.ℤ}
use Rattle.base.specs.{Number.holds}
use Rattle.primitive.specs.{Primitive.identifier_ok, Primitive.most_integer_octets, Primitive.most_identifier_octets}
use Rattle.element.specs.{Element.Element, Element.SeriesOf}
use Rattle.tcap.specs.{declared.Span.Span, declared.Code.Code, declared.Problem.Problem, declared.Diagnostic.Diagnostic, declared.ComponentKind.ComponentKind, declared.Row.Row, declared.Dialogue.Dialogue, declared.MessageKind.MessageKind, declared.Record.Record, WellFormed.most_components, WellFormed.the93, WellFormed.left_at, WellFormed.Outside}
use Rattle.tcap.specs.WellFormed.{most_transaction_id_octets, most_general_problem, most_invoke_problem, most_result_problem, most_error_problem, most_cause, most_result, most_user_diagnostic, most_provider_diagnostic, most_abort_source}

-- what a kind must have, may have, may not have
pub data Need : Type 0 where
  must may never : Need

-- what a string's octets must be: a transaction ID's; an identifier; one that is neither of the two names; one element at a level; a series of 28; any
pub data Wanted : Type 0 where
  transaction identifier outside series anything : Wanted
  element : ℕ → Wanted

-- a part that is there or not; a number, and the most it may be; a signed number in so many octets; a string
pub data Part : Type 0 where
  there : Need → Bool → Part
  number : ℕ → ℕ → Part
  signed : ℕ → ℤ → Part
  string : Wanted → Span → Part

-- The parts of a record, in the order of a message

-- 48, 49, 4A, 6C; a 6B may stand in every kind
pub record Needs : Type 0 where
  pub orig : Need
  pub dest : Need
  pub cause : Need
  pub components : Need

unfoldable pub needs_of : MessageKind → Needs
needs_of MessageKind.Unidirectional = record { orig = never; dest = never; cause = never; components = must }
needs_of MessageKind.Begin = record { orig = must; dest = never; cause = never; components = may }
needs_of MessageKind.End = record { orig = never; dest = must; cause = never; components = may }
needs_of MessageKind.Continue = record { orig = must; dest = must; cause = never; components = may }
needs_of MessageKind.Abort = record { orig = never; dest = must; cause = may; components = never }

unfoldable pub orig_parts : Need → Optional OrigTransactionId → List Part
orig_parts n None = there n false ∷ []
orig_parts n (Some o) = there n true ∷ string transaction o.0.octets ∷ []

unfoldable pub dest_parts : Need → Optional DestTransactionId → List Part
dest_parts n None = there n false ∷ []
dest_parts n (Some e) = there n true ∷ string transaction e.0.octets ∷ []

unfoldable pub option_parts : Wanted → Optional Span → List Part
option_parts w None = []
option_parts w (Some s) = string w s ∷ []

unfoldable pub source_part : Diagnostic → Part
source_part (Diagnostic.ByUser n) = number n most_user_diagnostic
source_part (Diagnostic.ByProvider n) = number n most_provider_diagnostic

-- the cause stands in its place
unfoldable pub dialogue_parts : Need → Dialogue → List Part
dialogue_parts c Dialogue.NoDialogue = there c false ∷ []
dialogue_parts c (Dialogue.Cause n) = there c true ∷ number n most_cause ∷ []
dialogue_parts c (Dialogue.Request n u) = there c false ∷ string identifier n ∷ option_parts series u
dialogue_parts c (Dialogue.Unidialogue n u) = there c false ∷ string identifier n ∷ option_parts series u
dialogue_parts c (Dialogue.Response n r s u) = there c false ∷ string identifier n ∷ number r most_result ∷ source_part s ∷ option_parts series u
dialogue_parts c (Dialogue.DialogueAbort r u) = there c false ∷ number r most_abort_source ∷ option_parts series u
dialogue_parts c (Dialogue.OutsideElement n e) = there c false ∷ string outside n ∷ string (element 5) e ∷ []
dialogue_parts c (Dialogue.OutsideOctets n s) = there c false ∷ string outside n ∷ string anything s ∷ []

unfoldable pub id_parts : Need → Optional ℤ → List Part
id_parts n None = there n false ∷ []
id_parts n (Some i) = there n true ∷ signed 1 i ∷ []

unfoldable pub linked_parts : Optional ℤ → List Part
linked_parts None = []
linked_parts (Some i) = signed 1 i ∷ []

unfoldable pub code_part : Code → Part
code_part (Code.Local z) = signed most_integer_octets z
code_part (Code.Global s) = string identifier s

-- code and parameter, both or none: one alone, like a choice that does not exist, is in no record, and octets that hold it are no record (24)
unfoldable pub returned_parts : Optional (Code × Span) → List Part
returned_parts None = []
returned_parts (Some (c, p)) = code_part c ∷ string (element 5) p ∷ []

unfoldable pub problem_part : Problem → Part
problem_part (Problem.General n) = number n most_general_problem
problem_part (Problem.OfInvoke n) = number n most_invoke_problem
problem_part (Problem.OfResult n) = number n most_result_problem
problem_part (Problem.OfError n) = number n most_error_problem

-- null is for a Reject alone
unfoldable pub row_parts : Optional ℤ → ComponentKind → List Part
row_parts i (ComponentKind.Invoke l c p) = id_parts must i ++ (linked_parts l ++ (code_part c ∷ option_parts (element 4) p))
row_parts i (ComponentKind.ResultLast r) = id_parts must i ++ returned_parts r
row_parts i (ComponentKind.ResultNotLast r) = id_parts must i ++ returned_parts r
row_parts i (ComponentKind.ReturnError c p) = id_parts must i ++ (code_part c ∷ option_parts (element 4) p)
row_parts i (ComponentKind.Reject q) = id_parts may i ++ (problem_part q ∷ [])

unfoldable pub rows_parts : List Row → List Part
rows_parts [] = []
rows_parts (w ∷ rs) = row_parts w.id w.kind ++ rows_parts rs

-- rows that count; with a count above 16 all 16
unfoldable pub parts_of : Record → List Part
parts_of r =
    let n = needs_of r.kind in
    orig_parts n.orig r.orig
    ++ (dest_parts n.dest r.dest
    ++ (dialogue_parts n.cause r.dialogue
    ++ (there n.components (not (eqb r.count 0))
    ∷ (number r.count most_components
    ∷ rows_parts (take r.count r.rows)))))

-- What is wrong with a part

-- 24: its kind lacks it, or may not have it
unfoldable pub Misfit : Part → Type 0
Misfit (there must b) = b ≡ false
Misfit (there may b) = ⊥
Misfit (there never b) = b ≡ true
Misfit (number n most) = ⊥
Misfit (signed k z) = ⊥
Misfit (string w s) = ⊥

-- an ID and an identifier have a bound, and are not empty; other strings have no bound of their own
unfoldable pub LengthOff : Wanted → ℕ → Type 0
LengthOff transaction n = (n < 1) ⊎ (most_transaction_id_octets < n)
LengthOff identifier n = (n < 1) ⊎ (most_identifier_octets < n)
LengthOff outside n = (n < 1) ⊎ (most_identifier_octets < n)
LengthOff (element l) n = ⊥
LengthOff series n = ⊥
LengthOff anything n = ⊥

-- 23: a count, a value or a length out of its range; that of a signed number never is, for its type has just so many octets
unfoldable pub RangeOff : Part → Type 0
RangeOff (there n b) = ⊥
RangeOff (number n most) = most < n
RangeOff (signed k z) = holds k z ≡ false
RangeOff (string w s) = LengthOff w s.len

unfoldable pub Shaped : Wanted → List ℕ → Type 0
Shaped transaction c = Unit {0}
Shaped identifier c = identifier_ok c ≡ true
Shaped outside c = Outside c
Shaped (element l) c = Element (left_at the93 l) c
Shaped series c = SeriesOf 0x28 (left_at the93 7) c
Shaped anything c = Unit {0}

module _ (m : List ℕ) where
  -- 21: past the end of the material
  unfoldable pub EndOff : Part → Type 0
  EndOff (there n b) = ⊥
  EndOff (number n most) = ⊥
  EndOff (signed k z) = ⊥
  EndOff (string w s) = length m < s.place + s.len

  -- 22: octets of another shape
  unfoldable pub ShapeOff : Part → Type 0
  ShapeOff (there n b) = ⊥
  ShapeOff (number n most) = ⊥
  ShapeOff (signed k z) = ⊥
  ShapeOff (string w s) = Shaped w (take s.len (drop s.place m)) → ⊥

-- Of some part of the record

unfoldable pub Any : {A : Type 0} → (A → Type 0) → List A → Type 0
Any P [] = ⊥
Any P (a ∷ ws) = P a ⊎ Any P ws

abbrev pub SomePart : (Part → Type 0) → Record → Type 0
SomePart P r = Any P (parts_of r)

abbrev pub NoPart : (Part → Type 0) → Record → Type 0
NoPart P r = SomePart P r → ⊥

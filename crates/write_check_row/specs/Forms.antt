-- The form of each part of a record over the material beside it, line by line as `message_form` has it for a meaning; cited by inner contracts.
-- Assumes nothing: these are definitions.
use Rattle.std.specs.Prelude.{ℤ}
use Rattle.tcap.specs.declared.DestTransactionId.{DestTransactionId}
use Rattle.tcap.specs.declared.OrigTransactionId.{OrigTransactionId}
use Rattle.std.specs.Prelude.{Option as Optional, Some, None}
use Rattle.std.specs.Prelude.{ℕ}
use mathlib.Core.{List.List, List.[], List.◌∷◌}
use Rattle.element.specs.{Form.Form, Form.exactly, Form.then, Form.leaf, Form.around, Form.series_form, Form.shortest, Form.document01}
use Rattle.tcap.specs.{declared.Span.Span, declared.Code.Code, declared.ComponentKind.ComponentKind, declared.Row.Row, declared.Dialogue.Dialogue, declared.MessageKind.MessageKind, declared.Record.Record, Record.message_tag, Meaning.octet, Meaning.integer, Meaning.problem_form, Meaning.structured, Meaning.unstructured, Meaning.version_form, Meaning.context_form, Meaning.source_form, Meaning.external}
use Rattle.tcap.specs.Verdict.{string_octets, counted}
use Rattle.tcap.specs.Record.{row_tag}

unfoldable pub id_form : Optional ℤ → Form
id_form None = leaf 0x05 []
id_form (Some i) = integer 0x02 i

unfoldable pub linked_form : Optional ℤ → Form
linked_form None = exactly []
linked_form (Some i) = integer 0x80 i

module _ (m : List ℕ) where
  unfoldable pub code_form : Code → Form
  code_form (Code.Local z) = integer 0x02 z
  code_form (Code.Global s) = leaf 0x06 (string_octets m s)

  -- a whole element
  unfoldable pub parameter_form : Optional Span → Form
  parameter_form None = exactly []
  parameter_form (Some s) = exactly (string_octets m s)

  unfoldable pub returned_form : Optional (Code × Span) → Form
  returned_form None = exactly []
  returned_form (Some (c, p)) = around 0x30 (then (code_form c) (exactly (string_octets m p)))

  -- behind the invoke ID
  unfoldable pub rest_form : ComponentKind → Form
  rest_form (ComponentKind.Invoke l c p) = then (linked_form l) (then (code_form c) (parameter_form p))
  rest_form (ComponentKind.ResultLast r) = returned_form r
  rest_form (ComponentKind.ResultNotLast r) = returned_form r
  rest_form (ComponentKind.ReturnError c p) = then (code_form c) (parameter_form p)
  rest_form (ComponentKind.Reject q) = problem_form q

  unfoldable pub contents_form : Optional ℤ → ComponentKind → Form
  contents_form i (ComponentKind.Invoke l c p) = then (id_form i) (then (linked_form l) (then (code_form c) (parameter_form p)))
  contents_form i (ComponentKind.ResultLast r) = then (id_form i) (returned_form r)
  contents_form i (ComponentKind.ResultNotLast r) = then (id_form i) (returned_form r)
  contents_form i (ComponentKind.ReturnError c p) = then (id_form i) (then (code_form c) (parameter_form p))
  contents_form i (ComponentKind.Reject q) = then (id_form i) (problem_form q)

  unfoldable pub row_form : Row → Form
  row_form r = around (row_tag r.kind) (contents_form r.id r.kind)

  -- no component, no 6C
  unfoldable pub rows_form : List Row → Form
  rows_form [] = exactly []
  rows_form (r ∷ rs) = around 0x6C (series_form row_form (r ∷ rs))

  unfoldable pub info_form : Optional Span → Form
  info_form None = exactly []
  info_form (Some s) = around 0xBE (exactly (string_octets m s))

  -- A0 and 60 around the fields of a request or a unidialogue
  abbrev pub asked_form : Span → Optional Span → Form
  asked_form n u = around 0xA0 (around 0x60 (then version_form (then (context_form (string_octets m n)) (info_form u))))

  unfoldable pub dialogue_form : Dialogue → Form
  dialogue_form Dialogue.NoDialogue = exactly []
  dialogue_form (Dialogue.Cause n) = octet 0x4A n
  dialogue_form (Dialogue.Request n u) = external structured (asked_form n u)
  dialogue_form (Dialogue.Unidialogue n u) = external unstructured (asked_form n u)
  dialogue_form (Dialogue.Response n r s u) =
      external structured
      (around 0xA0
      (around 0x61 (then version_form (then (context_form (string_octets m n)) (then (around 0xA2 (octet 0x02 r)) (then (around 0xA3 (source_form s)) (info_form u)))))))
  dialogue_form (Dialogue.DialogueAbort r u) = external structured (around 0xA0 (around 0x64 (then (octet 0x80 r) (info_form u))))
  dialogue_form (Dialogue.OutsideElement n e) = external (string_octets m n) (around 0xA0 (exactly (string_octets m e)))
  dialogue_form (Dialogue.OutsideOctets n c) = external (string_octets m n) (leaf 0x81 (string_octets m c))

  unfoldable pub orig_form : Optional OrigTransactionId → Form
  orig_form None = exactly []
  orig_form (Some o) = leaf 0x48 (string_octets m o.0.octets)

  unfoldable pub dest_form : Optional DestTransactionId → Form
  dest_form None = exactly []
  dest_form (Some e) = leaf 0x49 (string_octets m e.0.octets)

  -- a message by its parts, and what it holds
  unfoldable pub inside_form : Optional OrigTransactionId → Optional DestTransactionId → Dialogue → List Row → Form
  inside_form orig dest dialogue rows = then (orig_form orig) (then (dest_form dest) (then (dialogue_form dialogue) (rows_form rows)))

  unfoldable pub parts_form : MessageKind → Optional OrigTransactionId → Optional DestTransactionId → Dialogue → List Row → Form
  parts_form kind orig dest dialogue rows = around (message_tag kind) (inside_form orig dest dialogue rows)

  abbrev pub record_form : Record → Form
  record_form r = parts_form r.kind r.orig r.dest r.dialogue (counted r)

-- the octets of a form, as short as they can be
abbrev pub octets_of : Form → List ℕ
octets_of f = shortest document01 f

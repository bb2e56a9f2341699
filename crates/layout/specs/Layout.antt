-- A record as octets, as docs/LAYOUT.md lays it out, and back: each field both ways, in the order of that page. What the octets stand for is
-- told for all octets; whether they are a record is another question. Assumes nothing: these are definitions.
use Rattle.std.specs.Prelude.{ℤ, Option as Optional, Some, None, ℕ, zero, suc, ◌+◌, ◌-◌, min}
use mathlib.Core.{Bool.Bool, Bool.true, Bool.false, Bool.cond, Bool.◌&&◌, Bool.◌||◌, List.List, List.[], List.◌∷◌, List.◌++◌}
use lib.{ListN.length, ListN.take, ListN.drop, ListN.get_or, ListN.replicate, Dec.leb, Dec.eqb}
use Rattle.base.specs.{Number.number_from, Number.octets_in, Number.top_of, Number.signed_at, Number.bits_at}
use Rattle.tcap.specs.declared.{DestTransactionId.DestTransactionId, OrigTransactionId.OrigTransactionId, Span.Span, Code.Code, Problem.Problem, ComponentKind.ComponentKind, Row.Row, Diagnostic.Diagnostic, Dialogue.Dialogue, MessageKind.MessageKind, Record.Record}
use Rattle.tcap.specs.WellFormed.{most_components}
use Rattle.tcap.specs.Record.{blank_row, message_tag}

-- Sizes: the head of a record, one row, the rows there are

abbrev pub head_size : ℕ
head_size = 44

abbrev pub row_size : ℕ
row_size = 24

abbrev pub most_rows : ℕ
most_rows = most_components

-- 44 + 16 * 24
abbrev pub record_size : ℕ
record_size = 428

-- Octets, numbers and strings at a place

abbrev pub octet : List ℕ → ℕ → ℕ
octet l k = get_or l k 0

unfoldable pub number_at : List ℕ → ℕ → ℕ
number_at l k = number_from 0 (take 4 (drop k l))

unfoldable pub span_at : List ℕ → ℕ → Span
span_at l k = record { place = number_at l k; len = number_at l (k + 4) }

unfoldable pub span_octets : Span → List ℕ
span_octets s = octets_in 4 s.place ++ octets_in 4 s.len

abbrev pub no_span : Span
no_span = record { place = 0; len = 0 }

-- 0 absent, 1 present
abbrev pub is_flag : ℕ → Bool
is_flag x = leb x 1

unfoldable pub optional_in : ℕ → Span → Optional Span
optional_in x s = cond (eqb x 0) None (Some s)

unfoldable pub optional_flag : Optional Span → ℕ
optional_flag None = 0
optional_flag (Some s) = 1

unfoldable pub optional_span : Optional Span → Span
optional_span None = no_span
optional_span (Some s) = s

-- Record

-- 0: message kind
unfoldable pub is_message_tag : ℕ → Bool
is_message_tag x = eqb x 0x61 || eqb x 0x62 || eqb x 0x64 || eqb x 0x65 || eqb x 0x67

unfoldable pub message_kind_in : ℕ → MessageKind
message_kind_in x =
    cond (eqb x 0x61) MessageKind.Unidirectional
    (cond (eqb x 0x62) MessageKind.Begin
    (cond (eqb x 0x64) MessageKind.End
    (cond (eqb x 0x65) MessageKind.Continue MessageKind.Abort)))

-- 1, 8..15: originating ID
unfoldable pub orig_in : ℕ → Span → Optional OrigTransactionId
orig_in x s = cond (eqb x 0) None (Some (record { 0 = record { octets = s } }))

unfoldable pub orig_flag : Optional OrigTransactionId → ℕ
orig_flag None = 0
orig_flag (Some o) = 1

unfoldable pub orig_span : Optional OrigTransactionId → Span
orig_span None = no_span
orig_span (Some o) = o.0.octets

-- 2, 16..23: destination ID
unfoldable pub dest_in : ℕ → Span → Optional DestTransactionId
dest_in x s = cond (eqb x 0) None (Some (record { 0 = record { octets = s } }))

unfoldable pub dest_flag : Optional DestTransactionId → ℕ
dest_flag None = 0
dest_flag (Some e) = 1

unfoldable pub dest_span : Optional DestTransactionId → Span
dest_span None = no_span
dest_span (Some e) = e.0.octets

-- 42, 43: diagnostic source, diagnostic
abbrev pub is_source_tag : ℕ → Bool
is_source_tag x = eqb x 0xA1 || eqb x 0xA2

unfoldable pub diagnostic_in : ℕ → ℕ → Diagnostic
diagnostic_in x n = cond (eqb x 0xA1) (Diagnostic.ByUser n) (Diagnostic.ByProvider n)

unfoldable pub source_tag : Diagnostic → ℕ
source_tag (Diagnostic.ByUser n) = 0xA1
source_tag (Diagnostic.ByProvider n) = 0xA2

unfoldable pub diagnostic_number : Diagnostic → ℕ
diagnostic_number (Diagnostic.ByUser n) = n
diagnostic_number (Diagnostic.ByProvider n) = n

-- 3, 24..43: dialogue, by octet 3, which is x: name at 24, user information at 32 and 40, number at 41, diagnostic at 42; only a PDU, 2 to 5, has user
-- information, so elsewhere its flag is 0
unfoldable pub is_dialogue : ℕ → List ℕ → Bool
is_dialogue x l =
    cond (leb x 1) (eqb (octet l 40) 0)
    (cond (eqb x 3) (is_flag (octet l 40) && is_source_tag (octet l 42))
    (cond (leb x 5) (is_flag (octet l 40)) (eqb (octet l 40) 0 && leb x 7)))

abbrev pub info_in : List ℕ → Optional Span
info_in l = optional_in (octet l 40) (span_at l 32)

unfoldable pub pdu_in : ℕ → List ℕ → Dialogue
pdu_in x l =
    cond (eqb x 2) (Dialogue.Request (span_at l 24) (info_in l))
    (cond (eqb x 3) (Dialogue.Response (span_at l 24) (octet l 41) (diagnostic_in (octet l 42) (octet l 43)) (info_in l))
    (cond (eqb x 4) (Dialogue.DialogueAbort (octet l 41) (info_in l)) (Dialogue.Unidialogue (span_at l 24) (info_in l))))

unfoldable pub outside_in : ℕ → List ℕ → Dialogue
outside_in x l = cond (eqb x 6) (Dialogue.OutsideElement (span_at l 24) (span_at l 32)) (Dialogue.OutsideOctets (span_at l 24) (span_at l 32))

unfoldable pub dialogue_in : ℕ → List ℕ → Dialogue
dialogue_in x l = cond (eqb x 0) Dialogue.NoDialogue (cond (eqb x 1) (Dialogue.Cause (octet l 41)) (cond (leb x 5) (pdu_in x l) (outside_in x l)))

unfoldable pub dialogue_number : Dialogue → ℕ
dialogue_number Dialogue.NoDialogue = 0
dialogue_number (Dialogue.Cause n) = 1
dialogue_number (Dialogue.Request n u) = 2
dialogue_number (Dialogue.Response n r s u) = 3
dialogue_number (Dialogue.DialogueAbort r u) = 4
dialogue_number (Dialogue.Unidialogue n u) = 5
dialogue_number (Dialogue.OutsideElement n e) = 6
dialogue_number (Dialogue.OutsideOctets n c) = 7

-- 24..43: name, user information and its flag, number, diagnostic source, diagnostic
unfoldable pub portion_octets : Span → Span → ℕ → ℕ → ℕ → ℕ → List ℕ
portion_octets name info flag number source diagnostic = span_octets name ++ span_octets info ++ (flag ∷ number ∷ source ∷ diagnostic ∷ [])

abbrev pub pdu_octets : Span → Optional Span → ℕ → ℕ → ℕ → List ℕ
pdu_octets name info = portion_octets name (optional_span info) (optional_flag info)

unfoldable pub dialogue_octets : Dialogue → List ℕ
dialogue_octets Dialogue.NoDialogue = portion_octets no_span no_span 0 0 0 0
dialogue_octets (Dialogue.Cause n) = portion_octets no_span no_span 0 n 0 0
dialogue_octets (Dialogue.Request n u) = pdu_octets n u 0 0 0
dialogue_octets (Dialogue.Response n r s u) = pdu_octets n u r (source_tag s) (diagnostic_number s)
dialogue_octets (Dialogue.DialogueAbort r u) = pdu_octets no_span u r 0 0
dialogue_octets (Dialogue.Unidialogue n u) = pdu_octets n u 0 0 0
dialogue_octets (Dialogue.OutsideElement n e) = portion_octets n e 0 0 0 0
dialogue_octets (Dialogue.OutsideOctets n c) = portion_octets n c 0 0 0 0

-- Row

-- 1, 2: invoke ID
unfoldable pub id_in : ℕ → ℕ → Optional ℤ
id_in x n = cond (eqb x 0) None (Some (signed_at (top_of 1) n))

unfoldable pub id_flag : Optional ℤ → ℕ
id_flag None = 0
id_flag (Some i) = 1

unfoldable pub id_octet : Optional ℤ → ℕ
id_octet None = 0
id_octet (Some i) = bits_at (top_of 1) i

-- 3, 4: linked ID
unfoldable pub linked_in : ℕ → ℕ → Optional ℤ
linked_in x n = cond (eqb x 0) None (Some (signed_at (top_of 1) n))

unfoldable pub linked_flag : Optional ℤ → ℕ
linked_flag None = 0
linked_flag (Some i) = 1

unfoldable pub linked_octet : Optional ℤ → ℕ
linked_octet None = 0
linked_octet (Some i) = bits_at (top_of 1) i

-- 5, 8..15: code; a local one stands in the first four octets, as a place does
abbrev pub is_code_tag : ℕ → Bool
is_code_tag x = eqb x 0x02 || eqb x 0x06

unfoldable pub code_in : ℕ → Span → Code
code_in x s = cond (eqb x 0x02) (Code.Local (signed_at (top_of 4) s.place)) (Code.Global s)

unfoldable pub code_tag : Code → ℕ
code_tag (Code.Local z) = 0x02
code_tag (Code.Global s) = 0x06

unfoldable pub code_span : Code → Span
code_span (Code.Local z) = record { place = bits_at (top_of 4) z; len = 0 }
code_span (Code.Global s) = s

-- 5, 7: problem type, problem
abbrev pub is_problem_tag : ℕ → Bool
is_problem_tag x = leb 0x80 x && leb x 0x83

unfoldable pub problem_in : ℕ → ℕ → Problem
problem_in x n = cond (eqb x 0x80) (Problem.General n) (cond (eqb x 0x81) (Problem.OfInvoke n) (cond (eqb x 0x82) (Problem.OfResult n) (Problem.OfError n)))

unfoldable pub problem_tag : Problem → ℕ
problem_tag (Problem.General n) = 0x80
problem_tag (Problem.OfInvoke n) = 0x81
problem_tag (Problem.OfResult n) = 0x82
problem_tag (Problem.OfError n) = 0x83

unfoldable pub problem_number : Problem → ℕ
problem_number (Problem.General n) = n
problem_number (Problem.OfInvoke n) = n
problem_number (Problem.OfResult n) = n
problem_number (Problem.OfError n) = n

-- 5, 6, 8..23: code and parameter; a return result has both or neither
unfoldable pub is_coded : List ℕ → Bool
is_coded l = is_code_tag (octet l 5) && is_flag (octet l 6)

unfoldable pub is_returned : List ℕ → Bool
is_returned l = cond (eqb (octet l 5) 0) (eqb (octet l 6) 0) (is_code_tag (octet l 5) && eqb (octet l 6) 1)

abbrev pub code_at : List ℕ → Code
code_at l = code_in (octet l 5) (span_at l 8)

abbrev pub parameter_at : List ℕ → Optional Span
parameter_at l = optional_in (octet l 6) (span_at l 16)

unfoldable pub returned_in : List ℕ → Optional (Code × Span)
returned_in l = cond (eqb (octet l 5) 0) None (Some (code_at l, span_at l 16))

-- 0: component kind, which is x; the flag of a part that the kind lacks is 0: 3 but in an Invoke, 6 in a Reject
unfoldable pub is_unlinked : ℕ → List ℕ → Bool
is_unlinked x l =
    cond (eqb x 0xA2) (is_returned l)
    (cond (eqb x 0xA3) (is_coded l)
    (cond (eqb x 0xA4) (eqb (octet l 6) 0 && is_problem_tag (octet l 5))
    (cond (eqb x 0xA7) (is_returned l) false)))

unfoldable pub is_kind : ℕ → List ℕ → Bool
is_kind x l = cond (eqb x 0xA1) (is_flag (octet l 3) && is_coded l) (cond (eqb (octet l 3) 0) (is_unlinked x l) false)

unfoldable pub kind_in : ℕ → List ℕ → ComponentKind
kind_in x l =
    cond (eqb x 0xA1) (ComponentKind.Invoke (linked_in (octet l 3) (octet l 4)) (code_at l) (parameter_at l))
    (cond (eqb x 0xA2) (ComponentKind.ResultLast (returned_in l))
    (cond (eqb x 0xA3) (ComponentKind.ReturnError (code_at l) (parameter_at l))
    (cond (eqb x 0xA4) (ComponentKind.Reject (problem_in (octet l 5) (octet l 7))) (ComponentKind.ResultNotLast (returned_in l)))))

-- 0..4, and 5..23
unfoldable pub ids_octets : ℕ → Optional ℤ → Optional ℤ → List ℕ
ids_octets tag i l = tag ∷ id_flag i ∷ id_octet i ∷ linked_flag l ∷ linked_octet l ∷ []

unfoldable pub parts_octets : ℕ → ℕ → ℕ → Span → Span → List ℕ
parts_octets tag flag number code parameter = (tag ∷ flag ∷ number ∷ []) ++ span_octets code ++ span_octets parameter

unfoldable pub coded_octets : Code → Optional Span → List ℕ
coded_octets c p = parts_octets (code_tag c) (optional_flag p) 0 (code_span c) (optional_span p)

unfoldable pub returned_octets : Optional (Code × Span) → List ℕ
returned_octets None = parts_octets 0 0 0 no_span no_span
returned_octets (Some (c, p)) = coded_octets c (Some p)

unfoldable pub problem_octets : Problem → List ℕ
problem_octets q = parts_octets (problem_tag q) 0 (problem_number q) no_span no_span

unfoldable pub kind_octets : Optional ℤ → ComponentKind → List ℕ
kind_octets i (ComponentKind.Invoke l c p) = ids_octets 0xA1 i l ++ coded_octets c p
kind_octets i (ComponentKind.ResultLast r) = ids_octets 0xA2 i None ++ returned_octets r
kind_octets i (ComponentKind.ReturnError c p) = ids_octets 0xA3 i None ++ coded_octets c p
kind_octets i (ComponentKind.Reject q) = ids_octets 0xA4 i None ++ problem_octets q
kind_octets i (ComponentKind.ResultNotLast r) = ids_octets 0xA7 i None ++ returned_octets r

unfoldable pub is_row : List ℕ → Bool
is_row l = is_flag (octet l 1) && is_kind (octet l 0) l

unfoldable pub row_in : List ℕ → Row
row_in l = record { id = id_in (octet l 1) (octet l 2); kind = kind_in (octet l 0) l }

unfoldable pub row_octets : Row → List ℕ
row_octets r = kind_octets r.id r.kind

-- The first n rows

unfoldable pub are_rows : ℕ → List ℕ → Bool
are_rows zero l = true
are_rows (suc n) l = is_row l && are_rows n (drop row_size l)

unfoldable pub rows_in : ℕ → List ℕ → List Row
rows_in zero l = []
rows_in (suc n) l = row_in l ∷ rows_in n (drop row_size l)

-- and blank rows behind them
unfoldable pub rows_held : ℕ → List ℕ → List Row
rows_held n l = rows_in n l ++ replicate (most_rows - n) blank_row

unfoldable pub rows_octets : List Row → List ℕ
rows_octets [] = []
rows_octets (r ∷ rs) = row_octets r ++ rows_octets rs

-- The whole record; the count stands at 4, and the rows below it are looked at, of which there are 16

abbrev pub rows_looked : List ℕ → ℕ
rows_looked l = min (number_at l 4) most_rows

unfoldable pub is_head : List ℕ → Bool
is_head l = is_message_tag (octet l 0) && is_flag (octet l 1) && is_flag (octet l 2) && is_dialogue (octet l 3) l

unfoldable pub is_record : List ℕ → Bool
is_record l = leb record_size (length l) && is_head l && are_rows (rows_looked l) (drop head_size l)

unfoldable pub record_in : List ℕ → Record
record_in l =
    record {
      kind = message_kind_in (octet l 0);
      orig = orig_in (octet l 1) (span_at l 8);
      dest = dest_in (octet l 2) (span_at l 16);
      dialogue = dialogue_in (octet l 3) l;
      count = number_at l 4;
      rows = rows_held (rows_looked l) (drop head_size l);
    }

unfoldable pub head_octets : MessageKind → Optional OrigTransactionId → Optional DestTransactionId → Dialogue → ℕ → List ℕ
head_octets k o e d n =
    (message_tag k ∷ orig_flag o ∷ dest_flag e ∷ dialogue_number d ∷ [])
    ++ octets_in 4 n
    ++ span_octets (orig_span o)
    ++ span_octets (dest_span e)
    ++ dialogue_octets d

unfoldable pub record_octets : Record → List ℕ
record_octets r = head_octets r.kind r.orig r.dest r.dialogue r.count ++ rows_octets (take r.count r.rows)

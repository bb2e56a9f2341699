-- Which records the octets of docs/LAYOUT.md can hold: numbers of four octets, IDs of one, local codes of four. By their types all of the code's do, but for
-- the count, which may be larger there; of what was read it is at most 16. Assumes nothing: these are definitions.
use Rattle.std.specs.Prelude.{ℤ, Option as Optional, Some, None, ◌≤◌}
use mathlib.Core.{Path.◌≡◌, Bool.true}
use lib.{ListN.length, ListN.take}
use Rattle.base.specs.{Number.top_of, Number.holds, Value.Every}
use Rattle.tcap.specs.declared.{DestTransactionId.DestTransactionId, OrigTransactionId.OrigTransactionId, Span.Span, Code.Code, ComponentKind.ComponentKind, Row.Row, Dialogue.Dialogue, Record.Record}
use Rattle.layout.specs.Layout.{most_rows}

abbrev pub SpanFits : Span → Type 0
SpanFits s = (s.place ≤ top_of 4) × (s.len ≤ top_of 4)

abbrev pub OptionalFits : Optional Span → Type 0
OptionalFits None = Unit {0}
OptionalFits (Some s) = SpanFits s

abbrev pub IdFits : Optional ℤ → Type 0
IdFits None = Unit {0}
IdFits (Some i) = holds 1 i ≡ true

abbrev pub LinkedFits : Optional ℤ → Type 0
LinkedFits None = Unit {0}
LinkedFits (Some i) = holds 1 i ≡ true

abbrev pub CodeFits : Code → Type 0
CodeFits (Code.Local z) = holds 4 z ≡ true
CodeFits (Code.Global s) = SpanFits s

abbrev pub ReturnedFits : Optional (Code × Span) → Type 0
ReturnedFits None = Unit {0}
ReturnedFits (Some (c, p)) = CodeFits c × SpanFits p

abbrev pub KindFits : ComponentKind → Type 0
KindFits (ComponentKind.Invoke l c p) = LinkedFits l × CodeFits c × OptionalFits p
KindFits (ComponentKind.ResultLast r) = ReturnedFits r
KindFits (ComponentKind.ReturnError c p) = CodeFits c × OptionalFits p
KindFits (ComponentKind.Reject q) = Unit {0}
KindFits (ComponentKind.ResultNotLast r) = ReturnedFits r

abbrev pub RowFits : Row → Type 0
RowFits r = IdFits r.id × KindFits r.kind

abbrev pub OrigFits : Optional OrigTransactionId → Type 0
OrigFits None = Unit {0}
OrigFits (Some o) = SpanFits o.0.octets

abbrev pub DestFits : Optional DestTransactionId → Type 0
DestFits None = Unit {0}
DestFits (Some e) = SpanFits e.0.octets

abbrev pub DialogueFits : Dialogue → Type 0
DialogueFits Dialogue.NoDialogue = Unit {0}
DialogueFits (Dialogue.Cause n) = Unit {0}
DialogueFits (Dialogue.Request n u) = SpanFits n × OptionalFits u
DialogueFits (Dialogue.Response n r s u) = SpanFits n × OptionalFits u
DialogueFits (Dialogue.DialogueAbort r u) = OptionalFits u
DialogueFits (Dialogue.Unidialogue n u) = SpanFits n × OptionalFits u
DialogueFits (Dialogue.OutsideElement n e) = SpanFits n × SpanFits e
DialogueFits (Dialogue.OutsideOctets n c) = SpanFits n × SpanFits c

-- rows from the count on do not matter
pub record RecordFits (r : Record) : Type 0 where
  pub orig : OrigFits r.orig
  pub dest : DestFits r.dest
  pub dialogue : DialogueFits r.dialogue
  pub count : r.count ≤ top_of 4
  pub sixteen : length r.rows ≡ most_rows
  pub rows : Every RowFits (take r.count r.rows)

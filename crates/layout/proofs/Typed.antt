-- By their types the records of the code, and their parts, are such as the octets can hold, but for the count. Assumes nothing.
use Rattle.std.specs.Prelude.{Option as Optional, Some, None}
use Prim.Native.Nat.{ℕ, zero, suc, ◌<◌, ◌≤◌, ◌^◌}
use mathlib.Core.Path.{◌≡◌}
use mathlib.Core.Bool.{true}
use mathlib.Core.List.{List, [], ◌∷◌}
use native.Mathlib.Omega.{arith}
use lib.ListN.{take}
use lib.IntN.{ℤ}
use lib.Signed.{mag}
use mir.Val.{Val}
use denote.Laws.{Is}
use denote.Shadow.{shadow}
use denote.Array.{each}
use denote.Builtin.{i8}
use denote.Struct.Tuple.{Tuple}
use Rattle.std.specs.contracts.option.Option as option
use Rattle.base.specs.Number.{top_of, holds}
use Rattle.base.specs.Value.{Every}
use Rattle.base.proofs.Numbers.{small_holds}
use Rattle.tcap.specs.declared.{DestTransactionId.DestTransactionId, OrigTransactionId.OrigTransactionId, Span.Span, Code.Code, ComponentKind.ComponentKind, Row.Row, Dialogue.Dialogue, Record.Record}
use Rattle.tcap.specs.contracts.Span as Spans
use Rattle.tcap.specs.contracts.Code as Codes
use Rattle.tcap.specs.contracts.ComponentKind as Components
use Rattle.tcap.specs.contracts.Row as Rows
use Rattle.tcap.specs.contracts.OrigTransactionId as Origs
use Rattle.tcap.specs.contracts.DestTransactionId as Dests
use Rattle.tcap.specs.contracts.Dialogue as Dialogues
use Rattle.tcap.specs.contracts.Record as Records
use Rattle.layout.specs.Fits.{SpanFits, OptionalFits, IdFits, LinkedFits, CodeFits, ReturnedFits, KindFits, RowFits, OrigFits, DestFits, DialogueFits, RecordFits}

octet_holds : (z : ℤ) → mag z < 2 ^ 7 → holds 1 z ≡ true
unfolding top_of
octet_holds z h = small_holds 1 z (omega (arith, h))

word_holds : (z : ℤ) → mag z < 2 ^ 31 → holds 4 z ≡ true
unfolding top_of
word_holds z h = small_holds 4 z (omega (arith, h))

span_typed : (s : Span) (vs : List Val) → Is Spans.the_row s vs → SpanFits s
unfolding top_of
span_typed s vs p = (omega (arith, p.1.1.0.1), omega (arith, p.1.1.1.0.1))

optional_typed : (u : Optional Span) (vs : List Val) → Is (option.the_row Spans.the_row) u vs → OptionalFits u
optional_typed None vs p = tt
optional_typed (Some s) vs p = span_typed s _ p.1.1.1.1.0

id_typed : (i : Optional ℤ) (vs : List Val) → Is (option.the_row i8) i vs → IdFits i
id_typed None vs p = tt
id_typed (Some i) vs p = octet_holds i p.1.1.1.1.0.1

linked_typed : (l : Optional ℤ) (vs : List Val) → Is (option.the_row i8) l vs → LinkedFits l
linked_typed None vs p = tt
linked_typed (Some i) vs p = octet_holds i p.1.1.1.1.0.1

pub code_typed : (c : Code) (vs : List Val) → Is Codes.the_row c vs → CodeFits c
code_typed (Code.Local z) vs p = word_holds z p.1.1.1.1.0.1
code_typed (Code.Global s) vs p = span_typed s _ p.1.1.1.1.0

pub returned_typed : (r : Optional (Code × Span)) (vs : List Val) → Is (option.the_row (Tuple (Codes.the_row ∷ Spans.the_row ∷ []))) r vs → ReturnedFits r
returned_typed None vs p = tt
returned_typed (Some (c, s)) vs p = let q = p.1.1.1.1.0 in (code_typed c _ q.1.1.0, span_typed s _ q.1.1.1.0)

kind_typed : (k : ComponentKind) (vs : List Val) → Is Components.the_row k vs → KindFits k
kind_typed (ComponentKind.Invoke l c u) vs p = (linked_typed l _ p.1.1.1.1.0, code_typed c _ p.1.1.1.1.1.0, optional_typed u _ p.1.1.1.1.1.1.0)
kind_typed (ComponentKind.ResultLast r) vs p = returned_typed r _ p.1.1.1.1.0
kind_typed (ComponentKind.ResultNotLast r) vs p = returned_typed r _ p.1.1.1.1.0
kind_typed (ComponentKind.ReturnError c u) vs p = (code_typed c _ p.1.1.1.1.0, optional_typed u _ p.1.1.1.1.1.0)
kind_typed (ComponentKind.Reject q) vs p = tt

pub row_typed : (w : Row) (vs : List Val) → Is Rows.the_row w vs → RowFits w
row_typed w vs p = (id_typed w.id _ p.1.1.0, kind_typed w.kind _ p.1.1.1.0)

pub rows_typed : (rs : List Row) (us : List Val) → shadow (each (Rows.the_row).Denot (Rows.the_row).own_val rs us) → Every RowFits rs
unfolding Every
rows_typed [] us p = tt
rows_typed (w ∷ rs) [] p = absurd p
rows_typed (w ∷ rs) (u ∷ us) p = (row_typed w (u ∷ []) p.0, rows_typed rs us p.1)

orig_typed : (o : Optional OrigTransactionId) (vs : List Val) → Is (option.the_row Origs.the_row) o vs → OrigFits o
orig_typed None vs p = tt
orig_typed (Some o) vs p = span_typed o.0.octets _ p.1.1.1.1.0.1.1.0.1.1.0

dest_typed : (e : Optional DestTransactionId) (vs : List Val) → Is (option.the_row Dests.the_row) e vs → DestFits e
dest_typed None vs p = tt
dest_typed (Some e) vs p = span_typed e.0.octets _ p.1.1.1.1.0.1.1.0.1.1.0

dialogue_typed : (d : Dialogue) (vs : List Val) → Is Dialogues.the_row d vs → DialogueFits d
dialogue_typed Dialogue.NoDialogue vs p = tt
dialogue_typed (Dialogue.Cause n) vs p = tt
dialogue_typed (Dialogue.Request n u) vs p = (span_typed n _ p.1.1.1.1.0, optional_typed u _ p.1.1.1.1.1.0)
dialogue_typed (Dialogue.Response n r s u) vs p = (span_typed n _ p.1.1.1.1.0, optional_typed u _ p.1.1.1.1.1.1.1.0)
dialogue_typed (Dialogue.DialogueAbort r u) vs p = optional_typed u _ p.1.1.1.1.1.0
dialogue_typed (Dialogue.Unidialogue n u) vs p = (span_typed n _ p.1.1.1.1.0, optional_typed u _ p.1.1.1.1.1.0)
dialogue_typed (Dialogue.OutsideElement n e) vs p = (span_typed n _ p.1.1.1.1.0, span_typed e _ p.1.1.1.1.1.0)
dialogue_typed (Dialogue.OutsideOctets n c) vs p = (span_typed n _ p.1.1.1.1.0, span_typed c _ p.1.1.1.1.1.0)

every_first : (n : ℕ) (rs : List Row) → Every RowFits rs → Every RowFits (take n rs)
unfolding Every
every_first zero rs h = tt
every_first (suc n) [] h = tt
every_first (suc n) (r ∷ rs) h = (h.0, every_first n rs h.1)

-- of a parameter `r` this is of `record-typed c.args.r _ c.good.0`, if it is the first; the count may be too large
pub record_typed : (r : Record) (vs : List Val) → Is Records.the_row r vs → (n : ℕ) → n ≤ top_of 4 → RecordFits (record { kind = r.kind; orig = r.orig; dest = r.dest; dialogue = r.dialogue; count = n; rows = r.rows })
record_typed r vs p n h =
    let a = p.1.1.1.1.1.1.1.0 in
    record {
      orig = orig_typed r.orig _ p.1.1.1.0;
      dest = dest_typed r.dest _ p.1.1.1.1.0;
      dialogue = dialogue_typed r.dialogue _ p.1.1.1.1.1.0;
      count = h;
      sixteen = a.1.0.1;
      rows = every_first n r.rows (rows_typed r.rows a.0 a.1.1);
    }

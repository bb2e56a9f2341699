-- By their types the code's records have 16 rows, and each number the width of its type: so a function knows it of a parameter. Assumes nothing.
use Rattle.tcap.specs.declared.Span.{Span}
use Rattle.std.specs.Prelude.{Option as Optional, Some, None}
use mathlib.Core.List.{List, [], ◌∷◌}
use mir.Val.{Val}
use denote.Laws.{Is}
use Rattle.base.specs.Value.{Every}
use Rattle.tcap.specs.declared.{Code.Code, ComponentKind.ComponentKind, Row.Row, Record.Record}
use Rattle.tcap.specs.contracts.Record as Records
use Rattle.layout.specs.Fits.{CodeFits, ReturnedFits, KindFits, RowFits}
use Rattle.layout.proofs.Typed.{rows_typed}
use Rattle.writing.specs.Writing.{CodeTyped, ReturnedTyped, KindTyped, RowTyped, RecordTyped}

-- of all that the octets can hold, what writing asks for
code_typed : (c : Code) → CodeFits c → CodeTyped c
code_typed (Code.Local z) h = h
code_typed (Code.Global s) h = tt

returned_typed : (r : Optional (Code × Span)) → ReturnedFits r → ReturnedTyped r
returned_typed None h = tt
returned_typed (Some (c, s)) h = code_typed c h.0

kind_typed : (k : ComponentKind) → KindFits k → KindTyped k
kind_typed (ComponentKind.Invoke l c u) h = (h.0, code_typed c h.1)
kind_typed (ComponentKind.ResultLast r) h = returned_typed r h
kind_typed (ComponentKind.ResultNotLast r) h = returned_typed r h
kind_typed (ComponentKind.ReturnError c u) h = code_typed c h.0
kind_typed (ComponentKind.Reject q) h = tt

all_typed : (rs : List Row) → Every RowFits rs → Every RowTyped rs
unfolding Every RowTyped
all_typed [] h = tt
all_typed (w ∷ rs) h = ((h.0.0, kind_typed w.kind h.0.1), all_typed rs h.1)

-- of a parameter `r` this is `record-typed c.args.r _ c.good.0`, if it is the first
pub record_typed : (r : Record) (vs : List Val) → Is Records.the_row r vs → RecordTyped r
record_typed r vs p = let a = p.1.1.1.1.1.1.1.0 in record { full = a.1.0.1; each = all_typed r.rows (rows_typed r.rows a.0 a.1.1) }

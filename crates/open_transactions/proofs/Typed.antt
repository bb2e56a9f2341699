-- By its type a table has 64 entries. Assumes nothing.
use mathlib.Core.Path.{◌≡◌}
use mathlib.Core.List.{List}
use lib.ListN.{length}
use mir.Val.{Val}
use denote.Laws.{Is}
use Rattle.open_transactions.specs.declared.{Table.Table}
use Rattle.open_transactions.specs.contracts.Table as Tables

pub table_typed : (t : Table) (vs : List Val) → Is Tables.the_row t vs → length t.entries ≡ 64
table_typed t vs p = let a = p.1.1.0 in a.1.0.1

-- The record that is laid out for one that may have any count. Assumes nothing: these are definitions.
use Rattle.std.specs.Prelude.{suc, min}
use Rattle.tcap.specs.declared.{Record.Record}
use Rattle.layout.specs.Layout.{most_rows}

-- a count above 16 stands as 17, with all 16 rows: so it has four octets, and is still above 16
unfoldable pub laid_out : Record → Record
laid_out r = record { kind = r.kind; orig = r.orig; dest = r.dest; dialogue = r.dialogue; count = min r.count (suc most_rows); rows = r.rows }

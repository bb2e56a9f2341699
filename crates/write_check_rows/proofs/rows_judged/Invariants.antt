-- The rows passed, of those that count. Assumes nothing.
use mathlib.Core.Path.{◌≡◌}
use lib.ListN.{take, drop}
use Rattle.layout.specs.Layout.{are_rows, rows_in}
use Rattle.write_check_row.specs.Judged.{listed, rows_judged}
use Rattle.write_check_rows.proofs.rows_judged.Given as goal

abbrev pub invariant-loop-row : goal.invariant-loop-row
invariant-loop-row l = l.all ≡ listed (are_rows l.row-index (drop 44 l.octets)) (rows_judged l.material (take l.row-index (rows_in l.count (drop 44 l.octets))))

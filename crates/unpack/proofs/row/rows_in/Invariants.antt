-- The rows so far, and blank rows. Assumes nothing.
use mathlib.Core.Path.{◌≡◌}
use Rattle.layout.specs.Layout.{rows_held}
use Rattle.unpack.proofs.row.rows_in.Given as goal

abbrev pub invariant-loop-i : goal.invariant-loop-i
invariant-loop-i l = l.rows ≡ rows_held l.i l.octets

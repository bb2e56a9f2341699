-- The rows passed have their lines. Assumes nothing.
use lib.ListN.{take}
use Rattle.base.specs.inner.Put.{Put}
use Rattle.listing_lines.specs.Lines.{rows_text}
use Rattle.listing_lines.proofs.put_rows.Given as goal

abbrev pub invariant-loop-index : goal.invariant-loop-index
invariant-loop-index l = Put l.initial.out l.fn.at (rows_text l.message 0 (take l.index l.row-items)) l.next l.out

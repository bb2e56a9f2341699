-- The head, and the rows that count. Assumes nothing.
use lib.ListN.{take}
use Rattle.base.specs.inner.Put.{Put}
use Rattle.layout.specs.Layout.{rows_octets}
use Rattle.pack.proofs.put_record.Given as goal

abbrev pub invariant-loop-row : goal.invariant-loop-row
invariant-loop-row l = Put l.initial.out l.initial.o (rows_octets (take l.row-index l.row-items)) l.o l.out

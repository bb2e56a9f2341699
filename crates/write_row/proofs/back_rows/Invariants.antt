-- The rows put are those from a row on. Assumes nothing.
use mathlib.Core.Path.{◌≡◌}
use lib.ListN.{length, take, drop}
use Rattle.base.specs.inner.Back.{PutBack}
use Rattle.layout.specs.Layout.{rows_in}
use Rattle.write_check_row.proofs.Chunks.{chunks}
use Rattle.write_row.proofs.Rows.{rows_octets}
use Rattle.write_row.proofs.back_rows.Given as goal

abbrev pub invariant-loop-row : goal.invariant-loop-row
invariant-loop-row l =
    let rest = l.row-iterator.iter.rest.now in
    record {
      left : rest ≡ take (length rest) (take l.count (chunks l.octets));
      put : PutBack l.initial.out l.at (rows_octets l.material (drop (length rest) (rows_in l.count (drop 44 l.octets)))) l.o l.out;
    }

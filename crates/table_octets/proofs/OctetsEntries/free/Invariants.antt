-- The loop has passed no entry that is free. Assumes nothing.
use mathlib.Core.Path.{◌≡◌}
use lib.ListN.{drop}
use Rattle.open_transactions.specs.Table.{is_free, find_from}
use Rattle.table_layout.specs.Octets.{entries_in}
use Rattle.table_octets.proofs.OctetsEntries.free.Given as goal

abbrev pub invariant-loop-room : goal.invariant-loop-room
invariant-loop-room l = find_from is_free 0 (entries_in l.self.octets.now) ≡ find_from is_free l.room (drop l.room (entries_in l.self.octets.now))

-- The loop has passed no entry that holds the ID, and eight a turn. Assumes nothing.
use mathlib.Core.Path.{◌≡◌}
use Prim.Native.Nat.{◌*◌}
use lib.ListN.{drop}
use Rattle.open_transactions.specs.Table.{holds, find_from}
use Rattle.table_layout.specs.Octets.{entries_in}
use Rattle.table_octets.proofs.OctetsEntries.find.Given as goal

abbrev pub invariant-loop-turn : goal.invariant-loop-turn
invariant-loop-turn l = find_from (holds l.id) 0 (entries_in l.self.octets.now) ≡ find_from (holds l.id) (l.turn * 8) (drop (l.turn * 8) (entries_in l.self.octets.now))

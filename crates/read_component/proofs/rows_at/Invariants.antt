-- `rows_at` meets its contract. Assumes nothing.
use Prim.Native.Nat.{◌-◌, ◌≤◌}
use mathlib.Core.Path.{◌≡◌}
use lib.ListN.{length}
use Rattle.read_place.specs.Places.{until}
use Rattle.read_component.proofs.RowsLeft.{Filling}
use Rattle.read_component.proofs.rows_at.Given as goal

abbrev pub invariant-loop-out : goal.invariant-loop-out
invariant-loop-out l = (l.at ≤ until l.stop) × (l.k ≤ 16) × (length l.out ≡ 428) × Filling l.m l.from l.stop l.k l.at l.initial.out l.out

abbrev pub decreases-loop-out : goal.decreases-loop-out
decreases-loop-out l = 16 - l.k

-- `externals_at` meets its contract. Assumes nothing.
use Prim.Native.Nat.{◌-◌, ◌≤◌}
use Rattle.read_place.specs.Places.{until}
use Rattle.read_pdu.proofs.Externals.{Going}
use Rattle.read_pdu.proofs.externals_at.Given as goal

abbrev pub invariant-loop-from : goal.invariant-loop-from
invariant-loop-from l = (l.at ≤ until l.stop) × Going l.m l.from l.stop l.at

abbrev pub decreases-loop-from : goal.decreases-loop-from
decreases-loop-from l = until l.stop - l.at

-- Three times the octets left fall at each call, counted with the levels left and k: 1 for `walk_element`, 2 for a series. Assumes nothing.
use Prim.Native.Nat.{ℕ, ◌+◌, ◌-◌, ◌≤◌}
use Rattle.read_place.specs.Places.{until}
use Rattle.read_place.proofs.Walks.{Going}
use Rattle.read_place.proofs.elements.+walk_any_walk_element_walk_series.Given as goal

abbrev rest : ℕ → ℕ → ℕ → ℕ → ℕ
rest k at end left = left + (until end - at) + (until end - at) + (until end - at) + k

abbrev pub decreases-walk_any : goal.decreases-walk_any
decreases-walk_any l = rest 0 l.at l.end l.left

abbrev pub decreases-walk_element : goal.decreases-walk_element
decreases-walk_element l = rest 1 l.at l.end l.left

abbrev pub decreases-walk_series : goal.decreases-walk_series
decreases-walk_series l = rest 2 l.from l.stop l.left

abbrev pub invariant-walk_series-loop-from : goal.invariant-walk_series-loop-from
invariant-walk_series-loop-from l = (l.from ≤ l.at) × (l.at ≤ until l.stop) × Going l.m l.from l.stop l.left l.at

abbrev pub decreases-walk_series-loop-from : goal.decreases-walk_series-loop-from
decreases-walk_series-loop-from l = until l.stop - l.at

-- Three times the octets left fall at each call, counted with the levels left and k: 1 for `next_at`, 2 for a series. Assumes nothing.
use Prim.Native.Nat.{ℕ, ◌+◌, ◌-◌, ◌≤◌}
use Rattle.walk.proofs.Wholes.{Shutting, Opening}
use Rattle.walk.proofs.+next_at_open_at_shut_at_whole_at.Given as goal

abbrev rest : ℕ → ℕ → ℕ → ℕ → ℕ
rest k at end left = left + (end - at) + (end - at) + (end - at) + k

abbrev pub decreases-next_at : goal.decreases-next_at
decreases-next_at l = rest 1 l.at l.end l.left

abbrev pub decreases-open_at : goal.decreases-open_at
decreases-open_at l = rest 2 l.from l.end l.left

abbrev pub decreases-shut_at : goal.decreases-shut_at
decreases-shut_at l = rest 2 l.from l.end l.left

abbrev pub decreases-whole_at : goal.decreases-whole_at
decreases-whole_at l = rest 0 l.at l.end l.left

abbrev pub invariant-open_at-loop-at : goal.invariant-open_at-loop-at
invariant-open_at-loop-at l = (l.from ≤ l.at) × (l.at ≤ l.end) × Opening l.m l.from l.end l.left l.at

abbrev pub decreases-open_at-loop-at : goal.decreases-open_at-loop-at
decreases-open_at-loop-at l = l.end - l.at

abbrev pub invariant-shut_at-loop-at : goal.invariant-shut_at-loop-at
invariant-shut_at-loop-at l = (l.from ≤ l.at) × (l.at ≤ l.end) × Shutting l.m l.from l.end l.left l.at

abbrev pub decreases-shut_at-loop-at : goal.decreases-shut_at-loop-at
decreases-shut_at-loop-at l = l.end - l.at

-- No entry before is under the ID. Assumes nothing.
use Prim.Native.Nat.{ℕ, ◌<◌}
use mathlib.Core.Path.{◌≡◌}
use mathlib.Core.Bool.{false}
use Rattle.entry_octets.proofs.Passing.{held}
use Rattle.entry_octets.proofs.passed_eight.Given as goal

abbrev pub invariant-loop-i : goal.invariant-loop-i
invariant-loop-i l = (j : ℕ) → j < l.i → held l.word l.len l.part j ≡ false

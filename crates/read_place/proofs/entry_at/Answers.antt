-- `entry_at` meets its contract. Assumes nothing.
use native.Mathlib.Omega.{arith}
use Prim.Native.Nat.{◌+◌}
use Rattle.read_place.proofs.Fronts.{entry_open, entry_short}
use Rattle.read_place.proofs.entry_at.Goals as goal

pub overflow_cast-b : goal.overflow_cast-b
overflow_cast-b c = omega (arith, c.shared_slice_known-then-m-at-1.given (c.args.at + 1))

pub returns-then-b-eq128 : goal.returns-then-b-eq128
returns-then-b-eq128 c = (search entry_open, omega arith)

pub returns-then-at-b : goal.returns-then-at-b
returns-then-at-b c = (search entry_short, omega arith)

-- `leave` meets its contract. Assumes nothing.
use native.Mathlib.Omega.{arith}
use Rattle.read_place.proofs.Fronts.{leave_here}
use Rattle.read_place.proofs.leave.Goals as goal

pub returns-then-at-stop : goal.returns-then-at-stop
returns-then-at-stop c = (search leave_here, omega arith)

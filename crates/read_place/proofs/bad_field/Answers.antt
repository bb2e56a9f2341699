-- `bad_field` meets its contract. Assumes nothing.
use native.Mathlib.Omega.{arith}
use Rattle.read_place.proofs.Fronts.{bad_far, bad_near}
use Rattle.read_place.proofs.bad_field.Goals as goal

pub returns-in-Err : goal.returns-in-Err
returns-in-Err c = (search (bad_far, c.in-Err.ensures.0, c.in-Err.ensures.1), c.in-Err.ensures.1)

pub returns-in-Ok : goal.returns-in-Ok
returns-in-Ok c = (search (bad_near, c.in-Ok.ensures.0, c.in-Ok.ensures.1), omega arith)

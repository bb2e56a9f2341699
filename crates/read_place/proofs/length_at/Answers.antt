-- `length_at` meets its contract. Assumes nothing.
use native.Mathlib.Omega.{arith}
use Rattle.walk.proofs.Views.{length_short, length_past, length_long}
use Rattle.read_place.proofs.Views.{length_none, length_open, length_shut}
use Rattle.read_place.specs.Places.{length_place, base}
use Rattle.read_place.proofs.length_at.Goals as goal

pub overflow_cast-b : goal.overflow_cast-b
unfolding length_place base
overflow_cast-b c = omega (arith, c.shared_slice_known-then-from-end-1.given c.args.from)

pub returns-then-from-b : goal.returns-then-from-b
unfolding length_place base
returns-then-from-b c = (search length_short, omega arith)

pub returns-then-b-lt128 : goal.returns-then-b-lt128
unfolding length_place base
returns-then-b-lt128 c = (search length_past, omega arith)

pub returns-then-constructor : goal.returns-then-constructor
unfolding length_place base
returns-then-constructor c = (search length_open, omega arith)

pub returns-then-b-eq128 : goal.returns-then-b-eq128
unfolding length_place base
returns-then-b-eq128 c = (search length_shut, omega arith)

pub returns-then-from-end : goal.returns-then-from-end
unfolding length_place base
returns-then-from-end c = (search length_long, c.long_length.ensures.1)

pub returns : goal.returns
unfolding length_place base
returns c = (search length_none, omega arith)

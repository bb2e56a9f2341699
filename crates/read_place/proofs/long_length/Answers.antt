-- `long_length` meets its contract. Assumes nothing.
use native.Mathlib.Omega.{arith}
use Prim.Native.Nat.{◌+◌}
use Rattle.element.specs.Form.{fewest_of}
use Rattle.element.proofs.Views.{long_by, long_view, low_place}
use Rattle.element.specs.inner.Fronts.{long_read}
use Rattle.read_place.proofs.Views.{count_more, long_one, long_past}
use Rattle.read_place.specs.Places.{length_place, base}
use Rattle.base.proofs.Tests.{tests}
use Rattle.read_place.proofs.long_length.Goals as goal

pub returns-then-k-gt126 : goal.returns-then-k-gt126
unfolding length_place base
returns-then-k-gt126 c = (unfold long_read long_by fewest_of in search (tests, long_view), omega arith)

pub returns-then-left-k : goal.returns-then-left-k
unfolding length_place base
returns-then-left-k c = (unfold long_read long_by fewest_of in search (tests, long_view), omega arith)

pub overflow_cast-one : goal.overflow_cast-one
unfolding length_place base
overflow_cast-one c = omega (arith, c.shared_slice_known-2-1.given (c.args.from + 1))

pub returns-then-one-lt128 : goal.returns-then-one-lt128
unfolding length_place base
returns-then-one-lt128 c = (search low_place, omega arith)

pub returns-then-one-left : goal.returns-then-one-left
unfolding length_place base
returns-then-one-left c = (search long_one, omega arith)

pub returns-then-k-eq1 : goal.returns-then-k-eq1
unfolding length_place base
returns-then-k-eq1 c = (search long_past, omega arith)

pub returns-then-one-eq0 : goal.returns-then-one-eq0
unfolding length_place base
returns-then-one-eq0 c = (unfold long_read long_by fewest_of in search (tests, long_view), omega arith)

pub returns-then-r-ge-FAULT : goal.returns-then-r-ge-FAULT
unfolding length_place base
returns-then-r-ge-FAULT c = (search count_more, omega arith)

pub returns : goal.returns
unfolding length_place base
returns c = (search count_more, omega arith)

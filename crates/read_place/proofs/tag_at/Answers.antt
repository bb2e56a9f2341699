-- `tag_at` meets its contract. Assumes nothing.
use native.Mathlib.Omega.{arith}
use Rattle.element.specs.Element.{extended_of}
use Rattle.element.proofs.Views.{tag_by, tag_view}
use Rattle.read_place.specs.Places.{tag_place, base}
use Rattle.base.proofs.Tests.{tests}
use Rattle.read_place.proofs.tag_at.Goals.{then-one-via-then-one, then-one-via-else-one+then-one-lt31}
use Rattle.read_place.proofs.tag_at.Goals as goal

pub returns-then-left-eq0 : goal.returns-then-left-eq0
unfolding tag_place base tag_by extended_of
returns-then-left-eq0 c = (search (tests, tag_view), omega arith)

pub returns-then-m-at-ne31 : goal.returns-then-m-at-ne31
unfolding tag_place base tag_by extended_of
returns-then-m-at-ne31 c = (search (tests, tag_view), omega arith)

pub returns-then-left-le1 : goal.returns-then-left-le1
unfolding tag_place base tag_by extended_of
returns-then-left-le1 c = (search (tests, tag_view), omega arith)

pub returns-then-one : goal.returns-then-one
unfolding tag_place base tag_by extended_of
returns-then-one c = elim c.then-one.branch [ then-one-via-then-one w ↦ (search (tests, tag_view), omega arith) | then-one-via-else-one+then-one-lt31 w ↦ (search (tests, tag_view), omega arith) ]

pub returns-then-one-lt128 : goal.returns-then-one-lt128
unfolding tag_place base tag_by extended_of
returns-then-one-lt128 c = (search (tests, tag_view), omega arith)

pub returns-then-left-le2 : goal.returns-then-left-le2
unfolding tag_place base tag_by extended_of
returns-then-left-le2 c = (search (tests, tag_view), omega arith)

pub returns-then-m-at-lt128 : goal.returns-then-m-at-lt128
unfolding tag_place base tag_by extended_of
returns-then-m-at-lt128 c = (search (tests, tag_view), omega arith)

pub returns-then-left-le3 : goal.returns-then-left-le3
unfolding tag_place base tag_by extended_of
returns-then-left-le3 c = (search (tests, tag_view), omega arith)

pub returns-then-m-at-lt128-2 : goal.returns-then-m-at-lt128-2
unfolding tag_place base tag_by extended_of
returns-then-m-at-lt128-2 c = (search (tests, tag_view), omega arith)

pub returns : goal.returns
unfolding tag_place base tag_by extended_of
returns c = (search (tests, tag_view), omega arith)

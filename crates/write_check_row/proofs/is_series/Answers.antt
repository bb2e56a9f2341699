-- `is_series` meets its contract. Assumes nothing.
use borrow.Author.Rules.{rules}
use Rattle.element.proofs.Walking.{loop_start}
use Rattle.write_check_row.proofs.Shapes.{series_done, series_other, series_fault, series_less, series_to, series_again}
use Rattle.write_check_row.proofs.is_series.Goals as goal

pub loop-at-init : goal.loop-at-init
loop-at-init c = search (rules, loop_start)

pub returns-then-octets-at-ne40 : goal.returns-then-octets-at-ne40
returns-then-octets-at-ne40 c = search series_other

pub returns : goal.returns
returns c = search series_done

pub loop-at-smaller : goal.loop-at-smaller
loop-at-smaller c = series_less _ _ _ c.loop-at-test.true c.loop-at.invariant.1 _ c.whole_at.ensures _ c.in-Some.is c.if-octets-at-ne40.false

pub loop-at-preserved : goal.loop-at-preserved
loop-at-preserved c = (series_to _ _ _ c.loop-at-test.true c.loop-at.invariant.1 _ c.whole_at.ensures _ c.in-Some.is c.if-octets-at-ne40.false, series_again _ _ _ c.loop-at-test.true c.loop-at.invariant.1 _ c.whole_at.ensures _ c.in-Some.is c.if-octets-at-ne40.false)

pub returns-in_default : goal.returns-in_default
returns-in_default c = series_fault _ _ _ c.loop-at-test.true c.loop-at.invariant.1 _ c.whole_at.ensures c.in_default.not-Some

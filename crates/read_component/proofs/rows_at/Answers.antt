-- `rows_at` meets its contract. Assumes nothing.
use mathlib.Core.Path.{sym, ◌∙◌}
use borrow.Author.Rules.{rules}
use native.Mathlib.Omega.{arith}
use borrow.Rule.Slice.PartMut.{same_len_mid}
use Rattle.read_place.proofs.Fronts.{behind_near}
use Rattle.read_component.proofs.Rows.{rows_to, some_here}
use Rattle.read_component.proofs.RowsLeft.{filling_start, none_filled, ended_filled, cut_filled, full_filled, far_filled, filling_on, row_long}
use Rattle.read_component.proofs.rows_at.Goals as goal

pub returns-then-k-eq0 : goal.returns-then-k-eq0
returns-then-k-eq0 c =
    let l = c.loop-out in
    let both = none_filled _ _ _ _ _ _ l.out l.invariant.3 (omega (arith, l.invariant.2)) _ c.ended.ensures c.if-ended.true c.if-k-eq0.true in record { finishes = (both.0, omega (arith, l.invariant.0)); leaves_all = both.1 }

pub returns-then-ended : goal.returns-then-ended
returns-then-ended c =
    let l = c.loop-out in
    let both = ended_filled _ _ _ _ _ _ l.out l.invariant.3 l.invariant.0 c.requires.0.1 _ c.ended.ensures c.if-ended.true c.if-k-eq0.false _ c.behind.ensures in record { finishes = (both.0, omega (arith, c.behind.ensures, l.invariant.0, behind_near l.at c.args.stop (omega (arith, l.invariant.0)))); leaves_all = both.1 }

pub returns-then-unfinished : goal.returns-then-unfinished
returns-then-unfinished c =
    let l = c.loop-out in
    let both = cut_filled _ _ _ _ _ _ l.out l.invariant.3 (omega (arith, l.invariant.2)) _ c.unfinished.ensures c.if-unfinished.true in record { finishes = (both.0, omega (arith, l.invariant.0)); leaves_all = both.1 }

pub returns-then-k-eq-MOST_COMPONENTS : goal.returns-then-k-eq-MOST_COMPONENTS
returns-then-k-eq-MOST_COMPONENTS c =
    let l = c.loop-out in
    let both = full_filled _ _ _ _ _ _ l.out l.invariant.3 _ _ c.ended.ensures c.unfinished.ensures c.if-ended.false c.if-unfinished.false (omega (arith, l.invariant.2)) c.if-k-eq-MOST_COMPONENTS.true in record { finishes = (both.0, omega (arith, l.invariant.0)); leaves_all = both.1 }

pub component_at-requires : goal.component_at-requires
component_at-requires c =
    let l = c.loop-out in
    let there = some_here _ _ _ _ _ l.invariant.0 c.requires.0.1 c.ended.ensures c.unfinished.ensures c.if-ended.false c.if-unfinished.false in
    (search rules, there, row_long _ _ l.invariant.2 l.invariant.1 c.if-k-eq-MOST_COMPONENTS.false)

pub blame_component-requires : goal.blame_component-requires
blame_component-requires c =
    let l = c.loop-out in
    let there = some_here _ _ _ _ _ l.invariant.0 c.requires.0.1 c.ended.ensures c.unfinished.ensures c.if-ended.false c.if-unfinished.false in
    (search rules, there, l.invariant.1)

pub returns-in-Err : goal.returns-in-Err
returns-in-Err c =
    let l = c.loop-out in
    let told = c.blame_component.ensures in
    let both = far_filled _ _ _ _ _ _ l.out l.invariant.3 _ _ c.ended.ensures c.unfinished.ensures c.if-ended.false c.if-unfinished.false l.invariant.1 c.if-k-eq-MOST_COMPONENTS.false _ c.in-Err.ensures.reads_component.0 c.in-Err.ensures.reads_component.1 _ told.out_after told.carries_here in record { finishes = (both.0, c.in-Err.ensures.reads_component.1); leaves_all = both.1 }

pub loop-out-preserved : goal.loop-out-preserved
loop-out-preserved c =
    let l = c.loop-out in
    let ended = c.ended.ensures in
    let cut = c.unfinished.ensures in
    let row = c.in-Ok.ensures in (
      rows_to _ _ _ _ _ _ ended cut c.if-ended.false c.if-unfinished.false l.invariant.1 c.if-k-eq-MOST_COMPONENTS.false _ row.reads_component.0 row.reads_component.1,
      omega (arith, l.invariant.1, c.if-k-eq-MOST_COMPONENTS.false),
      same_len_mid _ _ _ _ c.component_at.auto.row ∙ l.invariant.2,
      filling_on _ _ _ _ _ _ l.out l.invariant.3 _ _ ended cut c.if-ended.false c.if-unfinished.false l.invariant.1 c.if-k-eq-MOST_COMPONENTS.false _ row.reads_component.0 row.reads_component.1 _ row.leaves_component,
    )

pub loop-out-init : goal.loop-out-init
loop-out-init c = search (rules, filling_start)

pub slice_bounds-component_at-start : goal.slice_bounds-component_at-start
slice_bounds-component_at-start c = omega arith

pub slice_bounds-component_at-end : goal.slice_bounds-component_at-end
slice_bounds-component_at-end c = omega (arith, c.loop-out.invariant.1, c.loop-out.invariant.2, c.if-k-eq-MOST_COMPONENTS.false)

pub loop-out-smaller : goal.loop-out-smaller
loop-out-smaller c = omega (arith, c.loop-out.invariant.1, c.if-k-eq-MOST_COMPONENTS.false)

-- `walk_any`, `walk_element`, `walk_series` meet their contracts. Assumes nothing.
use borrow.Author.Rules.{rules}
use Rattle.read_place.proofs.elements.+walk_any_walk_element_walk_series.Goals.{walk_any-then-first-eq0-via-then-first-eq0, walk_any-then-first-eq0-via-else-first-eq0+then-first-eq32}
use Rattle.std.proofs.lemmas.Result.{err_from_is_err_and}
use native.Mathlib.Omega.{arith}
use Rattle.read_place.proofs.Fronts.{tag_inside, tag_room, behind_near}
use Rattle.read_place.proofs.Walks.{short_leaf, short_empty, any_tag_lem, any_zero, any_code, any_deep, any_leaf, any_open_far, length_inside, length_stands, tag_next, any_open, going_less, going_from, going_to, going_on, going_start, going_ended, going_unfinished, going_far}
use Rattle.read_place.proofs.elements.+walk_any_walk_element_walk_series.Goals as goal

pub walk_any-returns-in_err-next : goal.walk_any-returns-in_err-next
walk_any-returns-in_err-next t c = let p = err_from_is_err_and c.from_residual.result c.from_residual.ensures.1 in rw (p.1, p.2) (search (any_tag_lem, c.in_err-next.ensures.0, c.in_err-next.ensures.1), c.in_err-next.ensures.1)

pub walk_any-bounds-m-at : goal.walk_any-bounds-m-at
walk_any-bounds-m-at t c = search (tag_inside, c.in_ok-next.ensures.0, c.in_ok-next.ensures.1)

pub walk_any-returns-then-first-eq0 : goal.walk_any-returns-then-first-eq0
walk_any-returns-then-first-eq0 t c = elim c.then-first-eq0.branch [
  | walk_any-then-first-eq0-via-then-first-eq0 w ↦ (search (any_zero, c.in_ok-next.ensures.0, c.in_ok-next.ensures.1), omega arith)
  | walk_any-then-first-eq0-via-else-first-eq0+then-first-eq32 w ↦ (search (any_code, c.in_ok-next.ensures.0, c.in_ok-next.ensures.1), omega arith)
]

pub walk_any-returns-then-left-eq0 : goal.walk_any-returns-then-left-eq0
walk_any-returns-then-left-eq0 t c = (search (any_deep, c.in_ok-next.ensures.0, c.in_ok-next.ensures.1), omega arith)

pub walk_any-length_at-requires : goal.walk_any-length_at-requires
walk_any-length_at-requires t c = search (rules, tag_next, c.in_ok-next.ensures.0, c.in_ok-next.ensures.1)

pub walk_any-returns-then-first-eq0-2 : goal.walk_any-returns-then-first-eq0-2
walk_any-returns-then-first-eq0-2 t c = (search (any_leaf, c.in_ok-next.ensures.0, c.in_ok-next.ensures.1), c.length_at.ensures.1)

pub walk_any-length_at-requires-2 : goal.walk_any-length_at-requires-2
walk_any-length_at-requires-2 t c = search (rules, tag_next, c.in_ok-next.ensures.0, c.in_ok-next.ensures.1)

pub walk_any-returns-in_err-stop : goal.walk_any-returns-in_err-stop
walk_any-returns-in_err-stop t c = let p = err_from_is_err_and c.from_residual-in_err-stop.result c.from_residual-in_err-stop.ensures.1 in rw (p.1, p.2) (search (any_open_far, c.in_ok-next.ensures.0, c.in_ok-next.ensures.1, c.in_err-stop.ensures.0, c.in_err-stop.ensures.1), c.in_err-stop.ensures.1)

pub walk_any-start_of-requires : goal.walk_any-start_of-requires
walk_any-start_of-requires t c = search (rules, length_inside, c.in_ok-stop.ensures.0, c.in_ok-stop.ensures.1)

pub walk_any-walk_series-requires : goal.walk_any-walk_series-requires
walk_any-walk_series-requires t c =
    let P = c.requires in
    let M = c.args.m.now in
    let t = tag_room M _ _ _ P.0 P.1 c.in_ok-next.ensures.0 c.in_ok-next.ensures.1 in
    let z = length_stands M _ _ _ _ _ t.2 P.1 P.2 c.in_ok-stop.ensures.0 c.in_ok-stop.ensures.1 c.start_of.ensures in
    omega (arith, t, z, c.in_ok-stop.ensures.1, c.requires)

pub walk_any-returns : goal.walk_any-returns
walk_any-returns t c = (search (any_open, c.in_ok-next.ensures.0, c.in_ok-next.ensures.1, c.in_ok-stop.ensures.0, c.in_ok-stop.ensures.1), c.walk_series.ensures.1)

pub walk_element-returns-then-n-eq0 : goal.walk_element-returns-then-n-eq0
walk_element-returns-then-n-eq0 t c = (search short_empty, omega arith)

pub walk_element-returns-then-at-n : goal.walk_element-returns-then-at-n
walk_element-returns-then-at-n t c = (search short_leaf, omega arith)

pub walk_series-loop-from-init : goal.walk_series-loop-from-init
walk_series-loop-from-init t c = search (rules, going_start)

pub walk_series-returns-then-ended : goal.walk_series-returns-then-ended
walk_series-returns-then-ended t c = (search going_ended, omega (arith, c.behind.ensures, behind_near c.loop-from.at c.args.stop (omega arith)))

pub walk_series-returns-then-unfinished : goal.walk_series-returns-then-unfinished
walk_series-returns-then-unfinished t c = (search going_unfinished, omega arith)

pub walk_series-returns-in_err-at : goal.walk_series-returns-in_err-at
walk_series-returns-in_err-at t c = let p = err_from_is_err_and c.from_residual.result c.from_residual.ensures.1 in rw (p.1, p.2) (search (going_far, c.in_err-at.ensures.0, c.in_err-at.ensures.1), c.in_err-at.ensures.1)

pub walk_series-loop-from-smaller : goal.walk_series-loop-from-smaller
walk_series-loop-from-smaller t c = search (going_less, c.in_ok-at.ensures.0, c.in_ok-at.ensures.1)

pub walk_series-loop-from-preserved : goal.walk_series-loop-from-preserved
walk_series-loop-from-preserved t c = (search (going_from, c.in_ok-at.ensures.0, c.in_ok-at.ensures.1), search (going_to, c.in_ok-at.ensures.0, c.in_ok-at.ensures.1) fits 9000, search (going_on, c.in_ok-at.ensures.0, c.in_ok-at.ensures.1))

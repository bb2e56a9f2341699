-- `whole_at`, `next_at`, `shut_at` and `open_at`, which call each other, meet their contracts. Assumes nothing.
use borrow.Author.Rules.{rules}
use native.Mathlib.Omega.{arith}
use Rattle.walk.proofs.Wholes.{whole_deep, whole_tag, first_inside, length_before, length_inside, whole_cut, whole_unended, whole_open, whole_stopped, whole_leaf, shut_room, whole_shut, short_walk, whole_places, pair_places, going_start, going_less, going_from, going_to, going_again, shut_ended, shut_more, shut_bad, open_cut, open_ended, open_zero, open_more, open_bad}
use Rattle.walk.proofs.+next_at_open_at_shut_at_whole_at.Goals as goal

pub next_at-returns-then-n-room : goal.next_at-returns-then-n-room
next_at-returns-then-n-room t c = search short_walk

pub open_at-loop-at-init : goal.open_at-loop-at-init
open_at-loop-at-init t c = search (rules, going_start)

pub open_at-returns : goal.open_at-returns
open_at-returns t c = search open_cut

pub open_at-returns-then-m-at-eq0-2 : goal.open_at-returns-then-m-at-eq0-2
open_at-returns-then-m-at-eq0-2 t c = search open_ended

pub open_at-returns-then-m-at-eq0 : goal.open_at-returns-then-m-at-eq0
open_at-returns-then-m-at-eq0 t c = search open_zero

pub open_at-returns-in_err-at : goal.open_at-returns-in_err-at
open_at-returns-in_err-at t c = let e = c.in_err-at.ensures in rw c.from_residual.ensures (search open_bad)

pub open_at-loop-at-smaller : goal.open_at-loop-at-smaller
open_at-loop-at-smaller t c = let e = c.in_ok-at.ensures in search (going_less, pair_places, open_more)

pub open_at-loop-at-preserved : goal.open_at-loop-at-preserved
open_at-loop-at-preserved t c =
    let e = c.in_ok-at.ensures in
    (search (going_from, pair_places, open_more), search (going_to, pair_places, open_more), search (going_again, pair_places, open_more))

pub shut_at-loop-at-init : goal.shut_at-loop-at-init
shut_at-loop-at-init t c = search (rules, going_start)

pub shut_at-returns : goal.shut_at-returns
shut_at-returns t c = search shut_ended

pub shut_at-returns-in_err-at : goal.shut_at-returns-in_err-at
shut_at-returns-in_err-at t c = let e = c.in_err-at.ensures in rw c.from_residual.ensures (search shut_bad)

pub shut_at-loop-at-smaller : goal.shut_at-loop-at-smaller
shut_at-loop-at-smaller t c = let e = c.in_ok-at.ensures in search (going_less, whole_places, shut_more)

pub shut_at-loop-at-preserved : goal.shut_at-loop-at-preserved
shut_at-loop-at-preserved t c =
    let e = c.in_ok-at.ensures in
    (search (going_from, whole_places, shut_more), search (going_to, whole_places, shut_more), search (going_again, whole_places, shut_more))

pub whole_at-returns-then-left-eq0 : goal.whole_at-returns-then-left-eq0
whole_at-returns-then-left-eq0 t c = search whole_deep

pub whole_at-returns-in_err-from : goal.whole_at-returns-in_err-from
whole_at-returns-in_err-from t c = let e = c.in_err-from.ensures in rw c.from_residual.ensures (search whole_tag)

pub whole_at-returns-then-from-end : goal.whole_at-returns-then-from-end
whole_at-returns-then-from-end t c = let e = c.in_ok-from.ensures in search whole_cut

pub whole_at-bounds-m-from : goal.whole_at-bounds-m-from
whole_at-bounds-m-from t c = let e = c.in_ok-from.ensures in search length_inside

pub whole_at-bounds-m-at : goal.whole_at-bounds-m-at
whole_at-bounds-m-at t c = let e = c.in_ok-from.ensures in search first_inside

pub whole_at-returns-then-primitive : goal.whole_at-returns-then-primitive
whole_at-returns-then-primitive t c = let e = c.in_ok-from.ensures in search whole_unended

pub whole_at-open_at-requires : goal.whole_at-open_at-requires
whole_at-open_at-requires t c =
    let P = c.requires in
    let t = length_before c.args.m.now _ _ _ P.0 P.1 c.in_ok-from.ensures c.if-from-end.false in
    omega (arith, t, c.requires)

pub whole_at-returns-then-m-from : goal.whole_at-returns-then-m-from
whole_at-returns-then-m-from t c = let e = c.in_ok-from.ensures in search whole_open

pub whole_at-contents_end-requires : goal.whole_at-contents_end-requires
whole_at-contents_end-requires t c =
    let P = c.requires in
    let t = length_before c.args.m.now _ _ _ P.0 P.1 c.in_ok-from.ensures c.if-from-end.false in
    ((omega (arith, t), P.1), t.1, c.if-m-from.false)

pub whole_at-returns-in_err-stop : goal.whole_at-returns-in_err-stop
whole_at-returns-in_err-stop t c =
    let e = c.in_ok-from.ensures in
    let f = c.in_err-stop.ensures in
    rw c.from_residual-in_err-stop.ensures (search whole_stopped)

pub whole_at-returns-then-primitive-2 : goal.whole_at-returns-then-primitive-2
whole_at-returns-then-primitive-2 t c = let e = c.in_ok-from.ensures in let f = c.in_ok-stop.ensures in search whole_leaf

pub whole_at-start_of-requires : goal.whole_at-start_of-requires
whole_at-start_of-requires t c = let e = c.in_ok-from.ensures in search length_inside

pub whole_at-shut_at-requires : goal.whole_at-shut_at-requires
whole_at-shut_at-requires t c =
    let P = c.requires in
    let t = shut_room c.args.m.now _ _ _ P.0 P.1 c.if-left-eq0.false _ c.in_ok-from.ensures c.if-from-end.false c.if-m-from.false _ c.in_ok-stop.ensures _ c.start_of.ensures in
    omega (arith, t, c.requires)

pub whole_at-returns : goal.whole_at-returns
whole_at-returns t c = let e = c.in_ok-from.ensures in let f = c.in_ok-stop.ensures in search whole_shut

-- `wrong_at` meets its contract. Assumes nothing.
use native.Mathlib.Omega.{arith}
use Rattle.read_place.proofs.Fronts.{tag_inside, asked_ended, asked_unfinished, more_here, wrong_tag, wrong_zero, wrong_code, wrong_other}
use Rattle.read_place.proofs.wrong_at.Goals.{then-m-at-eq0-via-then-m-at-eq0, then-m-at-eq0-via-else-m-at-eq0+then-m-at-eq32}
use Rattle.read_place.proofs.wrong_at.Goals as goal

pub returns-then-ended : goal.returns-then-ended
returns-then-ended c = search asked_ended

pub returns-then-unfinished : goal.returns-then-unfinished
returns-then-unfinished c = search asked_unfinished

pub returns-in-Err : goal.returns-in-Err
returns-in-Err c = search (wrong_tag, more_here, c.in-Err.ensures.0, c.in-Err.ensures.1)

pub bounds-m-at : goal.bounds-m-at
bounds-m-at c = search (tag_inside, c.in-Ok.ensures.0, c.in-Ok.ensures.1)

pub returns-then-m-at-eq0 : goal.returns-then-m-at-eq0
returns-then-m-at-eq0 c = elim c.then-m-at-eq0.branch [
  | then-m-at-eq0-via-then-m-at-eq0 w ↦ search (wrong_zero, more_here, c.in-Ok.ensures.0, c.in-Ok.ensures.1)
  | then-m-at-eq0-via-else-m-at-eq0+then-m-at-eq32 w ↦ search (wrong_code, more_here, c.in-Ok.ensures.0, c.in-Ok.ensures.1)
]

pub returns-else-m-at-eq32 : goal.returns-else-m-at-eq32
returns-else-m-at-eq32 c = search (wrong_other, more_here, c.in-Ok.ensures.0, c.in-Ok.ensures.1)

-- `unfinished` meets its contract. Assumes nothing.
use mathlib.Core.Path.{◌≡◌, refl}
use mathlib.Core.Bool.{Bool, true, false, cond}
use Rattle.element.specs.declared.EndRead.{EndRead}
use Rattle.read_place.proofs.Views.{unfinished_not, end_closed, end_opened}
use Rattle.read_place.specs.Places.{unfinished_of}
use Rattle.base.proofs.Tests.{tests}
use Rattle.element.proofs.Views.{end_by}
use Rattle.read_place.proofs.unfinished.Goals as goal

one_left : (b : Bool) → b ≡ unfinished_of (cond b EndRead.Unfinished EndRead.More)
unfolding unfinished_of
one_left true = refl
one_left false = refl

more_left : (b c : Bool) → false ≡ unfinished_of (cond b (cond c EndRead.Ended EndRead.More) EndRead.More)
unfolding unfinished_of
more_left true true = refl
more_left true false = refl
more_left false c = refl

pub returns-then-stop-lt-OPEN : goal.returns-then-stop-lt-OPEN
unfolding unfinished_of end_by
returns-then-stop-lt-OPEN c = search (tests, end_closed, unfinished_not)

pub returns-then-left-eq0 : goal.returns-then-left-eq0
unfolding unfinished_of end_by
returns-then-left-eq0 c = search (tests, end_opened)

pub returns-then-left-eq1 : goal.returns-then-left-eq1
unfolding unfinished_of end_by
returns-then-left-eq1 c = search (tests, end_opened, one_left)

pub returns-else-left-eq1 : goal.returns-else-left-eq1
unfolding unfinished_of end_by
returns-else-left-eq1 c = search (tests, end_opened, more_left)

-- `behind` meets its contract. Assumes nothing.
use Rattle.read_place.specs.Places.{behind_of}
use Rattle.base.proofs.Tests.{tests}
use Rattle.read_place.proofs.behind.Goals as goal

pub returns-then-stop-lt-OPEN : goal.returns-then-stop-lt-OPEN
unfolding behind_of
returns-then-stop-lt-OPEN c = search tests

pub returns : goal.returns
unfolding behind_of
returns c = search tests

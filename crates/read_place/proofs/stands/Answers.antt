-- `stands` meets its contract. Assumes nothing.
use Rattle.read_place.specs.Places.{stands_of}
use Rattle.base.proofs.Tests.{tests}
use Rattle.read_place.proofs.stands.Goals as goal

pub returns-then-at-stop : goal.returns-then-at-stop
unfolding stands_of
returns-then-at-stop c = search tests

pub returns-else-at-stop : goal.returns-else-at-stop
unfolding stands_of
returns-else-at-stop c = search tests

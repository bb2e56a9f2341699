-- The loop: what is left to test, and whether a number begins there. Assumes nothing.
use mathlib.Core.Path.{◌≡◌}
use mathlib.Core.Bool.{true}
use lib.ListN.{drop}
use Rattle.primitive.specs.Primitive.{numbers}
use Rattle.primitive.specs.inner.Answers.{begins_at}
use Rattle.primitive.proofs.identifier_ok.Given as goal

abbrev pub invariant-loop-at : goal.invariant-loop-at
invariant-loop-at l = numbers l.contents true ≡ numbers (drop l.at l.contents) (begins_at l.at l.contents)

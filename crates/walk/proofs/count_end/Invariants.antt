-- The number of the octets read, and what is left of them. Assumes nothing.
use Rattle.base.specs.Number.{number_from}
use Rattle.element.proofs.Views.{length_octets}
use lib.ListN.{drop}
use mathlib.Core.Path.{◌≡◌}
use Rattle.walk.proofs.count_end.Given as goal

abbrev pub invariant-loop-octet : goal.invariant-loop-octet
invariant-loop-octet l = number_from 0 (length_octets l.m l.from l.k) ≡ number_from l.value (drop l.octet-index (length_octets l.m l.from l.k))

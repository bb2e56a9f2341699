-- The octets passed have been put. Assumes nothing.
use lib.ListN.{take}
use Rattle.base.specs.inner.Put.{Put}
use Rattle.base.proofs.put_each.Given as goal

abbrev pub invariant-loop-octet : goal.invariant-loop-octet
invariant-loop-octet l = Put l.initial.out l.at (take l.octet-index l.part) l.next l.out

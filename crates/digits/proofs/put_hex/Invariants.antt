-- The octets passed have been put, two digits each. Assumes nothing.
use lib.ListN.{take}
use Rattle.base.specs.inner.Put.{Put}
use Rattle.digits.specs.Digits.{hex}
use Rattle.digits.proofs.put_hex.Given as goal

abbrev pub invariant-loop-octet : goal.invariant-loop-octet
invariant-loop-octet l = Put l.initial.out l.at (hex (take l.octet-index l.part)) l.next l.out

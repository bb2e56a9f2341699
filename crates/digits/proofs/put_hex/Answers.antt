-- The octets passed have been put, two digits each. Assumes nothing.
use native.Mathlib.Omega.{arith}
use Rattle.base.proofs.Puts.{put_none}
use Rattle.digits.specs.Digits.{hex}
use Rattle.digits.proofs.Digits.{hex_step}
use Rattle.digits.proofs.put_hex.Goals as goal

pub loop-octet-init : goal.loop-octet-init
unfolding hex
loop-octet-init c = put_none _ _ (omega arith) (omega arith)

pub loop-octet-preserved : goal.loop-octet-preserved
loop-octet-preserved c = hex_step _ _ c.loop-octet-test.true c.loop-octet.invariant (rw (← c.hex_digit.ensures, ← c.hex_digit-in-loop-octet.ensures) c.put_octets-next.ensures)

-- Within the buffer the octets passed have been stored. Assumes nothing.
use mathlib.Core.Path.{◌≡◌}
use lib.ListN.{length}
use lib.Seq.{take_all}
use native.Mathlib.Nat.{add-zero}
use native.Mathlib.Omega.{arith}
use Rattle.base.proofs.Puts.{put_none, put_more, put_in, put_length}
use Rattle.base.proofs.put_part.Goals as goal

pub loop-i-init : goal.loop-i-init
loop-i-init c = rw add-zero (put_none _ _ (omega arith) (omega arith))

pub loop-i-preserved : goal.loop-i-preserved
loop-i-preserved c = put_more _ _ c.loop-i-test.true c.loop-i.invariant (put_in _ _ _ _ (omega (arith, put_length c.loop-i.invariant)) (omega (arith, put_length c.loop-i.invariant)) (omega arith))

pub returns : goal.returns
returns c =
    let all : c.loop-i.i ≡ length c.args.part.now = omega arith in
    rw (take_all _ c.args.part.now c.loop-i-test.false, all) at c.loop-i.invariant

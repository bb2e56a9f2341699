-- The octets passed have been stored. Assumes nothing.
use Prim.Native.Nat.{◌-◌}
use lib.ListN.{length}
use lib.Seq.{paste-zero}
use native.Mathlib.Omega.{arith}
use Rattle.base.proofs.Backs.{copied_length, copied_next, copied}
use Rattle.base.proofs.back_part.Goals as goal

pub loop-i-init : goal.loop-i-init
loop-i-init c = paste-zero c.args.out.now (c.args.at - length c.args.part.now) c.args.part.now

pub bounds-out-start : goal.bounds-out-start
bounds-out-start c = omega (arith, c.requires, copied_length _ _ _ c.requires _ _ c.loop-i.invariant c.loop-i.auto.i-end)

pub loop-i-preserved : goal.loop-i-preserved
loop-i-preserved c = copied_next _ _ _ c.requires _ _ c.loop-i.invariant c.loop-i-test.true

pub returns : goal.returns
returns c = copied _ _ _ c.requires _ _ c.loop-i.invariant c.loop-i.auto.i-end c.loop-i-test.false

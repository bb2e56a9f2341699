-- The octets passed have been put. Assumes nothing.
use Rattle.base.proofs.Puts.{put_more}
use Rattle.base.proofs.put_each.Goals as goal

pub loop-octet-preserved : goal.loop-octet-preserved
loop-octet-preserved c = put_more _ _ c.loop-octet-test.true c.loop-octet.invariant c.put_octet-next.ensures

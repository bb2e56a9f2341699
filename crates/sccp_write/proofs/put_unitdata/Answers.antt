-- `put_unitdata` meets its contract. Assumes nothing.
use Rattle.base.proofs.Puts.{put_then}
use Rattle.sccp.specs.Writing.{unitdata_octets}
use Rattle.sccp_write.proofs.put_unitdata.Goals as goal

pub returns : goal.returns
unfolding unitdata_octets
returns c = put_then c.put_octets-o.ensures (put_then c.put_octets-o-2.ensures (put_then c.put_counted-o.ensures (put_then c.put_counted-o-2.ensures c.put_counted.ensures)))

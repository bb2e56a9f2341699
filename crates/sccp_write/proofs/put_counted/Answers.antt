-- `put_counted` meets its contract. Assumes nothing.
use Rattle.base.proofs.Puts.{put_then}
use Rattle.sccp_write.proofs.put_counted.Goals as goal

pub returns : goal.returns
returns c = put_then c.put_octet-next.ensures c.put_part.ensures

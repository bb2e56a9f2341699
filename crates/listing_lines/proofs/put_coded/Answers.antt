-- Field after field. Assumes nothing.
use Rattle.base.proofs.Puts.{put_then}
use Rattle.listing_lines.specs.Lines.{coded_text}
use Rattle.listing_lines.proofs.put_coded.Goals as goal

pub returns : goal.returns
unfolding coded_text
returns c = put_then (put_then c.put_id-a.ensures c.put_code-b.ensures) c.put_parameter.ensures

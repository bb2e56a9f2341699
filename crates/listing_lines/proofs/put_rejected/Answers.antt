-- Field after field. Assumes nothing.
use Rattle.base.proofs.Puts.{put_then}
use Rattle.listing_lines.specs.Lines.{reject_text}
use Rattle.listing_lines.proofs.put_rejected.Goals as goal

pub returns : goal.returns
unfolding reject_text
returns c = put_then (put_then c.put_part-a.ensures c.put_problem-b.ensures) c.put_part.ensures

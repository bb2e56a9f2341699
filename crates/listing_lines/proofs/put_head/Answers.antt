-- Field after field. Assumes nothing.
use Rattle.base.proofs.Puts.{put_then}
use Rattle.listing_lines.specs.Lines.{head_text}
use Rattle.listing_lines.proofs.put_head.Goals as goal

pub returns : goal.returns
unfolding head_text
returns c = put_then (put_then (put_then (put_then (put_then c.put_kind-a.ensures c.put_number-b.ensures) c.put_ids-c.ensures) c.put_dialogue-d.ensures) c.put_number-e.ensures) c.put_octet.ensures

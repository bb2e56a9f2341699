-- Field after field. Assumes nothing.
use Rattle.base.proofs.Puts.{put_then}
use Rattle.listing_lines.specs.Lines.{row_text}
use Rattle.listing_lines.proofs.put_row.Goals as goal

pub returns : goal.returns
unfolding row_text
returns c = put_then (put_then (put_then (put_then c.put_decimal-a.ensures c.put_word-b.ensures) c.put_id-c.ensures) c.put_parts-d.ensures) c.put_octet.ensures

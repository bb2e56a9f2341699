-- Field after field. Assumes nothing.
use Rattle.base.proofs.Puts.{put_then}
use Rattle.listing_lines.specs.Lines.{refusal_text}
use Rattle.listing_lines.proofs.put_refusal.Goals as goal

pub returns : goal.returns
unfolding refusal_text
returns c = rw (← c.number_of.ensures, ← c.from.ensures) (put_then (put_then (put_then (put_then c.put_part-a.ensures c.put_number-b.ensures) c.put_number-c.ensures) c.put_answer-d.ensures) c.put_octet.ensures)

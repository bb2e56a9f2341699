-- The number after the word. Assumes nothing.
use Rattle.base.proofs.Puts.{put_then}
use Rattle.listing_fields.specs.Fields.{dialogue_text}
use Rattle.listing_fields.proofs.put_dialogue.Goals as goal

pub returns-in-Cause : goal.returns-in-Cause
unfolding dialogue_text
returns-in-Cause c = rw (c.in-Cause.is, ← c.from.ensures) (put_then c.put_part-next.ensures c.put_decimal.ensures)

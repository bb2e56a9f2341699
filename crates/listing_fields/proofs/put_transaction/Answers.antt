-- The string after the space. Assumes nothing.
use Rattle.base.proofs.Puts.{put_then}
use Rattle.listing_fields.specs.Fields.{transaction_text}
use Rattle.listing_fields.specs.inner.Known.{known_text}
use Rattle.listing_fields.proofs.put_transaction.Goals as goal

pub returns-in-Some : goal.returns-in-Some
unfolding known_text transaction_text
returns-in-Some c = rw c.in-Some.is (put_then c.put_octet-next.ensures c.put_string.ensures)

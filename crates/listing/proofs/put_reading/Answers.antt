-- The head, then the rows. Assumes nothing.
use Rattle.base.proofs.Puts.{put_then}
use Rattle.listing.specs.Listing.{record_text, listing_of}
use Rattle.listing.proofs.put_reading.Goals as goal

pub returns-in-Ok : goal.returns-in-Ok
unfolding listing_of record_text
returns-in-Ok c = rw c.in-Ok.is (put_then c.put_head-next.ensures c.put_rows.ensures)

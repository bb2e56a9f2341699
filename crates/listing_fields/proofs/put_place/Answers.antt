-- Place, plus, length. Assumes nothing.
use Rattle.base.proofs.Puts.{put_then}
use Rattle.listing_fields.specs.Fields.{place_text}
use Rattle.listing_fields.proofs.put_place.Goals as goal

pub returns : goal.returns
unfolding place_text
returns c = put_then (put_then c.put_number-a.ensures c.put_octet-b.ensures) c.put_decimal.ensures

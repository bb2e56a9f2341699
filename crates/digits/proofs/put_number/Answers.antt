-- The digits after the space. Assumes nothing.
use Rattle.base.proofs.Puts.{put_then}
use Rattle.digits.specs.Digits.{number}
use Rattle.digits.proofs.put_number.Goals as goal

pub returns : goal.returns
unfolding number
returns c = put_then c.put_octet-next.ensures c.put_decimal.ensures

-- By the sign. Assumes nothing.
use mir.Facts.{to_z-of_z}
use Rattle.base.proofs.Puts.{put_then}
use Rattle.digits.proofs.Digits.{signed_below}
use Rattle.digits.proofs.put_signed.Goals as goal

pub returns : goal.returns
returns c =
    let far = rw (to_z-of_z c.ranges.value) at c.unsigned_abs-digits.ensures.value in
    rw (signed_below c.args.value (rw (to_z-of_z c.ranges.value) at c.if-value-ge0.false), ← far) (put_then c.put_octet-next.ensures c.put_decimal-2.ensures)

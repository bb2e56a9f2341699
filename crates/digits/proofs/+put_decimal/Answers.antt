-- The last digit comes after the others. Assumes nothing.
use native.Mathlib.Omega.{arith}
use Rattle.base.proofs.Puts.{put_then}
use Rattle.digits.proofs.Digits.{decimal_more}
use Rattle.digits.proofs.+put_decimal.Goals as goal

pub returns : goal.returns
returns t c = rw (decimal_more c.args.whole (omega arith)) (put_then c.put_decimal-next.ensures c.put_octet-2.ensures)

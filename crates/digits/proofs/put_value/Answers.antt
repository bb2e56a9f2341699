-- The signed number after the space. Assumes nothing.
use mir.Syntax.{w32}
use mir.Facts.{to_z-of_z}
use Rattle.base.proofs.Puts.{put_then}
use Rattle.digits.specs.Digits.{value}
use Rattle.digits.proofs.put_value.Goals as goal

pub returns : goal.returns
unfolding value
returns c =
    let wide = rw (to_z-of_z c.ranges.id) at c.into.ensures in
    put_then c.put_octet-next.ensures (rw (to_z-of_z {w = w32} (record { sfits = c.into.type_inv }), wide) at c.put_signed.ensures)

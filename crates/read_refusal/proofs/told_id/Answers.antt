-- `told_id` meets its contract. Assumes nothing.
use mir.Facts.{to_z-of_z}
use mir.Syntax.{w8}
use Rattle.read_refusal.proofs.Refusals.{id_null, id_known}
use Rattle.read_refusal.proofs.told_id.Goals as goal

pub returns-then-flag-eq0 : goal.returns-then-flag-eq0
returns-then-flag-eq0 c = search id_null

pub returns : goal.returns
returns c = rw (to_z-of_z {w = w8} (record { sfits = c.signed_octet.type_inv })) (id_known _ _ c.if-flag-eq0.false _ c.signed_octet.ensures)

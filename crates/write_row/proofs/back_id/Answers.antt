-- By the flag. Assumes nothing.
use borrow.Author.Tests.{eq-eqb, ne_eqb}
use Rattle.element.specs.Form.{shortest}
use Rattle.write_check_row.specs.Forms.{id_form}
use Rattle.layout.specs.Layout.{id_in}
use Rattle.write_head.proofs.Lengths.{short_length}
use Rattle.write_row.proofs.Fields.{signed_parts}
use native.Mathlib.Omega.{arith}
use Rattle.write_row.proofs.back_id.Goals as goal

pub back_octets-requires : goal.back_octets-requires
unfolding id_form id_in shortest
back_octets-requires c = (omega arith, rw (eq-eqb _ _ c.if-flag-eq0.true, short_length 0 (omega arith)) at c.requires)

pub returns-then-flag-eq0 : goal.returns-then-flag-eq0
unfolding id_form id_in shortest
returns-then-flag-eq0 c = rw (eq-eqb _ _ c.if-flag-eq0.true, short_length 0 (omega arith)) c.back_octets.ensures

pub back_octets-requires-2 : goal.back_octets-requires-2
unfolding id_form id_in
back_octets-requires-2 c = (omega arith, rw (ne_eqb _ _ c.if-flag-eq0.false, signed_parts _ _ c.ranges.octet.fits) at c.requires)

pub returns : goal.returns
unfolding id_form id_in
returns c = rw (ne_eqb _ _ c.if-flag-eq0.false, signed_parts _ _ c.ranges.octet.fits) c.back_octets-2.ensures

-- By the flag. Assumes nothing.
use native.Mathlib.Omega.{arith}
use borrow.Author.Tests.{eq-eqb, ne_eqb}
use Rattle.base.proofs.Backs.{back_none}
use Rattle.element.specs.Form.{shortest}
use Rattle.write_check_row.specs.Forms.{linked_form}
use Rattle.layout.specs.Layout.{linked_in}
use Rattle.write_row.proofs.Fields.{signed_parts}
use Rattle.write_row.proofs.back_linked.Goals as goal

pub returns-then-flag-eq0 : goal.returns-then-flag-eq0
unfolding linked_form linked_in shortest
returns-then-flag-eq0 c = rw (eq-eqb _ _ c.if-flag-eq0.true) (back_none _ _ c.requires.within)

pub back_octets-requires : goal.back_octets-requires
unfolding linked_form linked_in
back_octets-requires c = (omega arith, rw (ne_eqb _ _ c.if-flag-eq0.false, signed_parts _ _ c.ranges.octet.fits) at c.requires)

pub returns : goal.returns
unfolding linked_form linked_in
returns c = rw (ne_eqb _ _ c.if-flag-eq0.false, signed_parts _ _ c.ranges.octet.fits) c.back_octets.ensures

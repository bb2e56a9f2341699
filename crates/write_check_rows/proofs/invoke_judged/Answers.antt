-- By the flag of the linked ID. Assumes nothing.
use native.Mathlib.Omega.{arith}
use native.Mathlib.Nat.{zero-add}
use Rattle.layout.specs.Layout.{linked_in}
use Rattle.tcap.specs.Verdict.{row_ranges, row_lies, row_shaped}
use Rattle.write_check_row.specs.Forms.{linked_form, rest_form}
use Rattle.write_check_row.proofs.Joining.{then_size, exact_size}
use Rattle.write_check_row.proofs.Listed.{fine_then, octet_id}
use Rattle.write_check_rows.proofs.invoke_judged.Goals as goal

pub returns-in-0 : goal.returns-in-0
unfolding linked_in linked_form rest_form row_ranges row_lies row_shaped
returns-in-0 c = rw (c.in-0.is, c.coded_judged.ensures) (simp (then_size, exact_size, zero-add))

pub returns-in-1 : goal.returns-in-1
unfolding linked_in linked_form rest_form row_ranges row_lies row_shaped
returns-in-1 c = rw (c.in-1.is, c.both.ensures, c.coded_judged-in-1.ensures, fine_then 3 (omega arith)) (simp (then_size, octet_id))

-- By the tag. Assumes nothing.
use native.Mathlib.Omega.{arith}
use mathlib.Core.Logic.{inl, inr}
use Rattle.std.proofs.lemmas.Bool.Decides.{nat_tests}
use Rattle.layout.specs.Layout.{is_unlinked, kind_in}
use Rattle.tcap.specs.Verdict.{row_ranges, row_lies, row_shaped}
use Rattle.write_check_row.specs.Forms.{rest_form}
use Rattle.write_check_rows.proofs.unlinked_judged.Goals as goal

pub returns-in-162 : goal.returns-in-162
unfolding is_unlinked kind_in rest_form row_ranges row_lies row_shaped
returns-in-162 c = elim c.in-162.is [ inl h ↦ rw h c.returned_judged.ensures | inr h ↦ rw h c.returned_judged.ensures ]

pub returns-in-163 : goal.returns-in-163
unfolding is_unlinked kind_in rest_form row_ranges row_lies row_shaped
returns-in-163 c = rw c.in-163.is c.coded_judged.ensures

pub returns-in-164 : goal.returns-in-164
unfolding is_unlinked kind_in rest_form row_ranges row_lies row_shaped
returns-in-164 c = rw c.in-164.is c.reject_judged.ensures

pub returns-in_default : goal.returns-in_default
unfolding is_unlinked
returns-in_default c = grind (arith, nat_tests)

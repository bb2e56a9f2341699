-- By the tag. Assumes nothing.
use Rattle.layout.specs.Layout.{problem_in}
use Rattle.tcap.specs.Verdict.{problem_ranges}
use Rattle.write_check_row.proofs.Leaves.{octet_size}
use Rattle.write_check_rows.proofs.problem_judged.Goals as goal

pub returns-in-128 : goal.returns-in-128
unfolding problem_in problem_ranges
returns-in-128 c = rw (c.in-128.is, octet_size) c.octet_judged.ensures

pub returns-in-129 : goal.returns-in-129
unfolding problem_in problem_ranges
returns-in-129 c = rw (c.in-129.is, octet_size) c.octet_judged-in-129.ensures

pub returns-in-130 : goal.returns-in-130
unfolding problem_in problem_ranges
returns-in-130 c = rw (c.in-130.is, octet_size) c.octet_judged-in-130.ensures

pub returns-in-131 : goal.returns-in-131
unfolding problem_in problem_ranges
returns-in-131 c = rw (c.in-131.is, octet_size) c.octet_judged-in-131.ensures

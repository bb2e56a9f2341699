-- The ID, and what stands behind it. Assumes nothing.
use borrow.Author.Tests.{lt-leb}
use Rattle.layout.specs.Layout.{is_row}
use Rattle.write_check_row.proofs.Listed.{flag_none, row_id, row_null, row_none}
use Rattle.write_check_rows.proofs.row_judged.Goals as goal

pub returns-then-part-gt1 : goal.returns-then-part-gt1
unfolding is_row
returns-then-part-gt1 c = rw (lt-leb _ 1 c.if-part-gt1.true)

pub returns-in_default-eq1 : goal.returns-in_default-eq1
returns-in_default-eq1 c = rw (c.around.ensures, c.both.ensures, c.rest_judged-rest.ensures) (row_id c.args.material.now c.args.part.now c.in_default-eq1.is-1)

pub returns-in-164-eq0 : goal.returns-in-164-eq0
returns-in-164-eq0 c = rw (c.around-in-164-eq0.ensures, c.both-in-164-eq0.ensures, c.rest_judged-rest.ensures) (row_null c.args.material.now c.args.part.now c.in-164-eq0.is-1 c.in-164-eq0.is-0)

pub returns-in_default : goal.returns-in_default
returns-in_default c = row_none c.args.material.now c.args.part.now c.in_default.is-1 c.in_default.is-0.1

pub returns-in_default-2 : goal.returns-in_default-2
unfolding is_row
returns-in_default-2 c = rw (flag_none _ c.in_default.is-1.1 c.in_default.is-1.0.1)

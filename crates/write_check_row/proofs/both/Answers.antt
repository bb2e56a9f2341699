-- `both` meets its contract. Assumes nothing.
use Rattle.write_check_row.specs.Judged.{joined}
use Rattle.write_check_row.proofs.both.Goals as goal

pub returns-in-Ok-Ok : goal.returns-in-Ok-Ok
unfolding joined
returns-in-Ok-Ok c = rw (c.in-Ok-Ok.is-0, c.in-Ok-Ok.is-1, c.total.ensures)

pub returns-in-Err-Err : goal.returns-in-Err-Err
unfolding joined
returns-in-Err-Err c = rw (c.in-Err-Err.is-0, c.in-Err-Err.is-1, c.worse.ensures)

pub returns-in-Err-Ok : goal.returns-in-Err-Ok
unfolding joined
returns-in-Err-Ok c = rw (c.in-Err-Ok.is-0, c.in-Err-Ok.is-1)

pub returns-in-Ok-Err : goal.returns-in-Ok-Err
unfolding joined
returns-in-Ok-Err c = rw (c.in-Ok-Err.is-0, c.in-Ok-Err.is-1)

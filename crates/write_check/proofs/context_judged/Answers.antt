-- `context_judged` meets its contract. Assumes nothing.
use Rattle.write_check_row.proofs.Joining.{wrap, around_size, leaf_size}
use Rattle.write_check.proofs.context_judged.Goals as goal

pub returns : goal.returns
returns c = rw (c.around-2.ensures, c.around.ensures, c.name_judged.ensures, wrap, wrap, around_size, leaf_size)

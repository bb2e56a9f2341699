-- `external_judged` meets its contract. Assumes nothing.
use Rattle.write_check.proofs.external_judged.Goals as goal

pub returns : goal.returns
returns c = rw (c.around-3.ensures, c.around-2.ensures, c.both.ensures, c.around.ensures)

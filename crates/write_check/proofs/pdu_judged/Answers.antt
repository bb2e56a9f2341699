-- `pdu_judged` meets its contract. Assumes nothing.
use Rattle.write_check.proofs.pdu_judged.Goals as goal

pub returns : goal.returns
returns c = rw (c.external_judged.ensures, c.around-2.ensures, c.around.ensures)

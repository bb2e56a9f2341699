-- `number_judged` meets its contract. Assumes nothing.
use Rattle.write_check_row.proofs.Joining.{wrap}
use Rattle.write_check.proofs.Dialogues.{five}
use Rattle.write_check.proofs.number_judged.Goals as goal

pub returns : goal.returns
returns c = rw (c.around.ensures, c.octet_judged.ensures, wrap, five)

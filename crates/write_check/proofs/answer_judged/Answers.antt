-- `answer_judged` meets its contract. Assumes nothing.
use mathlib.Core.Bool.{and-true}
use Rattle.write_check_row.proofs.Joining.{join, then_size, around_size}
use Rattle.write_check_row.proofs.Leaves.{octet_size}
use Rattle.write_check.proofs.Dialogues.{five}
use Rattle.write_check.proofs.answer_judged.Goals as goal

pub returns : goal.returns
returns c = rw (c.both.ensures, c.number_judged.ensures, c.both-diagnosed.ensures, c.source_judged.ensures, c.info_judged.ensures) (simp (join, around_size, then_size, octet_size, and-true, five))

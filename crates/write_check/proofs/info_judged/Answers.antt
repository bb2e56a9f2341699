-- `info_judged` meets its contract. Assumes nothing.
use Rattle.element.specs.Form.{shortest}
use Rattle.write_check_row.specs.Judged.{rank_of, judged}
use Rattle.tcap.specs.Verdict.{option_lies, info_shaped}
use Rattle.write_check_row.specs.Forms.{info_form}
use Rattle.write_check_row.proofs.Joining.{wrap, around_size, exact_size}
use Rattle.write_check.proofs.info_judged.Goals as goal

pub returns-in-None : goal.returns-in-None
unfolding rank_of judged option_lies info_shaped info_form shortest
returns-in-None c = rw c.in-None.is

pub returns-in-Some : goal.returns-in-Some
unfolding option_lies info_shaped info_form
returns-in-Some c = rw (c.in-Some.is, c.around.ensures, c.series_judged.ensures, wrap, around_size, exact_size)

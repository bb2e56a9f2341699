-- By cases. Assumes nothing.
use Rattle.base.proofs.Backs.{back_none}
use Rattle.element.specs.Form.{shortest}
use Rattle.tcap.specs.Verdict.{option_lies}
use Rattle.write_check_row.specs.Forms.{info_form}
use Rattle.write_portion.proofs.back_info.Goals as goal

pub back_string-requires-clause-string_within : goal.back_string-requires-clause-string_within
unfolding option_lies info_form shortest
back_string-requires-clause-string_within c = rw c.in-Some.is at c.requires.info_within

pub back_string-requires-clause-room : goal.back_string-requires-clause-room
unfolding option_lies info_form shortest
back_string-requires-clause-room c = rw c.in-Some.is at c.requires.room

pub returns-in-None : goal.returns-in-None
unfolding option_lies info_form shortest
returns-in-None c = rw c.in-None.is (back_none _ _ c.requires.room.within)

pub returns-in-Some : goal.returns-in-Some
unfolding option_lies info_form shortest
returns-in-Some c = rw c.in-Some.is c.back_string.ensures

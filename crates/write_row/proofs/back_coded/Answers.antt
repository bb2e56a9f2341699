-- One before the other. Assumes nothing.
use Rattle.base.proofs.Backs.{room_last, room_next, back_then}
use Rattle.element.specs.Form.{shortest}
use Rattle.write_check_row.specs.Forms.{code_form, octets_of}
use Rattle.layout.specs.Layout.{code_at}
use Rattle.write_row.proofs.back_coded.Goals as goal

pub back_parameter-next-requires-clause-parameter_within : goal.back_parameter-next-requires-clause-parameter_within
unfolding shortest
back_parameter-next-requires-clause-parameter_within c = c.requires.parameter_within

pub back_parameter-next-requires-clause-room : goal.back_parameter-next-requires-clause-room
unfolding shortest
back_parameter-next-requires-clause-room c = room_last (octets_of (code_form c.args.material.now (code_at c.args.part.now))) c.requires.room

pub back_code-requires-clause-code_within : goal.back_code-requires-clause-code_within
unfolding shortest
back_code-requires-clause-code_within c = c.requires.code_within

pub back_code-requires-clause-room : goal.back_code-requires-clause-room
unfolding shortest
back_code-requires-clause-room c = room_next c.back_parameter-next.ensures _ c.requires.room

pub returns : goal.returns
unfolding shortest
returns c = back_then c.back_parameter-next.ensures c.back_code.ensures

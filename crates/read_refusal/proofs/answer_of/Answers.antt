-- `answer_of` meets its contract. Assumes nothing.
use Rattle.tcap.specs.Reading.{answer_for}
use Rattle.read_refusal.proofs.answer_of.Goals as goal

pub returns-in-UnknownMessage : goal.returns-in-UnknownMessage
unfolding answer_for
returns-in-UnknownMessage c = rw c.in-UnknownMessage.is

pub returns-in-TooManyComponents : goal.returns-in-TooManyComponents
unfolding answer_for
returns-in-TooManyComponents c = rw c.in-TooManyComponents.is

pub returns-in-UnknownComponent : goal.returns-in-UnknownComponent
unfolding answer_for
returns-in-UnknownComponent c = rw (c.answer_by.ensures, c.in-UnknownComponent.is)

pub returns-in-WrongPart : goal.returns-in-WrongPart
unfolding answer_for
returns-in-WrongPart c = rw (c.answer_by-in-WrongPart.ensures, c.in-WrongPart.is)

pub returns-in-BadForm : goal.returns-in-BadForm
unfolding answer_for
returns-in-BadForm c = rw (c.answer_by-in-BadForm.ensures, c.in-BadForm.is)

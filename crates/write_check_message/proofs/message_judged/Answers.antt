-- `message_judged` meets its contract. Assumes nothing.
use Rattle.write_check_message.proofs.message_judged.Goals as goal

pub returns : goal.returns
returns c = rw (c.both.ensures, c.parts_judged.ensures, c.around-whole.ensures, c.behind_judged.ensures, c.both-rest.ensures, c.dialogue_judged.ensures)

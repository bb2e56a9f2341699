-- What is lost behind the length is lost with it. Assumes nothing.
use Rattle.program_parts.proofs.Coming.{loses_after}
use Rattle.program_parts.proofs.cases.next_short_string.Goals as goal

pub returns-clause-loses : goal.returns-clause-loses
returns-clause-loses g c = loses_after _ _ _ _ c.in_ok-got.ensures.taken c.next_octets.ensures.loses

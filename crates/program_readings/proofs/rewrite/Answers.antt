-- What was read is always written, and stands at the front. Assumes nothing.
use mathlib.Core.Path.{sym, ◌∙◌}
use Rattle.program_readings.specs.Rewritten.{rewritten}
use Rattle.program_readings.proofs.Rewriting.{front_written}
use Rattle.program_readings.proofs.rewrite.Goals as goal

pub returns-in-Ok-clause-prefix_len : goal.returns-in-Ok-clause-prefix_len
returns-in-Ok-clause-prefix_len c = (front_written _ _ _ _ c.write_again.ensures (sym c.requires.found_value ∙ c.in-Ok.is) c.requires.out_len c.unwrap_or.ensures).0

pub returns-in-Ok-clause-out_after : goal.returns-in-Ok-clause-out_after
unfolding rewritten
returns-in-Ok-clause-out_after c = rw c.in-Ok.is (front_written _ _ _ _ c.write_again.ensures (sym c.requires.found_value ∙ c.in-Ok.is) c.requires.out_len c.unwrap_or.ensures).1

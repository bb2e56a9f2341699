-- A text with room stands at the front, and its length is the count. Assumes nothing.
use Rattle.program_parts.proofs.Fits.{front_len, front_value}
use Rattle.program_parts.proofs.list_into.Goals as goal

pub returns-clause-prefix_len : goal.returns-clause-prefix_len
returns-clause-prefix_len c = front_len _ _ _ c.list_reading.ensures.value c.unwrap_or.ensures c.list_reading.ensures.out_after

pub returns-clause-value : goal.returns-clause-value
returns-clause-value c = front_value _ _ _ c.list_reading.ensures.value c.unwrap_or.ensures

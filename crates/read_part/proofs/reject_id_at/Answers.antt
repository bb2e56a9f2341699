-- `reject_id_at` meets its contract. Assumes nothing.
use borrow.Author.Rules.{rules}
use Rattle.read_part.proofs.FieldsLeft.{null_both, number_both}
use Rattle.read_part.proofs.reject_id_at.Goals as goal

pub returns-then-stands : goal.returns-then-stands
returns-then-stands c = let both = null_both _ _ _ _ (search rules) _ c.stands.ensures _ c.if-stands.true c.null_at.ensures.0 in record { reads = (both.0, c.null_at.ensures.1); leaves = both.1 }

pub returns : goal.returns
returns c = let both = number_both _ _ _ _ (search rules) _ c.stands.ensures _ c.if-stands.false _ (c.invoke_id_at.ensures.reads.0, c.invoke_id_at.ensures.leaves) in record { reads = (both.0, c.invoke_id_at.ensures.reads.1); leaves = both.1 }

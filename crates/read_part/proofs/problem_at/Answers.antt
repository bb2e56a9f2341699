-- `problem_at` meets its contract. Assumes nothing.
use borrow.Author.Rules.{rules}
use Rattle.read_part.proofs.FieldsLeft.{invoke_both, result_both, error_both, general_both}
use Rattle.read_part.proofs.problem_at.Goals as goal

pub returns-then-stands : goal.returns-then-stands
returns-then-stands c = let both = invoke_both _ _ _ _ (search rules) _ _ _ c.if-stands.true c.stands.ensures (c.problem_of.ensures.reads.0, c.problem_of.ensures.leaves) in record { reads = (both.0, c.problem_of.ensures.reads.1); leaves = both.1 }

pub returns-then-stands-2 : goal.returns-then-stands-2
returns-then-stands-2 c = let both = result_both _ _ _ _ (search rules) _ _ _ c.if-stands-2.true c.stands-2.ensures (c.problem_of-then-stands-2.ensures.reads.0, c.problem_of-then-stands-2.ensures.leaves) in record { reads = (both.0, c.problem_of-then-stands-2.ensures.reads.1); leaves = both.1 }

pub returns-then-stands-3 : goal.returns-then-stands-3
returns-then-stands-3 c = let both = error_both _ _ _ _ (search rules) _ _ _ c.if-stands-3.true c.stands-3.ensures (c.problem_of-then-stands-3.ensures.reads.0, c.problem_of-then-stands-3.ensures.leaves) in record { reads = (both.0, c.problem_of-then-stands-3.ensures.reads.1); leaves = both.1 }

pub returns : goal.returns
returns c = let both = general_both _ _ _ _ (search rules) _ _ _ _ _ c.stands.ensures c.stands-2.ensures c.stands-3.ensures c.if-stands.false c.if-stands-2.false c.if-stands-3.false (c.problem_of-2.ensures.reads.0, c.problem_of-2.ensures.leaves) in record { reads = (both.0, c.problem_of-2.ensures.reads.1); leaves = both.1 }

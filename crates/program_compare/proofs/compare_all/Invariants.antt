-- Fewer cases are left. Assumes nothing.
use Rattle.program_compare.proofs.compare_all.Given as goal

abbrev pub decreases-loop-left : goal.decreases-loop-left
decreases-loop-left g l = l.left

-- The rows passed have their lines. Assumes nothing.
use native.Mathlib.Omega.{arith}
use Rattle.base.proofs.Puts.{put_none}
use Rattle.listing_lines.specs.Lines.{rows_text}
use Rattle.listing_lines.proofs.Rows.{rows_step}
use Rattle.listing_lines.proofs.put_rows.Goals as goal

pub loop-index-init : goal.loop-index-init
unfolding rows_text
loop-index-init c = put_none _ _ (omega arith) (omega arith)

pub loop-index-preserved : goal.loop-index-preserved
loop-index-preserved c = rows_step _ _ _ _ (omega arith) c.loop-index.invariant c.put_row-next.ensures

-- `is_element` meets its contract. Assumes nothing.
use mathlib.Core.Path.{◌∙◌}
use Rattle.write_check_row.proofs.Shapes.{element_told}
use Rattle.write_check_row.proofs.is_element.Goals as goal

pub returns : goal.returns
returns c = c.eq.ensures ∙ element_told _ _ _ c.whole_at.ensures

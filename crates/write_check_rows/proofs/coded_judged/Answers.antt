-- Both parts are listed. Assumes nothing.
use mathlib.Core.Bool.{and-true}
use Rattle.layout.specs.Layout.{is_coded}
use Rattle.write_check_row.proofs.Joining.{then_size}
use Rattle.write_check_row.proofs.Listed.{listed_join}
use Rattle.write_check_rows.proofs.coded_judged.Goals as goal

pub returns : goal.returns
unfolding is_coded
returns c = rw (c.both.ensures, c.code_judged-code.ensures, c.parameter_judged.ensures, listed_join) (simp (then_size, and-true))

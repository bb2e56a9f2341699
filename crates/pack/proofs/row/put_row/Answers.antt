-- By its fields. Assumes nothing.
use Rattle.layout.specs.Layout.{row_octets}
use Rattle.layout.proofs.Typed.{row_typed}
use Rattle.pack.proofs.row.put_row.Goals as goal

pub returns : goal.returns
unfolding row_octets
returns c = (c.put_kind.ensures, row_typed c.args.row _ c.well_formed.1.1.0)

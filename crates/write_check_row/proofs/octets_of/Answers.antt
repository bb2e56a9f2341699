-- `octets_of` meets its contract. Assumes nothing.
use borrow.Author.Tests.{leb-true}
use Rattle.tcap.specs.Verdict.{lies, string_octets}
use Rattle.write_check_row.proofs.octets_of.Goals as goal

pub piece-requires : goal.piece-requires
unfolding lies
piece-requires c = leb-true _ _ c.requires

pub returns : goal.returns
unfolding string_octets
returns c = c.piece.ensures

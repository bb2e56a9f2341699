-- `octet_judged` meets its contract. Assumes nothing.
use Rattle.base.proofs.Tests.{tests}
use Rattle.write_check_row.specs.Judged.{rank_of, judged}
use Rattle.write_check_row.proofs.octet_judged.Goals as goal

pub returns-then-octet-most : goal.returns-then-octet-most
unfolding rank_of judged
returns-then-octet-most c = search tests

pub returns : goal.returns
unfolding rank_of judged
returns c = search tests

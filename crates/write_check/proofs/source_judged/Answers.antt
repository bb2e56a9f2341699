-- `source_judged` meets its contract. Assumes nothing.
use Rattle.tcap.specs.Verdict.{source_ranges}
use Rattle.write_check_row.proofs.Joining.{wrap, around_size}
use Rattle.write_check_row.proofs.Leaves.{octet_size}
use Rattle.write_check.proofs.Dialogues.{five}
use Rattle.write_check.proofs.source_judged.Goals as goal

pub returns-in-ByUser : goal.returns-in-ByUser
unfolding source_ranges
returns-in-ByUser c = rw (c.in-ByUser.is, c.around.ensures, c.number_judged.ensures, wrap, around_size, around_size, octet_size, five)

pub returns-in-ByProvider : goal.returns-in-ByProvider
unfolding source_ranges
returns-in-ByProvider c = rw (c.in-ByProvider.is, c.around-in-ByProvider.ensures, c.number_judged-in-ByProvider.ensures, wrap, around_size, around_size, octet_size, five)

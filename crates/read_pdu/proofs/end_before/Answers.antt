-- `end_before` meets its contract. Assumes nothing.
use borrow.Author.Tests.{lt-ltb, le-ltb}
use Rattle.read_pdu.specs.Pdus.{contents_end}
use Rattle.read_pdu.proofs.end_before.Goals as goal

pub returns-then-inner-lt-OPEN : goal.returns-then-inner-lt-OPEN
unfolding contents_end
returns-then-inner-lt-OPEN c = search (lt-ltb, le-ltb)

pub returns : goal.returns
unfolding contents_end
returns c = search (lt-ltb, le-ltb)

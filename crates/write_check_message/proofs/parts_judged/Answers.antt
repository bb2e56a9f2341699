-- `parts_judged` meets its contract. Assumes nothing.
use borrow.Author.Tests.{le-leb, lt-leb}
use Rattle.write_check_row.specs.Judged.{rank_of, judged}
use Rattle.write_check.proofs.Messages.{orig_flag, dest_flag}
use Rattle.write_check_message.proofs.parts_judged.Goals as goal

pub returns-then-not-parts_fit : goal.returns-then-not-parts_fit
unfolding rank_of judged
returns-then-not-parts_fit c = rw (← (orig_flag c.args.orig), ← (dest_flag c.args.dest), ← c.is_some.ensures, ← c.is_some-2.ensures, ← c.cause_there.ensures, ← c.parts_fit.ensures, c.if-not-parts_fit.true)

pub returns-then-count-gt-MOST_COMPONENTS : goal.returns-then-count-gt-MOST_COMPONENTS
unfolding rank_of judged
returns-then-count-gt-MOST_COMPONENTS c = rw (← (orig_flag c.args.orig), ← (dest_flag c.args.dest), ← c.is_some.ensures, ← c.is_some-2.ensures, ← c.cause_there.ensures, ← c.parts_fit.ensures, c.if-not-parts_fit.false, lt-leb _ _ c.if-count-gt-MOST_COMPONENTS.true)

pub returns : goal.returns
unfolding rank_of judged
returns c = rw (← (orig_flag c.args.orig), ← (dest_flag c.args.dest), ← c.is_some.ensures, ← c.is_some-2.ensures, ← c.cause_there.ensures, ← c.parts_fit.ensures, c.if-not-parts_fit.false, le-leb _ _ c.if-count-gt-MOST_COMPONENTS.false)

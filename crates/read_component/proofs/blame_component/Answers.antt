-- `blame_component` meets its contract. Assumes nothing.
use borrow.Author.Rules.{rules}
use native.Mathlib.Omega.{arith}
use lib.ListN.{length-set}
use Rattle.read_component.proofs.RowsLeft.{blame_unknown, blame_known}
use Rattle.read_component.proofs.blame_component.Goals as goal

pub returns-in-None : goal.returns-in-None
returns-in-None c =
    let known = c.in-None.ensures in
    let both = blame_unknown c.args.k c.args.m.now c.args.at c.args.stop c.args.out.now (omega arith) known in record { out_after = both.0; carries_here = both.1 }

pub returns-in-Some : goal.returns-in-Some
returns-in-Some c =
    let known = c.in-Some.ensures in
    let both = blame_known c.args.k c.args.m.now c.args.at c.args.stop c.in-Some.id c.args.out.now (omega arith) known in record { out_after = both.0; carries_here = both.1 }

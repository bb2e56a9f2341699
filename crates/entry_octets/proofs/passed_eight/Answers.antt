-- By the first entry that is under the ID, or none. Assumes nothing.
use native.Mathlib.Omega.{arith}
use mathlib.Core.Path.{sym, ◌∙◌}
use Rattle.entry_octets.proofs.Passing.{passed_at, passed_all}
use Rattle.entry_octets.proofs.passed_eight.Goals as goal

pub returns-then-holds_in : goal.returns-then-holds_in
returns-then-holds_in c = sym (passed_at c.args.word c.args.len c.args.part.now 8 c.loop-i.i (omega arith) c.loop-i.invariant (rw (← c.after.ensures) (sym c.holds_in.ensures ∙ c.if-holds_in.true)))

pub returns : goal.returns
returns c = sym (passed_all c.args.word c.args.len c.args.part.now 8 (λ j h. c.loop-i.invariant j (omega (arith, h))))

-- `asked_at` meets its contract. Assumes nothing.
use native.Mathlib.Omega.{arith}
use borrow.Author.Rules.{rules}
use Rattle.read_place.proofs.Fronts.{wrong_is_far, stands_inside, entry_stands, entry_wrong}
use Rattle.read_place.proofs.asked_at.Goals as goal

pub length_at-requires : goal.length_at-requires
length_at-requires c = search (rules, stands_inside)

pub returns-then-stands : goal.returns-then-stands
returns-then-stands c = (search entry_stands, c.length_at.ensures.1)

pub returns : goal.returns
returns c = (search entry_wrong, omega (arith, c.wrong_at.ensures, wrong_is_far c.args.m.now c.args.at c.args.stop 786432 (omega arith)))

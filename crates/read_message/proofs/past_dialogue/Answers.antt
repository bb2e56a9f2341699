-- `past_dialogue` meets its contract. Assumes nothing.
use native.Mathlib.Omega.{arith}
use mathlib.Core.Path.{sym, ◌∙◌}
use borrow.Author.Rules.{rules}
use Rattle.read_message.proofs.Portions.{passes_it, passes_none}
use Rattle.read_message.proofs.past_dialogue.Goals as goal

pub dialogue_at-requires : goal.dialogue_at-requires
dialogue_at-requires c = search (rules, sym c.stands.ensures ∙ c.if-stands.true)

pub returns-then-stands : goal.returns-then-stands
returns-then-stands c = let both = passes_it _ _ _ _ c.stands.ensures c.if-stands.true _ _ _ (c.dialogue_at.ensures.reads.0, c.dialogue_at.ensures.leaves) in record { passes = (both.0, c.dialogue_at.ensures.reads.1); lays_past = both.1 }

pub returns : goal.returns
returns c = let both = passes_none _ _ _ _ c.stands.ensures c.if-stands.false _ in record { passes = (both.0, omega arith); lays_past = both.1 }

-- The loop has passed no entry that holds the ID, and eight a turn. Assumes nothing.
use native.Mathlib.Omega.{arith}
use Prim.Native.Nat.{◌+◌, ◌*◌}
use mathlib.Core.Path.{◌≡◌, sym, ◌∙◌}
use Rattle.open_transactions.specs.Table.{holds}
use Rattle.open_transactions.proofs.Finding.{find_position}
use Rattle.table_layout.proofs.Entries.{at_none}
use Rattle.table_layout.proofs.Walking.{walk_found, walk_on}
use Rattle.table_octets.proofs.OctetsEntries.find.Goals as goal

pub returns-then-passed-lt8 : goal.returns-then-passed-lt8
returns-then-passed-lt8 c =
    let f = walk_found c.args.self.now.octets.now c.args.id.now (c.loop-turn.turn * 8) (λ i. record { fits = c.args.self.now.fits i }) c.type_inv.id (omega arith) c.id_word-word.ensures c.after-part.ensures c.passed_eight-passed.ensures c.if-passed-lt8.true in
    sym (find_position _ _ ∙ c.loop-turn.invariant ∙ f)

pub loop-turn-preserved : goal.loop-turn-preserved
loop-turn-preserved c =
    let f = walk_on c.args.self.now.octets.now c.args.id.now (c.loop-turn.turn * 8) (λ i. record { fits = c.args.self.now.fits i }) c.type_inv.id (omega arith) c.id_word-word.ensures c.after-part.ensures c.passed_eight-passed.ensures c.if-passed-lt8.false in
    let n : (c.loop-turn.turn + 1) * 8 ≡ c.loop-turn.turn * 8 + 8 = omega arith in
    rw n (c.loop-turn.invariant ∙ f)

pub returns : goal.returns
returns c = sym (find_position _ _ ∙ c.loop-turn.invariant ∙ at_none (holds c.args.id.now) c.args.self.now.octets.now (c.loop-turn.turn * 8) (omega arith))

-- The loop has passed no entry that is free. Assumes nothing.
use native.Mathlib.Omega.{arith}
use Prim.Native.Nat.{◌*◌}
use mathlib.Core.Path.{sym, ◌∙◌, ap}
use mathlib.Core.Bool.{not}
use Rattle.open_transactions.specs.Table.{is_free}
use Rattle.open_transactions.proofs.Finding.{find_position}
use Rattle.table_layout.proofs.Entries.{at_here, at_next, at_none, free_at}
use Rattle.table_octets.proofs.OctetsEntries.free.Goals as goal

pub returns-then-not-is_open : goal.returns-then-not-is_open
returns-then-not-is_open c =
    let f = free_at c.args.self.now.octets.now (c.loop-room.room * 12) c.from.ensures c.is_open.ensures (ap not c.if-not-is_open.true) in
    sym (find_position _ _ ∙ c.loop-room.invariant ∙ at_here is_free c.args.self.now.octets.now c.loop-room.room (omega arith) f)

pub loop-room-preserved : goal.loop-room-preserved
loop-room-preserved c =
    let f = free_at c.args.self.now.octets.now (c.loop-room.room * 12) c.from.ensures c.is_open.ensures (ap not c.if-not-is_open.false) in
    c.loop-room.invariant ∙ at_next is_free c.args.self.now.octets.now c.loop-room.room (omega arith) f

pub returns : goal.returns
returns c = sym (find_position _ _ ∙ c.loop-room.invariant ∙ at_none is_free c.args.self.now.octets.now c.loop-room.room (omega arith))

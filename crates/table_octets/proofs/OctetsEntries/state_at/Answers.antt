-- The state of an entry is its first octet. Assumes nothing.
use native.Mathlib.Omega.{arith}
use Prim.Native.Nat.{◌*◌, ◌<◌}
use mathlib.Core.Path.{◌∙◌, sym}
use Rattle.open_transactions.specs.Table.{blank_entry}
use Rattle.table_layout.proofs.Entries.{length_entries, entry_at, state_at}
use Rattle.table_octets.proofs.OctetsEntries.state_at.Goals as goal

pub overflow_mul-room : goal.overflow_mul-room
overflow_mul-room c = omega (arith, length_entries c.args.self.now.octets.now 64 0)

pub bounds-self-room : goal.bounds-self-room
bounds-self-room c = omega (arith, length_entries c.args.self.now.octets.now 64 0)

pub returns : goal.returns
returns c =
    let n : c.args.room < 64 = omega (arith, length_entries c.args.self.now.octets.now 64 0) in
    rw (entry_at c.args.self.now.octets.now c.args.room blank_entry n) (c.from.ensures ∙ sym (state_at c.args.self.now.octets.now (c.args.room * 12)))

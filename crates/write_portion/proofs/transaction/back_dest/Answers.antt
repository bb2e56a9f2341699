-- By the ID. Assumes nothing.
use Rattle.std.proofs.Common.{rules}
use Rattle.std.specs.Prelude.{option_map}
use mathlib.Core.Path.{◌≡◌}
use Rattle.write_portion.proofs.Transactions.{dest_same, dest_within}
use Rattle.write_portion.proofs.transaction.back_dest.Goals as goal

pub back_transaction-requires : goal.back_transaction-requires
back_transaction-requires c =
    let id : c.map.result ≡ option_map (λ i. i.0) c.args.dest = search rules in
    rw id (record { id_within = dest_within _ _ c.requires.dest_within; room = rw dest_same at c.requires.room })

pub returns : goal.returns
returns c =
    let id : c.map.result ≡ option_map (λ i. i.0) c.args.dest = search rules in
    rw (dest_same, ← id) c.back_transaction.ensures

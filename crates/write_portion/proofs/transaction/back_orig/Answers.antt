-- By the ID. Assumes nothing.
use Rattle.std.proofs.Common.{rules}
use Rattle.std.specs.Prelude.{option_map}
use mathlib.Core.Path.{◌≡◌}
use Rattle.write_portion.proofs.Transactions.{orig_same, orig_within}
use Rattle.write_portion.proofs.transaction.back_orig.Goals as goal

pub back_transaction-requires : goal.back_transaction-requires
back_transaction-requires c =
    let id : c.map.result ≡ option_map (λ i. i.0) c.args.orig = search rules in
    rw id (record { id_within = orig_within _ _ c.requires.orig_within; room = rw orig_same at c.requires.room })

pub returns : goal.returns
returns c =
    let id : c.map.result ≡ option_map (λ i. i.0) c.args.orig = search rules in
    rw (orig_same, ← id) c.back_transaction.ensures

-- One after the other, each as the ID within it. Assumes nothing.
use Rattle.std.proofs.Common.{rules, ◌≡◌, ℕ, List, None, Some, refl}
use Rattle.std.specs.declared.option.Option.{Option}
use Rattle.std.specs.Option.{option_map}
use Rattle.tcap.specs.declared.{OrigTransactionId.OrigTransactionId, DestTransactionId.DestTransactionId}
use Rattle.base.proofs.Puts.{put_then}
use Rattle.listing_fields.specs.Fields.{orig_text, dest_text, ids_text}
use Rattle.listing_fields.specs.inner.Known.{known_text}
use Rattle.listing_fields.proofs.put_ids.Goals as goal

known_orig : (m : List ℕ) (o : Option OrigTransactionId) → known_text m (option_map (λ x. x.0) o) ≡ orig_text m o
unfolding known_text orig_text
known_orig m None = refl
known_orig m (Some o) = refl

known_dest : (m : List ℕ) (e : Option DestTransactionId) → known_text m (option_map (λ x. x.0) e) ≡ dest_text m e
unfolding known_text dest_text
known_dest m None = refl
known_dest m (Some e) = refl

pub returns : goal.returns
unfolding ids_text
returns c =
    let own : c.map.result ≡ option_map (λ x. x.0) c.args.orig = search rules in
    let theirs : c.map-2.result ≡ option_map (λ x. x.0) c.args.dest = search rules in
    rw (← known_orig c.args.message.now c.args.orig, ← known_dest c.args.message.now c.args.dest) (put_then (rw own at c.put_transaction-next.ensures) (rw theirs at c.put_transaction.ensures))

-- `orig_of` meets its contract. Assumes nothing.
use native.Mathlib.Omega.{arith}
use mathlib.Core.Path.{refl, sym, ◌∙◌}
use lib.ListN.{length, get_or}
use Rattle.read_message.proofs.Messages.{alone_inside, alone_from, alone_to}
use Rattle.read_refusal.proofs.Origs.{orig_long, orig_empty, orig_other, orig_entry, orig_unread, orig_within, orig_read}
use Rattle.read_refusal.proofs.orig_of.Goals.{then-len-eq0-via-then-len-eq0, then-len-eq0-via-else-len-eq0+then-len-gt-MOST_OCTETS}
use Rattle.read_refusal.proofs.orig_of.Goals as goal

pub returns-in_default : goal.returns-in_default
returns-in_default c =
    let m = c.args.m.now in
    orig_entry m (length m) refl (omega (arith, c.if-len-eq0.false)) c.if-len-gt-MOST_OCTETS.false (get_or m 0 0) refl (sym c.id_sought.ensures ∙ c.if-not-id_sought.false) _ c.in_default.ensures.0 c.in_default.ensures.1

pub start_of-first-requires : goal.start_of-first-requires
start_of-first-requires c =
    let m = c.args.m.now in
    omega (arith, alone_inside m (length m) _ _ refl c.if-len-gt-MOST_OCTETS.false c.in-Ok.ensures.0 c.in-Ok.ensures.1)

pub transaction_id_at-requires : goal.transaction_id_at-requires
transaction_id_at-requires c =
    let m = c.args.m.now in
    let from = alone_from m (length m) _ _ refl c.if-len-gt-MOST_OCTETS.false c.in-Ok.ensures.0 c.in-Ok.ensures.1 _ c.start_of-first.ensures in
    let to = alone_to m (length m) _ _ refl c.if-len-gt-MOST_OCTETS.false c.in-Ok.ensures.0 c.in-Ok.ensures.1 _ c.start_of-first.ensures in
    omega (arith, from, to, c.if-len-gt-MOST_OCTETS.false, c.in-Ok.ensures.1)

pub returns-in_default-transaction_id_at : goal.returns-in_default-transaction_id_at
returns-in_default-transaction_id_at c =
    let m = c.args.m.now in
    orig_unread m (length m) refl (omega (arith, c.if-len-eq0.false)) c.if-len-gt-MOST_OCTETS.false (get_or m 0 0) refl (sym c.id_sought.ensures ∙ c.if-not-id_sought.false) _ c.in-Ok.ensures.0 c.in-Ok.ensures.1 _ c.start_of-first.ensures _ c.in_default-transaction_id_at.ensures.0 c.in_default-transaction_id_at.ensures.1

pub overflow_add-place : goal.overflow_add-place
overflow_add-place c =
    let m = c.args.m.now in
    let within = orig_within m (length m) refl (omega (arith, c.if-len-eq0.false)) c.if-len-gt-MOST_OCTETS.false (get_or m 0 0) refl (sym c.id_sought.ensures ∙ c.if-not-id_sought.false) _ c.in-Ok.ensures.0 c.in-Ok.ensures.1 _ c.start_of-first.ensures _ c.in-Ok-transaction_id_at.ensures.0 c.in-Ok-transaction_id_at.ensures.1 in
    omega (arith, within)

pub overflow_sub-result : goal.overflow_sub-result
overflow_sub-result c =
    let m = c.args.m.now in
    let within = orig_within m (length m) refl (omega (arith, c.if-len-eq0.false)) c.if-len-gt-MOST_OCTETS.false (get_or m 0 0) refl (sym c.id_sought.ensures ∙ c.if-not-id_sought.false) _ c.in-Ok.ensures.0 c.in-Ok.ensures.1 _ c.start_of-first.ensures _ c.in-Ok-transaction_id_at.ensures.0 c.in-Ok-transaction_id_at.ensures.1 in
    omega (arith, within)

pub overflow_cast-result : goal.overflow_cast-result
overflow_cast-result c =
    let m = c.args.m.now in
    let within = orig_within m (length m) refl (omega (arith, c.if-len-eq0.false)) c.if-len-gt-MOST_OCTETS.false (get_or m 0 0) refl (sym c.id_sought.ensures ∙ c.if-not-id_sought.false) _ c.in-Ok.ensures.0 c.in-Ok.ensures.1 _ c.start_of-first.ensures _ c.in-Ok-transaction_id_at.ensures.0 c.in-Ok-transaction_id_at.ensures.1 in
    omega (arith, within)

pub returns : goal.returns
returns c =
    let m = c.args.m.now in
    orig_read m (length m) refl (omega (arith, c.if-len-eq0.false)) c.if-len-gt-MOST_OCTETS.false (get_or m 0 0) refl (sym c.id_sought.ensures ∙ c.if-not-id_sought.false) _ c.in-Ok.ensures.0 c.in-Ok.ensures.1 _ c.start_of-first.ensures _ c.in-Ok-transaction_id_at.ensures.0 c.in-Ok-transaction_id_at.ensures.1

pub returns-then-len-eq0 : goal.returns-then-len-eq0
returns-then-len-eq0 c = elim c.then-len-eq0.branch [ then-len-eq0-via-then-len-eq0 w ↦ search orig_empty | then-len-eq0-via-else-len-eq0+then-len-gt-MOST_OCTETS w ↦ search orig_long ]

pub returns-then-not-id_sought : goal.returns-then-not-id_sought
returns-then-not-id_sought c = search orig_other

-- `message_at` meets its contract. Assumes nothing.
use Rattle.std.proofs.lemmas.Result.{err_from_is_err_and}
use Rattle.read_place.specs.declared.FaultAt.{FaultAt}
use mathlib.Core.Path.{ap}
use native.Mathlib.Omega.{arith}
use mathlib.Core.Path.{refl, sym, ◌∙◌}
use lib.ListN.{length}
use borrow.Author.Rules.{rules}
use Rattle.read_message.proofs.Messages.{too_long, no_octets_lem, no_message_lem, entry, bad_length_lem, alone_inside, alone_from, alone_to, bad_inside, accepted, octets_after_lem}
use Rattle.read_message.proofs.message_at.Goals as goal

pub returns-then-len-gt-MOST_OCTETS : goal.returns-then-len-gt-MOST_OCTETS
returns-then-len-gt-MOST_OCTETS c =
    let m = c.args.m.now in
    let both = too_long m (length m) refl _ _ c.told-out c.portion_fault.ensures.out_after _ c.if-len-gt-MOST_OCTETS.true (ap (λ (f : FaultAt). f.0) c.portion_fault.ensures.value) in record { answers = (both.0, omega (arith, (ap (λ (f : FaultAt). f.0) c.portion_fault.ensures.value))); left = both.1 }

pub returns-then-len-eq0 : goal.returns-then-len-eq0
returns-then-len-eq0 c =
    let m = c.args.m.now in
    let both = no_octets_lem m (length m) refl _ _ c.told-out c.portion_fault-then-len-eq0.ensures.out_after _ c.if-len-gt-MOST_OCTETS.false c.if-len-eq0.true (ap (λ (f : FaultAt). f.0) c.portion_fault-then-len-eq0.ensures.value) in record { answers = (both.0, omega (arith, (ap (λ (f : FaultAt). f.0) c.portion_fault-then-len-eq0.ensures.value))); left = both.1 }

pub returns-in-Err : goal.returns-in-Err
returns-in-Err c =
    let m = c.args.m.now in
    let both = bad_length_lem m (length m) refl (omega (arith, c.if-len-eq0.false)) c.if-len-gt-MOST_OCTETS.false _ c.is_message.ensures c.if-is_message.true _ c.in-Err.ensures.0 c.in-Err.ensures.1 _ _ c.told-out c.portion_fault-in-Err.ensures.out_after _ (ap (λ (f : FaultAt). f.0) c.portion_fault-in-Err.ensures.value) in record { answers = (both.0, omega (arith, (ap (λ (f : FaultAt). f.0) c.portion_fault-in-Err.ensures.value), c.in-Err.ensures.1)); left = both.1 }

pub start_of-requires : goal.start_of-requires
start_of-requires c =
    let m = c.args.m.now in
    let here = entry m (length m) refl (omega (arith, c.if-len-eq0.false)) c.if-len-gt-MOST_OCTETS.false _ c.is_message.ensures c.if-is_message.true _ c.in-Ok.ensures.0 in
    omega (arith, alone_inside m (length m) _ _ refl c.if-len-gt-MOST_OCTETS.false here c.in-Ok.ensures.1)

pub message_contents_at-requires : goal.message_contents_at-requires
message_contents_at-requires c =
    let m = c.args.m.now in
    let here = entry m (length m) refl (omega (arith, c.if-len-eq0.false)) c.if-len-gt-MOST_OCTETS.false _ c.is_message.ensures c.if-is_message.true _ c.in-Ok.ensures.0 in
    let from = alone_from m (length m) _ _ refl c.if-len-gt-MOST_OCTETS.false here c.in-Ok.ensures.1 _ c.start_of.ensures in
    let to = alone_to m (length m) _ _ refl c.if-len-gt-MOST_OCTETS.false here c.in-Ok.ensures.1 _ c.start_of.ensures in
    (((from, to, omega (arith, c.if-len-gt-MOST_OCTETS.false)), c.in-Ok.ensures.1), sym c.is_message.ensures ∙ c.if-is_message.true)

pub returns-in_err-r : goal.returns-in_err-r
returns-in_err-r c = let p = err_from_is_err_and c.from_residual.result c.from_residual.ensures.1 in rw (p.1, p.2) (
    let m = c.args.m.now in
    let both = bad_inside m (length m) refl (omega (arith, c.if-len-eq0.false)) c.if-len-gt-MOST_OCTETS.false _ c.is_message.ensures c.if-is_message.true _ c.in-Ok.ensures.0 c.in-Ok.ensures.1 _ c.start_of.ensures _ _ _ (c.in_err-r.ensures.finishes.0, c.in_err-r.ensures.leaves_all) c.in_err-r.ensures.finishes.1 in record { answers = (both.0, c.in_err-r.ensures.finishes.1); left = both.1 })

pub returns-then-r-len : goal.returns-then-r-len
returns-then-r-len c =
    let m = c.args.m.now in
    let both = accepted m (length m) refl (omega (arith, c.if-len-eq0.false)) c.if-len-gt-MOST_OCTETS.false _ c.is_message.ensures c.if-is_message.true _ c.in-Ok.ensures.0 c.in-Ok.ensures.1 _ c.start_of.ensures _ _ _ (c.in_ok-r.ensures.finishes.0, c.in_ok-r.ensures.leaves_all) c.in_ok-r.ensures.finishes.1 c.if-r-len.true in record { answers = (both.0, c.in_ok-r.ensures.finishes.1); left = both.1 }

pub returns-then-is_message : goal.returns-then-is_message
returns-then-is_message c =
    let m = c.args.m.now in
    let both = octets_after_lem m (length m) refl (omega (arith, c.if-len-eq0.false)) c.if-len-gt-MOST_OCTETS.false _ c.is_message.ensures c.if-is_message.true _ c.in-Ok.ensures.0 c.in-Ok.ensures.1 _ c.start_of.ensures _ _ _ (c.in_ok-r.ensures.finishes.0, c.in_ok-r.ensures.leaves_all) c.in_ok-r.ensures.finishes.1
    c.if-r-len.false (omega arith) _ c.portion_fault-then-is_message.ensures.out_after _ (ap (λ (f : FaultAt). f.0) c.portion_fault-then-is_message.ensures.value) in record { answers = (both.0, omega (arith, (ap (λ (f : FaultAt). f.0) c.portion_fault-then-is_message.ensures.value))); left = both.1 }

pub returns : goal.returns
returns c =
    let m = c.args.m.now in
    let both = no_message_lem m (length m) refl (omega (arith, c.if-len-eq0.false)) c.if-len-gt-MOST_OCTETS.false _ c.is_message.ensures c.if-is_message.false _ _ c.told-out c.portion_fault-2.ensures.out_after _ (ap (λ (f : FaultAt). f.0) c.portion_fault-2.ensures.value) in record { answers = (both.0, omega (arith, (ap (λ (f : FaultAt). f.0) c.portion_fault-2.ensures.value))); left = both.1 }

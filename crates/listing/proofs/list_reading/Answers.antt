-- With no room the text is only counted; with enough it stands at the front. Assumes nothing.
use native.Mathlib.Omega.{arith}
use Rattle.listing.proofs.Room.{too_long, has_room}
use Rattle.listing.proofs.list_reading.Goals as goal

pub returns-then-out-size-clause-value : goal.returns-then-out-size-clause-value
returns-then-out-size-clause-value c = (too_long _ _ c.put_reading-size.ensures c.if-out-size.true).0

pub returns-then-out-size-clause-out_after : goal.returns-then-out-size-clause-out_after
returns-then-out-size-clause-out_after c = (too_long _ _ c.put_reading-size.ensures c.if-out-size.true).1

pub returns-clause-value : goal.returns-clause-value
returns-clause-value c = (has_room _ _ c.put_reading-size.ensures c.if-out-size.false (omega (arith, c.well_formed)) c.put_reading.ensures).0

pub returns-clause-out_after : goal.returns-clause-out_after
returns-clause-out_after c = (has_room _ _ c.put_reading-size.ensures c.if-out-size.false (omega (arith, c.well_formed)) c.put_reading.ensures).1

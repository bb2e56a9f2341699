-- The octets compared are the listing; one that is too long is no text of 4,096 octets. Assumes nothing.
use Rattle.std.proofs.Common.{rules, arith}
use Prim.Native.Nat.{ℕ}
use lib.ListN.{length-replicate}
use Rattle.program_parts.proofs.Fits.{counts_of, text_of, no_such_text}
use Rattle.program_parts.proofs.same_listing.Goals as goal

pub slice_bounds-text-end : goal.slice_bounds-text-end
slice_bounds-text-end c = (counts_of _ _ c.list_reading.ensures.value c.in-Some.is c.list_reading.ensures.out_after).0

pub returns-in-Some-clause-reading_value : goal.returns-in-Some-clause-reading_value
returns-in-Some-clause-reading_value c = grind (rules, arith, text_of _ _ c.list_reading.ensures.value c.in-Some.is c.list_reading.ensures.out_after)

pub returns-in-Some-clause-value : goal.returns-in-Some-clause-value
returns-in-Some-clause-value c = search (rules, text_of _ _ c.list_reading.ensures.value c.in-Some.is c.list_reading.ensures.out_after)

pub returns-in-None-clause-value : goal.returns-in-None-clause-value
returns-in-None-clause-value c = λ h e. absurd (no_such_text _ _ c.list_reading.ensures.value c.in-None.is (rw (length-replicate {A = ℕ} 4096 0) h) e)

pub slice_bounds-eq-end : goal.slice_bounds-eq-end
slice_bounds-eq-end c = (counts_of _ _ c.list_reading.ensures.value c.in-Some.is c.list_reading.ensures.out_after).1

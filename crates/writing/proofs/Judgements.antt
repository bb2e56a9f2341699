-- What the judgment of a record tells: nothing wrong and the size, or the worst that is wrong. Assumes nothing.
use Rattle.std.specs.Prelude.{Option as Optional, Some, None, Ok, Err}
use Prim.Native.Nat.{ℕ, min, ◌≤◌}
use mathlib.Core.Path.{◌≡◌, refl, sym}
use mathlib.Core.Bool.{Bool, true, false}
use mathlib.Core.List.{List}
use native.Mathlib.Omega.{arith}
use lib.ListN.{length}
use borrow.Author.Tests.{leb-true}
use Rattle.tcap.specs.declared.{Record.Record}
use Rattle.tcap.specs.WellFormed.{most_octets, most_components}
use Rattle.tcap.specs.Verdict.{all_parts, all_ranges, all_lie, all_shaped}
use Rattle.write_check_row.specs.Forms.{record_form, octets_of}
use Rattle.write_check_row.proofs.Joining.{passed}
use Rattle.writing.proofs.Testing.{both_true}
use Rattle.write_check_row.specs.declared.Wrong.{Wrong}
use Rattle.write_check_row.specs.Judged.{Judged, rank_of, size_cap, judged, listed}

pub fine_tells : (k : Optional Wrong) (s n : ℕ) → Ok n ≡ judged k s → (k ≡ None) × (n ≡ min s size_cap)
unfolding judged
fine_tells None s n e = (refl, cc)
fine_tells (Some k) s n e = absurd cc

pub bad_tells : (k : Optional Wrong) (s : ℕ) (w : Wrong) → Err w ≡ judged k s → k ≡ Some w
unfolding judged
bad_tells None s w e = absurd cc
bad_tells (Some k) s w e = cc

-- of octets: what is fine is a record
pub fine_listed : (b : Bool) (j : Judged) (n : ℕ) → Ok n ≡ listed b j → (b ≡ true) × (Ok n ≡ j)
fine_listed true j n e = (refl, e)
fine_listed false j n e = absurd cc

-- a record that is fine, and not too long, may be put
pub may_be_put : (r : Record) (m : List ℕ) (n : ℕ) → Ok n ≡ judged (rank_of (all_parts r) (all_ranges r) (all_lie (length m) r) (all_shaped m r)) (length (octets_of (record_form m r))) → n ≤ most_octets
    → (r.count ≤ 16) × (all_lie (length m) r ≡ true) × (length (octets_of (record_form m r)) ≤ most_octets)
unfolding all_ranges
may_be_put r m n e h =
    let q = passed (all_parts r) (all_ranges r) (all_lie (length m) r) (all_shaped m r) (length (octets_of (record_form m r))) n (sym e) in
    (leb-true r.count most_components (both_true _ _ q.ranges).0, q.lies, omega (arith, q.size))

-- `one_octet_at` meets its contract. Assumes nothing.
use Prim.Native.Nat.{ℕ, ◌<◌}
use lib.ListN.{get_or}
use native.Mathlib.Omega.{arith}
use Rattle.read_field.proofs.Fields.{id_none, id_good}
use Rattle.read_field.proofs.one_octet_at.Goals as goal

pub returns : goal.returns
returns c = let (i, t) = c.in-Some.ensures in let low : (i : ℕ) → get_or c.args.m.now i 0 < 256 = λ i. omega (arith, c.shared_slice_known-1.given i) in (search (id_good, low), omega arith)

pub returns-in_default : goal.returns-in_default
returns-in_default c = let i = c.in_default.ensures in (search (id_none, c.bad_field.ensures.0), c.bad_field.ensures.1)

-- `invoke_id_at` meets its contract. Assumes nothing.
use Rattle.std.proofs.lemmas.Result.{err_from_is_err_and}
use borrow.Author.Rules.{rules}
use native.Mathlib.Omega.{arith}
use Prim.Native.Nat.{ℕ, ◌<◌}
use lib.ListN.{get_or}
use Rattle.read_part.proofs.FieldsLeft.{fault_one, octet_inside, id_left}
use Rattle.read_part.proofs.invoke_id_at.Goals as goal

pub returns : goal.returns
returns c =
    let low : (i : ℕ) → get_or c.args.m.now i 0 < 256 = λ i. omega (arith, c.shared_slice_known-1.given i) in
    record { reads = (c.in_ok-r.ensures.0, omega (arith, c.in_ok-r.ensures.1)); leaves = id_left _ _ _ _ (search rules) 2 (omega arith, omega arith, omega arith) c.in_ok-r.ensures.0 c.in_ok-r.ensures.1 low _ }

pub returns-in_err-r : goal.returns-in_err-r
returns-in_err-r c = let p = err_from_is_err_and c.from_residual.result c.from_residual.ensures.1 in rw (p.1, p.2) (let both = fault_one _ _ _ _ _ _ _ _ c.in_err-r.ensures.0 c.in_err-r.ensures.1 in record { reads = (both.0, c.in_err-r.ensures.1); leaves = both.1 })

pub bounds-m-at : goal.bounds-m-at
bounds-m-at c = octet_inside _ _ _ _ (search rules) 2 (omega arith, omega arith, omega arith) c.in_ok-r.ensures.0 c.in_ok-r.ensures.1

-- `around` meets its contract. Assumes nothing.
use Rattle.std.specs.Prelude.{Ok, ℕ, ◌+◌, ◌≤◌, min}
use Rattle.std.proofs.lemmas.Result.{err_from_is_err_and}
use native.Mathlib.Omega.{arith}
use mathlib.Core.Path.{◌≡◌, refl, ap}
use mathlib.Core.Bool.{Bool, true, false}
use lib.Dec.{ltb}
use borrow.Author.Tests.{ltb-true, ltb-false}
use Rattle.write_check_row.specs.Judged.{size_cap, whole_size, wrapped}
use Rattle.write_check_row.proofs.Joining.{size_short, size_long, size_most}
use Rattle.write_check_row.proofs.around.Goals as goal

above : (n : ℕ) → 128 ≤ n → min (n + 3) size_cap ≡ min (whole_size n) size_cap
above n h = by (ltb n 256) refl
  where
    by : (b : Bool) → ltb n 256 ≡ b → min (n + 3) size_cap ≡ min (whole_size n) size_cap
    by true e = rw (size_long n h (ltb-true n 256 e))
    by false e = omega (arith, ltb-false n 256 e, size_most n (omega (arith, ltb-false n 256 e)))

pub returns-in_err-n : goal.returns-in_err-n
unfolding wrapped
returns-in_err-n c = let p = err_from_is_err_and c.from_residual.result c.from_residual.ensures.1 in rw (p.1, p.2, c.in_err-n.was)

pub returns-then-n-lt128 : goal.returns-then-n-lt128
unfolding wrapped
returns-then-n-lt128 c = rw c.in_ok-n.was (ap Ok (omega (arith, size_short c.in_ok-n.n (omega arith))))

pub returns : goal.returns
unfolding wrapped
returns c = rw (c.in_ok-n.was, c.total.ensures) (ap Ok (above c.in_ok-n.n c.if-n-lt128.false))

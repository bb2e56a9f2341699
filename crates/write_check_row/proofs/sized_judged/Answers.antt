-- `sized_judged` meets its contract. Assumes nothing.
use Rattle.std.specs.Prelude.{ℕ, ◌≤◌, ◌<◌}
use mathlib.Core.Path.{◌≡◌}
use mathlib.Core.Logic.{◌⊎◌, inl, inr}
use mathlib.Core.Bool.{false}
use borrow.Author.Tests.{le-leb, lt-leb}
use Rattle.tcap.specs.Verdict.{ranges}
use Rattle.write_check_row.specs.Judged.{rank_of, judged}
use Rattle.write_check_row.proofs.sized_judged.Goals as goal

off : (a b n : ℕ) → (n < a) ⊎ ((a ≤ n) × (b < n)) → ranges a b n ≡ false
unfolding ranges
off a b n (inl h) = rw (lt-leb a n h)
off a b n (inr (h, i)) = rw (le-leb a n h, lt-leb n b i)

pub returns-then-len-lt1 : goal.returns-then-len-lt1
unfolding rank_of judged
returns-then-len-lt1 c = rw (off _ _ _ c.then-len-lt1.either)

pub returns : goal.returns
unfolding ranges
returns c = rw (le-leb _ _ c.if-len-lt1.false, le-leb _ _ c.if-len-most.false) c.octets_judged.ensures

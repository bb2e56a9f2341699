-- A string that lies in the material ends in it. Assumes nothing.
use Prim.Native.Nat.{ℕ, ◌+◌, ◌≤◌}
use mathlib.Core.Path.{◌≡◌}
use mathlib.Core.Bool.{true}
use borrow.Author.Tests.{leb-true}
use Rattle.tcap.specs.declared.Span.{Span}
use Rattle.tcap.specs.Verdict.{lies}

pub within : (n : ℕ) (s : Span) → lies n s ≡ true → s.place + s.len ≤ n
unfolding lies
within n s h = leb-true _ _ h

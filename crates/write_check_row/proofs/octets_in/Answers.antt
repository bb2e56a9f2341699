-- `octets_in` meets its contract. Assumes nothing.
use Rattle.std.specs.Prelude.{Option as Optional, Some, None, Result, IfOk, IfErr, ◌+◌, ◌-◌, ℕ}
use Rattle.std.specs.Option.{ok_or}
use Rattle.std.specs.Slice.{IsGetRangeResult}
use denote.Bor.{Bor}
use native.Mathlib.Omega.{arith}
use mathlib.Core.Path.{◌≡◌, refl, ap, ◌∙◌}
use mathlib.Core.Logic.{inl, inr}
use mathlib.Core.Bool.{true, false}
use mathlib.Core.List.{List}
use lib.ListN.{length, take, drop}
use borrow.Author.Tests.{le-leb, lt-leb}
use Rattle.tcap.specs.declared.Span.{Span}
use Rattle.tcap.specs.Verdict.{lies, string_octets}
use Rattle.write_check_row.specs.declared.Wrong.{Wrong}
use Rattle.write_check_row.specs.declared.TheConstants.Wrong.{OUT_OF_MATERIAL}
use Rattle.write_check_row.proofs.octets_in.Goals as goal

module _ (m : List ℕ) (s : Span) where
  abbrev Found : Result (Bor (List ℕ)) Wrong → Type 0
  Found q = record { ok : IfOk q (λ octets. (lies (length m) s ≡ true) × (octets.now ≡ string_octets m s)); err : IfErr q (λ wrong. (lies (length m) s ≡ false) × (wrong ≡ OUT_OF_MATERIAL)) }

  by_part : (r : Optional (Bor (List ℕ))) → IsGetRangeResult m s.place (s.place + s.len) r → Found (ok_or r OUT_OF_MATERIAL)
  unfolding lies string_octets
  by_part None (inl h, i) = absurd (omega arith)
  by_part None (inr h, i) = record { ok = tt; err = (lt-leb _ _ h, refl) }
  by_part (Some x) (h, i) = let e : s.place + s.len - s.place ≡ s.len = omega arith in record { ok = (le-leb _ _ h.1, h.2 ∙ ap (λ n. take n (drop s.place m)) e); err = tt }

pub returns : goal.returns
returns c = let q = by_part c.args.material.now c.args.span c.get.result c.get.ensures.lookup in rw c.ok_or.ensures.value q

-- Both IDs are copied over zeros. Assumes nothing.
use Prim.Native.Nat.{ℕ, ◌<◌, ◌+◌, ◌-◌}
use native.Mathlib.Omega.{arith}
use mathlib.Core.Path.{◌≡◌, refl}
use mathlib.Core.List.{List, [], ◌∷◌, ◌++◌}
use lib.ListN.{length, drop, replicate}
use borrow.Rule.Slice.PartMut.{put_mid}
use Rattle.open_transactions.specs.Table.{octets_for}
use Rattle.open_transactions.proofs.octets_for.Goals as goal

ours_first : (o : List ℕ) → length o < 5 → o ++ drop (length o) (replicate 8 0) ≡ octets_for o []
ours_first [] h = refl
ours_first (a ∷ []) h = refl
ours_first (a ∷ b ∷ []) h = refl
ours_first (a ∷ b ∷ c ∷ []) h = refl
ours_first (a ∷ b ∷ c ∷ d ∷ []) h = refl
ours_first (a ∷ b ∷ c ∷ d ∷ e ∷ r) h = absurd (omega (arith, h))

partner_then : (o p : List ℕ) → length p < 5 → put_mid 4 (4 + length p - 4) (octets_for o []) p ≡ octets_for o p
partner_then o [] h = refl
partner_then o (a ∷ []) h = refl
partner_then o (a ∷ b ∷ []) h = refl
partner_then o (a ∷ b ∷ c ∷ []) h = refl
partner_then o (a ∷ b ∷ c ∷ d ∷ []) h = refl
partner_then o (a ∷ b ∷ c ∷ d ∷ e ∷ r) h = absurd (omega (arith, h))

pub returns : goal.returns
returns c = rw (c.copy_from_slice.ensures.after, c.copy_from_slice-2.ensures.after, ours_first c.args.ours.now c.requires.ours_len_bound) (partner_then c.args.ours.now c.args.partner.now c.requires.partner_len_bound)

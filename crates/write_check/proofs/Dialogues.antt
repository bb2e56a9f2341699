-- The dialogue: the two names, and what a dialogue's form takes. Assumes nothing.
use Rattle.std.specs.Prelude.{Ok}
use Prim.Native.Nat.{ℕ, ◌+◌}
use native.Mathlib.Omega.{arith}
use mathlib.Core.Path.{◌≡◌, refl, sym, ◌∙◌}
use mathlib.Core.Bool.{Bool, true, false, not, ◌&&◌}
use mathlib.Core.List.{List}
use lib.ListN.{length}
use Rattle.base.specs.Value.{same}
use Rattle.element.specs.Form.{Form, perhaps, shortest}
use Rattle.tcap.specs.Meaning.{structured, unstructured, external}
use Rattle.tcap.specs.inner.Names.{kind_of, name_kind}
use Rattle.write_check_row.specs.Judged.{rank_of, judged, whole_size, size_of}
use Rattle.write_check_row.proofs.Joining.{size_short, then_size, around_size, leaf_size}

-- each of the two names has 7 octets
pub seven : Ok 7 ≡ judged (rank_of true true true true) 7
unfolding judged rank_of
seven = refl

-- one octet, and a constructor around it
pub three : whole_size 1 ≡ 3
three = size_short 1 (omega arith)

pub five : whole_size 3 ≡ 5
five = size_short 3 (omega arith)

pub perhaps_size : (f : Form) → size_of (perhaps f) ≡ 0
unfolding shortest
perhaps_size f = refl

external_size : (n : List ℕ) (f : Form) → size_of (external n f) ≡ whole_size (whole_size (whole_size (length n) + size_of f))
external_size n f = rw (around_size, around_size, then_size, leaf_size)

pub named_alike : (f : Form) → size_of (external structured f) ≡ size_of (external unstructured f)
named_alike f = external_size structured f ∙ sym (external_size unstructured f)

-- whether a name is neither of the two, from its number
by_outside : (a b : Bool) → 0 ≡ kind_of a b → (not a && not b) ≡ true
unfolding kind_of
by_outside true b e = absurd (omega (arith, e))
by_outside false true e = absurd (omega (arith, e))
by_outside false false e = refl

by_known : (a b : Bool) → (0 ≡ kind_of a b → ⊥) → (not a && not b) ≡ false
unfolding kind_of
by_known true b h = refl
by_known false true h = refl
by_known false false h = absurd (h refl)

module _ (c : List ℕ) (k : ℕ) (is : k ≡ name_kind c) where
  pub kind_outside : k ≡ 0 → (not (same structured c) && not (same unstructured c)) ≡ true
  kind_outside e = by_outside (same structured c) (same unstructured c) (sym e ∙ is)

  pub kind_known : (k ≡ 0 → ⊥) → (not (same structured c) && not (same unstructured c)) ≡ false
  kind_known h = by_known (same structured c) (same unstructured c) (λ e. h (is ∙ sym e))

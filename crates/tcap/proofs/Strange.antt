-- Which kinds speak of an element that may not stand where it does. Assumes nothing.
use Prim.Native.Nat.{ℕ, ◌≤◌}
use mathlib.Core.Path.{◌≡◌, refl}
use mathlib.Core.Bool.{Bool}
use mathlib.Core.List.{List}
use mathlib.Core.Option.{none}
use native.Mathlib.Omega.{arith}
use Rattle.element.specs.declared.FaultKind.{FaultKind}
use Rattle.tcap.specs.Due.{Parts, due}
use Rattle.tcap.specs.Refused.{LengthWrong, gone, cut, reserved, endless, wasteful, passing, passing_long, Tagged, Unfit, unknown, another, too_many, Faulty, tag_cut, tag_bad, zero_code, too_deep, unfit, length_wrong, bad_contents}
use Rattle.tcap.specs.WellFormed.{Rules}

-- missing, and the three kinds of such an element, apart from all others
unfoldable pub rank : FaultKind → ℕ
rank FaultKind.Missing = 1
rank FaultKind.Another = 2
rank FaultKind.TooMany = 3
rank FaultKind.UnknownComponent = 4
rank FaultKind.CutOff = 0
rank FaultKind.BadTag = 0
rank FaultKind.BadLength = 0
rank FaultKind.PassesEnd = 0
rank FaultKind.TooDeep = 0
rank FaultKind.CodeZero = 0
rank FaultKind.Overlong = 0
rank FaultKind.NoMessage = 0
rank FaultKind.OctetsAfter = 0
rank FaultKind.BadContents = 0
rank FaultKind.Seventeenth = 0

length_rank : {c : Bool} {q : List ℕ} {k : FaultKind} → LengthWrong c q k → rank k ≡ 0
unfolding rank
length_rank gone = refl
length_rank (cut a b d) = refl
length_rank (reserved a) = refl
length_rank (endless a) = refl
length_rank (wasteful a b d e) = refl
length_rank (passing a b) = refl
length_rank (passing_long a b d e f) = refl

pub unfit_rank : {r : Parts} {k : FaultKind} → Unfit r k → 2 ≤ rank k
unfolding rank
unfit_rank (unknown e) = omega arith
unfit_rank (another e f) = omega arith
unfit_rank (too_many e) = omega arith

-- the element that an unfit kind speaks of
pub record StrangeIn (rules : Rules) (l : ℕ) (r : Parts) (part : List ℕ) (k : FaultKind) : Type 0 where
  pub tag : ℕ
  pub behind : List ℕ
  pub sound : Tagged part tag behind
  pub deep : l ≤ rules.limit
  pub strange : due r tag ≡ none
  pub kind : Unfit r k

pub faulty_strange : {rules : Rules} {l : ℕ} {r : Parts} {part : List ℕ} {k : FaultKind} → Faulty rules l r part k → 1 ≤ rank k → StrangeIn rules l r part k
unfolding rank
faulty_strange (tag_cut w) h = absurd (omega arith)
faulty_strange (tag_bad w) h = absurd (omega arith)
faulty_strange (zero_code e z) h = absurd (omega arith)
faulty_strange (too_deep g j) h = absurd (omega arith)
faulty_strange (unfit {a = a} {q = q} g j e u) h = record { tag = a; behind = q; sound = g; deep = j; strange = e; kind = u }
faulty_strange (length_wrong g j e w) h = absurd (omega (arith, h, length_rank w))
faulty_strange (bad_contents j e s z f) h = absurd (omega arith)

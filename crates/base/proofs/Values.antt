-- Laws of what holds of every one, and of octets that are the same. Assumes nothing.
use Prim.Native.Nat.{ℕ}
use mathlib.Core.Path.{◌≡◌, refl, sym, ap₂}
use mathlib.Core.Bool.{true, false≢true, and-eq-true_iff}
use mathlib.Core.List.{List, [], ◌∷◌, ◌++◌}
use lib.Dec.{eqb}
use borrow.Author.Tests.{eqb-true, eq-eqb}
use Rattle.base.specs.Value.{Every, same}

pub same_equal : (s c : List ℕ) → same s c ≡ true → c ≡ s
unfolding same
same_equal [] [] e = refl
same_equal [] (y ∷ ys) e = absurd (false≢true e)
same_equal (x ∷ xs) [] e = absurd (false≢true e)
same_equal (x ∷ xs) (y ∷ ys) e = let z = (and-eq-true_iff (eqb x y) (same xs ys)).0 e in ap₂ ◌∷◌ (sym (eqb-true x y z.0)) (same_equal xs ys z.1)

pub same_refl : (s : List ℕ) → same s s ≡ true
unfolding same
same_refl [] = refl
same_refl (x ∷ xs) = rw (eq-eqb x x refl) (same_refl xs)

pub every_append : {A : Type 0} (P : A → Type 0) (a b : List A) → Every P a → Every P b → Every P (a ++ b)
unfolding Every
every_append P [] b o q = q
every_append P (x ∷ a) b o q = (o.0, every_append P a b o.1 q)

pub every_parts : {A : Type 0} (P : A → Type 0) (a b : List A) → Every P (a ++ b) → Every P a × Every P b
unfolding Every
every_parts P [] b o = (tt, o)
every_parts P (x ∷ a) b o = let r = every_parts P a b o.1 in ((o.0, r.0), r.1)

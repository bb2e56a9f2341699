-- Two codes are the same just if they are one integer. The code compares 32 bits, which on values that fit them tells the same; and 32 bits are read as a signed number.
-- Assumes nothing.
use Prim.Native.Nat.{ℕ, suc, ◌-◌, ◌/◌, ◌<◌}
use native.Mathlib.Omega.{arith}
use mathlib.Core.Path.{◌≡◌, refl, sym, ap, ◌∙◌}
use mathlib.Core.Bool.{Bool, true, false, false≢true}
use lib.Dec.{eqb, leb}
use lib.IntN.{ℤ, pos, negsuc}
use mir.Syntax.{w32}
use mir.Val.{SFits, of_z, to_z}
use mir.Facts.{to_z-of_z, to_z_pos, to_z-neg}
use borrow.Author.Tests.{eqb-true, eq-eqb, leb-true, leb-false}
use Rattle.base.specs.Number.{signed_at}
use Rattle.steering.specs.Steering.{same_code}

pub same_equal : (a b : ℤ) → same_code a b ≡ true → a ≡ b
unfolding same_code
same_equal (pos a) (pos b) e = ap pos (eqb-true a b e)
same_equal (pos a) (negsuc b) e = absurd (false≢true e)
same_equal (negsuc a) (pos b) e = absurd (false≢true e)
same_equal (negsuc a) (negsuc b) e = ap negsuc (eqb-true a b e)

pub equal_same : (a b : ℤ) → a ≡ b → same_code a b ≡ true
unfolding same_code
equal_same (pos a) b e = rw (sym e) (eq-eqb a a refl)
equal_same (negsuc a) b e = rw (sym e) (eq-eqb a a refl)

by_turns : (x y : Bool) → (x ≡ true → y ≡ true) → (y ≡ true → x ≡ true) → x ≡ y
by_turns true y f g = sym (f refl)
by_turns false true f g = g refl
by_turns false false f g = refl

pub bits_tell : (a b : ℤ) → SFits w32 a → SFits w32 b → eqb (of_z w32 a) (of_z w32 b) ≡ same_code a b
bits_tell a b f g =
    by_turns (eqb (of_z w32 a) (of_z w32 b)) (same_code a b)
    (λ e. equal_same a b (sym (to_z-of_z f) ∙ ap (to_z w32) (eqb-true (of_z w32 a) (of_z w32 b) e) ∙ to_z-of_z g))
    (λ e. eq-eqb (of_z w32 a) (of_z w32 b) (ap (of_z w32) (same_equal a b e)))

pub bits_read : (n : ℕ) → n < 4294967296 → to_z w32 n ≡ signed_at 0xFFFFFFFF n
unfolding signed_at
bits_read n h = by_half (leb n (0xFFFFFFFF / 2)) refl
  where
    by_half : (b : Bool) → leb n (0xFFFFFFFF / 2) ≡ b → to_z w32 n ≡ signed_at 0xFFFFFFFF n
    by_half true e = rw e (to_z_pos w32 (omega (arith, leb-true _ _ e)))
    by_half false e =
        let k : 4294967296 - suc (0xFFFFFFFF - n) ≡ n = omega (arith, leb-false _ _ e) in
        rw e (ap (to_z w32) (sym k) ∙ to_z-neg w32 (0xFFFFFFFF - n) (omega (arith, leb-false _ _ e)))

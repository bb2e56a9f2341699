-- An integer as an element: what has its form is read, and nothing else. Assumes nothing.
use Prim.Native.Nat.{ℕ, ◌≤◌}
use mathlib.Core.Path.{◌≡◌, refl}
use mathlib.Core.Bool.{true, false}
use Rattle.base.specs.Number.{holds}
use Rattle.base.proofs.Numbers.{holds_more}
use Rattle.primitive.specs.Primitive.{most_integer_octets, integer_octets, signed_of, integer_ok}
use Rattle.primitive.proofs.Integers.{integer_back, integer_ok_lem, integer_only}
use Rattle.element.specs.Form.{leaf}
use Rattle.element.specs.Element.{extended_of, code_zero}
use Rattle.element.specs.Parts.{leaf_item, integer_item}
use Rattle.element.proofs.ItemLaws.{ItemLaws, leaf_laws}
use Rattle.element.proofs.Joins.{map_laws}

pub integer_laws : (t most : ℕ) → extended_of t ≡ false → code_zero t ≡ false → 1 ≤ most → most ≤ most_integer_octets
    → ItemLaws (integer_item t most) (λ z. z) (λ z. leaf t (integer_octets z)) (λ z. holds most z ≡ true)
integer_laws t most e z i l =
    map_laws (λ v. signed_of v.1) signed_of (λ v. v.1) (λ z. z) (λ v. refl)
    (leaf t) (λ c. integer_ok most c ≡ true) (λ z. leaf t (integer_octets z)) (λ z. holds most z ≡ true)
    (λ z m o f. (integer_octets z, integer_back z (holds_more most most_integer_octets z l o), integer_ok_lem most z i l o, f))
    (λ c m o f. let w = integer_only most c o in (w.1, rw (← w.0) f))
    (leaf_item t (integer_ok most)) (leaf_laws t (integer_ok most) e z)

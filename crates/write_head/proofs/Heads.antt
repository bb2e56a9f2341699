-- A constructor is put around what is there: its length is how far that reaches. Assumes nothing.
use Prim.Native.Nat.{ℕ, ◌-◌, ◌<◌}
use native.Mathlib.Omega.{arith}
use mathlib.Core.Path.{◌≡◌}
use mathlib.Core.List.{List, ◌∷◌, ◌++◌}
use lib.ListN.{length}
use Rattle.base.specs.inner.Back.{Room, PutBack}
use Rattle.base.proofs.Backs.{room_last, room_next, back_then}
use Rattle.element.specs.Form.{length_octets}

-- the room of the contents
pub room_inside : {d : List ℕ} {at : ℕ} (tag : ℕ) (c : List ℕ) → Room d at (tag ∷ (length_octets (length c) ++ c)) → Room d at c
room_inside tag c r = room_last (tag ∷ length_octets (length c)) r

module _ {d : List ℕ} {at : ℕ} {c : List ℕ} {q : ℕ} {e : List ℕ} (p : PutBack d at c q e) (tag : ℕ) where
  held : at - q ≡ length c
  held = omega (arith, p.begins)

  pub room_head : Room d at (tag ∷ (length_octets (length c) ++ c)) → Room e q (tag ∷ length_octets (at - q)) × (at - q < 65536)
  room_head r = (rw held (room_next p (tag ∷ length_octets (length c)) r), omega (arith, r.low))

  pub back_around : {r : ℕ} {g : List ℕ} → PutBack e q (tag ∷ length_octets (at - q)) r g → PutBack d at (tag ∷ (length_octets (length c) ++ c)) r g
  back_around n = back_then p (rw held at n)

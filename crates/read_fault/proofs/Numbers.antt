-- The number of a fault tells its kind and its place, where the place is one of the octets that readers may be handed. Assumes nothing.
use Prim.Native.Nat.{ℕ, ◌+◌, ◌/◌, ◌%◌, ◌≤◌}
use mathlib.Core.Path.{◌≡◌}
use native.Mathlib.Omega.{arith}
use Rattle.element.specs.declared.FaultKind.{FaultKind}
use Rattle.element.specs.Fault.{Fault, fault}
use Rattle.tcap.proofs.FaultPlaces.{kind_of, place_of}
use Rattle.read_place.specs.Places.{opening, base, fault_place}
use Rattle.read_fault.specs.Faults.{kind_at, kind_from}

kind_back : (k : FaultKind) (q : ℕ) → q ≤ 65535 → kind_from (base k + q) ≡ k
unfolding base kind_at
kind_back FaultKind.CutOff q h = let z : (131072 + q) / opening ≡ 2 = omega (arith, h) in rw z
kind_back FaultKind.BadTag q h = let z : (196608 + q) / opening ≡ 3 = omega (arith, h) in rw z
kind_back FaultKind.BadLength q h = let z : (262144 + q) / opening ≡ 4 = omega (arith, h) in rw z
kind_back FaultKind.PassesEnd q h = let z : (327680 + q) / opening ≡ 5 = omega (arith, h) in rw z
kind_back FaultKind.TooDeep q h = let z : (393216 + q) / opening ≡ 6 = omega (arith, h) in rw z
kind_back FaultKind.CodeZero q h = let z : (458752 + q) / opening ≡ 7 = omega (arith, h) in rw z
kind_back FaultKind.Overlong q h = let z : (524288 + q) / opening ≡ 8 = omega (arith, h) in rw z
kind_back FaultKind.NoMessage q h = let z : (589824 + q) / opening ≡ 9 = omega (arith, h) in rw z
kind_back FaultKind.OctetsAfter q h = let z : (655360 + q) / opening ≡ 10 = omega (arith, h) in rw z
kind_back FaultKind.Missing q h = let z : (720896 + q) / opening ≡ 11 = omega (arith, h) in rw z
kind_back FaultKind.Another q h = let z : (786432 + q) / opening ≡ 12 = omega (arith, h) in rw z
kind_back FaultKind.TooMany q h = let z : (851968 + q) / opening ≡ 13 = omega (arith, h) in rw z
kind_back FaultKind.BadContents q h = let z : (917504 + q) / opening ≡ 14 = omega (arith, h) in rw z
kind_back FaultKind.Seventeenth q h = let z : (983040 + q) / opening ≡ 15 = omega (arith, h) in rw z
kind_back FaultKind.UnknownComponent q h = let z : (1048576 + q) / opening ≡ 16 = omega (arith, h) in rw z

place_back : (k : FaultKind) (q : ℕ) → q ≤ 65535 → (base k + q) % opening ≡ q
unfolding base
place_back FaultKind.CutOff q h = omega (arith, h)
place_back FaultKind.BadTag q h = omega (arith, h)
place_back FaultKind.BadLength q h = omega (arith, h)
place_back FaultKind.PassesEnd q h = omega (arith, h)
place_back FaultKind.TooDeep q h = omega (arith, h)
place_back FaultKind.CodeZero q h = omega (arith, h)
place_back FaultKind.Overlong q h = omega (arith, h)
place_back FaultKind.NoMessage q h = omega (arith, h)
place_back FaultKind.OctetsAfter q h = omega (arith, h)
place_back FaultKind.Missing q h = omega (arith, h)
place_back FaultKind.Another q h = omega (arith, h)
place_back FaultKind.TooMany q h = omega (arith, h)
place_back FaultKind.BadContents q h = omega (arith, h)
place_back FaultKind.Seventeenth q h = omega (arith, h)
place_back FaultKind.UnknownComponent q h = omega (arith, h)

module _ (f : Fault) (low : place_of f ≤ 65535) where
  pub kind_told : kind_from (fault_place f) ≡ kind_of f
  unfolding fault_place
  kind_told = go f low
    where
      go : (f : Fault) → place_of f ≤ 65535 → kind_from (fault_place f) ≡ kind_of f
      go (fault k q o i t) l = kind_back k q l

  pub place_told : fault_place f % opening ≡ place_of f
  unfolding fault_place
  place_told = go f low
    where
      go : (f : Fault) → place_of f ≤ 65535 → fault_place f % opening ≡ place_of f
      go (fault k q o i t) l = place_back k q l

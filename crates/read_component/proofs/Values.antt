-- An invoke ID from the places that its reader told. Assumes nothing.
use Prim.Native.Nat.{ℕ, ◌+◌, ◌-◌, ◌≤◌}
use mathlib.Core.Path.{◌≡◌, refl, ◌∙◌}
use mathlib.Core.Bool.{Bool}
use mathlib.Core.List.{List, [], ◌∷◌}
use native.Mathlib.Omega.{arith}
use lib.ListN.{length, get_or, drop, take}
use lib.Seq.{drop-cons}
use lib.IntN.{ℤ}
use Rattle.primitive.specs.Primitive.{integer_ok, signed_of}
use Rattle.element.specs.declared.FaultKind.{FaultKind}
use Rattle.element.specs.Ask.{Head, ask}
use Rattle.element.specs.Parts.{Where, level, first_of, integer_item}
use Rattle.element.proofs.Asking.{Then, fact, then_next, then_blamed, HeadOf, finite as finite-head, unended, ask_sound}
use Rattle.element.proofs.Views.{span_take}
use Rattle.element.proofs.Reading.{tag_first}
use Rattle.read_place.specs.Places.{part, finite, Placed, front, Reads, until, Near}
use Rattle.read_place.proofs.Answers.{placed_near}
use Rattle.read_place.proofs.Bodies.{placed_where}
use Rattle.read_place.proofs.Values.{leaf_stood}
use Rattle.read_field.proofs.Fields.{integer_sized}

pub head_first : (part : List ℕ) (h : Head) → HeadOf part h → get_or part 0 0 ≡ first_of h
head_first part h (finite-head a s k n t z l) = tag_first part a s t
head_first part h (unended a s t z l) = tag_first part a s t

-- an ID is the octet before the next place
pub value_id : (w : Where) (d : Bool) (p : ℕ) (part : List ℕ) → Then (λ i n. (n ≡ 3) × (i ≡ signed_of (take 1 (drop 2 part)))) (ask (front w FaultKind.Another (integer_item 2 1)) d p part)
value_id w d p part =
    ask_sound (λ i n. (n ≡ 3) × (i ≡ signed_of (take 1 (drop 2 part)))) (front w FaultKind.Another (integer_item 2 1)) d p part (λ v e f. let z : ◌≡◌ {A = ℕ} 0 1 = cc in absurd (omega arith)) (λ h i m. then_blamed w.owner
    (then_next (leaf_stood 2 1 (integer_ok 1) (omega arith, omega arith, omega arith) (omega arith) (integer_sized 1) p part h i m) (λ v n q. let three : n ≡ 3 = omega (arith, q.0, q.2) in let one : n - 2 ≡ 1 = omega (arith, three) in fact (three, rw (q.1, one)))))

module _ (m : List ℕ) (at stop r : ℕ) (h : until stop ≤ length m) (id : Reads (integer_item 2 1) m at stop r) (near : Near r) where
  pub id_placed : Placed at (until stop) (ask (front (level 13) FaultKind.Another (integer_item 2 1)) (finite stop) at (part m at stop)) r
  id_placed = placed_where (integer_item 2 1) FaultKind.Another (level 13) (λ f. refl) (finite stop) at (part m at stop) (until stop) r refl id

  pub id_is : (i : ℤ) → (r - at ≡ 3) × (i ≡ signed_of (take 1 (drop 2 (part m at stop)))) → i ≡ signed_of (get_or m (at + 2) 0 ∷ [])
  id_is i e =
      let z = placed_near (ask (front (level 13) FaultKind.Another (integer_item 2 1)) (finite stop) at (part m at stop)) at (until stop) r id_placed near in
      e.1 ∙ rw (span_take m at (until stop) 2 1 (omega (arith, z, e.0)) h, drop-cons m (at + 2) 0 (omega (arith, z, e.0, h)))

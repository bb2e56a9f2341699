-- What is told of a refused message in the octets lent to its reader: whom the fault belongs to, and the invoke ID that goes with it, so far as the standard
-- answer asks. Assumes nothing: these are definitions.
use Rattle.std.specs.Prelude.{ℕ}
use mathlib.Core.{Path.◌≡◌, Bool.cond, List.List, List.[], List.◌∷◌, Option.Option, Option.none, Option.some}
use lib.{ListN.get_or, Dec.eqb, IntN.ℤ}
use Rattle.primitive.specs.Primitive.{signed_of}
use Rattle.element.specs.Fault.{Owner, portion, dialogue, component, Fault, fault}
use Rattle.tcap.specs.{declared.Ground.Ground, Reading.answer_for}

-- octet 0 is 0 for the transaction portion, 1 for the dialogue portion, 2 for a component, whose number stands in octet 1
unfoldable pub owner_in : List ℕ → Owner
owner_in l = cond (eqb (get_or l 0 0) 0) portion (cond (eqb (get_or l 0 0) 1) dialogue (component (get_or l 1 0)))

-- octet 2 is 0 for none, octet 3 the invoke ID
unfoldable pub id_in : List ℕ → Option ℤ
id_in l = cond (eqb (get_or l 2 0) 0) none (some (signed_of (get_or l 3 0 ∷ [])))

unfoldable pub Blames : Fault → List ℕ → Type 0
Blames (fault k q o i t) l = (g : Ground) → answer_for g o i ≡ answer_for g (owner_in l) (id_in l)

-- What the readers of a component answer and lay out, as their contracts cite it; the definition of reading rests on none of it.
-- Assumes nothing: these are definitions.
use Rattle.std.specs.Prelude.{ℕ}
use mathlib.Core.{Bool.Bool, Bool.false, Bool.cond, List.List, Option.Option}
use lib.{Dec.eqb, IntN.ℤ}
use Rattle.element.specs.{declared.FaultKind.FaultKind, Fault.Text, Fault.with_invoke_id, Ask.Body, Ask.ask, Parts.level, Parts.integer_item, Parts.bind_body, Parts.then_body, Parts.only_body, Parts.opt_body}
use Rattle.tcap.specs.{declared.Problem.Problem, Meaning.Code, Meaning.Component, Meaning.last, Meaning.not_last, WellFormed.the93, Productions.id_or_null_item, Productions.problem_item, Productions.code_item, Productions.level_at, Productions.invoke_body, Productions.result_body, Productions.error_body, Productions.reject_body, Productions.component_item}
use Rattle.read_place.specs.Places.{until, finite, part, front, Placed}
use Rattle.read_place.specs.Leaves.{Left, untold}
use Rattle.read_place.specs.Laying.{lay_code, lay_component}
use Rattle.read_part.specs.Parts.{HeldText, parameter_body, lay_held}

-- contents that are not yet under the component's name

abbrev pub coded_body : (must : Bool) → ℕ → Body (Code Text × HeldText must)
coded_body must left = then_body (level left) code_item (parameter_body must left)

abbrev pub linked_body : Body (Option ℤ × (Code Text × HeldText false))
linked_body = opt_body (integer_item 0x80 1) (coded_body false 13)

abbrev pub rejected_body : Body (Option ℤ × Problem)
rejected_body = bind_body (level_at the93 4) with_invoke_id id_or_null_item (λ i. only_body (level_at the93 4) problem_item)

-- the contents of a component by its tag
unfoldable pub component_body_of : ℕ → Body (Component Text)
component_body_of a =
    cond (eqb a 0xA1) (invoke_body the93)
    (cond (eqb a 0xA2) (result_body the93 last)
    (cond (eqb a 0xA3) (error_body the93)
    (cond (eqb a 0xA4) (reject_body the93) (result_body the93 not_last))))

-- one value is laid out, and then another
abbrev pub lay_both : {A B : Type 0} → (A → List ℕ → List ℕ) → (B → List ℕ → List ℕ) → A × B → List ℕ → List ℕ
lay_both lay put v l = put v.1 (lay v.0 l)

abbrev pub lay_coded : (must : Bool) → Code Text × HeldText must → List ℕ → List ℕ
lay_coded must = lay_both lay_code (lay_held must)

-- a component that must stand at a place, and what it leaves in its row
abbrev pub ReadsComponent : List ℕ → ℕ → ℕ → ℕ → Type 0
ReadsComponent m at stop r = Placed at (until stop) (ask (front (level 1) FaultKind.UnknownComponent (component_item the93)) (finite stop) at (part m at stop)) r

abbrev pub LeavesComponent : List ℕ → ℕ → ℕ → List ℕ → List ℕ → Type 0
LeavesComponent m at stop old new = Left lay_component untold (ask (front (level 1) FaultKind.UnknownComponent (component_item the93)) (finite stop) at (part m at stop)) old new

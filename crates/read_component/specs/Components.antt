-- What the readers of components answer, as their contracts cite it; the definition of reading rests on none of it.
-- Assumes nothing: these are definitions.
use Rattle.std.specs.Prelude.{Option as Optional, Some, None, ℕ, zero, suc}
use mathlib.Core.{Path.◌≡◌, Bool.cond, List.List, List.[], List.◌∷◌, Option.Option, Option.none, Option.some}
use lib.{Dec.eqb, IntN.ℤ}
use Rattle.primitive.specs.Primitive.{signed_of}
use Rattle.element.specs.{declared.FaultKind.FaultKind, Fault.fault, Fault.Text, Ask.Got, Ask.got, Ask.bad, Ask.Body, Ask.ask, Parts.level, Parts.series_body}
use Rattle.tcap.specs.{Meaning.Component, WellFormed.the93, Productions.component_at, Productions.component_item}
use Rattle.read_place.specs.Places.{finite, part, front}

-- components, of which k are read: `room` more may come, and after the first none need
unfoldable pub ends_at : ℕ → Option (List (Component Text))
ends_at zero = none
ends_at (suc k) = some []

abbrev pub rows_body : ℕ → ℕ → Body (List (Component Text))
rows_body room k = series_body (component_at the93) FaultKind.UnknownComponent (component_item the93) (ends_at k) room k

-- the invoke ID that a fault carries
unfoldable pub Carries : {A : Type 0} → Option ℤ → Got A → Type 0
Carries j (got a n) = Unit {0}
Carries j (bad (fault k q o i t)) = i ≡ j

-- an invoke ID told by its octet
unfoldable pub id_in_octet : Optional ℕ → Option ℤ
id_in_octet None = none
id_in_octet (Some o) = some (signed_of (o ∷ []))

-- the invoke ID goes with a fault of the component that stands at a place
abbrev pub CarriesHere : Option ℤ → List ℕ → ℕ → ℕ → Type 0
CarriesHere j m at stop = Carries j (ask (front (level 1) FaultKind.UnknownComponent (component_item the93)) (finite stop) at (part m at stop))

-- told by its octet
abbrev pub KnowsId : List ℕ → ℕ → ℕ → Optional ℕ → Type 0
KnowsId m at stop r = CarriesHere (id_in_octet r) m at stop

-- What a reader that lays values out leaves in the octets lent to it: by the value, or whatever is told of the fault. Assumes nothing: these are definitions.
use Rattle.std.specs.Prelude.{ℕ}
use mathlib.Core.{Path.◌≡◌, List.List}
use Rattle.element.specs.{declared.FaultKind.FaultKind, Fault.Fault, Ask.Got, Ask.got, Ask.bad, Ask.Body, Ask.ask, Parts.Item, Parts.level}
use Rattle.read_place.specs.Places.{finite, part, front}

-- the octets were `old` and are `new`
unfoldable pub Left : {A : Type 0} → (A → List ℕ → List ℕ) → (Fault → List ℕ → Type 0) → Got A → List ℕ → List ℕ → Type 0
Left lay tell (got a n) old new = new ≡ lay a old
Left lay tell (bad f) old new = tell f new

-- of one element, and of contents
abbrev pub Leaves : {A : Type 0} → (A → List ℕ → List ℕ) → (Fault → List ℕ → Type 0) → Item A → List ℕ → ℕ → ℕ → List ℕ → List ℕ → Type 0
Leaves lay tell x m at stop old new = Left lay tell (ask (front (level 1) FaultKind.Another x) (finite stop) at (part m at stop)) old new

abbrev pub LeavesAll : {A : Type 0} → (A → List ℕ → List ℕ) → (Fault → List ℕ → Type 0) → Body A → List ℕ → ℕ → ℕ → List ℕ → List ℕ → Type 0
LeavesAll lay tell b m at stop old new = Left lay tell (ask b (finite stop) at (part m at stop)) old new

-- nothing is told of a fault; nothing is laid out
abbrev pub untold : Fault → List ℕ → Type 0
untold f l = Unit {0}

abbrev pub unlaid : {A : Type 0} → A → List ℕ → List ℕ
unlaid a l = l

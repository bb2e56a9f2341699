-- What the readers of a component's fields lay out, beside what read_place says. Assumes nothing: these are definitions.
use Rattle.std.specs.Prelude.{ℕ, set}
use mathlib.Core.{Bool.Bool, Bool.true, Bool.false, List.List, Option.Option}
use Rattle.element.specs.{Fault.Text, Ask.Body, Parts.level, Parts.only_body, Parts.last_body, Walk.walk_item}
use Rattle.read_place.specs.Laying.{lay_element, lay_parameter}

-- a problem of one tag
abbrev pub lay_octet : ℕ → ℕ → List ℕ → List ℕ
lay_octet tag n l = set (set l 5 tag) 7 n

-- a parameter that must stand, or one that may be missing

unfoldable pub HeldText : Bool → Type 0
HeldText true = Text
HeldText false = Option Text

unfoldable pub parameter_body : (must : Bool) → ℕ → Body (HeldText must)
unfolding HeldText
parameter_body true left = only_body (level left) (walk_item left)
parameter_body false left = last_body (level left) (walk_item left)

unfoldable pub lay_held : (must : Bool) → HeldText must → List ℕ → List ℕ
unfolding HeldText
lay_held true v l = lay_element v l
lay_held false v l = lay_parameter v l

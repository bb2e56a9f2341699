-- The layout's choices are the tags of the grammar: of the components and the problems; those of the messages have one definition. Assumes nothing.
use Rattle.std.specs.Prelude.{ℤ}
use Rattle.std.specs.Prelude.{Option as Optional}
use mathlib.Core.Path.{◌≡◌, refl}
use lib.ListN.{get_or}
use Rattle.tcap.specs.declared.{ComponentKind.ComponentKind, Problem.Problem}
use Rattle.tcap.specs.Meaning.{octet, problem_form}
use Rattle.layout.specs.Layout.{ids_octets, kind_octets, problem_tag, problem_number}
use Rattle.tcap.specs.Record.{row_tag}

pub component_tag : (i : Optional ℤ) (k : ComponentKind) → get_or (kind_octets i k) 0 0 ≡ row_tag k
unfolding kind_octets ids_octets
component_tag i (ComponentKind.Invoke l c p) = refl
component_tag i (ComponentKind.ResultLast r) = refl
component_tag i (ComponentKind.ResultNotLast r) = refl
component_tag i (ComponentKind.ReturnError c p) = refl
component_tag i (ComponentKind.Reject q) = refl

pub problem_tag_lem : (q : Problem) → problem_form q ≡ octet (problem_tag q) (problem_number q)
unfolding problem_tag problem_number
problem_tag_lem (Problem.General n) = refl
problem_tag_lem (Problem.OfInvoke n) = refl
problem_tag_lem (Problem.OfResult n) = refl
problem_tag_lem (Problem.OfError n) = refl

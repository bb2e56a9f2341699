-- One part of a unitdata, as it is looked at. Assumes nothing: these are definitions.
use Rattle.sccp.specs.declared.Part.{Part}
use Rattle.std.specs.Prelude.{Option as Optional, Some, None, ℕ}
use mathlib.Core.{Bool.cond, List.List}
use Rattle.sccp.specs.Unitdata.{inside, part_at}

-- one part, cited by an inner contract
unfoldable pub part_read : List ℕ → ℕ → Optional Part
part_read m i = cond (inside m (part_at m i)) (Some (part_at m i)) None

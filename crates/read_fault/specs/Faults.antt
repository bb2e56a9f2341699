-- The number of a fault, taken apart: its kind and its place. Assumes nothing: these are definitions.
use Rattle.std.specs.Prelude.{ℕ, ◌/◌, cond, eqb}
use Rattle.element.specs.declared.FaultKind.{FaultKind}
use Rattle.read_place.specs.Places.{opening}

-- by its block: the first is 2
unfoldable pub kind_at : ℕ → FaultKind
kind_at k =
    cond (eqb k 2) FaultKind.CutOff
    (cond (eqb k 3) FaultKind.BadTag
    (cond (eqb k 4) FaultKind.BadLength
    (cond (eqb k 5) FaultKind.PassesEnd
    (cond (eqb k 6) FaultKind.TooDeep
    (cond (eqb k 7) FaultKind.CodeZero
    (cond (eqb k 8) FaultKind.Overlong
    (cond (eqb k 9) FaultKind.NoMessage
    (cond (eqb k 10) FaultKind.OctetsAfter
    (cond (eqb k 11) FaultKind.Missing
    (cond (eqb k 12) FaultKind.Another
    (cond (eqb k 13) FaultKind.TooMany
    (cond (eqb k 14) FaultKind.BadContents
    (cond (eqb k 15) FaultKind.Seventeenth FaultKind.UnknownComponent)))))))))))))

abbrev pub kind_from : ℕ → FaultKind
kind_from r = kind_at (r / opening)

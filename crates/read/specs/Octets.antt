-- What the octets lent to the reader hold. Assumes nothing: these are definitions.
use Rattle.tcap.specs.declared.{Record.Record, Refusal.Refusal}
use Rattle.std.specs.Prelude.{ℕ, Result, Ok, Err}
use mathlib.Core.{Path.◌≡◌, List.List}
use lib.{ListN.length, ListN.take}
use Rattle.layout.specs.Layout.{record_octets}

-- of an accepted message its record; of a refused one nothing is said
unfoldable pub Held : Result Record Refusal → List ℕ → Type 0
Held (Ok r) new = take (length (record_octets r)) new ≡ record_octets r
Held (Err f) new = Unit {0}

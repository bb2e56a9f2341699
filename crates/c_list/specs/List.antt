-- What C is told of a listing, and what its room then holds: docs/LAYOUT.md, "Answer". Assumes nothing: these are definitions.
use Rattle.std.specs.Prelude.{ℕ, Option as Optional, Some, None}
use mathlib.Core.{List.List}
use Rattle.tcap.specs.{Reading.reading}
use Rattle.listing.specs.{Listing.listing_of, Listing.listed_of, Listing.buffer_after}
use Rattle.c_answer.specs.Answer.{no_room, length_bits}

unfoldable pub listed_bits : Optional ℕ → ℕ
listed_bits (Some n) = length_bits n
listed_bits None = no_room

unfoldable pub list_answer : List ℕ → List ℕ → ℕ
list_answer m out = listed_bits (listed_of (listing_of m (reading m)) out)

unfoldable pub list_room : List ℕ → List ℕ → List ℕ
list_room m out = buffer_after (listing_of m (reading m)) out

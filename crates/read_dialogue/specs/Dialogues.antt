-- What the readers of the dialogue portion answer, as their contracts cite it; the definition of reading rests on none of it.
-- Assumes nothing: these are definitions.
use Rattle.std.specs.Prelude.{ℕ, ◌+◌, ◌≤◌}
use mathlib.Core.{Path.◌≡◌, Bool.false, List.List}
use lib.{ListN.get_or, ListN.set}
use Rattle.primitive.specs.Primitive.{most_identifier_octets}
use Rattle.element.specs.{declared.EndRead.EndRead, Fault.Text}
use Rattle.tcap.specs.{Meaning.Dialogue, Meaning.request, Meaning.unidialogue, Meaning.response, Meaning.aborted, Meaning.single, Meaning.octets, WellFormed.the93, Productions.held_item}
use Rattle.read_place.specs.{Places.until, Places.count_of, Laying.lay_span}
use Rattle.read_pdu.specs.Pdus.{Takes}

-- how many octets a name here would have: 1 to 16
abbrev pub NameCounted : List ℕ → ℕ → ℕ → ℕ → Type 0
NameCounted m at stop n = (n ≡ count_of (until stop) at (get_or m at 0) (get_or m (at + 1) 0) 0x06 most_identifier_octets) × (1 ≤ n)

-- what is laid out of what stands behind another name, which stands there before
unfoldable pub lay_else : Dialogue Text → List ℕ → List ℕ
lay_else (request n u) l = l
lay_else (unidialogue n u) l = l
lay_else (response n r s u) l = l
lay_else (aborted r u) l = l
lay_else (single n e) l = lay_span 32 e (set l 3 6)
lay_else (octets n c) l = lay_span 32 c (set l 3 7)

-- what stands behind another name, whatever that was
unfoldable pub Holds : List ℕ → ℕ → ℕ → ℕ → List ℕ → List ℕ → Type 0
Holds m at stop r old new = (n : Text) → Takes lay_else (held_item the93 n false false) m at stop r old new

-- what is told of whom a fault at a place in the contents of 6B belongs to: the portion (0), where they end or lack their end pair, or the dialogue (1)
unfoldable pub owner_mark : EndRead → ℕ
owner_mark EndRead.Ended = 0
owner_mark EndRead.Unfinished = 0
owner_mark EndRead.More = 1

-- Writing SCCP unitdata: document 02, §6. Room is the number of octets there are. Assumes nothing: these are definitions.
use Rattle.std.specs.Prelude.{Result, Ok, Err, ℕ, ◌+◌}
use mathlib.Core.{Bool.Bool, Bool.◌&&◌, List.List, List.◌∷◌, List.◌++◌}
use lib.{ListN.length, ListN.drop, Dec.leb}
use Rattle.sccp.specs.declared.{UnitdataWriteFault.UnitdataWriteFault}
use Rattle.sccp.specs.Unitdata.{type_octet, unless}

-- the numbers of document 02
unfoldable pub unitdata_write_number : UnitdataWriteFault → ℕ
unitdata_write_number UnitdataWriteFault.OutOfRange = 35
unitdata_write_number UnitdataWriteFault.NoRoom = 25

-- the two addresses together, so that every pointer fits one octet; data, so that its length does
abbrev pub most_addressed : ℕ
most_addressed = 252

abbrev pub most_data : ℕ
most_data = 255

-- called address, calling address and data, without gaps; each pointer is counted from its own octet
abbrev pub counted : List ℕ → List ℕ
counted s = length s ∷ s

unfoldable pub unitdata_octets : ℕ → List ℕ → List ℕ → List ℕ → List ℕ
unitdata_octets c a b d = type_octet ∷ c ∷ 3 ∷ (3 + length a) ∷ (3 + (length a + length b)) ∷ counted a ++ (counted b ++ counted d)

-- 35: both addresses have 1 octet or more, together at most 252, so that each has at most 251
unfoldable pub in_range : ℕ → ℕ → ℕ → Bool
in_range a b d = leb 1 a && (leb 1 b && (leb (a + b) most_addressed && leb d most_data))

-- 35 of any part, then 25
unfoldable pub writing_unitdata : ℕ → List ℕ → List ℕ → List ℕ → ℕ → Result ℕ UnitdataWriteFault
writing_unitdata c a b d room =
    let n = length (unitdata_octets c a b d) in
    unless (in_range (length a) (length b) (length d)) (Err UnitdataWriteFault.OutOfRange)
    (unless (leb n room) (Err UnitdataWriteFault.NoRoom)
    (Ok n))

-- octets past the unitdata stay; a refusal leaves all as it was
unfoldable pub behind : Result ℕ UnitdataWriteFault → List ℕ → List ℕ → List ℕ
behind (Ok n) s out = s ++ drop n out
behind (Err f) s out = out

unfoldable pub leaves_unitdata : ℕ → List ℕ → List ℕ → List ℕ → List ℕ → List ℕ
leaves_unitdata c a b d out = behind (writing_unitdata c a b d (length out)) (unitdata_octets c a b d) out

-- the answer as a number: 0 for a unitdata that was written
unfoldable pub unitdata_write_status : Result ℕ UnitdataWriteFault → ℕ
unitdata_write_status (Ok n) = 0
unitdata_write_status (Err f) = unitdata_write_number f

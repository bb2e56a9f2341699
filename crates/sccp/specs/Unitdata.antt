-- Reading SCCP unitdata, message type 09 of Recommendation Q.713: document 02, §6. Places count from 0. Assumes nothing: these are definitions.
use Rattle.std.specs.Prelude.{Result, Ok, Err, ℕ, suc, ◌+◌}
use mathlib.Core.{Bool.Bool, Bool.◌&&◌, Bool.◌||◌, Bool.cond, List.List}
use lib.{ListN.length, ListN.get_or, Dec.leb, Dec.ltb, Dec.eqb}
use Rattle.sccp.specs.declared.{Part.Part, Unitdata.Unitdata, UnitdataFault.UnitdataFault}

-- the numbers of document 02
unfoldable pub unitdata_number : UnitdataFault → ℕ
unitdata_number UnitdataFault.OtherType = 31
unitdata_number UnitdataFault.PastEnd = 32
unitdata_number UnitdataFault.Overlap = 33
unitdata_number UnitdataFault.EmptyAddress = 34

-- type, protocol class, and the pointers to called address, calling address and data
abbrev pub type_octet : ℕ
type_octet = 9

abbrev pub head_size : ℕ
head_size = 5

-- a pointer is counted from its own octet, i, and names the length octet of its part; the part's octets stand behind that
abbrev pub named_by : List ℕ → ℕ → ℕ
named_by m i = i + get_or m i 0

abbrev pub part_at : List ℕ → ℕ → Part
part_at m i = record { place = suc (named_by m i); len = get_or m (named_by m i) 0 }

-- 32: the part ends in the message, and so its length octet and its pointer, which stand before that end, lie in it too
abbrev pub inside : List ℕ → Part → Bool
inside m p = leb (p.place + p.len) (length m)

-- 33: length octets included, neither on the five octets nor on one another
abbrev pub clear : Part → Bool
clear p = ltb head_size p.place

unfoldable pub apart : Part → Part → Bool
apart p q = ltb (p.place + p.len) q.place || ltb (q.place + q.len) p.place

unfoldable pub separate : Part → Part → Part → Bool
separate a b d = clear a && (clear b && (clear d && (apart a b && (apart a d && apart b d))))

-- 34
abbrev pub addressed : Part → Part → Bool
addressed a b = leb 1 a.len && leb 1 b.len

-- this answer, unless the test holds
abbrev pub unless : {A : Type 0} → Bool → A → A → A
unless b this otherwise = cond b otherwise this

-- parts that lie in the message: 33, then 34
unfoldable pub judged : ℕ → Part → Part → Part → Result Unitdata UnitdataFault
judged c a b d =
    unless (separate a b d) (Err UnitdataFault.Overlap)
    (unless (addressed a b) (Err UnitdataFault.EmptyAddress)
    (Ok (record { class = c; called = a; calling = b; userdata = d })))

-- each number over all three parts before the next; no octets are not type 09
unfoldable pub read_unitdata : List ℕ → Result Unitdata UnitdataFault
read_unitdata m =
    let a = part_at m 2 in
    let b = part_at m 3 in
    let d = part_at m 4 in
    unless (eqb (get_or m 0 0) type_octet) (Err UnitdataFault.OtherType)
    (unless (inside m a && (inside m b && inside m d)) (Err UnitdataFault.PastEnd)
    (judged (get_or m 1 0) a b d))

-- the answer as a number: 0 for a unitdata that was read
unfoldable pub unitdata_status : Result Unitdata UnitdataFault → ℕ
unitdata_status (Ok u) = 0
unitdata_status (Err f) = unitdata_number f

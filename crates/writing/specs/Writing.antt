-- Writing a record, over the material lent beside it, into room for a message: document 01, "Writing". Room is the number of octets there are.
-- Assumes nothing: these are definitions.
use Rattle.tcap.specs.declared.Span.{Span}
use Rattle.std.specs.Prelude.{Option as Optional, Result, Some, None, Ok, Err}
use Rattle.std.specs.Prelude.{ℕ, min}
use mathlib.Core.{Path.◌≡◌, Bool.Bool, Bool.true, Bool.cond, List.List, List.[], List.◌++◌, Option.map, Option.get_or, Option.some}
use lib.{ListN.length, ListN.drop, Dec.leb}
use Rattle.base.specs.{Number.holds, Value.Every}
use Rattle.primitive.specs.{Primitive.most_integer_octets}
use Rattle.tcap.specs.{declared.Code.Code, declared.ComponentKind.ComponentKind, declared.Row.Row, declared.Record.Record, Meaning.Meaning, Meaning.written, WellFormed.most_octets, WellFormed.most_components, WellFormed.Reads, Record.meaning_of}
use Rattle.layout.specs.{Fits.IdFits, Fits.LinkedFits}
use Rattle.tcap.specs.Verdict.{all_parts, all_ranges, all_lie, all_shaped}
use Rattle.writing.specs.{declared.WriteFault.WriteFault}

-- the numbers of document 01
unfoldable pub write_number : WriteFault → ℕ
write_number WriteFault.WrongParts = 24
write_number WriteFault.OutOfRange = 23
write_number WriteFault.OutOfMaterial = 21
write_number WriteFault.Unshaped = 22
write_number WriteFault.NoRoom = 25

-- the shortest message of what the record means over the material; none, where it means nothing
unfoldable pub message_of : Record → List ℕ → List ℕ
message_of r m = get_or (map written (meaning_of r m)) []

-- a record is well-formed if 21 to 24 do not apply
pub record RecordOk (r : Record) (m : List ℕ) : Type 0 where
  pub parts : all_parts r ≡ true
  pub ranged : all_ranges r ≡ true
  pub lie : all_lie (length m) r ≡ true
  pub shaped : all_shaped m r ≡ true

-- refused, unless the test holds
abbrev pub unless : Bool → WriteFault → Result ℕ WriteFault → Result ℕ WriteFault
unless b f w = cond b w (Err f)

-- each number over the whole record before the next; a message has at most 255 octets, whatever the room
unfoldable pub writing : Record → List ℕ → ℕ → Result ℕ WriteFault
writing r m room =
    let n = length (message_of r m) in
    unless (all_parts r) WriteFault.WrongParts
    (unless (all_ranges r) WriteFault.OutOfRange
    (unless (all_lie (length m) r) WriteFault.OutOfMaterial
    (unless (all_shaped m r) WriteFault.Unshaped
    (unless (leb n (min most_octets room)) WriteFault.NoRoom
    (Ok n)))))

-- refused with this number
unfoldable pub RefusedWith : Record → List ℕ → ℕ → ℕ → Type 0
RefusedWith r m room n = (f : WriteFault) × (writing r m room ≡ Err f) × (write_number f ≡ n)

-- octets past the message stay; a refusal leaves all as it was
unfoldable pub behind : Result ℕ WriteFault → List ℕ → List ℕ → List ℕ
behind (Ok n) s out = s ++ drop n out
behind (Err f) s out = out

unfoldable pub leaves : Record → List ℕ → List ℕ → List ℕ
leaves r m out = behind (writing r m (length out)) (message_of r m) out

-- a call's answer, and what the buffer `out` holds after it
pub record Writes (r : Record) (m out : List ℕ) (answer : Result ℕ WriteFault) (new : List ℕ) : Type 0 where
  pub answers : answer ≡ writing r m (length out)
  pub holds : new ≡ leaves r m out

-- the octets s are a message of the record r over m
unfoldable pub ReadsAs : List ℕ → Record → List ℕ → Type 0
ReadsAs s r m = (μ : Meaning) × (meaning_of r m ≡ some μ) × Reads s μ

-- What every record of the code has by its types: 16 rows, IDs of one octet and local codes of four

abbrev pub CodeTyped : Code → Type 0
CodeTyped (Code.Local z) = holds most_integer_octets z ≡ true
CodeTyped (Code.Global s) = Unit {0}

abbrev pub ReturnedTyped : Optional (Code × Span) → Type 0
ReturnedTyped None = Unit {0}
ReturnedTyped (Some (c, p)) = CodeTyped c

abbrev pub KindTyped : ComponentKind → Type 0
KindTyped (ComponentKind.Invoke l c p) = LinkedFits l × CodeTyped c
KindTyped (ComponentKind.ResultLast r) = ReturnedTyped r
KindTyped (ComponentKind.ResultNotLast r) = ReturnedTyped r
KindTyped (ComponentKind.ReturnError c p) = CodeTyped c
KindTyped (ComponentKind.Reject q) = Unit {0}

unfoldable pub RowTyped : Row → Type 0
RowTyped w = IdFits w.id × KindTyped w.kind

pub record RecordTyped (r : Record) : Type 0 where
  pub full : length r.rows ≡ most_components
  pub each : Every RowTyped r.rows

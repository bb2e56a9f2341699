-- The starred specimens of document 01, A to N, as one table under one statement: each is told as the page says, with its record or with the numbers of its
-- refusal, and its record is written as just those octets; with another octet at 14, D and E are the same but for the operation and for the linked ID.
-- C is the record of B. Assumes nothing.
use Rattle.tcap.specs.Reading.{handed_back}
use Rattle.tcap.specs.declared.DestTransactionId.{DestTransactionId}
use Rattle.tcap.specs.declared.OrigTransactionId.{OrigTransactionId}
use Rattle.tcap.specs.declared.Refusal.{Refusal}
use Rattle.std.specs.Prelude.{Result, Ok}
use Rattle.std.specs.Prelude.{Option as Optional, Some, None}
use Prim.Native.Nat.{ℕ, ◌-◌}
use mathlib.Core.Path.{◌≡◌, refl}
use mathlib.Core.List.{List, [], ◌∷◌, ◌++◌, map}
use mathlib.Core.Option.{Option, none, some}
use lib.ListN.{length, take, drop, replicate}
use lib.IntN.{ℤ, pos, negsuc}
use Rattle.tcap.specs.declared.{Span.Span, Code.Code, ComponentKind.ComponentKind, Row.Row, Dialogue.Dialogue, MessageKind.MessageKind, Record.Record, Answer.Answer}
use Rattle.tcap.specs.Meaning.{last, dest, finish}
use Rattle.tcap.specs.Record.{Same, blank_row, blank_record}
use Rattle.tcap.proofs.Computing.{reading_of, rewritten, written_back, Told, reads, refused, told, hex}

abbrev pub span_at : ℕ → ℕ → Span
span_at p n = record { place = p; len = n }

abbrev pub orig_at : ℕ → ℕ → Optional OrigTransactionId
orig_at p n = Some (record { 0 = record { octets = span_at p n } })

abbrev pub dest_at : ℕ → ℕ → Optional DestTransactionId
dest_at p n = Some (record { 0 = record { octets = span_at p n } })

abbrev pub id : ℕ → Optional ℤ
id n = Some (pos n)

abbrev pub component : Optional ℤ → ComponentKind → Row
component i k = record { id = i; kind = k }

-- a result 1 without contents; an invoke 1 with its linked ID, local code and parameter
abbrev pub result_one : Row
result_one = component (id 1) (ComponentKind.ResultLast None)

abbrev pub invokes : Optional ℤ → ℤ → ℕ → ℕ → Row
invokes l c p n = component (id 1) (ComponentKind.Invoke l (Code.Local c) (Some (span_at p n)))

abbrev pub kept : MessageKind → Optional OrigTransactionId → Optional DestTransactionId → Dialogue → List Row → Record
kept k o e d rs = record { kind = k; orig = o; dest = e; dialogue = d; count = length rs; rows = rs ++ replicate (16 - length rs) blank_row }

abbrev pub accepts : MessageKind → Optional OrigTransactionId → Optional DestTransactionId → Dialogue → List Row → Result Record Refusal
accepts k o e d rs = Ok (kept k o e d rs)

-- a Begin whose ID is the one octet at 4
abbrev pub begun : Dialogue → List Row → Told
begun d rs = reads (kept MessageKind.Begin (orig_at 4 1) None d rs)

-- number, place, originating ID, standard answer; the record handed back is the blank one
abbrev pub refuses : ℕ → ℕ → Optional OrigTransactionId → Answer → Told
refuses n p o a = refused n p o a blank_record

abbrev pub cause : ℕ → Answer
cause n = Answer.AbortCause n

-- a problem, the component and its invoke ID
abbrev pub problem : ℕ → ℕ → Optional ℤ → Answer
problem n k i = Answer.RejectProblem n k i

abbrev pub b : List ℕ
b = hex "64 0A 49 01 05 6C 05 A2 03 02 01 01"

abbrev pub c : List ℕ
c = hex "64 80 49 01 05 6C 80 A2 80 02 01 01 00 00 00 00 00 00"

-- octets; what is told of them; what the record is written as, if there is one; of D and E, other octets at 14, and what is told then
pub record Specimen : Type 0 where
  pub octets : List ℕ
  pub tells : Told
  pub written : Option (List ℕ)
  pub others14 : List ℕ
  pub tells14 : List Told

abbrev pub accepted : List ℕ → Told → List ℕ → Specimen
accepted m t w = record { octets = m; tells = t; written = some w; others14 = []; tells14 = [] }

-- as it is read it is written; with 00, 7F, 80, FF at octet 14 its record is that of the signed number
abbrev pub accepted14 : List ℕ → ℤ → (ℤ → Told) → Specimen
accepted14 m z t =
    record { octets = m; tells = t z; written = some m; others14 = 0x00 ∷ 0x7F ∷ 0x80 ∷ 0xFF ∷ []; tells14 = t (pos 0) ∷ t (pos 127) ∷ t (negsuc 127) ∷ t (negsuc 0) ∷ [] }

abbrev pub unread : List ℕ → Told → Specimen
unread m t = record { octets = m; tells = t; written = none; others14 = []; tells14 = [] }

abbrev pub specimens : List Specimen
specimens =
    -- A: Begin, no component
    accepted (hex "62 03 48 01 05") (begun Dialogue.NoDialogue []) (hex "62 03 48 01 05")
    -- B: End, result 1 without contents
    ∷ accepted b (reads (kept MessageKind.End None (dest_at 4 1) Dialogue.NoDialogue (result_one ∷ []))) b
    -- C: the record of B; written as B
    ∷ accepted c (reads (kept MessageKind.End None (dest_at 4 1) Dialogue.NoDialogue (result_one ∷ []))) b
    -- D: operation 45 at octet 14
    ∷ accepted14 (hex "62 10 48 01 05 6C 0B A1 09 02 01 01 02 01 2D 04 01 07") (pos 45) (λ z. begun Dialogue.NoDialogue (invokes None z 15 3 ∷ []))
    -- E: the same with linked ID 2, which stands at octet 14
    ∷ accepted14 (hex "62 13 48 01 05 6C 0E A1 0C 02 01 01 80 01 02 02 01 2D 04 01 07") (pos 2) (λ z. begun Dialogue.NoDialogue (invokes (Some z) (pos 45) 18 3 ∷ []))
    -- F: empty: 1 at 0, cause 2
    ∷ unread [] (refuses 1 0 None (cause 2))
    -- G: 8 at 0, cause 0
    ∷ unread (hex "63 00") (refuses 8 0 None (cause 0))
    -- H: 14 at 2, cause 3
    ∷ unread (hex "62 00") (refuses 14 2 None (cause 3))
    -- I: 11 at 2
    ∷ unread (hex "62 02 48 00") (refuses 11 2 None (cause 3))
    -- J: 3 at 2, cause 2
    ∷ unread (hex "62 04 48 81 01 05") (refuses 3 2 None (cause 2))
    -- K: 4 at 2
    ∷ unread (hex "62 03 48 02 05") (refuses 4 2 None (cause 2))
    -- L: 14 at 7, cause 3
    ∷ unread (hex "62 05 48 01 05 6C 00") (refuses 14 7 (orig_at 4 1) (cause 3))
    -- M: 13 at 7, component 0, problem 0
    ∷ unread (hex "62 07 48 01 05 6C 02 A5 00") (refuses 13 7 (orig_at 4 1) (problem 0 0 None))
    -- N: 9 at 5
    ∷ unread (hex "62 03 48 01 05 00") (refuses 9 5 (orig_at 4 1) (cause 2))
    -- N': an Abort with cause 4 reads
    ∷ accepted (hex "67 06 49 01 05 4A 01 04") (reads (kept MessageKind.Abort None (dest_at 4 1) (Dialogue.Cause 4) [])) (hex "67 06 49 01 05 4A 01 04")
    -- N'': with 05 last, 11 at 5
    ∷ unread (hex "67 06 49 01 05 4A 01 05") (refuses 11 5 None (cause 3))
    ∷ []

abbrev pub with14 : List ℕ → ℕ → List ℕ
with14 m x = take 14 m ++ (x ∷ drop 15 m)

-- the same columns from the octets alone
abbrev pub found : Specimen → Specimen
found s = record { octets = s.octets; tells = told s.octets; written = written_back s.octets; others14 = s.others14; tells14 = map (λ x. told (with14 s.octets x)) s.others14 }

pub starred : map found specimens ≡ specimens
unfolding told written_back
starred = refl

pub record_of_b : Same (handed_back (reading_of c)) c (handed_back (reading_of b)) b
unfolding Same reading_of rewritten
record_of_b = (finish (dest (hex "05")) none (last (pos 1) none ∷ []), refl, refl)

-- The numbers of document 01 at their edges, its names and its version: each row just within or just outside. And what is refused
-- although Q.773 allows it. Assumes nothing.
use Rattle.std.specs.Prelude.{Some, None}
use Prim.Native.Nat.{ℕ}
use mathlib.Core.Path.{refl}
use mathlib.Core.List.{List, [], ◌∷◌, ◌++◌}
use lib.ListN.{replicate}
use lib.IntN.{pos}
use Rattle.tcap.specs.declared.{Code.Code, Problem.Problem, ComponentKind.ComponentKind, Diagnostic.Diagnostic, Dialogue.Dialogue, MessageKind.MessageKind}
use Rattle.tcap.proofs.Computing.{Told, AsTold, reads, told, hex, times}
use Rattle.tcap.proofs.Specimens.{span_at, orig_at, dest_at, id, component, result_one, invokes, kept, begun, refuses, cause, problem}

abbrev pub edges : List (List ℕ × Told)
edges =
    -- 255 octets
    (hex "62 81 FC 48 01 05 6C 81 F6 A1 81 F3 02 01 01 02 01 2D 04 81 EA" ++ times 234 (hex "07"), reads (kept MessageKind.Begin (orig_at 5 1) None Dialogue.NoDialogue (invokes None (pos 45) 18 237 ∷ [])))
    -- 256 octets are 7, whatever they are
    ∷ (hex "62 81 FD 48 01 05 6C 81 F7 A1 81 F4 02 01 01 02 01 2D 04 81 EB" ++ times 235 (hex "07"), refuses 7 255 None (cause 2))
    ∷ (times 256 (hex "00"), refuses 7 255 None (cause 2))
    -- a length of FF is 3 at once, even cut off, and so is 80 on a primitive
    ∷ (hex "62 FF", refuses 3 0 None (cause 2))
    ∷ (hex "62 03 48 FF 05", refuses 3 2 None (cause 2))
    ∷ (hex "62 02 48 80", refuses 3 2 None (cause 2))
    ∷ (hex "62 05 48 80 05 00 00", refuses 3 2 None (cause 2))
    -- a length that begins with 00 is not in the fewest octets
    ∷ (hex "62 05 48 82 00 01 05", refuses 3 2 None (cause 2))
    -- 82 00 cut off is 1
    ∷ (hex "62 03 48 82 00", refuses 1 2 None (cause 2))
    -- 1F 80 and nothing more is 2, and so is 1F 81 81 81; 1F 81 81 and nothing more is 1
    ∷ (hex "62 02 1F 80", refuses 2 2 None (cause 2))
    ∷ (hex "62 04 1F 81 81 81", refuses 2 2 None (cause 2))
    ∷ (hex "62 03 1F 81 81", refuses 1 2 None (cause 2))
    -- code 30 in an extension octet is 2, code 31 and three extension octets are a tag
    ∷ (hex "62 10 48 01 05 6C 0B A1 09 02 01 01 02 01 2D 1F 1E 00", refuses 2 15 (orig_at 4 1) (problem 2 0 (id 1)))
    ∷ (hex "62 10 48 01 05 6C 0B A1 09 02 01 01 02 01 2D 1F 1F 00", begun Dialogue.NoDialogue (invokes None (pos 45) 15 3 ∷ []))
    ∷ (hex "62 12 48 01 05 6C 0D A1 0B 02 01 01 02 01 2D 1F 81 81 01 00", begun Dialogue.NoDialogue (invokes None (pos 45) 15 5 ∷ []))
    -- a parameter may be an empty constructor
    ∷ (hex "62 0F 48 01 05 6C 0A A1 08 02 01 01 02 01 2D 30 00", begun Dialogue.NoDialogue (invokes None (pos 45) 15 2 ∷ []))
    -- an ID of 4 octets, and of 5
    ∷ (hex "62 06 48 04 01 02 03 04", reads (kept MessageKind.Begin (orig_at 4 4) None Dialogue.NoDialogue []))
    ∷ (hex "62 07 48 05 01 02 03 04 05", refuses 11 2 None (cause 3))
    ∷ (hex "64 06 49 04 01 02 03 04", reads (kept MessageKind.End None (dest_at 4 4) Dialogue.NoDialogue []))
    ∷ (hex "64 07 49 05 01 02 03 04 05", refuses 11 2 None (cause 3))
    -- the name of the structured dialogue, with the version and without: the same fields
    ∷ (hex "62 1D 48 01 05 6B 18 28 16 06 07 00 11 86 05 01 01 01 A0 0B 60 09 80 02 07 80 A1 03 06 01 2A", begun (Dialogue.Request (span_at 30 1) None) [])
    ∷ (hex "62 19 48 01 05 6B 14 28 12 06 07 00 11 86 05 01 01 01 A0 07 60 05 A1 03 06 01 2A", begun (Dialogue.Request (span_at 26 1) None) [])
    -- another version is 11, inside 6B
    ∷ (hex "62 1D 48 01 05 6B 18 28 16 06 07 00 11 86 05 01 01 01 A0 0B 60 09 80 02 06 80 A1 03 06 01 2A", refuses 11 22 (orig_at 4 1) (cause 3))
    -- the other two PDUs of the structured dialogue
    ∷ (hex "62 25 48 01 05 6B 20 28 1E 06 07 00 11 86 05 01 01 01 A0 13 61 11 A1 03 06 01 2A A2 03 02 01 01 A3 05 A2 03 02 01 02", begun (Dialogue.Response (span_at 26 1) 1 (Diagnostic.ByProvider 2) None) [])
    ∷ (hex "62 1B 48 01 05 6B 16 28 14 06 07 00 11 86 05 01 01 01 A0 09 64 07 80 01 01 BE 02 28 00", begun (Dialogue.DialogueAbort 1 (Some (span_at 27 2))) [])
    -- an empty BE stands where its contents begin
    ∷ (hex "62 19 48 01 05 6B 14 28 12 06 07 00 11 86 05 01 01 01 A0 07 64 05 80 01 00 BE 00", begun (Dialogue.DialogueAbort 0 (Some (span_at 27 0))) [])
    -- the name of the unstructured dialogue, which has one PDU
    ∷ (hex "62 1F 48 01 05 6B 1A 28 18 06 07 00 11 86 05 01 02 01 A0 0D 60 0B 80 02 07 80 A1 03 06 01 2A BE 00", begun (Dialogue.Unidialogue (span_at 30 1) (Some (span_at 33 0))) [])
    ∷ (hex "62 17 48 01 05 6B 12 28 10 06 07 00 11 86 05 01 02 01 A0 05 64 03 80 01 01", refuses 15 20 (orig_at 4 1) (cause 3))
    -- a name that differs from the two in its last octet, or in the one that tells them apart, is another: any element, or 81
    ∷ (hex "62 19 48 01 05 6B 14 28 12 06 07 00 11 86 05 01 01 02 A0 07 60 05 A1 03 06 01 2A", begun (Dialogue.OutsideElement (span_at 11 7) (span_at 20 7)) [])
    ∷ (hex "62 12 48 01 05 6B 0D 28 0B 06 07 00 11 86 05 01 03 01 81 00", begun (Dialogue.OutsideOctets (span_at 11 7) (span_at 20 0)) [])
    -- neither of the two has 81
    ∷ (hex "62 12 48 01 05 6B 0D 28 0B 06 07 00 11 86 05 01 02 01 81 00", refuses 15 18 (orig_at 4 1) (cause 3))
    ∷ []

pub limited : AsTold edges
unfolding told
limited = refl

-- ranges and identifiers, at their ends, in each kind of component and PDU
abbrev pub ends : List (List ℕ × Told)
ends =
    -- each type of problem at its greatest, with an ID and with null
    (hex "62 0D 48 01 05 6C 08 A4 06 02 01 07 80 01 02", begun Dialogue.NoDialogue (component (id 7) (ComponentKind.Reject (Problem.General 2)) ∷ []))
    ∷ (hex "62 0D 48 01 05 6C 08 A4 06 02 01 07 81 01 07", begun Dialogue.NoDialogue (component (id 7) (ComponentKind.Reject (Problem.OfInvoke 7)) ∷ []))
    ∷ (hex "62 0D 48 01 05 6C 08 A4 06 02 01 07 82 01 02", begun Dialogue.NoDialogue (component (id 7) (ComponentKind.Reject (Problem.OfResult 2)) ∷ []))
    ∷ (hex "62 0D 48 01 05 6C 08 A4 06 02 01 07 83 01 04", begun Dialogue.NoDialogue (component (id 7) (ComponentKind.Reject (Problem.OfError 4)) ∷ []))
    ∷ (hex "62 0C 48 01 05 6C 07 A4 05 05 00 80 01 00", begun Dialogue.NoDialogue (component None (ComponentKind.Reject (Problem.General 0)) ∷ []))
    -- a Return Error, a Return Result Not Last
    ∷ (hex "62 0D 48 01 05 6C 08 A3 06 02 01 07 02 01 22", begun Dialogue.NoDialogue (component (id 7) (ComponentKind.ReturnError (Code.Local (pos 34)) None) ∷ []))
    ∷ (hex "62 0A 48 01 05 6C 05 A7 03 02 01 07", begun Dialogue.NoDialogue (component (id 7) (ComponentKind.ResultNotLast None) ∷ []))
    -- in an identifier 80 may stand inside a number, and not at its beginning
    ∷ (hex "62 0F 48 01 05 6C 0A A1 08 02 01 07 06 03 81 80 01", begun Dialogue.NoDialogue (component (id 7) (ComponentKind.Invoke None (Code.Global (span_at 14 3)) None) ∷ []))
    ∷ (hex "62 0E 48 01 05 6C 09 A1 07 02 01 07 06 02 80 01", refuses 11 12 (orig_at 4 1) (problem 1 0 (id 7)))
    -- 16 components
    ∷ (hex "62 55 48 01 05 6C 50" ++ times 16 (hex "A2 03 02 01 01"), begun Dialogue.NoDialogue (replicate 16 result_one))
    -- result 2, diagnostic 3 of either source, abort source 2
    ∷ (hex "62 25 48 01 05 6B 20 28 1E 06 07 00 11 86 05 01 01 01 A0 13 61 11 A1 03 06 01 2A A2 03 02 01 02 A3 05 A2 03 02 01 02", refuses 11 29 (orig_at 4 1) (cause 3))
    ∷ (hex "62 25 48 01 05 6B 20 28 1E 06 07 00 11 86 05 01 01 01 A0 13 61 11 A1 03 06 01 2A A2 03 02 01 01 A3 05 A1 03 02 01 03", refuses 11 36 (orig_at 4 1) (cause 3))
    ∷ (hex "62 25 48 01 05 6B 20 28 1E 06 07 00 11 86 05 01 01 01 A0 13 61 11 A1 03 06 01 2A A2 03 02 01 01 A3 05 A2 03 02 01 03", refuses 11 36 (orig_at 4 1) (cause 3))
    ∷ (hex "62 17 48 01 05 6B 12 28 10 06 07 00 11 86 05 01 01 01 A0 05 64 03 80 01 02", refuses 11 22 (orig_at 4 1) (cause 3))
    ∷ []

pub ranged : AsTold ends
unfolding told
ranged = refl

-- n constructors around one primitive, which so stands n levels deeper
abbrev pub nested : ℕ → List ℕ
nested n = times n (hex "30 80") ++ hex "04 00" ++ times n (hex "00 00")

-- the primitive at level 16, and at 17
abbrev pub depths : List (List ℕ × Told)
depths =
    -- a parameter stands at level 4
    (hex "62 80 48 01 05 6C 80 A1 80 02 01 01 02 01 2D" ++ nested 12 ++ times 3 (hex "00 00"), begun Dialogue.NoDialogue (invokes None (pos 45) 15 50 ∷ []))
    ∷ (hex "62 80 48 01 05 6C 80 A1 80 02 01 01 02 01 2D" ++ nested 13 ++ times 3 (hex "00 00"), refuses 5 41 (orig_at 4 1) (problem 2 0 (id 1)))
    -- in a result at level 5
    ∷ (hex "62 80 48 01 05 6C 80 A2 80 02 01 01 30 80 02 01 2D" ++ nested 11 ++ times 4 (hex "00 00"), begun Dialogue.NoDialogue (component (id 1) (ComponentKind.ResultLast (Some ((Code.Local (pos 45)), (span_at 17 46)))) ∷ []))
    ∷ (hex "62 80 48 01 05 6C 80 A2 80 02 01 01 30 80 02 01 2D" ++ nested 12 ++ times 4 (hex "00 00"), refuses 5 41 (orig_at 4 1) (problem 2 0 (id 1)))
    -- a 28 in BE at level 7
    ∷ (hex "62 80 48 01 05 6B 80 28 80 06 07 00 11 86 05 01 01 01 A0 80 64 80 80 01 00 BE 80 28 80" ++ nested 8 ++ times 7 (hex "00 00"), begun (Dialogue.DialogueAbort 0 (Some (span_at 27 38))) [])
    ∷ (hex "62 80 48 01 05 6B 80 28 80 06 07 00 11 86 05 01 01 01 A0 80 64 80 80 01 00 BE 80 28 80" ++ nested 9 ++ times 7 (hex "00 00"), refuses 5 47 (orig_at 4 1) (cause 3))
    -- the element in the A0 of an outside name at level 5
    ∷ (hex "62 80 48 01 05 6B 80 28 80 06 01 2A A0 80" ++ nested 11 ++ times 4 (hex "00 00"), begun (Dialogue.OutsideElement (span_at 11 1) (span_at 14 46)) [])
    ∷ (hex "62 80 48 01 05 6B 80 28 80 06 01 2A A0 80" ++ nested 12 ++ times 4 (hex "00 00"), refuses 5 38 (orig_at 4 1) (cause 3))
    ∷ []

pub deepest : AsTold depths
unfolding told
deepest = refl

abbrev pub beyond : List (List ℕ × Told)
beyond =
    -- a tag of 4 extension octets
    (hex "62 13 48 01 05 6C 0E A1 0C 02 01 01 02 01 2D 1F 81 81 81 01 00", refuses 2 15 (orig_at 4 1) (problem 2 0 (id 1)))
    -- a local code of 5 octets
    ∷ (hex "62 11 48 01 05 6C 0C A1 0A 02 01 01 02 05 01 00 00 00 00", refuses 11 12 (orig_at 4 1) (problem 1 0 (id 1)))
    -- an object identifier of 17 octets; one of 16 is taken
    ∷ (hex "62 1D 48 01 05 6C 18 A1 16 02 01 01 06 11" ++ times 17 (hex "2A"), refuses 11 12 (orig_at 4 1) (problem 1 0 (id 1)))
    ∷ (hex "62 1C 48 01 05 6C 17 A1 15 02 01 01 06 10" ++ times 16 (hex "2A"), begun Dialogue.NoDialogue (component (id 1) (ComponentKind.Invoke None (Code.Global (span_at 14 16)) None) ∷ []))
    -- another version, or version 1 encoded otherwise
    ∷ (hex "62 23 48 01 05 6B 1E 28 1C 06 07 00 11 86 05 01 01 01 A0 11 60 0F 80 02 06 C0 A1 09 06 07 04 00 00 01 00 01 03", refuses 11 22 (orig_at 4 1) (cause 3))
    -- another encoding than A0 or 81 in the EXTERNAL of 6B
    ∷ (hex "62 0E 48 01 05 6B 09 28 07 06 01 2A A1 02 04 00", refuses 15 12 (orig_at 4 1) (cause 3))
    -- an indirect reference
    ∷ (hex "62 0F 48 01 05 6B 0A 28 08 06 01 2A 02 01 01 81 00", refuses 15 12 (orig_at 4 1) (cause 3))
    -- no direct reference
    ∷ (hex "62 09 48 01 05 6B 04 28 02 81 00", refuses 15 9 (orig_at 4 1) (cause 3))
    -- 81 behind the structured name
    ∷ (hex "62 12 48 01 05 6B 0D 28 0B 06 07 00 11 86 05 01 01 01 81 00", refuses 15 18 (orig_at 4 1) (cause 3))
    -- RLRQ
    ∷ (hex "62 17 48 01 05 6B 12 28 10 06 07 00 11 86 05 01 01 01 A0 05 62 03 80 01 00", refuses 15 20 (orig_at 4 1) (cause 3))
    ∷ []

pub narrower : AsTold beyond
unfolding told
narrower = refl

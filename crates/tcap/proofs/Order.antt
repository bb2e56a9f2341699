-- The order of questions at a place, and whom a fault belongs to: examples of the points that document 01 leaves open, as one table under one statement.
-- And what a refusal carries, as another. Assumes nothing.
use Rattle.std.specs.Prelude.{Some, None}
use Prim.Native.Nat.{ℕ}
use mathlib.Core.Path.{◌≡◌, refl}
use mathlib.Core.List.{List, [], ◌∷◌, ◌++◌}
use lib.IntN.{negsuc}
use Rattle.tcap.proofs.Computing.{Told, AsTold, told, told_up_to, hex, times}
use Rattle.tcap.proofs.Specimens.{orig_at, id, refuses, cause, problem}

abbrev pub faults : List (List ℕ × Told)
faults =
    -- a missing end pair of 6B itself belongs to 6B, which stands in the message
    (hex "62 05 48 01 05 6B 80", refuses 1 7 (orig_at 4 1) (cause 2))
    -- left open inside 6B
    ∷ (hex "62 07 48 01 05 6B 80 28 80", refuses 1 9 (orig_at 4 1) (cause 3))
    -- the innermost of several left open answers
    ∷ (hex "62 80 48 01 05 6B 80 28 80", refuses 1 9 (orig_at 4 1) (cause 3))
    -- the tag and length of 6B itself stand in the message
    ∷ (hex "62 05 48 01 05 6B FF", refuses 3 5 (orig_at 4 1) (cause 2))
    -- 00 alone in 6C is a missing end pair of 6C
    ∷ (hex "62 06 48 01 05 6C 80 00", refuses 1 7 (orig_at 4 1) (cause 2))
    -- 00 with another octet is no end, and belongs to the component at whose position it stands
    ∷ (hex "62 07 48 01 05 6C 80 00 05", refuses 6 7 (orig_at 4 1) (problem 2 0 None))
    -- a cut-off length stands at the first octet of its element
    ∷ (hex "62 01 48", refuses 1 2 None (cause 2))
    -- no room is set aside for pairs still owed; the ID was read
    ∷ (hex "62 80 48 03 05 00 00", refuses 1 7 (orig_at 4 3) (cause 2))
    -- 8 comes by the first octet alone
    ∷ (hex "1F", refuses 8 0 None (cause 0))
    ∷ (hex "00 00", refuses 8 0 None (cause 0))
    -- it tells the ID if a constructor in one octet stands there, and 48 first in it; what follows is not asked, nor an end pair
    ∷ (hex "63 03 48 01 05", refuses 8 0 (orig_at 4 1) (cause 0))
    ∷ (hex "63 80 48 01 05", refuses 8 0 (orig_at 4 1) (cause 0))
    ∷ (hex "63 80 48 03 05 00 00", refuses 8 0 (orig_at 4 3) (cause 0))
    ∷ (hex "63 03 48 01 05 FF FF", refuses 8 0 (orig_at 4 1) (cause 0))
    ∷ (hex "63 06 48 01 05 FF FF 00", refuses 8 0 (orig_at 4 1) (cause 0))
    ∷ (hex "30 03 48 01 05", refuses 8 0 (orig_at 4 1) (cause 0))
    ∷ (hex "6B 03 48 01 05", refuses 8 0 (orig_at 4 1) (cause 0))
    -- another first octet: a primitive, code 0, an extended tag
    ∷ (hex "43 03 48 01 05", refuses 8 0 None (cause 0))
    ∷ (hex "20 03 48 01 05", refuses 8 0 None (cause 0))
    ∷ (hex "7F 21 03 48 01 05", refuses 8 0 None (cause 0))
    -- a length that is not sound, of either element
    ∷ (hex "63 04 48 01 05", refuses 8 0 None (cause 0))
    ∷ (hex "63 81 03 48 01 05", refuses 8 0 None (cause 0))
    ∷ (hex "63 FF 48 01 05", refuses 8 0 None (cause 0))
    ∷ (hex "63 03 48 02 05", refuses 8 0 None (cause 0))
    ∷ (hex "63 02 48 01 05", refuses 8 0 None (cause 0))
    ∷ (hex "63 04 48 81 01 05", refuses 8 0 None (cause 0))
    -- no 48 first, or not of 1 to 4 octets
    ∷ (hex "63 06 49 01 09 48 01 05", refuses 8 0 None (cause 0))
    ∷ (hex "63 02 48 00", refuses 8 0 None (cause 0))
    ∷ (hex "63 07 48 05 01 02 03 04 05", refuses 8 0 None (cause 0))
    -- a badly extended tag before the expected tag
    ∷ (hex "62 06 48 01 05 5F 80 01", refuses 2 5 (orig_at 4 1) (cause 2))
    -- code 0 before the expected tag and the length
    ∷ (hex "62 06 48 01 05 20 FF 01", refuses 6 5 (orig_at 4 1) (cause 2))
    -- the expected tag before the length
    ∷ (hex "62 06 48 01 05 04 FF 01", refuses 15 5 (orig_at 4 1) (cause 3))
    -- a known code with the other form bit is another tag
    ∷ (hex "62 03 68 01 05", refuses 15 2 None (cause 3))
    ∷ (hex "62 0B 48 01 05 6C 06 A2 04 22 02 05 00", refuses 15 9 (orig_at 4 1) (problem 1 0 None))
    -- what the sources allow beyond the page is another element
    ∷ (hex "62 0E 48 01 05 6B 09 28 07 06 01 2A 82 02 00 FF", refuses 15 12 (orig_at 4 1) (cause 3))
    -- code 0 directly in 6B is inside it
    ∷ (hex "62 07 48 01 05 6B 02 00 05", refuses 6 7 (orig_at 4 1) (cause 3))
    -- an element that may not stand there is refused where it stands, and not skipped
    ∷ (hex "62 0C 48 01 05 04 00 6C 05 A2 03 02 01 01", refuses 15 5 (orig_at 4 1) (cause 3))
    -- a part that may be left out comes once: 6B, 6C, cause, linked ID, parameter, 30, version, BE
    ∷ (hex "62 15 48 01 05 6B 07 28 05 06 01 2A 81 00 6B 07 28 05 06 01 2A 81 00", refuses 15 14 (orig_at 4 1) (cause 3))
    ∷ (hex "62 11 48 01 05 6C 05 A2 03 02 01 01 6C 05 A2 03 02 01 01", refuses 16 12 (orig_at 4 1) (cause 3))
    ∷ (hex "62 13 48 01 05 6C 05 A2 03 02 01 01 6B 07 28 05 06 01 2A 81 00", refuses 16 12 (orig_at 4 1) (cause 3))
    ∷ (hex "67 09 49 01 05 4A 01 00 4A 01 00", refuses 16 8 None (cause 3))
    ∷ (hex "62 13 48 01 05 6C 0E A1 0C 02 01 01 80 01 02 80 01 02 02 01 2D", refuses 15 15 (orig_at 4 1) (problem 1 0 (id 1)))
    ∷ (hex "62 11 48 01 05 6C 0C A1 0A 02 01 01 02 01 2D 04 00 04 00", refuses 16 17 (orig_at 4 1) (problem 1 0 (id 1)))
    ∷ (hex "62 18 48 01 05 6C 13 A7 11 02 01 01 30 05 02 01 2D 04 00 30 05 02 01 2D 04 00", refuses 16 19 (orig_at 4 1) (problem 1 0 (id 1)))
    ∷ (hex "62 21 48 01 05 6B 1C 28 1A 06 07 00 11 86 05 01 01 01 A0 0F 60 0D 80 02 07 80 80 02 07 80 A1 03 06 01 2A", refuses 15 26 (orig_at 4 1) (cause 3))
    ∷ (hex "62 1D 48 01 05 6B 18 28 16 06 07 00 11 86 05 01 01 01 A0 0B 60 09 A1 03 06 01 2A BE 00 BE 00", refuses 16 29 (orig_at 4 1) (cause 3))
    -- 3 even where the contents pass the end
    ∷ (hex "62 03 48 81 7F", refuses 3 2 None (cause 2))
    -- a length in four octets that passes the end
    ∷ (hex "62 06 48 84 01 00 00 00", refuses 4 2 None (cause 2))
    -- a code missing in a component, with its invoke ID
    ∷ (hex "62 0A 48 01 05 6C 05 A1 03 02 01 01", refuses 14 12 (orig_at 4 1) (problem 1 0 (id 1)))
    -- never the invoke ID of another component
    ∷ (hex "62 0C 48 01 05 6C 07 A2 03 02 01 01 A2 00", refuses 14 14 (orig_at 4 1) (problem 1 1 None))
    -- a 17th component
    ∷ (hex "62 5A 48 01 05 6C 55" ++ times 17 (hex "A2 03 02 01 01"), refuses 12 87 (orig_at 4 1) (cause 4))
    -- a 17th component is asked before its tag
    ∷ (hex "62 57 48 01 05 6C 52" ++ times 16 (hex "A2 03 02 01 01") ++ hex "1F 80", refuses 12 87 (orig_at 4 1) (cause 4))
    -- 00 with another octet behind 16 components
    ∷ (hex "62 57 48 01 05 6C 80" ++ times 16 (hex "A2 03 02 01 01") ++ hex "00 05", refuses 12 87 (orig_at 4 1) (cause 4))
    -- the end of the contents is asked before a 17th component
    ∷ (hex "62 56 48 01 05 6C 80" ++ times 16 (hex "A2 03 02 01 01") ++ hex "00", refuses 1 87 (orig_at 4 1) (cause 2))
    -- level 17
    ∷ (hex "62 80 48 01 05 6C 80 A1 80 02 01 01 02 01 01" ++ times 13 (hex "30 80") ++ hex "04 00", refuses 5 41 (orig_at 4 1) (problem 2 0 (id 1)))
    -- code 0 before the level
    ∷ (hex "62 80 48 01 05 6C 80 A1 80 02 01 01 02 01 01" ++ times 13 (hex "30 80") ++ hex "20 00", refuses 6 41 (orig_at 4 1) (problem 2 0 (id 1)))
    -- the level before the length
    ∷ (hex "62 80 48 01 05 6C 80 A1 80 02 01 01 02 01 01" ++ times 13 (hex "30 80") ++ hex "04 FF", refuses 5 41 (orig_at 4 1) (problem 2 0 (id 1)))
    ∷ []

pub ordered : AsTold faults
unfolding told
ordered = refl

-- the level is asked before the expected tag, which 16 levels never show: with 2 levels a component of unknown tag is too deep
pub level_first : told_up_to (record { limit = 2 }) (hex "62 07 48 01 05 6C 02 A5 00") ≡ refuses 5 7 (orig_at 4 1) (problem 2 0 None)
unfolding told_up_to
level_first = refl

abbrev pub carriers : List (List ℕ × Told)
carriers =
    -- a refused Continue has its originating ID, at whatever later place the fault is: in the destination ID, behind it, in a component, behind the message
    (hex "65 05 48 01 05 49 00", refuses 11 5 (orig_at 4 1) (cause 3))
    ∷ (hex "65 08 48 01 05 49 01 06 04 00", refuses 15 8 (orig_at 4 1) (cause 3))
    ∷ (hex "65 0F 48 01 05 49 01 06 6C 07 A2 05 02 01 07 04 00", refuses 15 15 (orig_at 4 1) (problem 1 0 (id 7)))
    ∷ (hex "65 06 48 01 05 49 01 06 00", refuses 9 8 (orig_at 4 1) (cause 2))
    -- but none before it was read whole
    ∷ (hex "65 07 48 05 01 02 03 04 05", refuses 11 2 None (cause 3))
    -- a refused End has none, nor has an Abort, nor a Unidirectional
    ∷ (hex "64 02 49 00", refuses 11 2 None (cause 3))
    ∷ (hex "64 05 49 01 05 04 00", refuses 15 5 None (cause 3))
    ∷ (hex "64 03 49 01 05 00", refuses 9 5 None (cause 2))
    ∷ (hex "67 05 49 01 05 6C 00", refuses 15 5 None (cause 3))
    ∷ (hex "61 02 04 00", refuses 15 2 None (cause 3))
    ∷ (hex "61 09 6C 07 A2 05 02 01 07 04 00", refuses 15 9 None (problem 1 0 (id 7)))
    -- 11 in each kind of component, with its index and its invoke ID: in the linked ID and the code of an Invoke
    ∷ (hex "62 11 48 01 05 6C 0C A1 0A 02 01 07 80 02 00 01 02 01 2D", refuses 11 12 (orig_at 4 1) (problem 1 0 (id 7)))
    ∷ (hex "62 0E 48 01 05 6C 09 A1 07 02 01 07 02 02 00 7F", refuses 11 12 (orig_at 4 1) (problem 1 0 (id 7)))
    ∷ (hex "62 0E 48 01 05 6C 09 A1 07 02 01 07 06 02 2A 80", refuses 11 12 (orig_at 4 1) (problem 1 0 (id 7)))
    -- in the code of a Return Result, Last and Not Last
    ∷ (hex "62 13 48 01 05 6C 0E A2 0C 02 01 07 30 07 02 02 FF 80 04 01 00", refuses 11 14 (orig_at 4 1) (problem 1 0 (id 7)))
    ∷ (hex "62 12 48 01 05 6C 0D A7 0B 02 01 07 30 06 06 01 80 04 01 00", refuses 11 14 (orig_at 4 1) (problem 1 0 (id 7)))
    -- in the code of a Return Error
    ∷ (hex "62 11 48 01 05 6C 0C A3 0A 02 01 07 02 05 01 00 00 00 00", refuses 11 12 (orig_at 4 1) (problem 1 0 (id 7)))
    -- in the problem of a Reject, whose ID is there
    ∷ (hex "62 0D 48 01 05 6C 08 A4 06 02 01 07 80 01 03", refuses 11 12 (orig_at 4 1) (problem 1 0 (id 7)))
    ∷ (hex "62 0D 48 01 05 6C 08 A4 06 02 01 07 81 01 08", refuses 11 12 (orig_at 4 1) (problem 1 0 (id 7)))
    ∷ (hex "62 0D 48 01 05 6C 08 A4 06 02 01 07 82 01 03", refuses 11 12 (orig_at 4 1) (problem 1 0 (id 7)))
    ∷ (hex "62 0D 48 01 05 6C 08 A4 06 02 01 07 83 01 05", refuses 11 12 (orig_at 4 1) (problem 1 0 (id 7)))
    -- or null, which is none
    ∷ (hex "62 0C 48 01 05 6C 07 A4 05 05 00 80 01 03", refuses 11 11 (orig_at 4 1) (problem 1 0 None))
    -- and in the ID itself, of which none is told
    ∷ (hex "62 0E 48 01 05 6C 09 A1 07 02 02 00 01 02 01 2D", refuses 11 9 (orig_at 4 1) (problem 1 0 None))
    ∷ (hex "62 0A 48 01 05 6C 05 A4 03 05 01 00", refuses 11 9 (orig_at 4 1) (problem 1 0 None))
    -- the invoke ID is signed; it and the index are those of the component at fault
    ∷ (hex "62 11 48 01 05 6C 0C A2 03 02 01 01 A3 05 02 01 80 04 00", refuses 15 17 (orig_at 4 1) (problem 1 1 (Some (negsuc 127))))
    ∷ []

pub carried_along : AsTold carriers
unfolding told
carried_along = refl

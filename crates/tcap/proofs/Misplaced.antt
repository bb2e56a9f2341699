-- Missing, another than may stand there, or one where nothing more may: examples of 14, 15 and 16 (document 02, §1), as one table under one statement.
-- Assumes nothing.
use Rattle.std.specs.Prelude.{Some, None}
use Prim.Native.Nat.{ℕ}
use mathlib.Core.Path.{refl}
use mathlib.Core.List.{List, [], ◌∷◌}
use lib.IntN.{negsuc}
use Rattle.tcap.proofs.Computing.{Told, AsTold, told, hex}
use Rattle.tcap.proofs.Specimens.{orig_at, id, refuses, cause, problem}

abbrev pub faults : List (List ℕ × Told)
faults =
    -- the contents end where something mandatory is due: 49; 48, at an end pair; a code; a parameter in 30
    (hex "65 03 48 01 05", refuses 14 5 (orig_at 4 1) (cause 3))
    ∷ (hex "62 80 00 00", refuses 14 2 None (cause 3))
    ∷ (hex "62 0A 48 01 05 6C 05 A1 03 02 01 07", refuses 14 12 (orig_at 4 1) (problem 1 0 (id 7)))
    ∷ (hex "62 0F 48 01 05 6C 0A A2 08 02 01 01 30 03 02 01 2D", refuses 14 17 (orig_at 4 1) (problem 1 0 (id 1)))
    -- another element where something mandatory is due, even if it would be right a place later: 48 left out; a code left out
    ∷ (hex "62 05 6C 03 A2 01 00", refuses 15 2 None (cause 3))
    ∷ (hex "62 0D 48 01 05 6C 08 A1 06 02 01 01 04 01 07", refuses 15 12 (orig_at 4 1) (problem 1 0 (id 1)))
    -- another element where only optional parts may stand: 6B or 6C; 30; BE; a 28 in BE, which has no last element
    ∷ (hex "62 06 48 01 05 4A 01 04", refuses 15 5 (orig_at 4 1) (cause 3))
    ∷ (hex "62 0C 48 01 05 6C 07 A2 05 02 01 01 04 00", refuses 15 12 (orig_at 4 1) (problem 1 0 (id 1)))
    ∷ (hex "62 1B 48 01 05 6B 16 28 14 06 07 00 11 86 05 01 01 01 A0 09 60 07 A1 03 06 01 05 04 00", refuses 15 27 (orig_at 4 1) (cause 3))
    ∷ (hex "62 1F 48 01 05 6B 1A 28 18 06 07 00 11 86 05 01 01 01 A0 0D 60 0B A1 03 06 01 2A BE 04 28 00 05 00", refuses 15 31 (orig_at 4 1) (cause 3))
    -- an element where nothing more may: behind 6C; behind 4A; behind a parameter; behind the one element in A0
    ∷ (hex "62 0C 48 01 05 6C 05 A2 03 02 01 01 6B 00", refuses 16 12 (orig_at 4 1) (cause 3))
    ∷ (hex "67 08 49 01 05 4A 01 04 6B 00", refuses 16 8 None (cause 3))
    ∷ (hex "62 12 48 01 05 6C 0D A1 0B 02 01 01 02 01 2D 05 00 05 00 00", refuses 16 17 (orig_at 4 1) (problem 1 0 (id 1)))
    ∷ (hex "62 10 48 01 05 6B 0B 28 09 06 01 05 A0 04 04 00 04 00", refuses 16 16 (orig_at 4 1) (cause 3))
    -- its tag is asked before, its length is not looked at; a whole element behind the message is 9
    ∷ (hex "67 08 49 01 05 4A 01 04 1F 80", refuses 2 8 None (cause 2))
    ∷ (hex "67 08 49 01 05 4A 01 04 04 FF", refuses 16 8 None (cause 3))
    ∷ (hex "62 03 48 01 05 6C 00", refuses 9 5 (orig_at 4 1) (cause 2))
    -- docs/LAYOUT.md's refused Continue
    ∷ (hex "65 15 48 02 0A 0B 49 01 05 6C 0C A2 03 02 01 01 A1 05 02 01 FE 05 00", refuses 15 21 (orig_at 4 2) (problem 1 1 (Some (negsuc 1))))
    ∷ []

pub told_apart : AsTold faults
unfolding told
told_apart = refl

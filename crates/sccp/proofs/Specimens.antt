-- Unitdata that turn on what the page leaves open (docs/DECISIONS.md), read and written, each table under one statement; the check computes them.
-- Assumes nothing.
use Rattle.sccp.specs.declared.{Unitdata.Unitdata, UnitdataFault.UnitdataFault, UnitdataWriteFault.UnitdataWriteFault}
use Rattle.std.specs.Prelude.{Result, Ok, Err}
use Prim.Native.Nat.{ℕ}
use mathlib.Core.Path.{◌≡◌, refl}
use mathlib.Core.List.{List, [], ◌∷◌, ◌++◌, map}
use lib.ListN.{take, replicate}
use Rattle.sccp.specs.Unitdata.{apart, separate, judged, read_unitdata, unitdata_number}
use Rattle.sccp.specs.Writing.{unitdata_octets, in_range, writing_unitdata, behind, leaves_unitdata, unitdata_write_number}

-- the number of a refusal; or 0, class, and place and length of called address, calling address and data
abbrev pub told_read : Result Unitdata UnitdataFault → List ℕ
told_read (Err f) = unitdata_number f ∷ []
told_read (Ok u) = 0 ∷ u.class ∷ u.called.place ∷ u.called.len ∷ u.calling.place ∷ u.calling.len ∷ u.userdata.place ∷ u.userdata.len ∷ []

abbrev pub readings : List (List ℕ × List ℕ)
readings =
    -- no octets, and fewer than five
    ([], 31 ∷ [])
    ∷ (0x0A ∷ [], 31 ∷ [])
    ∷ (9 ∷ [], 32 ∷ [])
    ∷ (9 ∷ 0 ∷ 0 ∷ 0 ∷ [], 32 ∷ [])
    -- two faults and more: each number over all three parts before the next
    ∷ (0x0A ∷ 0 ∷ 0 ∷ 0 ∷ 0xFF ∷ [], 31 ∷ [])
    ∷ (9 ∷ 0 ∷ 0 ∷ 0 ∷ 0xFF ∷ [], 32 ∷ [])
    ∷ (9 ∷ 0 ∷ 3 ∷ 2 ∷ 2 ∷ 0 ∷ 0 ∷ [], 33 ∷ [])
    ∷ (9 ∷ 0 ∷ 3 ∷ 3 ∷ 4 ∷ 0 ∷ 1 ∷ 0xBB ∷ 2 ∷ [], 32 ∷ [])
    ∷ (9 ∷ 0 ∷ 3 ∷ 3 ∷ 4 ∷ 0 ∷ 1 ∷ 0xBB ∷ 0 ∷ [], 34 ∷ [])
    ∷ (9 ∷ 0 ∷ 3 ∷ 4 ∷ 4 ∷ 1 ∷ 0xAA ∷ 0 ∷ 0 ∷ [], 34 ∷ [])
    -- pointers into the first five octets
    ∷ (9 ∷ 0 ∷ 0 ∷ 4 ∷ 5 ∷ 1 ∷ 0xAA ∷ 1 ∷ 0xBB ∷ 0 ∷ [], 33 ∷ [])
    ∷ (9 ∷ 0 ∷ 2 ∷ 4 ∷ 5 ∷ 1 ∷ 0xAA ∷ 1 ∷ 0xBB ∷ 0 ∷ [], 33 ∷ [])
    ∷ (9 ∷ 0 ∷ 2 ∷ 4 ∷ 0xFF ∷ 1 ∷ 0xAA ∷ 1 ∷ 0xBB ∷ 0 ∷ [], 32 ∷ [])
    ∷ (9 ∷ 0xFF ∷ 3 ∷ 4 ∷ 0 ∷ 1 ∷ 0x42 ∷ 1 ∷ 0x43 ∷ [], 33 ∷ [])
    -- what is taken: every order, gaps, octets behind, long addresses, a long message; a length octet in another part is not
    ∷ (9 ∷ 0x81 ∷ 6 ∷ 2 ∷ 6 ∷ 1 ∷ 0xBB ∷ 0xFF ∷ 1 ∷ 0xAA ∷ 0 ∷ 0xFF ∷ [], 0 ∷ 0x81 ∷ 9 ∷ 1 ∷ 6 ∷ 1 ∷ 11 ∷ 0 ∷ [])
    ∷ (9 ∷ 0 ∷ 3 ∷ 4 ∷ 2 ∷ 1 ∷ 0 ∷ 1 ∷ 0x43 ∷ [], 33 ∷ [])
    ∷ (9 ∷ 0 ∷ 3 ∷ 2 ∷ 4 ∷ 1 ∷ 0xAA ∷ 0 ∷ 0 ∷ [], 33 ∷ [])
    ∷ (9 ∷ 0 ∷ 4 ∷ 0x86 ∷ 1 ∷ 0 ∷ 0x82 ∷ replicate 130 1 ++ (0x82 ∷ replicate 130 2), 0 ∷ 0 ∷ 7 ∷ 130 ∷ 138 ∷ 130 ∷ 6 ∷ 0 ∷ [])
    ∷ (9 ∷ 0 ∷ 3 ∷ 4 ∷ 5 ∷ 1 ∷ 0xAA ∷ 1 ∷ 0xBB ∷ 0 ∷ replicate 600 0, 0 ∷ 0 ∷ 6 ∷ 1 ∷ 8 ∷ 1 ∷ 10 ∷ 0 ∷ [])
    -- the last part ends with the message, and one octet is missing
    ∷ (9 ∷ 0 ∷ 3 ∷ 4 ∷ 5 ∷ 1 ∷ 0xAA ∷ 1 ∷ 0xBB ∷ 1 ∷ 0xCC ∷ [], 0 ∷ 0 ∷ 6 ∷ 1 ∷ 8 ∷ 1 ∷ 10 ∷ 1 ∷ [])
    ∷ (9 ∷ 0 ∷ 3 ∷ 4 ∷ 5 ∷ 1 ∷ 0xAA ∷ 1 ∷ 0xBB ∷ 1 ∷ [], 32 ∷ [])
    ∷ []

pub read_told : map (λ (r : List ℕ × List ℕ). told_read (read_unitdata r.0)) readings ≡ map (λ (r : List ℕ × List ℕ). r.1) readings
unfolding apart separate judged read_unitdata unitdata_number
read_told = refl

-- lengths of called address, calling address and data, and the room
pub record Sizes : Type 0 where
  pub called : ℕ
  pub calling : ℕ
  pub sent : ℕ
  pub room : ℕ

-- the number of a refusal, or 0 and the length; then the first five octets of the buffer
abbrev pub told_written : Result ℕ UnitdataWriteFault → List ℕ
told_written (Err f) = unitdata_write_number f ∷ []
told_written (Ok n) = 0 ∷ n ∷ []

abbrev pub written : Sizes → List ℕ
written s =
    let a : List ℕ = replicate s.called 0xAA in
    let b : List ℕ = replicate s.calling 0xBB in
    let d : List ℕ = replicate s.sent 0xDD in
    told_written (writing_unitdata 1 a b d s.room) ++ take 5 (leaves_unitdata 1 a b d (replicate s.room 0xEE))

abbrev pub untouched : List ℕ
untouched = replicate 5 0xEE

abbrev pub writings : List (Sizes × List ℕ)
writings =
    (record { called = 251; calling = 1; sent = 0; room = 260 }, 0 ∷ 260 ∷ 9 ∷ 1 ∷ 3 ∷ 0xFE ∷ 0xFF ∷ [])
    ∷ (record { called = 251; calling = 1; sent = 0; room = 259 }, 25 ∷ untouched)
    ∷ (record { called = 252; calling = 1; sent = 0; room = 600 }, 35 ∷ untouched)
    ∷ (record { called = 126; calling = 126; sent = 255; room = 600 }, 0 ∷ 515 ∷ 9 ∷ 1 ∷ 3 ∷ 129 ∷ 0xFF ∷ [])
    ∷ (record { called = 126; calling = 126; sent = 256; room = 600 }, 35 ∷ untouched)
    ∷ (record { called = 1; calling = 1; sent = 0; room = 10 }, 0 ∷ 10 ∷ 9 ∷ 1 ∷ 3 ∷ 4 ∷ 5 ∷ [])
    -- 35 of any part before 25
    ∷ (record { called = 1; calling = 1; sent = 256; room = 0 }, 35 ∷ [])
    ∷ (record { called = 0; calling = 1; sent = 0; room = 0 }, 35 ∷ [])
    ∷ (record { called = 1; calling = 0; sent = 0; room = 0 }, 35 ∷ [])
    ∷ (record { called = 1; calling = 1; sent = 0; room = 0 }, 25 ∷ [])
    ∷ []

pub write_told : map (λ (r : Sizes × List ℕ). written r.0) writings ≡ map (λ (r : Sizes × List ℕ). r.1) writings
unfolding unitdata_octets in_range writing_unitdata behind leaves_unitdata unitdata_write_number
write_told = refl

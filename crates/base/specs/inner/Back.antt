-- What a function that puts octets before a place leaves, and the room that it asks for.
-- Assumes nothing: these are definitions.
use Rattle.std.specs.Prelude.{ℕ, ◌+◌, ◌≤◌}
use mathlib.Core.{Path.◌≡◌, List.List, List.◌++◌}
use lib.{ListN.length, ListN.take, ListN.drop}

-- the octets fit before the place `at`, which is in the buffer and so low that two octets tell every length below it
pub record Room (old : List ℕ) (at : ℕ) (octets : List ℕ) : Type 0 where
  pub fits : length octets ≤ at
  pub within : at ≤ length old
  pub low : at ≤ 65535

-- the buffer was `old` and is `new`; `octets` begin at `start` and end where `at` is, and the rest is as it was
pub record PutBack (old : List ℕ) (at : ℕ) (octets : List ℕ) (start : ℕ) (new : List ℕ) : Type 0 where
  pub within : at ≤ length old
  pub begins : start + length octets ≡ at
  pub holds : new ≡ take start old ++ octets ++ drop at old

-- What a function that puts octets into a lent buffer leaves: the octets from a place on, as far as the buffer reaches, and the place after them.
-- Assumes nothing: these are definitions.
use Rattle.std.specs.Prelude.{ℕ, ◌+◌, ◌≤◌, min}
use mathlib.Core.{Path.◌≡◌, List.List}
use lib.{ListN.length, Seq.sets}

-- the largest place: a count of octets stays there, and no buffer reaches past it
abbrev pub farthest : ℕ
farthest = 18446744073709551615

-- the buffer was `old` and is `new`; `octets` went to the place `at`, and `next` is the place after them
pub record Put (old : List ℕ) (at : ℕ) (octets : List ℕ) (next : ℕ) (new : List ℕ) : Type 0 where
  pub within : length old ≤ farthest
  pub ends : next ≡ min (at + length octets) farthest
  pub holds : new ≡ sets old at octets

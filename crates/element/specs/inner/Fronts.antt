-- What the readers and walkers of elements answer on the front of one, and the octets that they look at. Assumes nothing: these are definitions.
use Rattle.std.specs.Prelude.{ℕ, ◌+◌, ◌-◌}
use mathlib.Core.{Bool.cond, List.List}
use lib.{ListN.drop, ListN.take, Dec.ltb, Dec.leb}
use Rattle.element.specs.{declared.FaultKind.FaultKind, declared.TagRead.TagRead, declared.LengthRead.LengthRead, Element.code_zero, Head.tag_of, Head.long_of}

-- The first three answers of `ask_tag` as the code has them: the tag (1, 2), code 0 (6), the level (5).
unfoldable pub fronted : ℕ → TagRead → TagRead
fronted left (TagRead.Fault k) = TagRead.Fault k
fronted left (TagRead.Tag a s) = cond (code_zero a) (TagRead.Fault FaultKind.CodeZero) (cond (ltb 0 left) (TagRead.Tag a s) (TagRead.Fault FaultKind.TooDeep))

unfoldable pub front_of : ℕ → List ℕ → TagRead
front_of left part = fronted left (tag_of part)

-- the octets from a place to an end
abbrev pub span : List ℕ → ℕ → ℕ → List ℕ
span m at end = drop at (take end m)

-- a length that takes k octets behind its first; 127 is no such number
unfoldable pub long_read : List ℕ → ℕ → LengthRead
long_read p k = cond (ltb 126 k) (LengthRead.Fault FaultKind.BadLength) (long_of p k)

-- how many octets a length takes, by its first
unfoldable pub length_size : ℕ → ℕ
length_size b = cond (leb b 128) 1 (1 + (b - 128))

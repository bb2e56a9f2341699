-- What the walkers answer: the place behind what is whole, if it is. Assumes nothing: these are definitions.
use Rattle.std.specs.Prelude.{ℕ, ◌+◌, ◌%◌, ◌≤◌, length, Option as Optional, Some, None}
use mathlib.Core.{Path.◌≡◌, List.List}
use Rattle.element.specs.{declared.TagRead.TagRead, declared.LengthRead.LengthRead, declared.Walk.Walk}

-- a place and an end that lie in the material
abbrev pub Within : List ℕ → ℕ → ℕ → Type 0
Within m at end = (at ≤ end) × (end ≤ length m)

-- a first octet of a tag that more octets follow, and how many octets are left; such a tag is not of code 0
abbrev pub Extended : ℕ → ℕ → Type 0
Extended left a = (left ≡ 0 → ⊥) × (a % 32 ≡ 31) × (a ≡ 0 → ⊥) × (a ≡ 32 → ⊥)

-- the place behind what a walk took, if it found no fault
unfoldable pub whole_place : ℕ → Walk → Optional ℕ
whole_place at (Walk.Whole n) = Some (at + n)
whole_place at (Walk.Fault k q) = None

-- the same of a series that an end pair follows
unfoldable pub pair_place : ℕ → Walk → Optional ℕ
pair_place at (Walk.Whole n) = Some (at + (n + 2))
pair_place at (Walk.Fault k q) = None

-- the place behind a tag, and behind contents whose length is definite and stands at a place
unfoldable pub tag_end : ℕ → TagRead → Optional ℕ
tag_end at (TagRead.Tag a s) = Some (at + s)
tag_end at (TagRead.Fault k) = None

unfoldable pub length_end : ℕ → LengthRead → Optional ℕ
length_end from (LengthRead.Definite k n) = Some (from + (k + n))
length_end from LengthRead.Indefinite = None
length_end from (LengthRead.Fault k) = None

-- `past` where there is no such end
unfoldable pub end_by_length : ℕ → ℕ → LengthRead → ℕ
end_by_length from past (LengthRead.Definite k n) = from + (k + n)
end_by_length from past LengthRead.Indefinite = past
end_by_length from past (LengthRead.Fault k) = past

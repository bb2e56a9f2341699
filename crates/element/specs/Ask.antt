-- The order in which document 01 asks at a place, for every element there is: the one definition of it.
-- Assumes nothing: these are definitions.
use Rattle.std.specs.Prelude.{ℕ, ◌+◌}
use mathlib.Core.{Bool.Bool, Bool.true, Bool.false, Bool.not, List.List, Option.Option, Option.none, Option.some}
use lib.{ListN.drop, Dec.ltb}
use Rattle.element.specs.{Element.constructor_of, Element.code_zero, Fault.Fault, Fault.at, Head.end_of, Head.tag_of, Head.length_of, declared.FaultKind.FaultKind, declared.EndRead.EndRead, declared.TagRead.TagRead, declared.LengthRead.LengthRead}

-- a value and how many octets it took, or a fault
pub data Got (A : Type 0) : Type 0 where
  got : A → ℕ → Got A
  bad : Fault → Got A

unfoldable pub next : {A B : Type 0} → Got A → (A → ℕ → Got B) → Got B
next (got a n) k = k a n
next (bad f) k = bad f

unfoldable pub check : {A : Type 0} → Bool → Fault → Got A → Got A
check true f x = x
check false f x = bad f

-- what is known from outside of a fault found inside
unfoldable pub blamed : {A : Type 0} → (Fault → Fault) → Got A → Got A
blamed w (got a n) = got a n
blamed w (bad f) = bad (w f)

pub data Size : Type 0 where
  definite : ℕ → Size
  indefinite : Size

-- an element's first octet, how many octets its tag and length take, and its size
pub data Head : Type 0 where
  head : ℕ → ℕ → Size → Head

-- what may come at a place of some contents, and all that follows it up to their end
pub record Body (A : Type 0) : Type 0 where
  -- the value if the contents end here; `none`: something is missing
  pub ends : Option A
  -- there is room for no further component; in other series the room is as many as there are octets
  pub full : Bool
  -- to whom an element here belongs, from its tag to the end of its contents
  pub owner : Fault → Fault
  -- how many levels are left
  pub left : ℕ
  -- the expected tags by their first octets, and the fault of another
  pub mine : ℕ → Bool
  pub other : FaultKind
  -- the contents of an element whose head is read, and then the rest
  pub goes : Bool → Head → ℕ → List ℕ → Got A

-- d: the contents are definite; p: the place; part: the octets from there to the end of the enclosing contents
module _ {A : Type 0} (b : Body A) (d : Bool) (p : ℕ) (part : List ℕ) where
  -- the length (1, 3, 4), then the contents
  unfoldable pub ask_length : ℕ → ℕ → LengthRead → Got A
  ask_length a s (LengthRead.Fault k) = bad (b.owner (at k p))
  ask_length a s (LengthRead.Definite k n) = b.goes d (head a (s + k) (definite n)) p part
  ask_length a s LengthRead.Indefinite = b.goes d (head a (s + 1) indefinite) p part

  -- the tag (1, 2), code 0 (6), the level (5), the expected tag (13, 15, 16)
  unfoldable pub ask_tag : TagRead → Got A
  ask_tag (TagRead.Fault k) = bad (b.owner (at k p))
  ask_tag (TagRead.Tag a s) =
      check (not (code_zero a)) (b.owner (at FaultKind.CodeZero p))
      (check (ltb 0 b.left) (b.owner (at FaultKind.TooDeep p))
      (check (b.mine a) (b.owner (at b.other p))
      (ask_length a s (length_of (drop s part) (constructor_of a)))))

  unfoldable pub at_end : Option A → Got A
  at_end none = bad (at FaultKind.Missing p)
  at_end (some a) = got a 0

  -- the end of the contents (a missing end pair is 1, something mandatory that is missing 14), a 17th component (12): no owner, for these belong to the
  -- constructor left open, and whoever asks for its contents says whose it is
  unfoldable pub ask_end : EndRead → Got A
  ask_end EndRead.Ended = at_end b.ends
  ask_end EndRead.Unfinished = bad (at FaultKind.CutOff p)
  ask_end EndRead.More = check (not b.full) (at FaultKind.Seventeenth p) (ask_tag (tag_of part))

  unfoldable pub ask : Got A
  ask = ask_end (end_of d part)

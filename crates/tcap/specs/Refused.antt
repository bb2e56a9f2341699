-- Where a place of a message is, by its octets alone, and what is wrong there, number by number: document 01, "Record and refusal of a reading".
-- A page to check a refusal against: no reader is named here. Assumes nothing: these are definitions.
use Rattle.std.specs.Prelude.{None}
use Rattle.std.specs.Prelude.{ℕ, suc, ◌+◌, ◌-◌, ◌≤◌, ◌<◌}
use Rattle.std.proofs.Math.Option
use mathlib.Core.{Path.◌≡◌, Logic.◌⊎◌, Bool.Bool, Bool.true, Bool.false, List.List, List.[], List.◌∷◌, List.◌++◌, Option.Option, Option.none, Option.some, Option.map}
use lib.{ListN.length, ListN.take, ListN.drop, ListN.get_or, IntN.ℤ}
use Rattle.base.specs.{Number.number_from}
use Rattle.primitive.specs.{Primitive.signed_of}
use Rattle.element.specs.{Form.fewest_of, Element.IsTag, Element.constructor_of, Element.code_zero, Element.extended_of, Element.Definitely, Element.Endlessly, Fault.Text, Fault.Owner, Fault.portion, Fault.dialogue as the_dialogue, Fault.component as the_component, Fault.Fault, Fault.fault, Fault.number_of, Head.end_of, declared.FaultKind.FaultKind, declared.EndRead.EndRead}
use Rattle.tcap.specs.{declared.Refusal.Refusal, Meaning.orig, Record.orig_field, Standard.Standard, Due.Parts, Due.end, Due.must, Due.Holds, Due.octets, Due.orig_id, Due.invoke_id, Due.parts, Due.dialogue, Due.message, Due.find, Due.due, Due.behind, Due.may_end, Due.some_may, Due.position, Due.passes, Due.contents_of}
use Rattle.tcap.specs.WellFormed.{Rules}

-- Octets that are right

-- there is room here: this is not the position of a 17th component
abbrev pub NoSeventeenth : Parts → Type 0
NoSeventeenth r = position r ≡ some 16 → ⊥

mutual
  -- n octets at the front of a part, which begins at place p, are an element at level l, with first octet a, that holds h, to its bottom; then the
  -- place of its contents, and these (of an indefinite one, from there to the end of the part)
  pub data Right (rules : Rules) : ℕ → ℕ → Holds → ℕ → List ℕ → ℕ → Text → Type 0 where
    -- tag, length and contents, of which is asked what a primitive here is asked
    primitive : {l a p u n : ℕ} {h : Holds} {part : List ℕ} → l ≤ rules.limit → Definitely part a u n → contents_of h ≡ none → passes h (take n (drop u part)) ≡ true → Right rules l a h p part (u + n) (p + u, take n (drop u part))
    -- tag, length and contents, in which is what is due
    definite : {l a p u n k : ℕ} {h : Holds} {r : Parts} {part : List ℕ} → l ≤ rules.limit → Definitely part a u n → contents_of h ≡ some r → Fits rules (suc l) r true (p + u) (take n (drop u part)) k → Right rules l a h p part (u + n) (p + u, take n (drop u part))
    -- tag, 80, contents in which is what is due, and the end pair
    indefinite : {l a p u k : ℕ} {h : Holds} {r : Parts} {part : List ℕ} → l ≤ rules.limit → Endlessly part a u → contents_of h ≡ some r → Fits rules (suc l) r false (p + u) (drop u part) k → Right rules l a h p part (u + (k + 2)) (p + u, drop u part)

  -- k octets at the front of a part are what is due in contents at level l, up to their end; d: the contents are definite
  pub data Fits (rules : Rules) : ℕ → Parts → Bool → ℕ → List ℕ → ℕ → Type 0 where
    -- they end here, and may
    nothing : {l p : ℕ} {r : Parts} {d : Bool} {part : List ℕ} → end_of d part ≡ EndRead.Ended → may_end r ≡ true → Fits rules l r d p part 0
    -- an element that may stand here and is right, and then the rest
    also : {l a p n k : ℕ} {r : Parts} {h : Holds} {d : Bool} {part : List ℕ} {x : Text} → NoSeventeenth r → due r a ≡ some h → Right rules l a h p part n x → Fits rules l (behind r a x.1) d (p + n) (drop n part) k → Fits rules l r d p part (n + k)

-- Where a place is

-- what is known at a place: whom the constructor belongs to whose contents it is in, whom these contents belong to, the invoke ID and the
-- originating ID that stand before it
pub data Known : Type 0 where
  known : Owner → Owner → Option ℤ → Option Text → Known

-- whom an element here belongs to: at a component's position that component
abbrev pub whose : Option ℕ → Owner → Owner
whose none o = o
whose (some k) o = the_component k

-- whom the contents of an element belong to
abbrev pub inside : Holds → Owner → Owner
inside (octets fits) o = o
inside orig_id o = o
inside invoke_id o = o
inside (parts r) o = o
inside (dialogue r) o = the_dialogue

-- what an element tells that was read whole
abbrev pub told : Holds → Text → Known → Known
told (octets fits) x s = s
told orig_id x (known c o i t) = known c o i (some x)
told invoke_id x (known c o i t) = known c o (some (signed_of x.1)) t
told (parts r) x s = s
told (dialogue r) x s = s

-- the place p of m: its level, whether the contents it is in are definite, what is still to come in them, what is known, and the octets from there
-- to the end of these contents (of indefinite ones: to the end of the nearest definite contents around them)
pub data Trail (rules : Rules) (m : List ℕ) : ℕ → Bool → Parts → Known → ℕ → List ℕ → Type 0 where
  -- the message is level 1
  top : Trail rules m 1 true (must message end) (known portion portion none none) 0 m
  -- into the contents of an element that may stand here
  into : {l a u n p : ℕ} {d : Bool} {r q : Parts} {h : Holds} {c o : Owner} {i : Option ℤ} {t : Option Text} {part : List ℕ} → Trail rules m l d r (known c o i t) p part → l ≤ rules.limit → NoSeventeenth r → due r a ≡ some h → contents_of h ≡ some q → Definitely part a u n
      → Trail rules m (suc l) true q (known (whose (position r) o) (inside h (whose (position r) o)) i t) (p + u) (take n (drop u part))
  into_endless : {l a u p : ℕ} {d : Bool} {r q : Parts} {h : Holds} {c o : Owner} {i : Option ℤ} {t : Option Text} {part : List ℕ} → Trail rules m l d r (known c o i t) p part → l ≤ rules.limit → NoSeventeenth r → due r a ≡ some h → contents_of h ≡ some q → Endlessly part a u
      → Trail rules m (suc l) false q (known (whose (position r) o) (inside h (whose (position r) o)) i t) (p + u) (drop u part)
  -- past an element that may stand here and is right; past the message is no place
  past : {l a p n : ℕ} {d : Bool} {r : Parts} {h : Holds} {s : Known} {part : List ℕ} {x : Text} → Trail rules m l d r s p part → 2 ≤ l → NoSeventeenth r → due r a ≡ some h → Right rules l a h p part n x
      → Trail rules m l d (behind r a x.1) (told h x s) (p + n) (drop n part)

-- What is wrong with the octets at a place

-- they end in the tag
pub data TagCut : List ℕ → Type 0 where
  -- no octet; one, two or three of a tag that goes on
  empty : TagCut []
  one : {a : ℕ} → extended_of a ≡ true → TagCut (a ∷ [])
  two : {a x : ℕ} → extended_of a ≡ true → 129 ≤ x → TagCut (a ∷ x ∷ [])
  three : {a x y : ℕ} → extended_of a ≡ true → 129 ≤ x → 128 ≤ y → TagCut (a ∷ x ∷ y ∷ [])

-- the first extension octet is 80, or the code is below 31; a third one with bit H
pub data TagBad : List ℕ → Type 0 where
  small : {a x : ℕ} {r : List ℕ} → extended_of a ≡ true → (x ≡ 128) ⊎ (x < 31) → TagBad (a ∷ x ∷ r)
  long : {a x y z : ℕ} {r : List ℕ} → extended_of a ≡ true → 129 ≤ x → 128 ≤ y → 128 ≤ z → TagBad (a ∷ x ∷ y ∷ z ∷ r)

-- the length, of the octets behind a tag; the Bool: it is a constructor's
pub data LengthWrong (c : Bool) : List ℕ → FaultKind → Type 0 where
  -- nothing; fewer octets than it names
  gone : LengthWrong c [] FaultKind.CutOff
  cut : {b : ℕ} {r : List ℕ} → 129 ≤ b → b ≤ 254 → length r < b - 128 → LengthWrong c (b ∷ r) FaultKind.CutOff
  -- FF; 80 on a primitive; not fewest
  reserved : {b : ℕ} {r : List ℕ} → 255 ≤ b → LengthWrong c (b ∷ r) FaultKind.BadLength
  endless : {r : List ℕ} → c ≡ false → LengthWrong c (0x80 ∷ r) FaultKind.BadLength
  wasteful : {b : ℕ} {r : List ℕ} → 129 ≤ b → b ≤ 254 → b - 128 ≤ length r → fewest_of (get_or r 0 0) (b - 128) ≡ false → LengthWrong c (b ∷ r) FaultKind.BadLength
  -- more contents than the part has left, in one octet and in several
  passing : {b : ℕ} {r : List ℕ} → b < 128 → length r < b → LengthWrong c (b ∷ r) FaultKind.PassesEnd
  passing_long : {b : ℕ} {r : List ℕ} → 129 ≤ b → b ≤ 254 → b - 128 ≤ length r → fewest_of (get_or r 0 0) (b - 128) ≡ true → length r - (b - 128) < number_from 0 (take (b - 128) r) → LengthWrong c (b ∷ r) FaultKind.PassesEnd

-- a sound tag, not of code 0, stands at the front of the part, and behind it r
pub record Tagged (part : List ℕ) (a : ℕ) (r : List ℕ) : Type 0 where
  pub ext : List ℕ
  pub octets : part ≡ a ∷ (ext ++ r)
  pub is_tag : IsTag a ext
  pub plain : code_zero a ≡ false

-- an element that may not stand where r is to come: at a component's position; some other may; none may
pub data Unfit (r : Parts) : FaultKind → Type 0 where
  unknown : {k : ℕ} → position r ≡ some k → Unfit r FaultKind.UnknownComponent
  another : position r ≡ none → some_may r ≡ true → Unfit r FaultKind.Another
  too_many : some_may r ≡ false → Unfit r FaultKind.TooMany

-- an element that stands at level l where r is to come, in the order of document 01
pub data Faulty (rules : Rules) (l : ℕ) (r : Parts) (part : List ℕ) : FaultKind → Type 0 where
  -- the tag (1, 2)
  tag_cut : TagCut part → Faulty rules l r part FaultKind.CutOff
  tag_bad : TagBad part → Faulty rules l r part FaultKind.BadTag
  -- code 0 (6)
  zero_code : {a : ℕ} {q : List ℕ} → part ≡ a ∷ q → code_zero a ≡ true → Faulty rules l r part FaultKind.CodeZero
  -- the level (5)
  too_deep : {a : ℕ} {q : List ℕ} → Tagged part a q → rules.limit < l → Faulty rules l r part FaultKind.TooDeep
  -- the expected tag (13, 15, 16)
  unfit : {a : ℕ} {q : List ℕ} {k : FaultKind} → Tagged part a q → l ≤ rules.limit → due r a ≡ none → Unfit r k → Faulty rules l r part k
  -- the length (1, 3, 4)
  length_wrong : {a : ℕ} {q : List ℕ} {h : Holds} {k : FaultKind} → Tagged part a q → l ≤ rules.limit → due r a ≡ some h → LengthWrong (constructor_of a) q k → Faulty rules l r part k
  -- the contents (11)
  bad_contents : {a u n : ℕ} {h : Holds} → l ≤ rules.limit → due r a ≡ some h → Definitely part a u n → contents_of h ≡ none → passes h (take n (drop u part)) ≡ false → Faulty rules l r part FaultKind.BadContents

-- at a place in contents of c, where an element belongs to o: a fault's kind, and whom it belongs to
pub data Wrong (rules : Rules) (l : ℕ) (d : Bool) (r : Parts) (part : List ℕ) (c o : Owner) : FaultKind → Owner → Type 0 where
  -- the end of the contents: a missing end pair (1), something missing (14)
  no_pair : end_of d part ≡ EndRead.Unfinished → Wrong rules l d r part c o FaultKind.CutOff c
  missing : end_of d part ≡ EndRead.Ended → may_end r ≡ false → Wrong rules l d r part c o FaultKind.Missing c
  -- a 17th component (12)
  seventeenth : end_of d part ≡ EndRead.More → position r ≡ some 16 → Wrong rules l d r part c o FaultKind.Seventeenth c
  -- an element
  element : {k : FaultKind} → end_of d part ≡ EndRead.More → NoSeventeenth r → Faulty rules l r part k → Wrong rules l d r part c o k o

-- The message

-- the originating ID of a message with these parts and contents: none if 48 is not due there, else the contents of the 48 that stands first
pub data OrigOf (rules : Rules) (r : Parts) (x : Text) : Option Text → Type 0 where
  without : due r 0x48 ≡ none → OrigOf rules r x none
  with : {n : ℕ} {s : Text} → due r 0x48 ≡ some orig_id → Right rules 2 0x48 orig_id x.0 x.1 n s → OrigOf rules r x (some s)

-- a fault that is there: at a place, with what is known there; or octets stand behind the message (9)
pub data Found (rules : Rules) (m : List ℕ) : Fault → Type 0 where
  found : {l p : ℕ} {d : Bool} {r : Parts} {c o w : Owner} {i : Option ℤ} {t : Option Text} {k : FaultKind} {part : List ℕ} → Trail rules m l d r (known c o i t) p part → Wrong rules l d r part c (whose (position r) o) k w → Found rules m (fault k p w i t)
  after : {n a : ℕ} {h : Holds} {r : Parts} {x : Text} {t : Option Text} → find message a ≡ some h → contents_of h ≡ some r → Right rules 1 a h 0 m n x → (n ≡ length m → ⊥) → OrigOf rules r x t → Found rules m (fault FaultKind.OctetsAfter n portion none t)

-- octets that begin with a constructor, not of code 0, whose tag is one octet and whose length is sound: the place of its contents, and these (of an indefinite one,
-- to the end of the octets)
pub data Opens (m : List ℕ) : Text → Type 0 where
  opens : {a u n : ℕ} → constructor_of a ≡ true → extended_of a ≡ false → Definitely m a u n → Opens m (u, take n (drop u m))
  opens_endless : {a u : ℕ} → extended_of a ≡ false → Endlessly m a u → Opens m (u, drop u m)

-- and 48 stands first in these: s is its contents
abbrev pub OpensWith : Rules → List ℕ → Text → Type 0
OpensWith rules m s = (x : Text) × (n : ℕ) × Opens m x × Right rules 2 0x48 orig_id x.0 x.1 n s

-- the originating ID of octets that are no message: that one, or none if there is none
pub data UnknownOrig (rules : Rules) (m : List ℕ) : Option Text → Type 0 where
  begun : {s : Text} → OpensWith rules m s → UnknownOrig rules m (some s)
  unbegun : ((s : Text) → OpensWith rules m s → ⊥) → UnknownOrig rules m none

-- the whole table: 7, 1 for no octets and 8 before all
pub data Refuses (rules : Rules) (m : List ℕ) : Fault → Type 0 where
  -- over 255 octets (7)
  overlong : 255 < length m → Refuses rules m (fault FaultKind.Overlong 255 portion none none)
  -- nothing at all (1)
  no_octets : m ≡ [] → Refuses rules m (fault FaultKind.CutOff 0 portion none none)
  -- not one of the five message tags (8)
  no_message : {a : ℕ} {q : List ℕ} {t : Option Text} → length m ≤ 255 → m ≡ a ∷ q → find message a ≡ none → UnknownOrig rules m t → Refuses rules m (fault FaultKind.NoMessage 0 portion none t)
  -- else what is found inside the message, or behind it
  within : {a : ℕ} {q : List ℕ} {h : Holds} {f : Fault} → length m ≤ 255 → m ≡ a ∷ q → find message a ≡ some h → Found rules m f → Refuses rules m f

-- nothing to refuse: one message that is right, and the octets end behind it
pub record Allowed (rules : Rules) (m : List ℕ) : Type 0 where
  pub short : length m ≤ 255
  pub size : ℕ
  pub fits : Fits rules 1 (must message end) true 0 m size

-- a refusal is that of a fault that is there: its number, its place, the originating ID, and the standard answer
pub record Checked (m : List ℕ) (r : Refusal) : Type 0 where
  pub kind : FaultKind
  pub place : ℕ
  pub owner : Owner
  pub invoke_id : Option ℤ
  pub orig_id : Option Text
  pub there : Refuses (record { limit = 16 }) m (fault kind place owner invoke_id orig_id)
  pub same_number : number_of r.kind ≡ number_of kind
  pub same_place : r.place ≡ place
  pub same_orig : r.orig ≡ Option.get_or (map (λ s. orig_field (orig s)) orig_id) None
  pub answer : Standard kind owner invoke_id r.answer

-- The front of a part (the octets from a place to the end of the enclosing contents) read as the end of contents, as a tag, as a length.
-- Assumes nothing: these are definitions.
use Rattle.std.specs.Prelude.{ℕ, suc, ◌-◌}
use mathlib.Core.{List.List, List.[], List.◌∷◌, Bool.Bool, Bool.true, Bool.false, Bool.cond}
use lib.{ListN.length, ListN.get_or, ListN.take, ListN.drop, Dec.ltb, Dec.leb, Dec.eqb}
use Rattle.base.specs.{Number.number_from}
use Rattle.element.specs.{Form.fewest_of, Element.extended_of, declared.FaultKind.FaultKind, declared.EndRead.EndRead, declared.TagRead.TagRead, declared.LengthRead.LengthRead}

-- The end: `true` is the definite form, whose contents end with their octets; `false` the indefinite, whose contents end at 00 00.
unfoldable pub end_of : Bool → List ℕ → EndRead
end_of true [] = EndRead.Ended
end_of true (x ∷ r) = EndRead.More
end_of false [] = EndRead.Unfinished
end_of false (x ∷ []) = cond (eqb x 0) EndRead.Unfinished EndRead.More
end_of false (x ∷ y ∷ r) = cond (eqb x 0) (cond (eqb y 0) EndRead.Ended EndRead.More) EndRead.More

-- The tag, octet by octet: its first octet and how many it takes.
unfoldable pub third : List ℕ → TagRead
third p = cond (leb (length p) 3) (TagRead.Fault FaultKind.CutOff) (cond (ltb (get_or p 3 0) 128) (TagRead.Tag (get_or p 0 0) 4) (TagRead.Fault FaultKind.BadTag))

unfoldable pub second : List ℕ → TagRead
second p = cond (leb (length p) 2) (TagRead.Fault FaultKind.CutOff) (cond (ltb (get_or p 2 0) 128) (TagRead.Tag (get_or p 0 0) 3) (third p))

unfoldable pub first : List ℕ → TagRead
first p =
    cond (leb (length p) 1) (TagRead.Fault FaultKind.CutOff)
    (cond (eqb (get_or p 1 0) 128) (TagRead.Fault FaultKind.BadTag)
    (cond (ltb (get_or p 1 0) 31) (TagRead.Fault FaultKind.BadTag)
    (cond (ltb (get_or p 1 0) 128) (TagRead.Tag (get_or p 0 0) 2)
    (second p))))

unfoldable pub tag_of : List ℕ → TagRead
tag_of p = cond (eqb (length p) 0) (TagRead.Fault FaultKind.CutOff) (cond (extended_of (get_or p 0 0)) (first p) (TagRead.Tag (get_or p 0 0) 1))

-- The length: how many octets it takes, and how many contents octets there are. 3 at once for FF, or 80 on a primitive; otherwise 1, 3, 4.
unfoldable pub within : ℕ → ℕ → ℕ → LengthRead
within size n room = cond (leb n room) (LengthRead.Definite size n) (LengthRead.Fault FaultKind.PassesEnd)

unfoldable pub long_of : List ℕ → ℕ → LengthRead
long_of p k =
    cond (ltb (length p - 1) k) (LengthRead.Fault FaultKind.CutOff)
    (cond (fewest_of (get_or p 1 0) k) (within (suc k) (number_from 0 (take k (drop 1 p))) (length p - 1 - k)) (LengthRead.Fault FaultKind.BadLength))

unfoldable pub length_of : List ℕ → Bool → LengthRead
length_of p constructor =
    cond (eqb (length p) 0) (LengthRead.Fault FaultKind.CutOff)
    (cond (ltb (get_or p 0 0) 128) (within 1 (get_or p 0 0) (length p - 1))
    (cond (leb 255 (get_or p 0 0)) (LengthRead.Fault FaultKind.BadLength)
    (cond (eqb (get_or p 0 0) 128) (cond constructor LengthRead.Indefinite (LengthRead.Fault FaultKind.BadLength))
    (long_of p (get_or p 0 0 - 128)))))

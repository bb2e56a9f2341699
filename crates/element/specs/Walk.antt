-- Any element, checked to its bottom: its contents are asked as all others.
-- Assumes nothing: these are definitions.
use Rattle.std.specs.Prelude.{ℕ, zero, suc}
use mathlib.Core.{Bool.Bool, Bool.true, Bool.false, Bool.not, List.List, List.[], Option.some}
use lib.{ListN.take, Dec.eqb}
use Rattle.element.specs.{Element.constructor_of, Element.code_zero, Fault.Text, Fault.at, Ask.Got, Ask.got, Ask.bad, Ask.next, Ask.Head, Ask.Body, Parts.Item, Parts.level, Parts.leaf_contents, Parts.inside, Parts.first_of, Parts.series_body, declared.FaultKind.FaultKind}

-- a constructor is a series of elements; of a primitive nothing is judged. Kept is the whole element
unfoldable pub walk_pick : Bool → (ℕ → Body (List Text)) → Head → ℕ → List ℕ → Got Text
walk_pick true series h p part = next (inside series h p part) (λ v n. got (p, take n part) n)
walk_pick false series h p part = next (leaf_contents (λ c. true) h p part) (λ v n. got (p, take n part) n)

abbrev pub element_of : (ℕ → Bool) → (Head → ℕ → List ℕ → Got Text) → Item Text
element_of mine contents = record { mine = mine; contents = contents }

-- any element but universal code 0
abbrev pub any_tag : ℕ → Bool
any_tag a = not (code_zero a)

-- the contents, with l levels left for the element
unfoldable pub walk_contents : ℕ → Head → ℕ → List ℕ → Got Text
walk_contents zero h p part = bad (at FaultKind.TooDeep p)
walk_contents (suc l) h p part =
    walk_pick (constructor_of (first_of h)) (λ n. series_body (λ k. level l) FaultKind.Another (element_of any_tag (walk_contents l)) (some []) n 0) h p part

-- any element; an element of one tag
abbrev pub walk_item : ℕ → Item Text
walk_item l = element_of any_tag (walk_contents l)

abbrev pub walk_tag_item : ℕ → ℕ → Item Text
walk_tag_item t l = element_of (λ a. eqb a t) (walk_contents l)

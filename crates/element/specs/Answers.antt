-- What a walk of an element or a series answers: the tests of what may be written ask it, and contracts cite it; the definition of reading rests on none of it.
-- Assumes nothing: these are definitions.
use Rattle.std.specs.Prelude.{ℕ}
use mathlib.Core.{Bool.Bool, Bool.true, Bool.cond, List.List, List.[], Option.none, Option.some}
use lib.{ListN.length, Dec.eqb}
use Rattle.element.specs.{declared.FaultKind.FaultKind, declared.Walk.Walk, Fault.Text, Fault.fault, Head.tag_of, Ask.Got, Ask.got, Ask.bad, Ask.ask, Ask.ask_tag, Parts.Item, Parts.level, Parts.place, Parts.series_body, Walk.walk_item, Walk.walk_tag_item}

-- What the walkers answer: the first fault and its place, or the octets taken. The tag wanted is 0 for any, since no tag is 0.

unfoldable pub wanted_item : ℕ → ℕ → Item Text
wanted_item t l = cond (eqb t 0) (walk_item l) (walk_tag_item t l)

unfoldable pub walk_of : {A : Type 0} → Got A → Walk
walk_of (got v n) = Walk.Whole n
walk_of (bad (fault k p o i t)) = Walk.Fault k p

-- one element, asked from its tag on; a series to its end, of whose pair nothing is taken
unfoldable pub element_walk : ℕ → ℕ → ℕ → List ℕ → Walk
element_walk t l p part = walk_of (ask_tag (place (level l) none (wanted_item t l).mine FaultKind.Another (λ d. (wanted_item t l).contents)) true p part (tag_of part))

unfoldable pub series_walk : ℕ → ℕ → Bool → ℕ → List ℕ → Walk
series_walk t l d p part = walk_of (ask (series_body (λ k. level l) FaultKind.Another (wanted_item t l) (some []) (length part) 0) d p part)

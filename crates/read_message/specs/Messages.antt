-- What the readers of messages answer, as their contracts cite it; the definition of reading rests on none of it.
-- Assumes nothing: these are definitions.
use Rattle.std.specs.Prelude.{ℕ}
use mathlib.Core.{Path.◌≡◌, Bool.Bool, Bool.true, Bool.false, Bool.cond, List.List, Option.Option, Option.none, Option.some}
use lib.{ListN.length, ListN.set, Dec.eqb}
use Rattle.element.specs.{Fault.Text, Ask.Got, Ask.Body, Parts.Item, Parts.opt_body, Parts.only_body, Parts.last_body, Parts.leaf_item, Parts.map_item, Parts.or_item}
use Rattle.tcap.specs.{Meaning.Ending, Meaning.cause, Meaning.says, Meaning.Component, Meaning.Dialogue, Meaning.Message, WellFormed.most_cause, WellFormed.the93, WellFormed.id_ok, Productions.octet_item, Productions.level_at, Productions.components_item, Productions.dialogue_item, Productions.uni_body, Productions.begin_body, Productions.end_body, Productions.continue_body, Productions.abort_body}
use Rattle.read_place.specs.{Places.Placed, Places.stands_of, Leaves.Leaves, Laying.lay_span, Laying.lay_components, Laying.lay_dialogue, Laying.lay_portion, Laying.lay_ending, Blames.Blames}

-- an ID by its tag, and what it is laid out as: the octet that says that it stands, its place and its length
abbrev pub transaction_id_item : ℕ → Item Text
transaction_id_item tag = leaf_item tag id_ok

abbrev pub lay_id_at : ℕ → ℕ → Text → List ℕ → List ℕ
lay_id_at flag o t l = lay_span o t (set l flag 1)

-- 6C or nothing, to the end of the contents
abbrev pub components_body : Body (Option (List (Component Text)))
components_body = last_body (level_at the93 2) (components_item the93)

-- what an Abort ends with, if anything: 4A or 6B
abbrev pub ending_item : Item (Ending Text)
ending_item = or_item (map_item cause (octet_item 0x4A most_cause)) (map_item says (dialogue_item the93))

abbrev pub ending_body : Body (Option (Ending Text))
ending_body = last_body (level_at the93 2) ending_item

-- the contents of a Unidirectional, not yet under its name
abbrev pub unidirectional_body : Body (Option (Dialogue Text) × List (Component Text))
unidirectional_body = opt_body (dialogue_item the93) (only_body (level_at the93 2) (components_item the93))

-- the contents of a message by its tag
unfoldable pub message_body_of : ℕ → Body (Message Text)
message_body_of a =
    cond (eqb a 0x61) (uni_body the93)
    (cond (eqb a 0x62) (begin_body the93)
    (cond (eqb a 0x64) (end_body the93)
    (cond (eqb a 0x65) (continue_body the93) (abort_body the93))))

-- a message that is all there is: how many octets, or the first fault
abbrev pub Answers : List ℕ → Got (Message Text) → ℕ → Type 0
Answers m x r = Placed 0 (length m) x r

-- What is laid out of parts of a message that may be left out

unfoldable pub lay_listed : Option (List (Component Text)) → List ℕ → List ℕ
lay_listed none l = l
lay_listed (some cs) l = lay_components cs l

abbrev pub lay_tail : Option (Dialogue Text) × List (Component Text) → List ℕ → List ℕ
lay_tail v l = lay_components v.1 (lay_portion v.0 l)

unfoldable pub lay_last : Option (Ending Text) → List ℕ → List ℕ
lay_last none l = l
lay_last (some e) l = lay_ending e l

-- 6B where it stands; where it does not, the octets are as they were
unfoldable pub LaysPortion : Bool → List ℕ → ℕ → ℕ → List ℕ → List ℕ → Type 0
LaysPortion true m at stop old new = Leaves lay_dialogue Blames (dialogue_item the93) m at stop old new
LaysPortion false m at stop old new = new ≡ old

abbrev pub LaysPast : List ℕ → ℕ → ℕ → List ℕ → List ℕ → Type 0
LaysPast m at stop old new = LaysPortion (stands_of m at stop 0x6B) m at stop old new

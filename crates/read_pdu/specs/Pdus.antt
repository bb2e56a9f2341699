-- What the readers of the dialogue PDUs answer and lay out, as their contracts cite it; the definition of reading rests on none of it.
-- Assumes nothing: these are definitions.
use Rattle.std.specs.Prelude.{ℕ, ◌+◌, ◌-◌, ◌/◌, ◌%◌}
use mathlib.Core.{Path.◌≡◌, Bool.Bool, Bool.true, Bool.false, Bool.cond, Bool.◌&&◌, List.List, List.[], Option.Option, Option.some}
use lib.{ListN.take, ListN.drop, ListN.set, Dec.eqb, Dec.ltb, Dec.leb}
use Rattle.base.specs.Value.{same}
use Rattle.element.specs.{declared.FaultKind.FaultKind, Fault.Text, Ask.Body, Parts.Item, Parts.level, Parts.leaf_item, Parts.around_item, Parts.map_item, Parts.or_item, Parts.then_body, Parts.only_body, Parts.series_body, Walk.walk_tag_item}
use Rattle.tcap.specs.{declared.Diagnostic.Diagnostic, Meaning.Dialogue, Meaning.request, Meaning.unidialogue, Meaning.version, WellFormed.most_result, WellFormed.most_user_diagnostic, WellFormed.most_provider_diagnostic, WellFormed.most_abort_source, WellFormed.the93}
use Rattle.tcap.specs.Productions.{octet_item, level_at, version_body, context_item, info_body, number_item, source_item, asked_item, answered_item, aborted_item}
use Rattle.read_place.specs.Places.{finite, stands_of, Reads, Finishes}
use Rattle.read_place.specs.Laying.{lay_name, lay_info, lay_diagnostic}
use Rattle.read_place.specs.Leaves.{Leaves, LeavesAll, untold}

-- a tag of one octet, not of code 0; and that of a constructor
abbrev pub sound : ℕ → Bool
sound tag = leb (tag % 32) 30 && (leb 1 tag && leb 1 (tag - 32 + (32 - tag)))

abbrev pub built : ℕ → Bool
built tag = sound tag && eqb (tag / 32 % 2) 1

-- A reader that lays out what it reads, of one element or of contents: what it answers, and what it leaves of the octets lent to it

pub record Takes {A : Type 0} (lay : A → List ℕ → List ℕ) (x : Item A) (m : List ℕ) (at stop r : ℕ) (old new : List ℕ) : Type 0 where
  pub reads : Reads x m at stop r
  pub left : Leaves lay untold x m at stop old new

pub record TakesAll {A : Type 0} (lay : A → List ℕ → List ℕ) (b : Body A) (m : List ℕ) (at stop r : ℕ) (old new : List ℕ) : Type 0 where
  pub closes : Finishes b m at stop r
  pub left : LeavesAll lay untold b m at stop old new

-- the elements in BE, of which n may come: as many as there are octets
abbrev pub externals_body : ℕ → Body (List Text)
externals_body n = series_body (λ k. level_at the93 7) FaultKind.Another (walk_tag_item 0x28 10) (some []) n 0

abbrev pub version_item : Item Text
version_item = leaf_item 0x80 (same version)

-- an element that may be left out: the place behind it if it stands here, or this place
unfoldable pub Passed : {A : Type 0} → Bool → Item A → List ℕ → ℕ → ℕ → ℕ → Type 0
Passed true x m at stop r = Reads x m at stop r
Passed false x m at stop r = r ≡ at

abbrev pub Passes : {A : Type 0} → ℕ → Item A → List ℕ → ℕ → ℕ → ℕ → Type 0
Passes tag x m at stop r = Passed (stands_of m at stop tag) x m at stop r

-- a constructor that holds 02 01 with 0 to `most`, at any level: it is laid out as the octet o
abbrev pub lay_number : ℕ → ℕ → List ℕ → List ℕ
lay_number o n l = set l o n

unfoldable pub TakesNumber : ℕ → ℕ → ℕ → List ℕ → ℕ → ℕ → ℕ → List ℕ → List ℕ → Type 0
TakesNumber o tag most m at stop r old new = (l : ℕ) → ltb 0 l ≡ true → Takes (lay_number o) (around_item tag (only_body (level l) (octet_item 0x02 most))) m at stop r old new

abbrev pub diagnostic_item : Item Diagnostic
diagnostic_item = or_item (map_item Diagnostic.ByUser (number_item the93 0xA1 8 most_user_diagnostic)) (map_item Diagnostic.ByProvider (number_item the93 0xA2 8 most_provider_diagnostic))

-- The contents of 60, 61 and 64, and what is laid out of them, in their order; the kind of dialogue stands there before

unfoldable pub lay_both : {A B : Type 0} → (A → List ℕ → List ℕ) → (B → List ℕ → List ℕ) → A × B → List ℕ → List ℕ
lay_both lay put v l = put v.1 (lay v.0 l)

abbrev pub asked_body : Body (Text × Option Text)
asked_body = version_body (then_body (level_at the93 6) (context_item the93) (info_body the93))

abbrev pub lay_asked : Text × Option Text → List ℕ → List ℕ
lay_asked = lay_both lay_name lay_info

abbrev pub answered_body : Body (Text × (ℕ × (Diagnostic × Option Text)))
answered_body = version_body (then_body (level_at the93 6) (context_item the93) (then_body (level_at the93 6) (number_item the93 0xA2 7 most_result) (then_body (level_at the93 6) (source_item the93) (info_body the93))))

abbrev pub lay_answered : Text × (ℕ × (Diagnostic × Option Text)) → List ℕ → List ℕ
lay_answered = lay_both lay_name (lay_both (lay_number 41) (lay_both lay_diagnostic lay_info))

abbrev pub aborted_body : Body (ℕ × Option Text)
aborted_body = then_body (level_at the93 6) (octet_item 0x80 most_abort_source) (info_body the93)

abbrev pub lay_aborted : ℕ × Option Text → List ℕ → List ℕ
lay_aborted = lay_both (lay_number 41) lay_info

-- the PDU of the structured dialogue, or of the unstructured
unfoldable pub pdu_item : Bool → Item (Dialogue Text)
pdu_item true = or_item (asked_item the93 request) (or_item (answered_item the93) (aborted_item the93))
pdu_item false = asked_item the93 unidialogue

-- the octets from a place to another
abbrev pub text_at : List ℕ → ℕ → ℕ → Text
text_at m p q = (p, take (q - p) (drop p m))

-- where contents end of which the place behind them was told
unfoldable pub contents_end : ℕ → ℕ → ℕ
contents_end inner r = cond (finite inner) r (r - 2)

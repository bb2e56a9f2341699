-- A reader's answer as one number: the place behind what was read, or the fault, by kind and place. Contents stand from a place to a stop:
-- the place where they end, or `opening` and the end of what is around them, if they are indefinite. Assumes nothing: these are definitions.
use Rattle.std.specs.Prelude.{Result, Ok, Err, Option as Optional, Some, None, ℕ, ◌+◌, ◌-◌, ◌%◌, ◌≤◌, ◌<◌}
use mathlib.Core.{Path.◌≡◌, Bool.Bool, Bool.true, Bool.false, Bool.cond, List.List, Option.none}
use lib.{ListN.length, ListN.get_or, Dec.eqb, Dec.ltb, Dec.leb}
use Rattle.read_place.specs.declared.FaultAt.{FaultAt}
use Rattle.element.specs.{declared.FaultKind.FaultKind, declared.EndRead.EndRead, declared.TagRead.TagRead, declared.LengthRead.LengthRead, declared.Walk.Walk, Fault.Fault, Fault.fault, Head.end_of, Head.length_of, inner.Fronts.front_of, inner.Fronts.span, Ask.Got, Ask.got, Ask.bad, Ask.Body, Ask.ask, Ask.blamed, Parts.Item, Parts.Where, Parts.place, Parts.done, Parts.level}

-- Numbers: a place is below `opening`, an open stop between it and `faults`, a fault from there on, each kind in a block of its own

abbrev pub opening : ℕ
opening = 65536

abbrev pub faults : ℕ
faults = 131072

abbrev pub cut_off : ℕ
cut_off = 131072

abbrev pub bad_tag : ℕ
bad_tag = 196608

abbrev pub bad_length : ℕ
bad_length = 262144

abbrev pub passes_end : ℕ
passes_end = 327680

abbrev pub too_deep : ℕ
too_deep = 393216

abbrev pub code_is_zero : ℕ
code_is_zero = 458752

abbrev pub overlong : ℕ
overlong = 524288

abbrev pub no_message : ℕ
no_message = 589824

abbrev pub octets_after : ℕ
octets_after = 655360

abbrev pub missing : ℕ
missing = 720896

abbrev pub another : ℕ
another = 786432

abbrev pub too_many : ℕ
too_many = 851968

abbrev pub bad_contents : ℕ
bad_contents = 917504

abbrev pub seventeenth : ℕ
seventeenth = 983040

abbrev pub unknown_component : ℕ
unknown_component = 1048576

-- where the faults of a kind begin
unfoldable pub base : FaultKind → ℕ
base FaultKind.CutOff = cut_off
base FaultKind.BadTag = bad_tag
base FaultKind.BadLength = bad_length
base FaultKind.PassesEnd = passes_end
base FaultKind.TooDeep = too_deep
base FaultKind.CodeZero = code_is_zero
base FaultKind.Overlong = overlong
base FaultKind.NoMessage = no_message
base FaultKind.OctetsAfter = octets_after
base FaultKind.Missing = missing
base FaultKind.Another = another
base FaultKind.TooMany = too_many
base FaultKind.BadContents = bad_contents
base FaultKind.Seventeenth = seventeenth
base FaultKind.UnknownComponent = unknown_component

-- an answer is a place, or a fault
abbrev pub Near : ℕ → Type 0
Near r = r < faults

abbrev pub Far : ℕ → Type 0
Far r = faults ≤ r

-- the number of an answer, which is below `faults` if it is a place; what is so of it
abbrev pub number : Result ℕ FaultAt → ℕ
number (Ok n) = n
number (Err f) = f.0

abbrev pub Sorted : Result ℕ FaultAt → Type 0
Sorted (Ok n) = Near n
Sorted (Err f) = Far f.0

abbrev pub Tells : Result ℕ FaultAt → (ℕ → Type 0) → Type 0
Tells r P = P (number r) × Sorted r

-- a stop tells whether contents are definite, and where they end or what is around them does
abbrev pub Finite : ℕ → Type 0
Finite stop = stop < opening

abbrev pub Endless : ℕ → Type 0
Endless stop = opening ≤ stop

abbrev pub finite : ℕ → Bool
finite stop = ltb stop opening

abbrev pub until : ℕ → ℕ
until stop = stop % opening

-- the octets from a place to a stop
abbrev pub part : List ℕ → ℕ → ℕ → List ℕ
part m at stop = span m at (until stop)

-- what every reader may be handed
abbrev pub Stands : List ℕ → ℕ → ℕ → Type 0
Stands m at end = (at ≤ end) × (end ≤ length m) × (length m ≤ 65535)

abbrev pub Ready : List ℕ → ℕ → ℕ → Type 0
Ready m at stop = Stands m at (until stop) × Near stop

unfoldable pub ended_of : EndRead → Bool
ended_of EndRead.Ended = true
ended_of EndRead.Unfinished = false
ended_of EndRead.More = false

unfoldable pub unfinished_of : EndRead → Bool
unfinished_of EndRead.Ended = false
unfinished_of EndRead.Unfinished = true
unfinished_of EndRead.More = false

-- the place behind contents that end at a place
unfoldable pub behind_of : ℕ → ℕ → ℕ
behind_of at stop = cond (finite stop) at (at + 2)

-- the place behind a tag; the stop of contents whose length stands at `from`
unfoldable pub tag_place : ℕ → TagRead → ℕ
tag_place at (TagRead.Fault k) = base k + at
tag_place at (TagRead.Tag a s) = at + s

unfoldable pub length_place : ℕ → ℕ → ℕ → LengthRead → ℕ
length_place at from end (LengthRead.Fault k) = base k + at
length_place at from end (LengthRead.Definite k n) = from + (k + n)
length_place at from end LengthRead.Indefinite = opening + end

-- the number of a fault: whom it belongs to and what was read before it is told elsewhere
unfoldable pub fault_place : Fault → ℕ
fault_place (fault k q o i t) = base k + q

-- an answer is the place behind what was got, which is not beyond the end, or the number of the fault
unfoldable pub Placed : {A : Type 0} → ℕ → ℕ → Got A → ℕ → Type 0
Placed p end (got a n) r = (r ≡ p + n) × (r ≤ end)
Placed p end (bad f) r = r ≡ fault_place f

-- the same where contents were read to their end: it is told by the stop, or stands behind the end pair
unfoldable pub Shut : Bool → ℕ → ℕ → ℕ → ℕ → Type 0
Shut true p end n r = r ≡ end
Shut false p end n r = (r ≡ p + (n + 2)) × (r ≤ end)

unfoldable pub Closing : {A : Type 0} → Bool → ℕ → ℕ → Got A → ℕ → Type 0
Closing d p end (got a n) r = Shut d p end n r
Closing d p end (bad f) r = r ≡ fault_place f

abbrev pub Closed : {A : Type 0} → ℕ → ℕ → Got A → ℕ → Type 0
Closed at stop x r = Closing (finite stop) at (until stop) x r

-- an element that must stand at a place, and nothing asked after it
abbrev pub front : {A : Type 0} → Where → FaultKind → Item A → Body A
front w other x = place w none x.mine other (λ d h p part. blamed w.owner (x.contents h p part))

-- what a reader of one element answers, and a reader of contents to their end
abbrev pub Reads : {A : Type 0} → Item A → List ℕ → ℕ → ℕ → ℕ → Type 0
Reads x m at stop r = Placed at (until stop) (ask (front (level 1) FaultKind.Another x) (finite stop) at (part m at stop)) r

abbrev pub Finishes : {A : Type 0} → Body A → List ℕ → ℕ → ℕ → ℕ → Type 0
Finishes b m at stop r = Closed at stop (ask b (finite stop) at (part m at stop)) r

-- nothing more may come
abbrev pub nothing : Body ℕ
nothing = done (level 1) 0

-- the questions at a place, answered by a number: `mine` are the tags that may stand here, `goes` is asked of the first octet and the size of such a tag
unfoldable pub asked_place : (ℕ → Bool) → (ℕ → ℕ) → ℕ → ℕ → EndRead → TagRead → ℕ
asked_place mine goes other at EndRead.Ended t = base FaultKind.Missing + at
asked_place mine goes other at EndRead.Unfinished t = base FaultKind.CutOff + at
asked_place mine goes other at EndRead.More (TagRead.Fault k) = base k + at
asked_place mine goes other at EndRead.More (TagRead.Tag a s) = cond (mine a) (goes s) (other + at)

-- no element may stand here; a primitive (false) or constructor (true) of one tag must, and then it is the stop of its contents
abbrev pub wrong_place : List ℕ → ℕ → ℕ → ℕ → ℕ
wrong_place m at stop other = asked_place (λ a. false) (λ s. 0) other at (end_of (finite stop) (part m at stop)) (front_of 1 (part m at stop))

-- whether an element with this tag of one octet stands here
unfoldable pub stands_of : List ℕ → ℕ → ℕ → ℕ → Bool
stands_of m at stop tag = cond (eqb at (until stop)) false (eqb (get_or m at 0) tag)

unfoldable pub entry_place : Bool → List ℕ → ℕ → ℕ → ℕ → ℕ
entry_place c m at stop tag = cond (stands_of m at stop tag) (length_place at (at + 1) (until stop) (length_of (part m (at + 1) stop) c)) (wrong_place m at stop (base FaultKind.Another))

-- its contents are not as wanted
unfoldable pub bad_place : List ℕ → ℕ → ℕ → ℕ → ℕ
bad_place m at stop tag = cond (leb faults (entry_place false m at stop tag)) (entry_place false m at stop tag) (base FaultKind.BadContents + at)

-- how many contents octets a primitive of this tag has, if they are 1 to `most`; else 0
unfoldable pub count_of : ℕ → ℕ → ℕ → ℕ → ℕ → ℕ → ℕ
count_of end at a b tag most = cond (ltb end (at + 3)) 0 (cond (eqb a tag) (cond (ltb most b) 0 (cond (ltb end (at + 2 + b)) 0 b)) 0)

-- it is told where it is not 0
abbrev pub CountIs : Optional ℕ → ℕ → Type 0
CountIs None k = 0 ≡ k
CountIs (Some n) k = (n ≡ k) × (1 ≤ n)

-- a tag of one octet, not of code 0
abbrev pub Leads : ℕ → Type 0
Leads tag = (tag % 32 ≤ 30) × (1 ≤ tag) × (1 ≤ tag - 32 + (32 - tag))

-- what the walkers answer: of one element, and of a series to the end of its contents
unfoldable pub Walked : ℕ → ℕ → Walk → ℕ → Type 0
Walked p end (Walk.Fault k q) r = r ≡ base k + q
Walked p end (Walk.Whole n) r = (r ≡ p + n) × (r ≤ end)

unfoldable pub WalkedOut : Bool → ℕ → ℕ → Walk → ℕ → Type 0
WalkedOut d p end (Walk.Fault k q) r = r ≡ base k + q
WalkedOut d p end (Walk.Whole n) r = Shut d p end n r

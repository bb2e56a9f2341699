-- Reading one message: before all 7, 1 for no octets, 8 by the first octet; then the message; then 9. And what is answered to a message that is refused.
-- Assumes nothing: these are definitions.
use Rattle.std.specs.Prelude.{Result, Ok, Err, ⊤}
use Rattle.std.specs.Prelude.{None}
use Rattle.std.specs.Prelude.{ℕ, ◌+◌}
use mathlib.Core.{Bool.Bool, Bool.true, Bool.false, Bool.not, Bool.◌&&◌, List.List, List.[], List.◌∷◌, Option.Option, Option.none, Option.some, Option.map, Option.get_or}
use lib.{ListN.length, ListN.take, ListN.drop, Dec.leb, Dec.eqb, IntN.ℤ}
use Rattle.element.specs.{Element.constructor_of, Element.extended_of, Fault.Text, Fault.Owner, Fault.portion, Fault.dialogue, Fault.component, Fault.Fault, Fault.fault, Fault.at, Ask.Got, Ask.got, Ask.bad, Ask.next, Ask.check, Ask.blamed, Ask.definite, Ask.indefinite, Ask.Head, Ask.head, Ask.Body, Ask.ask, Parts.Item, Parts.level, Parts.place, declared.FaultKind.FaultKind}
use Rattle.tcap.specs.{declared.Answer.Answer, declared.Ground.Ground, declared.Record.Record, declared.Refusal.Refusal, Meaning.Originating, Meaning.orig, Meaning.Message, Meaning.unidirectional, Meaning.begin, Meaning.finish, Meaning.continue, Meaning.abort, WellFormed.Rules, WellFormed.most_octets, WellFormed.the93, Productions.orig_item, Productions.carried, Productions.level_at, Productions.message_item, Record.orig_field, Record.id_field, Record.record_of, Record.blank_record}

abbrev pub learnt : Message Text → Fault → Fault
learnt (unidirectional d cs) = λ f. f
learnt (begin o d cs) = carried o
learnt (finish e d cs) = λ f. f
learnt (continue o e d cs) = carried o
learnt (abort e s) = λ f. f

-- the message is all there is
abbrev pub alone_body : Rules → Item (Message Text) → Body (Message Text)
alone_body rules x =
    place (level rules.limit) none x.mine FaultKind.NoMessage
    (λ d h p part. next (x.contents h p part) (λ v n. blamed (learnt v) (check (eqb n (length part)) (at FaultKind.OctetsAfter (p + n)) (got v n))))

-- The originating ID of octets that are no message (8): they begin with a constructor whose tag is one octet, and 48 stands first in it

-- what stands first in a constructor: the rest of its contents is not asked
unfoldable pub foremost : {A : Type 0} → Body A → Head → ℕ → List ℕ → Got A
foremost b (head a u (definite n)) p part = next (ask b true (p + u) (take n (drop u part))) (λ v k. got v (u + k))
foremost b (head a u indefinite) p part = next (ask b false (p + u) (drop u part)) (λ v k. got v (u + k))

abbrev pub id_first : Rules → Body (Originating Text)
id_first rules = place (level_at rules 2) none orig_item.mine FaultKind.Another (λ d. orig_item.contents)

-- 20 is not asked here: `ask` refuses code 0 before
abbrev pub unknown_tag : ℕ → Bool
unknown_tag a = constructor_of a && not (extended_of a)

abbrev pub unknown_body : Rules → Body (Originating Text)
unknown_body rules = place (level rules.limit) none unknown_tag FaultKind.Another (λ d. foremost (id_first rules))

unfoldable pub text_of : Got (Originating Text) → Option Text
text_of (got (orig t) n) = some t
text_of (bad f) = none

unfoldable pub unknown_orig : Rules → List ℕ → Option Text
unknown_orig rules m = text_of (ask (unknown_body rules) true 0 m)

-- 8 goes by the first octet alone, before tag and level; `alone_body` asks for the same tags, so its own 8 never answers
unfoldable pub read_first : Rules → Item (Message Text) → List ℕ → Got (Message Text)
read_first rules x [] = bad (at FaultKind.CutOff 0)
read_first rules x (a ∷ r) = check (x.mine a) (fault FaultKind.NoMessage 0 portion none (unknown_orig rules (a ∷ r))) (ask (alone_body rules x) true 0 (a ∷ r))

-- the message with its places, or the first fault
unfoldable pub located_up_to : Rules → List ℕ → Got (Message Text)
located_up_to rules m = check (leb (length m) most_octets) (at FaultKind.Overlong most_octets) (read_first rules (message_item rules) m)

-- The standard answer, by the ground of the refusal and the owner

unfoldable pub ground_of : FaultKind → Ground
ground_of FaultKind.NoMessage = Ground.UnknownMessage
ground_of FaultKind.Seventeenth = Ground.TooManyComponents
ground_of FaultKind.UnknownComponent = Ground.UnknownComponent
ground_of FaultKind.Missing = Ground.WrongPart
ground_of FaultKind.Another = Ground.WrongPart
ground_of FaultKind.TooMany = Ground.WrongPart
ground_of FaultKind.BadContents = Ground.WrongPart
ground_of FaultKind.CutOff = Ground.BadForm
ground_of FaultKind.BadTag = Ground.BadForm
ground_of FaultKind.BadLength = Ground.BadForm
ground_of FaultKind.PassesEnd = Ground.BadForm
ground_of FaultKind.TooDeep = Ground.BadForm
ground_of FaultKind.CodeZero = Ground.BadForm
ground_of FaultKind.Overlong = Ground.BadForm
ground_of FaultKind.OctetsAfter = Ground.BadForm

-- a general problem in a component, cause 3 inside 6B, a cause everywhere else
unfoldable pub by_owner : ℕ → ℕ → Owner → Option ℤ → Answer
by_owner problem cause portion i = Answer.AbortCause cause
by_owner problem cause dialogue i = Answer.AbortCause 3
by_owner problem cause (component k) i = Answer.RejectProblem problem k (id_field i)

unfoldable pub answer_for : Ground → Owner → Option ℤ → Answer
answer_for Ground.UnknownMessage o i = Answer.AbortCause 0
answer_for Ground.TooManyComponents o i = Answer.AbortCause 4
answer_for Ground.UnknownComponent o i = by_owner 0 2 o i
answer_for Ground.WrongPart o i = by_owner 1 3 o i
answer_for Ground.BadForm o i = by_owner 2 2 o i

unfoldable pub refusal_of : Fault → Refusal
refusal_of (fault k p o i t) = record { kind = k; place = p; orig = get_or (map (λ t. orig_field (orig t)) t) None; answer = answer_for (ground_of k) o i }

-- of a refused message there is no record; where one is named, it is the blank one: no components
abbrev pub outcome_of : Result Record Refusal → Result ⊤ Refusal
outcome_of (Ok r) = Ok tt
outcome_of (Err f) = Err f

abbrev pub handed_back : Result Record Refusal → Record
handed_back (Ok r) = r
handed_back (Err f) = blank_record

unfoldable pub answered : Got (Message Text) → Result Record Refusal
answered (got v n) = Ok (record_of v)
answered (bad f) = Err (refusal_of f)

unfoldable pub reading_up_to : Rules → List ℕ → Result Record Refusal
reading_up_to rules m = answered (located_up_to rules m)

unfoldable pub reading : List ℕ → Result Record Refusal
reading m = reading_up_to the93 m

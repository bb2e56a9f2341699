-- What is told of a message that is refused. Assumes nothing: these are definitions.
use Rattle.tcap.specs.declared.OrigTransactionId.{OrigTransactionId}
use Rattle.std.specs.Prelude.{Option as Optional, None}
use Rattle.std.specs.Prelude.{ℕ, ◌/◌, ◌%◌}
use mathlib.Core.{Path.◌≡◌, Bool.Bool, Bool.true, Bool.false, Bool.cond, List.List, List.[], List.◌∷◌, Option.Option, Option.none, Option.some, Option.map, Option.get_or}
use lib.{Dec.eqb, IntN.ℤ}
use Rattle.primitive.specs.Primitive.{signed_of}
use Rattle.element.specs.{Fault.Text, Fault.fault, Ask.Got, Ask.got, Ask.bad}
use Rattle.tcap.specs.{declared.Refusal.Refusal, Meaning.orig, Meaning.Message, Record.orig_field, Reading.refusal_of}
use Rattle.read_place.specs.Blames.{Blames}

-- the tag of a constructor, of one octet and not code 0
unfoldable pub constructor_tag : ℕ → Bool
constructor_tag tag = cond (eqb tag 0x20) false (cond (eqb (tag % 32) 31) false (eqb (tag / 32 % 2) 1))

-- octets with this first one may tell an originating ID: a Begin, a Continue, and such a constructor that is no message
unfoldable pub id_sought : ℕ → Bool
id_sought tag = cond (eqb tag 0x62) true (cond (eqb tag 0x65) true (cond (eqb tag 0x64) false (cond (eqb tag 0x67) false (cond (eqb tag 0x61) false (constructor_tag tag)))))

-- the invoke ID told, by its flag and its octet
unfoldable pub id_told : ℕ → ℕ → Option ℤ
id_told flag octet = cond (eqb flag 0) none (some (signed_of (octet ∷ [])))

-- the originating ID that a refusal takes of the fault
unfoldable pub OrigTold : Optional OrigTransactionId → Got (Message Text) → Type 0
OrigTold r (got v n) = Unit {0}
OrigTold r (bad (fault k p o i t)) = r ≡ get_or (map (λ s. orig_field (orig s)) t) None

-- what is told of the fault in the octets lent to the reader
unfoldable pub Blamed : Got (Message Text) → List ℕ → Type 0
Blamed (got v n) l = Unit {0}
Blamed (bad f) l = Blames f l

unfoldable pub RefusedAs : Refusal → Got (Message Text) → Type 0
RefusedAs r (got v n) = Unit {0}
RefusedAs r (bad f) = r ≡ refusal_of f

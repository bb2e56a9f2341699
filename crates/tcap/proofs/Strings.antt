-- A message with its strings kept in another way, and its strings in the order in which they stand; as what is read, with the places forgotten.
-- Assumes nothing.
use Prim.Native.Nat.{ℕ}
use mathlib.Core.List.{List, [], ◌∷◌, ◌++◌, map}
use mathlib.Core.Option
use mathlib.Core.Option.{Option, none, some}
use Rattle.element.specs.Fault.{Text}
use Rattle.tcap.specs.Meaning.{Originating, orig, Destination, dest, Code, local, global, Component, invoke, last, not_last, error, reject, Dialogue, request, unidialogue, response, aborted, single, octets, Ending, silent, cause, says, Message, unidirectional, begin, finish, continue, abort, Meaning}

module _ {S T : Type 0} (f : S → T) where
  abbrev pub orig_as : Originating S → Originating T
  orig_as (orig i) = orig (f i)

  abbrev pub dest_as : Destination S → Destination T
  dest_as (dest i) = dest (f i)

  abbrev pub code_as : Code S → Code T
  code_as (local z) = local z
  code_as (global c) = global (f c)

  abbrev pub both_as : Code S × S → Code T × T
  both_as v = (code_as v.0, f v.1)

  abbrev pub component_as : Component S → Component T
  component_as (invoke i l c p) = invoke i l (code_as c) (Option.map f p)
  component_as (last i r) = last i (Option.map both_as r)
  component_as (not_last i r) = not_last i (Option.map both_as r)
  component_as (error i c p) = error i (code_as c) (Option.map f p)
  component_as (reject i q) = reject i q

  abbrev pub dialogue_as : Dialogue S → Dialogue T
  dialogue_as (request n u) = request (f n) (Option.map f u)
  dialogue_as (unidialogue n u) = unidialogue (f n) (Option.map f u)
  dialogue_as (response n r s u) = response (f n) r s (Option.map f u)
  dialogue_as (aborted r u) = aborted r (Option.map f u)
  dialogue_as (single n e) = single (f n) (f e)
  dialogue_as (octets n c) = octets (f n) (f c)

  abbrev pub ending_as : Ending S → Ending T
  ending_as silent = silent
  ending_as (cause n) = cause n
  ending_as (says d) = says (dialogue_as d)

  abbrev pub message_as : Message S → Message T
  message_as (unidirectional d cs) = unidirectional (Option.map dialogue_as d) (map component_as cs)
  message_as (begin o d cs) = begin (orig_as o) (Option.map dialogue_as d) (map component_as cs)
  message_as (finish e d cs) = finish (dest_as e) (Option.map dialogue_as d) (map component_as cs)
  message_as (continue o e d cs) = continue (orig_as o) (dest_as e) (Option.map dialogue_as d) (map component_as cs)
  message_as (abort e s) = abort (dest_as e) (ending_as s)

-- the places forgotten
abbrev pub octets_of : Text → List ℕ
octets_of t = t.1

abbrev pub forget : Message Text → Meaning
forget v = message_as octets_of v

-- its strings in the order in which they stand, each with the tag just before it, or none before a whole element
abbrev pub Strings : Type 0
Strings = List (Option ℕ × Text)

abbrev pub tagged : ℕ → Text → Strings
tagged t s = (some t, s) ∷ []

abbrev pub whole : Text → Strings
whole s = (none, s) ∷ []

abbrev pub option_strings : {A : Type 0} → (A → Strings) → Option A → Strings
option_strings f none = []
option_strings f (some a) = f a

unfoldable pub series_strings : {A : Type 0} → (A → Strings) → List A → Strings
series_strings f [] = []
series_strings f (a ∷ ws) = f a ++ series_strings f ws

abbrev pub code_strings : Code Text → Strings
code_strings (local z) = []
code_strings (global c) = tagged 0x06 c

abbrev pub both_strings : Code Text × Text → Strings
both_strings v = code_strings v.0 ++ whole v.1

abbrev pub component_strings : Component Text → Strings
component_strings (invoke i l c p) = code_strings c ++ option_strings whole p
component_strings (last i r) = option_strings both_strings r
component_strings (not_last i r) = option_strings both_strings r
component_strings (error i c p) = code_strings c ++ option_strings whole p
component_strings (reject i q) = []

abbrev pub named_strings : Text → Option Text → Strings
named_strings n u = tagged 0x06 n ++ option_strings (tagged 0xBE) u

abbrev pub dialogue_strings : Dialogue Text → Strings
dialogue_strings (request n u) = named_strings n u
dialogue_strings (unidialogue n u) = named_strings n u
dialogue_strings (response n r s u) = named_strings n u
dialogue_strings (aborted r u) = option_strings (tagged 0xBE) u
dialogue_strings (single n e) = tagged 0x06 n ++ whole e
dialogue_strings (octets n c) = tagged 0x06 n ++ tagged 0x81 c

abbrev pub ending_strings : Ending Text → Strings
ending_strings silent = []
ending_strings (cause n) = []
ending_strings (says d) = dialogue_strings d

abbrev pub orig_strings : Originating Text → Strings
orig_strings (orig i) = tagged 0x48 i

abbrev pub dest_strings : Destination Text → Strings
dest_strings (dest i) = tagged 0x49 i

abbrev pub rest_strings : Option (Dialogue Text) → List (Component Text) → Strings
rest_strings d cs = option_strings dialogue_strings d ++ series_strings component_strings cs

abbrev pub strings : Message Text → Strings
strings (unidirectional d cs) = rest_strings d cs
strings (begin o d cs) = orig_strings o ++ rest_strings d cs
strings (finish e d cs) = dest_strings e ++ rest_strings d cs
strings (continue o e d cs) = orig_strings o ++ (dest_strings e ++ rest_strings d cs)
strings (abort e s) = dest_strings e ++ ending_strings s

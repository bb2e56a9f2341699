-- What a message means, and the form of each meaning on the line, line by line after document 01, "Messages" and "Dialogue portion".
-- S is how a string is kept: as its octets in a meaning, with its place while reading. Assumes nothing: these are definitions.
use Rattle.std.specs.Prelude.{ℕ}
use mathlib.Core.{List.List, Option.Option, List.[], List.◌∷◌, Option.none, Option.some}
use lib.{IntN.ℤ}
use Rattle.tcap.specs.{declared.Problem.Problem, declared.Diagnostic.Diagnostic}
use Rattle.primitive.specs.{Primitive.integer_octets}
use Rattle.element.specs.{Form.Form, Form.exactly, Form.then, Form.perhaps, Form.leaf, Form.around, Form.maybe, Form.series_form, Form.shortest, Form.document01}

pub data Originating (S : Type 0) : Type 0 where
  orig : S → Originating S

pub data Destination (S : Type 0) : Type 0 where
  dest : S → Destination S

pub data Code (S : Type 0) : Type 0 where
  local : ℤ → Code S
  global : S → Code S

-- invoke ID, linked ID, code, parameter; a parameter is its whole element; the invoke ID of a Reject may be null
pub data Component (S : Type 0) : Type 0 where
  invoke : ℤ → Option ℤ → Code S → Option S → Component S
  last not_last : ℤ → Option (Code S × S) → Component S
  error : ℤ → Code S → Option S → Component S
  reject : Option ℤ → Problem → Component S

-- the application context name, and what BE holds; an outside name, and its element or octets
pub data Dialogue (S : Type 0) : Type 0 where
  request unidialogue : S → Option S → Dialogue S
  response : S → ℕ → Diagnostic → Option S → Dialogue S
  aborted : ℕ → Option S → Dialogue S
  single octets : S → S → Dialogue S

-- how an Abort ends: with nothing, with 4A, with 6B
pub data Ending (S : Type 0) : Type 0 where
  silent : Ending S
  cause : ℕ → Ending S
  says : Dialogue S → Ending S

pub data Message (S : Type 0) : Type 0 where
  unidirectional : Option (Dialogue S) → List (Component S) → Message S
  begin : Originating S → Option (Dialogue S) → List (Component S) → Message S
  finish : Destination S → Option (Dialogue S) → List (Component S) → Message S
  continue : Originating S → Destination S → Option (Dialogue S) → List (Component S) → Message S
  abort : Destination S → Ending S → Message S

abbrev pub Meaning : Type 0
Meaning = Message (List ℕ)

-- The forms: one octet; a signed integer
abbrev pub octet : ℕ → ℕ → Form
octet tag x = leaf tag (x ∷ [])

abbrev pub integer : ℕ → ℤ → Form
integer tag z = leaf tag (integer_octets z)

abbrev pub code_form : Code (List ℕ) → Form
code_form (local z) = integer 0x02 z
code_form (global c) = leaf 0x06 c

abbrev pub problem_form : Problem → Form
problem_form (Problem.General n) = octet 0x80 n
problem_form (Problem.OfInvoke n) = octet 0x81 n
problem_form (Problem.OfResult n) = octet 0x82 n
problem_form (Problem.OfError n) = octet 0x83 n

-- 30 holding code and parameter, both
abbrev pub holding : Code (List ℕ) × List ℕ → Form
holding (c, p) = around 0x30 (then (code_form c) (exactly p))

abbrev pub id_or_null : Option ℤ → Form
id_or_null none = leaf 0x05 []
id_or_null (some i) = integer 0x02 i

unfoldable pub component_form : Component (List ℕ) → Form
component_form (invoke i l c p) = around 0xA1 (then (integer 0x02 i) (then (maybe (integer 0x80) l) (then (code_form c) (maybe exactly p))))
component_form (last i r) = around 0xA2 (then (integer 0x02 i) (maybe holding r))
component_form (not_last i r) = around 0xA7 (then (integer 0x02 i) (maybe holding r))
component_form (error i c p) = around 0xA3 (then (integer 0x02 i) (then (code_form c) (maybe exactly p)))
component_form (reject i q) = around 0xA4 (then (id_or_null i) (problem_form q))

-- no component, no 6C
unfoldable pub components_form : List (Component (List ℕ)) → Form
components_form [] = exactly []
components_form (c ∷ cs) = around 0x6C (series_form component_form (c ∷ cs))

-- the two names
abbrev pub structured : List ℕ
structured = 0x00 ∷ 0x11 ∷ 0x86 ∷ 0x05 ∷ 0x01 ∷ 0x01 ∷ 0x01 ∷ []

abbrev pub unstructured : List ℕ
unstructured = 0x00 ∷ 0x11 ∷ 0x86 ∷ 0x05 ∷ 0x01 ∷ 0x02 ∷ 0x01 ∷ []

-- version 1 is the default: its element may be there or not
abbrev pub version : List ℕ
version = 0x07 ∷ 0x80 ∷ []

abbrev pub version_form : Form
version_form = perhaps (leaf 0x80 version)

abbrev pub context_form : List ℕ → Form
context_form n = around 0xA1 (leaf 0x06 n)

abbrev pub info_form : Option (List ℕ) → Form
info_form u = maybe (λ c. around 0xBE (exactly c)) u

abbrev pub source_form : Diagnostic → Form
source_form (Diagnostic.ByUser n) = around 0xA1 (octet 0x02 n)
source_form (Diagnostic.ByProvider n) = around 0xA2 (octet 0x02 n)

abbrev pub external : List ℕ → Form → Form
external name f = around 0x6B (around 0x28 (then (leaf 0x06 name) f))

unfoldable pub dialogue_form : Dialogue (List ℕ) → Form
dialogue_form (request n u) = external structured (around 0xA0 (around 0x60 (then version_form (then (context_form n) (info_form u)))))
dialogue_form (unidialogue n u) = external unstructured (around 0xA0 (around 0x60 (then version_form (then (context_form n) (info_form u)))))
dialogue_form (response n r s u) =
    external structured
    (around 0xA0
    (around 0x61 (then version_form (then (context_form n) (then (around 0xA2 (octet 0x02 r)) (then (around 0xA3 (source_form s)) (info_form u)))))))
dialogue_form (aborted r u) = external structured (around 0xA0 (around 0x64 (then (octet 0x80 r) (info_form u))))
dialogue_form (single n e) = external n (around 0xA0 (exactly e))
dialogue_form (octets n c) = external n (leaf 0x81 c)

unfoldable pub ending_form : Ending (List ℕ) → Form
ending_form silent = exactly []
ending_form (cause n) = octet 0x4A n
ending_form (says d) = dialogue_form d

abbrev pub orig_form : Originating (List ℕ) → Form
orig_form (orig i) = leaf 0x48 i

abbrev pub dest_form : Destination (List ℕ) → Form
dest_form (dest i) = leaf 0x49 i

unfoldable pub message_form : Meaning → Form
message_form (unidirectional d cs) = around 0x61 (then (maybe dialogue_form d) (components_form cs))
message_form (begin o d cs) = around 0x62 (then (orig_form o) (then (maybe dialogue_form d) (components_form cs)))
message_form (finish e d cs) = around 0x64 (then (dest_form e) (then (maybe dialogue_form d) (components_form cs)))
message_form (continue o e d cs) = around 0x65 (then (orig_form o) (then (dest_form e) (then (maybe dialogue_form d) (components_form cs))))
message_form (abort e s) = around 0x67 (then (dest_form e) (ending_form s))

-- the shortest message of a meaning, in definite lengths throughout: below 256 octets every other is longer, below 65,536 none is shorter
unfoldable pub written : Meaning → List ℕ
written μ = shortest document01 (message_form μ)

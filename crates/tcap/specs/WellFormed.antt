-- Well-formed meanings: document 01, "Numbers", and the ranges and levels of "Messages" and "Dialogue portion"; and demand 2's definition of
-- reading, which knows nothing of how a message is read. Assumes nothing: these are definitions.
use Rattle.std.specs.Prelude.{ℕ, suc, ◌-◌, ◌≤◌}
use mathlib.Core.{Path.◌≡◌, Bool.Bool, Bool.true, Bool.false, List.List}
use lib.{ListN.length, Dec.leb, IntN.ℤ}
use Rattle.base.specs.{Number.holds, Value.Every, Value.Maybe, Value.same}
use Rattle.primitive.specs.{Primitive.between, Primitive.identifier_ok, Primitive.most_integer_octets}
use Rattle.element.specs.{Form.Matches, Form.document01, Element.Element, Element.SeriesOf}
use Rattle.tcap.specs.{declared.Problem.Problem, declared.Diagnostic.Diagnostic, Meaning.Originating, Meaning.orig, Meaning.Destination, Meaning.dest, Meaning.Code, Meaning.local, Meaning.global, Meaning.Component, Meaning.invoke, Meaning.last, Meaning.not_last, Meaning.error, Meaning.reject, Meaning.Dialogue, Meaning.request, Meaning.unidialogue, Meaning.response, Meaning.aborted, Meaning.single, Meaning.octets, Meaning.Ending, Meaning.silent, Meaning.cause, Meaning.says, Meaning.unidirectional, Meaning.begin, Meaning.finish, Meaning.continue, Meaning.abort, Meaning.Meaning, Meaning.structured, Meaning.unstructured, Meaning.message_form}

-- the numbers of document 01
abbrev pub most_octets : ℕ
most_octets = 255

abbrev pub most_components : ℕ
most_components = 16

abbrev pub deepest_level : ℕ
deepest_level = 16

abbrev pub most_transaction_id_octets : ℕ
most_transaction_id_octets = 4

-- problems of a Reject: general (80), of an invoke (81), of a return result (82), of a return error (83)
abbrev pub most_general_problem : ℕ
most_general_problem = 2

abbrev pub most_invoke_problem : ℕ
most_invoke_problem = 7

abbrev pub most_result_problem : ℕ
most_result_problem = 2

abbrev pub most_error_problem : ℕ
most_error_problem = 4

-- the P-Abort cause
abbrev pub most_cause : ℕ
most_cause = 4

-- of a dialogue response: its result, and what the user or the provider diagnosed
abbrev pub most_result : ℕ
most_result = 1

abbrev pub most_user_diagnostic : ℕ
most_user_diagnostic = 2

abbrev pub most_provider_diagnostic : ℕ
most_provider_diagnostic = 2

-- the source of a dialogue abort
abbrev pub most_abort_source : ℕ
most_abort_source = 1

-- the rules that a message is read by and a meaning is well-formed by: the definitions of both, and the laws between them, take them
pub record Rules : Type 0 where
  pub limit : ℕ

-- those of 1993
abbrev pub the93 : Rules
the93 = record { limit = deepest_level }

-- how many levels are left for an element at level n; the message is level 1
abbrev pub left_at : Rules → ℕ → ℕ
left_at rules n = suc rules.limit - n

-- a transaction ID
unfoldable pub id_ok : List ℕ → Bool
id_ok c = between 1 most_transaction_id_octets c

-- an invoke or linked ID: one octet, -128 to 127
abbrev pub InvokeIdOk : ℤ → Type 0
InvokeIdOk i = holds 1 i ≡ true

abbrev pub CodeOk : Code (List ℕ) → Type 0
CodeOk (local z) = holds most_integer_octets z ≡ true
CodeOk (global c) = identifier_ok c ≡ true

abbrev pub ProblemOk : Problem → Type 0
ProblemOk (Problem.General n) = leb n most_general_problem ≡ true
ProblemOk (Problem.OfInvoke n) = leb n most_invoke_problem ≡ true
ProblemOk (Problem.OfResult n) = leb n most_result_problem ≡ true
ProblemOk (Problem.OfError n) = leb n most_error_problem ≡ true

abbrev pub BothOk : Rules → Code (List ℕ) × List ℕ → Type 0
BothOk rules (c, p) = CodeOk c × Element (left_at rules 5) p

-- a parameter stands at level 4, in a result at level 5
unfoldable pub ComponentOk : Rules → Component (List ℕ) → Type 0
ComponentOk rules (invoke i k c p) = InvokeIdOk i × Maybe InvokeIdOk k × CodeOk c × Maybe (Element (left_at rules 4)) p
ComponentOk rules (last i r) = InvokeIdOk i × Maybe (BothOk rules) r
ComponentOk rules (not_last i r) = InvokeIdOk i × Maybe (BothOk rules) r
ComponentOk rules (error i c p) = InvokeIdOk i × CodeOk c × Maybe (Element (left_at rules 4)) p
ComponentOk rules (reject i q) = Maybe InvokeIdOk i × ProblemOk q

abbrev pub SourceOk : Diagnostic → Type 0
SourceOk (Diagnostic.ByUser n) = leb n most_user_diagnostic ≡ true
SourceOk (Diagnostic.ByProvider n) = leb n most_provider_diagnostic ≡ true

-- a name that is neither of the two
abbrev pub Outside : List ℕ → Type 0
Outside n = (identifier_ok n ≡ true) × (same structured n ≡ false) × (same unstructured n ≡ false)

-- the element in the A0 of an outside name stands at level 5, a 28 in BE at level 7
unfoldable pub DialogueOk : Rules → Dialogue (List ℕ) → Type 0
DialogueOk rules (request n u) = (identifier_ok n ≡ true) × Maybe (SeriesOf 0x28 (left_at rules 7)) u
DialogueOk rules (unidialogue n u) = (identifier_ok n ≡ true) × Maybe (SeriesOf 0x28 (left_at rules 7)) u
DialogueOk rules (response n r s u) = (identifier_ok n ≡ true) × (leb r most_result ≡ true) × SourceOk s × Maybe (SeriesOf 0x28 (left_at rules 7)) u
DialogueOk rules (aborted r u) = (leb r most_abort_source ≡ true) × Maybe (SeriesOf 0x28 (left_at rules 7)) u
DialogueOk rules (single n e) = Outside n × Element (left_at rules 5) e
DialogueOk rules (octets n c) = Outside n

abbrev pub EndingOk : Rules → Ending (List ℕ) → Type 0
EndingOk rules silent = Unit {0}
EndingOk rules (cause n) = leb n most_cause ≡ true
EndingOk rules (says d) = DialogueOk rules d

abbrev pub ComponentsOk : Rules → List (Component (List ℕ)) → Type 0
ComponentsOk rules cs = (length cs ≤ most_components) × Every (ComponentOk rules) cs

abbrev pub OrigOk : Originating (List ℕ) → Type 0
OrigOk (orig i) = id_ok i ≡ true

abbrev pub DestOk : Destination (List ℕ) → Type 0
DestOk (dest i) = id_ok i ≡ true

-- by these rules; the fixed parts of a message need 8 levels
unfoldable pub WellFormedUpTo : Rules → Meaning → Type 0
WellFormedUpTo rules (unidirectional d cs) = Maybe (DialogueOk rules) d × (1 ≤ length cs) × ComponentsOk rules cs
WellFormedUpTo rules (begin o d cs) = OrigOk o × Maybe (DialogueOk rules) d × ComponentsOk rules cs
WellFormedUpTo rules (finish e d cs) = DestOk e × Maybe (DialogueOk rules) d × ComponentsOk rules cs
WellFormedUpTo rules (continue o e d cs) = OrigOk o × DestOk e × Maybe (DialogueOk rules) d × ComponentsOk rules cs
WellFormedUpTo rules (abort e s) = DestOk e × EndingOk rules s

unfoldable pub WellFormed : Meaning → Type 0
WellFormed μ = WellFormedUpTo the93 μ

-- the octets m are a message of the meaning μ
pub record ReadsUpTo (rules : Rules) (m : List ℕ) (μ : Meaning) : Type 0 where
  pub short : length m ≤ most_octets
  pub fine : WellFormedUpTo rules μ
  pub form : Matches document01 (message_form μ) m

abbrev pub Reads : List ℕ → Meaning → Type 0
Reads m μ = ReadsUpTo the93 m μ

-- What may stand in which contents, in document 01's lines and order ("Messages", "Dialogue portion"): which elements are due at a place, by what
-- stands before it in the contents, and whether the contents may end there. No reader is named here. Assumes nothing: these are definitions.
use Rattle.std.specs.Prelude.{ℕ, suc}
use mathlib.Core.{Bool.Bool, Bool.true, Bool.false, Bool.cond, List.List, List.[], List.◌∷◌, Option.Option, Option.none, Option.some}
use lib.{Dec.eqb, Dec.ltb}
use Rattle.base.specs.{Value.same}
use Rattle.primitive.specs.{Primitive.between, Primitive.integer_ok, Primitive.identifier_ok, Primitive.most_integer_octets}
use Rattle.element.specs.{Element.constructor_of, Element.code_zero}
use Rattle.tcap.specs.{Productions.single?, WellFormed.most_transaction_id_octets, WellFormed.most_general_problem, WellFormed.most_invoke_problem, WellFormed.most_result_problem, WellFormed.most_error_problem, WellFormed.most_cause, WellFormed.most_result, WellFormed.most_user_diagnostic, WellFormed.most_provider_diagnostic, WellFormed.most_abort_source}

mutual
  -- what is still to come in some contents
  pub data Parts : Type 0 where
    -- nothing more
    end : Parts
    -- an element that must, or may, stand here, and then the rest
    must may : Choice → Parts → Parts
    -- 06 with an identifier, and what its octets lead to
    name : (List ℕ → Parts) → Parts
    -- zero or more elements
    many : Choice → Parts
    -- one or more components, at most 16; so many stand before
    components : Choice → ℕ → Parts

  -- which element, by its first octet
  pub data Choice : Type 0 where
    tag : ℕ → Holds → Choice
    either : Choice → Choice → Choice
    -- any but universal code 0
    any : Choice

  -- what an element holds
  pub data Holds : Type 0 where
    -- a primitive, and what is asked of its contents
    octets : (List ℕ → Bool) → Holds
    -- the two IDs that a refusal tells: a transaction ID, an integer of one octet
    orig_id invoke_id : Holds
    -- a constructor
    parts : Parts → Holds
    -- a constructor whose contents are the dialogue's: 6B
    dialogue : Parts → Holds

-- The lines of document 01

abbrev pub code : Choice
code = either (tag 0x02 (octets (integer_ok most_integer_octets))) (tag 0x06 (octets identifier_ok))

-- 02 invoke ID, [80 linked ID], code, [parameter]
abbrev pub invoke : Parts
invoke = must (tag 0x02 invoke_id) (may (tag 0x80 (octets (integer_ok 1))) (must code (may any end)))

-- 02 invoke ID, [30 holding code and parameter, both]
abbrev pub result : Parts
result = must (tag 0x02 invoke_id) (may (tag 0x30 (parts (must code (must any end)))) end)

-- 02 invoke ID, code, [parameter]
abbrev pub error : Parts
error = must (tag 0x02 invoke_id) (must code (may any end))

-- 80 (general), 81 (invoke), 82 (return result) or 83 (return error), one octet each
abbrev pub problem : Choice
problem =
    either (tag 0x80 (octets (single? most_general_problem)))
    (either (tag 0x81 (octets (single? most_invoke_problem)))
    (either (tag 0x82 (octets (single? most_result_problem))) (tag 0x83 (octets (single? most_error_problem)))))

-- 02 invoke ID or 05 00, then problem
abbrev pub reject : Parts
reject = must (either (tag 0x02 invoke_id) (tag 0x05 (octets (same [])))) (must problem end)

abbrev pub component : Choice
component = either (tag 0xA1 (parts invoke)) (either (tag 0xA2 (parts result)) (either (tag 0xA3 (parts error)) (either (tag 0xA4 (parts reject)) (tag 0xA7 (parts result)))))

abbrev pub component_portion : Choice
component_portion = tag 0x6C (parts (components component 0))

-- BE holds zero or more elements, each 28 and judged no further than any element
abbrev pub information : Choice
information = tag 0xBE (parts (many (tag 0x28 (parts (many any)))))

abbrev pub version : Choice
version = tag 0x80 (octets (same (0x07 ∷ 0x80 ∷ [])))

-- A1 holding 06
abbrev pub context : Choice
context = tag 0xA1 (parts (must (tag 0x06 (octets identifier_ok)) end))

-- holding 02 01 with 0 to `most`
abbrev pub number : ℕ → ℕ → Choice
number t most = tag t (parts (must (tag 0x02 (octets (single? most))) end))

-- 60: [80 02 07 80], A1 holding 06, [BE]
abbrev pub asked : Choice
asked = tag 0x60 (parts (may version (must context (may information end))))

-- 61: [80 02 07 80], A1 holding 06, A2 holding 02 01 with the result, A3 holding A1 or A2 that holds 02 01 with the diagnostic, [BE]
abbrev pub answered : Choice
answered =
    tag 0x61 (parts (may version (must context (must (number 0xA2 most_result)
    (must (tag 0xA3 (parts (must (either (number 0xA1 most_user_diagnostic) (number 0xA2 most_provider_diagnostic)) end))) (may information end))))))

-- 64: 80 01 with the source, [BE]
abbrev pub aborted : Choice
aborted = tag 0x64 (parts (must (tag 0x80 (octets (single? most_abort_source))) (may information end)))

-- what stands behind the identifier: of the structured dialogue, of the unstructured, of another name
abbrev pub named : Bool → Bool → Choice
named true u = tag 0xA0 (parts (must (either asked (either answered aborted)) end))
named false true = tag 0xA0 (parts (must asked end))
named false false = either (tag 0xA0 (parts (must any end))) (tag 0x81 (octets (λ c. true)))

-- 28: an identifier 06, then one element
abbrev pub external : Parts
external = name (λ n. must (named (same (0x00 ∷ 0x11 ∷ 0x86 ∷ 0x05 ∷ 0x01 ∷ 0x01 ∷ 0x01 ∷ []) n) (same (0x00 ∷ 0x11 ∷ 0x86 ∷ 0x05 ∷ 0x01 ∷ 0x02 ∷ 0x01 ∷ []) n)) end)

abbrev pub dialogue_portion : Choice
dialogue_portion = tag 0x6B (dialogue (must (tag 0x28 (parts external)) end))

abbrev pub destination : Choice
destination = tag 0x49 (octets (between 1 most_transaction_id_octets))

-- [6B] [6C]
abbrev pub portions : Parts
portions = may dialogue_portion (may component_portion end)

-- [6B] 6C
abbrev pub unidirectional : Parts
unidirectional = may dialogue_portion (must component_portion end)

-- 48 [6B] [6C]
abbrev pub begin : Parts
begin = must (tag 0x48 orig_id) portions

-- 49 [6B] [6C]
abbrev pub finish : Parts
finish = must destination portions

-- 48 49 [6B] [6C]
abbrev pub continue : Parts
continue = must (tag 0x48 orig_id) (must destination portions)

-- 49, then nothing, or 4A, or 6B
abbrev pub abort : Parts
abort = must destination (may (either (tag 0x4A (octets (single? most_cause))) dialogue_portion) end)

abbrev pub message : Choice
message = either (tag 0x61 (parts unidirectional)) (either (tag 0x62 (parts begin)) (either (tag 0x64 (parts finish)) (either (tag 0x65 (parts continue)) (tag 0x67 (parts abort)))))

-- What is due

abbrev pub there : {A : Type 0} → Option A → Bool
there none = false
there (some a) = true

abbrev pub or_else : {A : Type 0} → Option A → Option A → Option A
or_else none y = y
or_else (some a) y = some a

-- what the element with first octet a holds, if it is one of these
abbrev pub find : Choice → ℕ → Option Holds
find (tag t h) a = cond (eqb a t) (some h) none
find (either x y) a = or_else (find x a) (find y a)
find any a = cond (code_zero a) none (some (cond (constructor_of a) (parts (many any)) (octets (λ c. true))))

-- the same, if it may stand here
abbrev pub due : Parts → ℕ → Option Holds
due end a = none
due (must x r) a = find x a
due (may x r) a = or_else (find x a) (due r a)
due (name r) a = find (tag 0x06 (octets identifier_ok)) a
due (many x) a = find x a
due (components x k) a = find x a

-- what is to come behind it; c: its contents, if it is a primitive
abbrev pub behind : Parts → ℕ → List ℕ → Parts
behind end a c = end
behind (must x r) a c = r
behind (may x r) a c = cond (there (find x a)) r (behind r a c)
behind (name r) a c = r c
behind (many x) a c = many x
behind (components x k) a c = components x (suc k)

-- the contents may end here
abbrev pub may_end : Parts → Bool
may_end end = true
may_end (must x r) = false
may_end (may x r) = may_end r
may_end (name r) = false
may_end (many x) = true
may_end (components x k) = ltb 0 k

-- some element may stand here, mandatory or optional
abbrev pub some_may : Parts → Bool
some_may end = false
some_may (must x r) = true
some_may (may x r) = true
some_may (name r) = true
some_may (many x) = true
some_may (components x k) = true

-- the position of a component: so many stand before it
abbrev pub position : Parts → Option ℕ
position end = none
position (must x r) = none
position (may x r) = none
position (name r) = none
position (many x) = none
position (components x k) = some k

-- what is asked of a primitive's contents
abbrev pub passes : Holds → List ℕ → Bool
passes (octets fits) c = fits c
passes orig_id c = between 1 most_transaction_id_octets c
passes invoke_id c = integer_ok 1 c
passes (parts r) c = false
passes (dialogue r) c = false

-- what is to come in a constructor
abbrev pub contents_of : Holds → Option Parts
contents_of (octets fits) = none
contents_of orig_id = none
contents_of invoke_id = none
contents_of (parts r) = some r
contents_of (dialogue r) = some r

-- The link that a list of rules gives a message: document 01, "Steering". A rule's kind is a number: 0 for any, or one of the five message tags.
-- Assumes nothing: these are definitions.
use Rattle.std.specs.Prelude.{ℕ, Option as Optional, Some, None, Result, Ok, Err}
use mathlib.Core.{Bool.Bool, Bool.true, Bool.false, Bool.cond, Bool.◌&&◌, Bool.◌||◌, List.List, List.[], List.◌∷◌, Option.Option, Option.none, Option.some}
use lib.{ListN.get_or, Dec.eqb, IntN.ℤ, IntN.pos, IntN.negsuc}
use Rattle.tcap.specs.{declared.Code.Code, declared.ComponentKind.ComponentKind, declared.Record.Record, declared.Refusal.Refusal, Record.blank_row, Record.message_tag, Reading.reading}
use Rattle.steering.specs.declared.{Rule.Rule, Key.Key}

-- What the rules look at in a message: its tag, and the local code of its first component, if that is an Invoke with one

unfoldable pub local_of : Code → Optional ℤ
local_of (Code.Local z) = Some z
local_of (Code.Global s) = None

unfoldable pub invoked : ComponentKind → Optional ℤ
invoked (ComponentKind.Invoke l c p) = local_of c
invoked (ComponentKind.ResultLast h) = None
invoked (ComponentKind.ResultNotLast h) = None
invoked (ComponentKind.ReturnError c p) = None
invoked (ComponentKind.Reject q) = None

-- where there are no components there is no first one
unfoldable pub first_of : ℕ → ComponentKind → Optional ℤ
first_of count first = cond (eqb count 0) None (invoked first)

unfoldable pub key_of : Record → Key
key_of r = record { tag = message_tag r.kind; first = first_of r.count (get_or r.rows 0 blank_row).kind }

unfoldable pub keyed : Result Record Refusal → Result Key Refusal
keyed (Ok r) = Ok (key_of r)
keyed (Err f) = Err f

-- Whether a rule fits

abbrev pub any_kind : ℕ
any_kind = 0

-- the tag is one of the five, so no other number fits
unfoldable pub kind_fits : ℕ → ℕ → Bool
kind_fits asked tag = eqb asked any_kind || eqb asked tag

-- equality of integers
unfoldable pub same_code : ℤ → ℤ → Bool
same_code (pos a) (pos b) = eqb a b
same_code (pos a) (negsuc b) = false
same_code (negsuc a) (pos b) = false
same_code (negsuc a) (negsuc b) = eqb a b

unfoldable pub code_fits : Optional ℤ → Optional ℤ → Bool
code_fits None first = true
code_fits (Some z) None = false
code_fits (Some z) (Some y) = same_code z y

unfoldable pub rule_fits : Rule → ℕ → Optional ℤ → Bool
rule_fits rule tag first = kind_fits rule.kind tag && code_fits rule.code first

-- The first rule that fits gives the link; an unreadable message gets the reader's refusal

unfoldable pub first_fit : List Rule → ℕ → Optional ℤ → Optional ℕ
first_fit [] tag first = None
first_fit (rule ∷ rules) tag first = cond (rule_fits rule tag first) (Some rule.link) (first_fit rules tag first)

unfoldable pub steered_by : Result Key Refusal → List Rule → Result (Optional ℕ) Refusal
steered_by (Ok k) rules = Ok (first_fit rules k.tag k.first)
steered_by (Err f) rules = Err f

unfoldable pub steering : List ℕ → List Rule → Result (Optional ℕ) Refusal
steering message rules = steered_by (keyed (reading message)) rules

-- The values of an answer: the link, or the refusal with its number (`number_of` of its kind), place, originating ID and standard answer; with neither it is "no rule"

unfoldable pub link_of : Result (Optional ℕ) Refusal → Option ℕ
link_of (Ok None) = none
link_of (Ok (Some n)) = some n
link_of (Err f) = none

unfoldable pub refusal_of : Result (Optional ℕ) Refusal → Option Refusal
refusal_of (Ok c) = none
refusal_of (Err f) = some f

-- The rules that octets hold, in the layout of docs/LAYOUT.md: 12 octets a rule. Octets that are no rule fit nothing, and what is left behind the last whole rule is none.
-- Assumes nothing: these are definitions.
use Rattle.std.specs.Prelude.{ℤ, Option as Optional, Some, None, ℕ, zero, suc, ◌/◌, ◌≤◌}
use mathlib.Core.{Path.◌≡◌, Bool.true, Bool.cond, List.List, List.[], List.◌∷◌, List.◌++◌}
use lib.{ListN.length, ListN.take, ListN.drop, ListN.get_or, Dec.leb, Dec.eqb}
use Rattle.base.specs.Number.{number_from, octets_in, top_of, bits_at, holds}
use Rattle.primitive.specs.Primitive.{signed_of}
use Rattle.steering.specs.declared.{Rule.Rule}

abbrev pub rule_size : ℕ
rule_size = 12

-- neither any nor one of the five
abbrev pub no_kind : ℕ
no_kind = 255

-- the second octet is 0 for any code and 1 for a local one; with another the octets are no rule
unfoldable pub kind_in : ℕ → ℕ → ℕ
kind_in kind flag = cond (leb flag 1) kind no_kind

unfoldable pub code_in : ℕ → List ℕ → Optional ℤ
code_in flag c = cond (eqb flag 0) None (Some (signed_of c))

-- the rule that octets begin with
unfoldable pub rule_of : List ℕ → Rule
rule_of o = record { kind = kind_in (get_or o 0 0) (get_or o 1 0); code = code_in (get_or o 1 0) (take 4 (drop 4 o)); link = number_from 0 (take 4 (drop 8 o)) }

unfoldable pub rules_from : ℕ → List ℕ → List Rule
rules_from zero o = []
rules_from (suc n) o = rule_of o ∷ rules_from n (drop rule_size o)

unfoldable pub rules_in : List ℕ → List Rule
rules_in o = rules_from (length o / rule_size) o

-- The octets of rules: what is not used is 0

unfoldable pub code_octets : Optional ℤ → List ℕ
code_octets None = 0 ∷ 0 ∷ 0 ∷ octets_in 4 0
code_octets (Some z) = 1 ∷ 0 ∷ 0 ∷ octets_in 4 (bits_at (top_of 4) z)

unfoldable pub rule_octets : Rule → List ℕ
rule_octets r = r.kind ∷ code_octets r.code ++ octets_in 4 r.link

unfoldable pub rules_octets : List Rule → List ℕ
rules_octets [] = []
rules_octets (r ∷ rs) = rule_octets r ++ rules_octets rs

-- a rule that the layout has room for: its code and its link in four octets each
abbrev pub CodeRoom : Optional ℤ → Type 0
CodeRoom None = Unit {0}
CodeRoom (Some z) = holds 4 z ≡ true

abbrev pub RuleRoom : Rule → Type 0
RuleRoom r = CodeRoom r.code × (r.link ≤ top_of 4)

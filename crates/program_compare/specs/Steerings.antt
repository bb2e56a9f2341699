-- When a steering agrees with what a case expects; the rules of a case as four structs; and a case in the file. Assumes nothing: these are definitions.
use Rattle.std.specs.Prelude.{Result, Ok, Err, Option, Some, None, ℕ, ℤ, ◌+◌, ◌*◌, ◌≡◌, ◌≤◌, cond, ◌&&◌, eqb, leb, List, [], ◌∷◌, ◌++◌, length, drop, slice_index}
use Rattle.std.specs.Option.{is_none}
use Rattle.element.specs.Fault.{number_of}
use Rattle.tcap.specs.declared.{Answer.Answer, Refusal.Refusal}
use Rattle.program_parts.specs.declared.{cases.Verdict.Verdict}
use Rattle.program_parts.specs.Tallied.{Judges}
use Rattle.program_parts.specs.Strings.{string_octets, short_string_octets}
use Rattle.program_parts.specs.Expected.{OrigIs, id_in}
use Rattle.steering.specs.declared.{Rule.Rule}
use Rattle.steering.specs.Steering.{steering}
use Rattle.steering.specs.Layout.{rule_size, no_kind, rule_of, rules_in}
use Rattle.program_compare.specs.declared.steerings.{Expected.Expected}

-- m is the message, x the originating ID of a refusal
unfoldable pub SteeredIs : List ℕ → Result (Option ℕ) Refusal → Option Expected → List ℕ → Type 0
SteeredIs m (Ok None) (Some Expected.NoRule) x = Unit {0}
SteeredIs m (Ok (Some n)) (Some (Expected.Link k)) x = n ≡ k
SteeredIs m (Err f) (Some (Expected.Refused n p a)) x = (number_of f.kind ≡ n) × (f.place ≡ p) × OrigIs m f.orig x × (f.answer ≡ a)
SteeredIs m s e x = ⊥

-- the rule at a place, or one that fits nothing
unfoldable pub rule_or : List ℕ → ℕ → Rule
rule_or o at = cond (leb (at + rule_size) (length o)) (rule_of (drop at o)) (record { kind = no_kind; code = None; link = 0 })

unfoldable pub four_in : List ℕ → List Rule
four_in o = rule_or o 0 ∷ rule_or o 12 ∷ rule_or o 24 ∷ rule_or o 36 ∷ []

-- by rules as octets, and by rules as structs
abbrev pub BothAre : List ℕ → List ℕ → Option Expected → List ℕ → Type 0
BothAre m r e x = SteeredIs m (steering m (rules_in r)) e x × SteeredIs m (steering m (four_in r)) e x

-- two octets as a number
abbrev pub pair_at : List ℕ → ℕ → ℕ
pair_at o i = slice_index o i * 256 + slice_index o (i + 1)

-- a standard answer in the file: 0 for a cause, which has no invoke ID, 1 for a problem
unfoldable pub answer_in : ℕ → ℕ → ℕ → Option ℤ → Option Answer
answer_in kind n k i = cond (eqb kind 0 && is_none i) (Some (Answer.AbortCause n)) (cond (eqb kind 1) (Some (Answer.RejectProblem n k i)) None)

unfoldable pub refused_with : ℕ → ℕ → Option Answer → Option Expected
refused_with n p None = None
refused_with n p (Some a) = Some (Expected.Refused n p a)

unfoldable pub answer_with : ℕ → ℕ → ℕ → Option (Option ℤ) → Option Answer
answer_with kind n k None = None
answer_with kind n k (Some i) = answer_in kind n k i

-- what the last 13 octets of a case say that it expects: 0 for no rule, 1 for a link, 2 for a refusal
unfoldable pub expected_in : List ℕ → Option Expected
expected_in o =
    cond (eqb (slice_index o 0) 0) (Some Expected.NoRule)
    (cond (eqb (slice_index o 0) 1) (Some (Expected.Link (pair_at o 1 * 65536 + pair_at o 3)))
    (cond (eqb (slice_index o 0) 2) (refused_with (slice_index o 5) (pair_at o 6) (answer_with (slice_index o 8) (slice_index o 9) (slice_index o 10) (id_in (slice_index o 11) (slice_index o 12)))) None))

-- a case in the file, with its rules r and what it expects in the octets e, and what is behind it
abbrev pub case_octets : List ℕ → List ℕ → List ℕ → List ℕ → List ℕ → List ℕ
case_octets m r x e t = string_octets m ++ (string_octets r ++ (short_string_octets x ++ (e ++ t)))

-- where the known octets of an input begin with a case, v is the verdict on it, and what is behind it is left
abbrev pub Compares : Option (List ℕ) → Option (List ℕ) → Verdict → Type 0
Compares old new v =
    (m r x e t : List ℕ)
    → length m ≤ 512 → length r ≤ 255 → length x ≤ 255 → length e ≡ 13
    → old ≡ Some (case_octets m r x e t)
    → Judges v (BothAre m r (expected_in e) x) × (new ≡ Some t)

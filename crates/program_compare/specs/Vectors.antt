-- What the file says of a case beside its listing, and when a reading agrees; and a case in the file. Assumes nothing: these are definitions.
use Rattle.std.specs.Prelude.{Result, Ok, Err, ℕ, ◌≡◌, ◌≤◌, List, ◌∷◌, ◌++◌, length, Some}
use Rattle.std.specs.declared.option.Option.{Option}
use Rattle.tcap.specs.declared.{Answer.Answer, Record.Record, Refusal.Refusal}
use Rattle.tcap.specs.Reading.{reading}
use Rattle.listing.specs.Listing.{listing_of}
use Rattle.program_parts.specs.declared.{cases.Verdict.Verdict}
use Rattle.program_parts.specs.Tallied.{Judges}
use Rattle.program_parts.specs.Strings.{string_octets, short_string_octets}
use Rattle.program_parts.specs.Expected.{OrigIs, IdIs}

unfoldable pub AnswerIs : Answer → ℕ → ℕ → Type 0
AnswerIs (Answer.AbortCause n) given octet = given ≡ 0
AnswerIs (Answer.RejectProblem n k i) given octet = IdIs i given octet

unfoldable pub OutcomeIs : List ℕ → Result Record Refusal → List ℕ → ℕ → ℕ → Type 0
OutcomeIs m (Ok r) x given octet = Unit {0}
OutcomeIs m (Err f) x given octet = OrigIs m f.orig x × AnswerIs f.answer given octet

unfoldable pub ReadingIs : List ℕ → Result Record Refusal → List ℕ → List ℕ → ℕ → ℕ → Type 0
ReadingIs m r text x given octet = (listing_of m r ≡ text) × OutcomeIs m r x given octet

-- a case in the file, and what is behind it
abbrev pub case_octets : List ℕ → List ℕ → List ℕ → ℕ → ℕ → List ℕ → List ℕ
case_octets m text x given octet t = string_octets m ++ (string_octets text ++ (short_string_octets x ++ (given ∷ octet ∷ t)))

-- where the known octets of an input begin with a case, v is the verdict on it, and what is behind it is left
abbrev pub Compares : Option (List ℕ) → Option (List ℕ) → Verdict → Type 0
Compares old new v =
    (m text x : List ℕ) (given octet : ℕ) (t : List ℕ)
    → length m ≤ 4096 → length text ≤ 4096 → length x ≤ 255
    → old ≡ Some (case_octets m text x given octet t)
    → Judges v (ReadingIs m (reading m) text x given octet) × (new ≡ Some t)

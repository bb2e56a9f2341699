-- What a file says of the IDs that a refusal gives, and when these agree. Assumes nothing: these are definitions.
use Rattle.std.specs.Prelude.{ℕ, ℤ, ◌+◌, ◌≤◌, ◌≡◌, Bool, true, cond, eqb, List, length, take, drop, Option, Some, None}
use Rattle.base.specs.Number.{signed_at}
use Rattle.tcap.specs.declared.{Span.Span, OrigTransactionId.OrigTransactionId}

-- r is the answer to the question whether P holds
abbrev pub Tells : Bool → Type 0 → Type 0
Tells r P = (r ≡ true → P) × (P → r ≡ true)

unfoldable pub StringIs : List ℕ → Span → List ℕ → Type 0
StringIs m s x = (s.place + s.len ≤ length m) × (take s.len (drop s.place m) ≡ x)

-- no ID is written as no octets
unfoldable pub OrigIs : List ℕ → Option OrigTransactionId → List ℕ → Type 0
OrigIs m None x = length x ≡ 0
OrigIs m (Some o) x = (1 ≤ length x) × StringIs m o.0.octets x

-- given: 0 for no invoke ID, 1 for the one in the octet
unfoldable pub IdIs : Option ℤ → ℕ → ℕ → Type 0
IdIs None given octet = given ≡ 0
IdIs (Some z) given octet = (given ≡ 1) × (z ≡ signed_at 255 octet)

-- the ID that a file gives by these two numbers, if any
unfoldable pub id_in : ℕ → ℕ → Option (Option ℤ)
id_in given octet = cond (eqb given 0) (Some None) (cond (eqb given 1) (Some (Some (signed_at 255 octet))) None)

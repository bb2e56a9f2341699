-- Octets that stand already, and a form put around them; cited by inner contracts.
-- Assumes nothing: these are definitions.
use Rattle.std.specs.Prelude.{ℕ}
use mathlib.Core.{List.List}
use Rattle.base.specs.{inner.Back.Room, inner.Back.PutBack}
use Rattle.element.specs.{Form.Form, Form.exactly, Form.around}
use Rattle.tcap.specs.{Meaning.external}
use Rattle.write_check_row.specs.{Forms.octets_of}

-- under a name; and a PDU with these fields, by its tag
abbrev pub named : List ℕ → List ℕ → Form
named name c = external name (exactly c)

abbrev pub opened : List ℕ → ℕ → List ℕ → Form
opened name tag c = external name (around 0xA0 (around tag (exactly c)))

-- some octets were put from `start` to `at`, and there was room for the form around them
abbrev pub Encloses : (List ℕ → Form) → ℕ → ℕ → List ℕ → Type 0
Encloses f at start new = (old : List ℕ) × (c : List ℕ) × PutBack old at c start new × Room old at (octets_of (f c))

-- whatever octets were put from `start` to `at`, the form around them is put from `first` to `at`
abbrev pub Enclosed : (List ℕ → Form) → ℕ → ℕ → List ℕ → ℕ → List ℕ → Type 0
Enclosed f at start new first newer = (old c : List ℕ) → PutBack old at c start new → PutBack old at (octets_of (f c)) first newer

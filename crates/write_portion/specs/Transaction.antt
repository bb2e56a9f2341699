-- A transaction ID under its tag, or nothing; cited by inner contracts.
-- Assumes nothing: these are definitions.
use Rattle.std.specs.Prelude.{Option as Optional, Some, None}
use Rattle.std.specs.Prelude.{ℕ}
use mathlib.Core.{List.List, List.[]}
use Rattle.element.specs.{Form.Form, Form.exactly, Form.leaf}
use Rattle.tcap.specs.declared.{TransactionId.TransactionId}
use Rattle.tcap.specs.Verdict.{string_octets}

module _ (m : List ℕ) where
  abbrev pub transaction_form : ℕ → Optional TransactionId → Form
  transaction_form tag None = exactly []
  transaction_form tag (Some i) = leaf tag (string_octets m i.octets)

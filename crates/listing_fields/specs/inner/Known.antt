-- The field of a transaction ID, whose tag no longer counts, or of none. Assumes nothing: this is a definition.
use Rattle.std.specs.Prelude.{ℕ, Option as Optional, Some, None}
use mathlib.Core.{List.List}
use Rattle.base.specs.{Text.text}
use Rattle.tcap.specs.declared.{TransactionId.TransactionId}
use Rattle.listing_fields.specs.Fields.{transaction_text}

unfoldable pub known_text : List ℕ → Optional TransactionId → List ℕ
known_text m None = text " -"
known_text m (Some t) = transaction_text m t

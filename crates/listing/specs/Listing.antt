-- The listing of a reading over the octets m of its message, as octets of text: document 01, "Specimens". And what a lent buffer then holds.
-- Assumes nothing: these are definitions.
use Rattle.std.specs.Prelude.{ℕ, Option as Optional, Some, None, Result, Ok, Err}
use mathlib.Core.{Bool.cond, List.List, List.◌++◌}
use lib.{ListN.length, ListN.take, ListN.drop, Dec.leb}
use Rattle.tcap.specs.declared.{Record.Record, Refusal.Refusal}
use Rattle.listing_lines.specs.Lines.{rows_text, head_text, refusal_text}

module _ (m : List ℕ) where
  unfoldable pub record_text : Record → List ℕ
  record_text r = head_text m r ++ rows_text m 0 (take r.count r.rows)

  unfoldable pub listing_of : Result Record Refusal → List ℕ
  listing_of (Ok r) = record_text r
  listing_of (Err f) = refusal_text f

-- A text goes to the front of a buffer that has room for it; otherwise the buffer stays as it was

unfoldable pub listed_of : List ℕ → List ℕ → Optional ℕ
listed_of t out = cond (leb (length t) (length out)) (Some (length t)) None

unfoldable pub buffer_after : List ℕ → List ℕ → List ℕ
buffer_after t out = cond (leb (length t) (length out)) (t ++ drop (length t) out) out

-- What is told of the dialogue, of the transaction IDs and of the message around the components; cited by inner contracts.
-- Assumes nothing: these are definitions.
use Rattle.tcap.specs.declared.DestTransactionId.{DestTransactionId}
use Rattle.tcap.specs.declared.OrigTransactionId.{OrigTransactionId}
use Rattle.std.specs.Prelude.{Option as Optional, Some, None, Ok}
use Rattle.std.specs.Prelude.{ℕ}
use mathlib.Core.{Bool.true, Bool.cond, Bool.◌&&◌, List.List}
use lib.{ListN.length, Dec.leb, Dec.eqb}
use Rattle.element.specs.{Form.then, Form.around}
use Rattle.tcap.specs.{declared.Span.Span, declared.Diagnostic.Diagnostic, declared.Row.Row, declared.Dialogue.Dialogue, declared.MessageKind.MessageKind, declared.TransactionId.TransactionId, Meaning.octet, Meaning.context_form, Meaning.source_form, WellFormed.most_components, WellFormed.most_transaction_id_octets, WellFormed.most_result}
use Rattle.write_check_row.specs.{Forms.info_form, Forms.dialogue_form, Forms.orig_form, Forms.dest_form, Forms.rows_form, Judged.Judged, Judged.rank_of, Judged.judged, Judged.joined, Judged.wrapped, Judged.size_of, Judged.rows_rank, Judged.sized_judged}
use Rattle.tcap.specs.Verdict.{orig_there, dest_there, cause_there, parts_fit, name_ranges, orig_ranges, dest_ranges, source_ranges, dialogue_ranges, lies, option_lies, orig_lies, dest_lies, dialogue_lies, string_octets, name_shaped, info_shaped, outside_shaped, dialogue_shaped}

-- 6B around 28 around a name and what it holds
abbrev pub external_judged : Judged → Judged → Judged
external_judged name held = wrapped (wrapped (joined (wrapped name) held))

-- the same with one of the two names, and A0 around a PDU around its fields
abbrev pub pdu_judged : Judged → Judged
pdu_judged fields = external_judged (Ok 7) (wrapped (wrapped fields))

-- a constructor around one octet of 0 to `most`
abbrev pub number_judged : ℕ → ℕ → Judged
number_judged x most = judged (rank_of true (leb x most) true true) 5

abbrev pub source_judged : Diagnostic → Judged
source_judged s = judged (rank_of true (source_ranges s) true true) (size_of (around 0xA3 (source_form s)))

-- the parts that a kind has, and the count
abbrev pub parts_judged : MessageKind → Optional OrigTransactionId → Optional DestTransactionId → Dialogue → ℕ → Judged
parts_judged k o e d n = judged (rank_of (parts_fit k (orig_there o) (dest_there e) (cause_there d) n) (leb n most_components) true true) 0

-- 6C around so many components, if there are any
abbrev pub portion_of : ℕ → Judged → Judged
portion_of n components = cond (eqb n 0) (Ok 0) (wrapped components)

module _ (m : List ℕ) where
  abbrev pub info_judged : Optional Span → Judged
  info_judged u = judged (rank_of true true (option_lies (length m) u) (info_shaped m u)) (size_of (info_form m u))

  abbrev pub context_judged : Span → Judged
  context_judged n = judged (rank_of true (name_ranges n) (lies (length m) n) (name_shaped m n)) (size_of (context_form (string_octets m n)))

  abbrev pub outside_judged : Span → Judged
  outside_judged n = judged (rank_of true (name_ranges n) (lies (length m) n) (outside_shaped m n)) (length (string_octets m n))

  -- result, diagnostic and information of a response
  abbrev pub answer_judged : ℕ → Diagnostic → Optional Span → Judged
  answer_judged r s u = judged (rank_of true (leb r most_result && source_ranges s) (option_lies (length m) u) (info_shaped m u)) (size_of (then (around 0xA2 (octet 0x02 r)) (then (around 0xA3 (source_form s)) (info_form m u))))

  abbrev pub dialogue_judged : Dialogue → Judged
  dialogue_judged d = judged (rank_of true (dialogue_ranges d) (dialogue_lies (length m) d) (dialogue_shaped m d)) (size_of (dialogue_form m d))

  -- an element with a transaction ID, if there is one
  abbrev pub id_judged : Optional TransactionId → Judged
  id_judged None = Ok 0
  id_judged (Some i) = wrapped (sized_judged m most_transaction_id_octets i.octets)

  abbrev pub orig_judged : Optional OrigTransactionId → Judged
  orig_judged o = judged (rank_of true (orig_ranges o) (orig_lies (length m) o) true) (size_of (orig_form m o))

  abbrev pub dest_judged : Optional DestTransactionId → Judged
  dest_judged e = judged (rank_of true (dest_ranges e) (dest_lies (length m) e) true) (size_of (dest_form m e))

  -- the components with the 6C around them, if there are any
  abbrev pub portion_judged : List Row → Judged
  portion_judged rs = judged (rows_rank m rs) (size_of (rows_form m rs))

  -- behind the two IDs
  abbrev pub behind_judged : Optional OrigTransactionId → Optional DestTransactionId → Judged → Judged
  behind_judged o e rest = joined (orig_judged o) (joined (dest_judged e) rest)

  abbrev pub message_judged : MessageKind → Optional OrigTransactionId → Optional DestTransactionId → Dialogue → ℕ → Judged → Judged
  message_judged k o e d n portion = joined (parts_judged k o e d n) (wrapped (behind_judged o e (joined (dialogue_judged d) portion)))

-- The message around its components: 24 at its kind, 6C, and the record as a whole. Assumes nothing.
use Rattle.tcap.specs.declared.DestTransactionId.{DestTransactionId}
use Rattle.tcap.specs.declared.OrigTransactionId.{OrigTransactionId}
use Rattle.std.specs.Prelude.{Option as Optional, Some, None, Ok, Err, is_some, option_map}
use Prim.Native.Nat.{ℕ, min, ◌≤◌}
use native.Mathlib.Omega.{arith}
use native.Mathlib.Nat.{zero-add}
use mathlib.Core.Path.{◌≡◌, refl}
use mathlib.Core.Bool.{Bool, true, false}
use mathlib.Core.List.{List, [], ◌∷◌}
use lib.ListN.{length}
use lib.Dec.{eqb}
use borrow.Author.Tests.{eqb-true, eqb-false}
use Rattle.element.specs.Form.{shortest, series_form}
use Rattle.tcap.specs.declared.{Row.Row, Dialogue.Dialogue, MessageKind.MessageKind, Record.Record}
use Rattle.tcap.specs.WellFormed.{most_components}
use Rattle.write_check_row.specs.declared.TheConstants.Wrong.{WRONG_PARTS}
use Rattle.tcap.specs.Verdict.{counted, orig_there, dest_there, orig_ranges, dest_ranges, dialogue_ranges, orig_lies, dest_lies, dialogue_lies, dialogue_shaped, all_parts, all_ranges, all_lie, all_shaped}
use Rattle.write_check_row.specs.Forms.{orig_form, dest_form, rows_form, inside_form, parts_form, record_form}
use Rattle.write_check_row.specs.Judged.{rank_of, judged, wrapped, size_of, rows_rank, rows_judged}
use Rattle.write_check_row.proofs.Joining.{join, wrap, then_size, around_size, leaf_size}
use Rattle.write_check_row.proofs.Rows.{rows_none}
use Rattle.write_check_row.proofs.Listed.{over_right}
use Rattle.write_check.specs.Judgements.{id_judged, orig_judged, dest_judged, portion_of, portion_judged, message_judged}

-- the IDs as flags
pub orig_flag : (o : Optional OrigTransactionId) → is_some o ≡ orig_there o
unfolding orig_there
orig_flag None = refl
orig_flag (Some o) = refl

pub dest_flag : (e : Optional DestTransactionId) → is_some e ≡ dest_there e
unfolding dest_there
dest_flag None = refl
dest_flag (Some e) = refl

module _ (m : List ℕ) where
  -- an ID is judged alike under 48 and 49
  pub id_orig : (o : Optional OrigTransactionId) → id_judged m (option_map (λ i. i.0) o) ≡ orig_judged m o
  unfolding rank_of judged orig_ranges orig_lies orig_form shortest
  id_orig None = refl
  id_orig (Some o) = rw (wrap, leaf_size)

  pub id_dest : (e : Optional DestTransactionId) → id_judged m (option_map (λ i. i.0) e) ≡ dest_judged m e
  unfolding rank_of judged dest_ranges dest_lies dest_form shortest
  id_dest None = refl
  id_dest (Some e) = rw (wrap, leaf_size)

  wrapped_some : (rs : List Row) → 1 ≤ length rs → wrapped (rows_judged m rs) ≡ portion_judged m rs
  unfolding rows_form
  wrapped_some [] h = absurd (omega arith)
  wrapped_some (r ∷ rs) h = rw (wrap, around_size)

  none_rows : (rs : List Row) → length rs ≡ 0 → Ok 0 ≡ portion_judged m rs
  unfolding rows_form series_form
  none_rows [] h = rows_none m
  none_rows (r ∷ rs) h = absurd (omega arith)

  -- the rows that count are as many, up to 16
  pub portion_law : (rs : List Row) (n : ℕ) → length rs ≡ min n most_components → portion_of n (rows_judged m rs) ≡ portion_judged m rs
  portion_law rs n h = by_count (eqb n 0) refl
    where
      by_count : (b : Bool) → eqb n 0 ≡ b → portion_of n (rows_judged m rs) ≡ portion_judged m rs
      by_count true e = rw e (none_rows rs (omega (arith, eqb-true n 0 e)))
      by_count false e = rw e (wrapped_some rs (omega (arith, eqb-false n 0 e)))

  pub record_law : (r : Record) → message_judged m r.kind r.orig r.dest r.dialogue r.count (portion_judged m (counted r)) ≡ judged (rank_of (all_parts r) (all_ranges r) (all_lie (length m) r) (all_shaped m r)) (size_of (record_form m r))
  unfolding rows_rank all_parts all_ranges all_lie all_shaped inside_form parts_form
  record_law r = simp (join, wrap, around_size, then_size, zero-add)

  -- a wrong part of a row outranks all else
  pub message_bad : (k : MessageKind) (o : Optional OrigTransactionId) (e : Optional DestTransactionId) (d : Dialogue) (n : ℕ) → message_judged m k o e d n (Err WRONG_PARTS) ≡ Err WRONG_PARTS
  unfolding wrapped
  message_bad k o e d n = rw (over_right true (dialogue_ranges d) (dialogue_lies (length m) d) (dialogue_shaped m d), over_right true (dest_ranges e) (dest_lies (length m) e) true, over_right true (orig_ranges o) (orig_lies (length m) o) true) (over_right _ _ true true 0)

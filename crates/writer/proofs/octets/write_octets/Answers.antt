-- The octets are judged and put row by row, as the record that they stand for. Assumes nothing.
use Rattle.tcap.specs.declared.DestTransactionId.{DestTransactionId}
use Rattle.tcap.specs.declared.OrigTransactionId.{OrigTransactionId}
use Rattle.std.specs.Prelude.{Option as Optional}
use Rattle.std.proofs.lemmas.Result.{err_from_is_err_and}
use Prim.Native.Nat.{ℕ, ◌≤◌}
use native.Mathlib.Omega.{arith}
use mathlib.Core.Path.{◌≡◌, sym, ap, ◌∙◌}
use mathlib.Core.Bool.{true, false}
use mathlib.Core.List.{List}
use lib.ListN.{length, drop}
use Rattle.base.proofs.Backs.{back_length}
use Rattle.tcap.specs.declared.{Dialogue.Dialogue, MessageKind.MessageKind}
use Rattle.write_check_row.specs.Judged.{Judged, rank_of, listed, rows_judged}
use Rattle.write_check.specs.Judgements.{portion_of, message_judged}
use Rattle.write_put.proofs.Parts.{orig_lies_lem, dest_lies_lem, dialogue_lies_lem, rows_lie}
use Rattle.layout.specs.Layout.{record_size, is_head, are_rows, is_record, record_in, rows_in, rows_looked}
use Rattle.writing.proofs.Answers.{full_writes, put_room, put_writes}
use Rattle.writing.proofs.Judgements.{fine_tells, fine_listed, may_be_put}
use Rattle.writing.proofs.Standing.{head_record, no_head, too_short, octets_fit, rows_of, counted_in, are, judgment, octets_judged_lem, octets_write, octets_none, bad_octets}
use Rattle.writer.proofs.octets.write_octets.Goals.{then-octets-lt428-via-then-octets-lt428, then-octets-lt428-via-else-octets-lt428+then-not-is_head}
use Rattle.writer.proofs.octets.write_octets.Goals as goal

-- what is judged of the octets is what is judged of their record
told : (o m : List ℕ) → record_size ≤ length o → is_head o ≡ true → (kind : MessageKind) → kind ≡ (record_in o).kind → (orig : Optional OrigTransactionId) → orig ≡ (record_in o).orig → (dest : Optional DestTransactionId) → dest ≡ (record_in o).dest
    → (dialogue : Dialogue) → dialogue ≡ (record_in o).dialogue → (count : ℕ) → count ≡ (record_in o).count → (looked : ℕ) → looked ≡ rows_looked o
    → (components : Judged) → components ≡ listed (are_rows looked (drop 44 o)) (rows_judged m (rows_in looked (drop 44 o)))
    → (portion : Judged) → portion ≡ portion_of count components → (message : Judged) → message ≡ message_judged m kind orig dest dialogue count portion → message ≡ listed (is_record o) (judgment o m)
told o m long head kind k from g to d talk l count n looked w rows c around p whole e =
    let judged : rows ≡ listed (are o m) (rows_judged m (rows_of o)) = c ∙ ap (λ (n : ℕ). listed (are_rows n (drop 44 o)) (rows_judged m (rows_in n (drop 44 o)))) w in
    e ∙ rw (p, k, g, d, l, n) (octets_judged_lem o m rows judged) ∙ ap (λ b. listed b (judgment o m)) (sym (head_record o long head))

pub returns-then-size-min : goal.returns-then-size-min
unfolding rank_of record_in
returns-then-size-min c =
    let f = fine_listed _ _ _ (sym c.in_ok-size.was ∙ told c.args.octets.now c.args.material.now c.if-octets-lt428.false (sym c.is_head.ensures ∙ c.if-not-is_head.false) _ c.message_kind_in-kind.ensures _ c.orig_in-orig.ensures _ c.dest_in-dest.ensures _ c.dialogue_in-dialogue.ensures _ c.number_at-count.ensures _ c.rows_looked-looked.ensures _ c.rows_judged-components.ensures _ c.portion_judged-portion.ensures _ c.message_judged.ensures) in
    let t = fine_tells _ _ _ f.1 in
    let both = octets_write _ _ _ f.0 (full_writes _ _ (octets_fit c.args.octets.now) t.0 _ t.1 (omega (arith, c.min.ensures, c.if-size-min.true))) in
    record { value = both.0; out_after = both.1 }

pub put_message-requires : goal.put_message-requires
unfolding rank_of record_in
put_message-requires c =
    let o = c.args.octets.now in
    let m = c.args.material.now in
    let f = fine_listed _ _ _ (sym c.in_ok-size.was ∙ told c.args.octets.now c.args.material.now c.if-octets-lt428.false (sym c.is_head.ensures ∙ c.if-not-is_head.false) _ c.message_kind_in-kind.ensures _ c.orig_in-orig.ensures _ c.dest_in-dest.ensures _ c.dialogue_in-dialogue.ensures _ c.number_at-count.ensures _ c.rows_looked-looked.ensures _ c.rows_judged-components.ensures _ c.portion_judged-portion.ensures _ c.message_judged.ensures) in
    let t = fine_tells _ _ _ f.1 in
    let q = may_be_put (record_in o) m _ f.1 (omega (arith, c.min.ensures, c.if-size-min.false)) in
    record {
      in_bounds = (c.if-octets-lt428.false, omega (arith, c.rows_looked-looked.ensures));
      rows_listed = rw c.rows_looked-looked.ensures (sym (head_record o c.if-octets-lt428.false (sym c.is_head.ensures ∙ c.if-not-is_head.false)) ∙ f.0);
      orig_within = rw c.orig_in-orig.ensures (orig_lies_lem m (record_in o) q.1);
      dest_within = rw c.dest_in-dest.ensures (dest_lies_lem m (record_in o) q.1);
      dialogue_within = rw c.dialogue_in-dialogue.ensures (dialogue_lies_lem m (record_in o) q.1);
      rows_within = rw (c.rows_looked-looked.ensures, ← (counted_in o)) (rows_lie m (record_in o) q.1);
      room = rw (c.message_kind_in-kind.ensures, c.orig_in-orig.ensures, c.dest_in-dest.ensures, c.dialogue_in-dialogue.ensures, c.rows_looked-looked.ensures, ← (counted_in o)) (put_room (record_in o) m (octets_fit o) t.0 _ t.1 (omega (arith, c.min.ensures, c.if-size-min.false)));
    }

pub returns : goal.returns
unfolding rank_of record_in
returns c =
    let o = c.args.octets.now in
    let f = fine_listed _ _ _ (sym c.in_ok-size.was ∙ told c.args.octets.now c.args.material.now c.if-octets-lt428.false (sym c.is_head.ensures ∙ c.if-not-is_head.false) _ c.message_kind_in-kind.ensures _ c.orig_in-orig.ensures _ c.dest_in-dest.ensures _ c.dialogue_in-dialogue.ensures _ c.number_at-count.ensures _ c.rows_looked-looked.ensures _ c.rows_judged-components.ensures _ c.portion_judged-portion.ensures _ c.message_judged.ensures) in
    let t = fine_tells _ _ _ f.1 in
    let p = rw (c.message_kind_in-kind.ensures, c.orig_in-orig.ensures, c.dest_in-dest.ensures, c.dialogue_in-dialogue.ensures, c.rows_looked-looked.ensures, ← (counted_in o)) at c.put_message.ensures in
    let both = octets_write _ _ _ f.0 (put_writes _ _ (octets_fit o) t.0 _ t.1 (omega (arith, c.min.ensures, c.if-size-min.false)) p) in
    record { value = both.0; out_after = both.1 }

pub returns-then-octets-lt428 : goal.returns-then-octets-lt428
returns-then-octets-lt428 c =
    let none : is_record c.args.octets.now ≡ false = elim c.then-octets-lt428.branch [
      | then-octets-lt428-via-then-octets-lt428 w ↦ too_short _ w.if-octets-lt428.true
      | then-octets-lt428-via-else-octets-lt428+then-not-is_head w ↦ no_head _ w.if-octets-lt428.false (sym w.is_head.ensures ∙ w.if-not-is_head.true)
    ] in
    let both = octets_none _ _ _ none in
    record { value = both.0; out_after = both.1 }

pub rows_judged-components-requires : goal.rows_judged-components-requires
rows_judged-components-requires c = (c.if-octets-lt428.false, omega (arith, c.rows_looked-looked.ensures))

pub returns-in_err-size : goal.returns-in_err-size
unfolding record_in
returns-in_err-size c =
    let p = err_from_is_err_and c.from_residual.result c.from_residual.ensures.1 in
    let both = bad_octets _ _ _ _ (sym c.in_err-size.was ∙ told c.args.octets.now c.args.material.now c.if-octets-lt428.false (sym c.is_head.ensures ∙ c.if-not-is_head.false) _ c.message_kind_in-kind.ensures _ c.orig_in-orig.ensures _ c.dest_in-dest.ensures _ c.dialogue_in-dialogue.ensures _ c.number_at-count.ensures _ c.rows_looked-looked.ensures _ c.rows_judged-components.ensures _ c.portion_judged-portion.ensures _ c.message_judged.ensures) in
    record { value = rw (p.1, p.2) both.0; out_after = both.1 }

pub shape_of-out : goal.shape_of-out
shape_of-out c = back_length c.put_message.ensures

-- The form of a record on the line is the form of what it means. Assumes nothing.
use Rattle.std.specs.Prelude.{ℤ}
use Rattle.tcap.specs.declared.DestTransactionId.{DestTransactionId}
use Rattle.tcap.specs.declared.OrigTransactionId.{OrigTransactionId}
use Rattle.tcap.specs.declared.Span.{Span}
use Rattle.std.specs.Prelude.{Option as Optional, Some, None}
use Prim.Native.Nat.{ℕ}
use mathlib.Core.Path.{◌≡◌, refl, ◌∙◌}
use mathlib.Core.Bool.{true, false≢true}
use mathlib.Core.Option.{some}
use mathlib.Core.List.{List, [], ◌∷◌}
use Rattle.element.specs.Form.{maybe, exactly, around, series_form}
use Rattle.tcap.specs.declared.{Code.Code, ComponentKind.ComponentKind, Row.Row, Dialogue.Dialogue, Record.Record}
use Rattle.tcap.specs.Meaning.{integer, code_form, holding, id_or_null, component_form, components_form, info_form, dialogue_form, ending_form, orig_form, dest_form, Meaning, written}
use Rattle.tcap.specs.Record.{id_means, linked_means, meaning_of}
use Rattle.tcap.specs.Verdict.{every, counted, id_there, row_parts_fit}
use Rattle.write_check_row.specs.Forms
use Rattle.write_check_row.specs.Forms.{octets_of}
use Rattle.writing.proofs.Parts.{option_in, code_in, both_in, id_in, row_in, rows_in, ending_in, orig_in, dest_in}
use Rattle.writing.proofs.Making.{made_octets}
use Rattle.writing.proofs.Testing.{both_true}
use Rattle.writing.proofs.WellFormed.{found}
use Rattle.tcap.specs.Record.{row_tag}

module _ (m : List ℕ) where
  code_form_lem : (c : Code) → code_form (code_in m c) ≡ Forms.code_form m c
  unfolding Forms.code_form
  code_form_lem (Code.Local z) = refl
  code_form_lem (Code.Global s) = refl

  parameter_form_lem : (u : Optional Span) → maybe exactly (option_in m u) ≡ Forms.parameter_form m u
  unfolding Forms.parameter_form
  parameter_form_lem None = refl
  parameter_form_lem (Some s) = refl

  info_form_lem : (u : Optional Span) → info_form (option_in m u) ≡ Forms.info_form m u
  unfolding Forms.info_form
  info_form_lem None = refl
  info_form_lem (Some s) = refl

  returned_form_lem : (r : Optional (Code × Span)) → maybe holding (both_in m r) ≡ Forms.returned_form m r
  unfolding Forms.returned_form
  returned_form_lem None = refl
  returned_form_lem (Some (c, p)) = rw (code_form_lem c)

  linked_form_lem : (l : Optional ℤ) → maybe (integer 0x80) (linked_means m l) ≡ Forms.linked_form l
  unfolding Forms.linked_form
  linked_form_lem None = refl
  linked_form_lem (Some i) = refl

  null_form : (i : Optional ℤ) → id_or_null (id_means m i) ≡ Forms.id_form i
  unfolding Forms.id_form
  null_form None = refl
  null_form (Some i) = refl

  id_form_lem : (i : Optional ℤ) → id_there i ≡ true → integer 0x02 (id_in m i) ≡ Forms.id_form i
  unfolding Forms.id_form id_there
  id_form_lem None h = absurd (false≢true h)
  id_form_lem (Some i) h = refl

  row_form_lem : (i : Optional ℤ) (k : ComponentKind) → row_parts_fit i k ≡ true → component_form (row_in m i k) ≡ around (row_tag k) (Forms.contents_form m i k)
  unfolding component_form Forms.contents_form row_parts_fit
  row_form_lem i (ComponentKind.Invoke l c p) h = rw (id_form_lem i h, linked_form_lem l, code_form_lem c, parameter_form_lem p)
  row_form_lem i (ComponentKind.ResultLast r) h = rw (id_form_lem i h, returned_form_lem r)
  row_form_lem i (ComponentKind.ResultNotLast r) h = rw (id_form_lem i h, returned_form_lem r)
  row_form_lem i (ComponentKind.ReturnError c p) h = rw (id_form_lem i h, code_form_lem c, parameter_form_lem p)
  row_form_lem i (ComponentKind.Reject q) h = rw (null_form i)

  series_form_lem : (rs : List Row) → every (λ w. row_parts_fit w.id w.kind) rs ≡ true → series_form component_form (rows_in m rs) ≡ series_form (Forms.row_form m) rs
  unfolding series_form every Forms.row_form
  series_form_lem [] h = refl
  series_form_lem (w ∷ rs) h = let z = both_true (row_parts_fit w.id w.kind) _ h in rw (row_form_lem w.id w.kind z.0, series_form_lem rs z.1)

  rows_form_lem : (rs : List Row) → every (λ w. row_parts_fit w.id w.kind) rs ≡ true → components_form (rows_in m rs) ≡ Forms.rows_form m rs
  unfolding components_form Forms.rows_form
  rows_form_lem [] h = refl
  rows_form_lem (w ∷ rs) h = rw (series_form_lem (w ∷ rs) h)

  ending_form_lem : (d : Dialogue) → ending_form (ending_in m d) ≡ Forms.dialogue_form m d
  unfolding ending_form dialogue_form Forms.dialogue_form
  ending_form_lem Dialogue.NoDialogue = refl
  ending_form_lem (Dialogue.Cause n) = refl
  ending_form_lem (Dialogue.Request n u) = rw (info_form_lem u)
  ending_form_lem (Dialogue.Response n r s u) = rw (info_form_lem u)
  ending_form_lem (Dialogue.DialogueAbort r u) = rw (info_form_lem u)
  ending_form_lem (Dialogue.Unidialogue n u) = rw (info_form_lem u)
  ending_form_lem (Dialogue.OutsideElement n e) = refl
  ending_form_lem (Dialogue.OutsideOctets n c) = refl

  orig_form_lem : (o : Optional OrigTransactionId) → maybe orig_form (orig_in m o) ≡ Forms.orig_form m o
  unfolding Forms.orig_form
  orig_form_lem None = refl
  orig_form_lem (Some o) = refl

  dest_form_lem : (e : Optional DestTransactionId) → maybe dest_form (dest_in m e) ≡ Forms.dest_form m e
  unfolding Forms.dest_form
  dest_form_lem None = refl
  dest_form_lem (Some e) = refl

-- what a record means is written as the record's form
pub forms_same : (r : Record) (m : List ℕ) {μ : Meaning} → meaning_of r m ≡ some μ → written μ ≡ octets_of (Forms.record_form m r)
unfolding Forms.parts_form Forms.inside_form
forms_same r m e =
    let (t, v) = found r m e in
    made_octets v ∙ rw (orig_form_lem m r.orig, dest_form_lem m r.dest, ending_form_lem m r.dialogue, rows_form_lem m (counted r) t.rows_fit)

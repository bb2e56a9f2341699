-- A part of a record whose strings lie within the material is well-formed exactly if it is in range and of the right shape; numbers of a type's width
-- are in range. Assumes nothing.
use Rattle.std.specs.Prelude.{ℤ}
use Rattle.tcap.specs.declared.DestTransactionId.{DestTransactionId}
use Rattle.tcap.specs.declared.OrigTransactionId.{OrigTransactionId}
use Rattle.std.specs.Prelude.{Option as Optional, Some, None}
use Prim.Native.Nat.{ℕ, ◌+◌, ◌≤◌}
use mathlib.Core.Path.{◌≡◌, refl, ap}
use mathlib.Core.Logic.Iff
use mathlib.Core.Logic.{◌↔◌}
use mathlib.Core.Bool.{Bool, true, not, ◌&&◌, false≢true, and-eq-true_iff}
use mathlib.Core.List.{List, [], ◌∷◌}
use native.Mathlib.Omega.{arith}
use lib.ListN.{length, length-take, length-drop}
use borrow.Author.Tests.{leb-true, eqb-true, eq-eqb, not-true}
use Rattle.base.specs.Number.{top_of, holds}
use Rattle.base.specs.Value.{Every, Maybe, same}
use Rattle.element.specs.declared.{Walk.Walk}
use Rattle.primitive.specs.Primitive.{between, most_identifier_octets, numbers, identifier_ok}
use Rattle.element.specs.Element.{Element, SeriesOf}
use Rattle.element.proofs.WalkedWhole.{element_walk_is, series_walk_is}
use Rattle.tcap.specs.declared.{Span.Span, Code.Code, Problem.Problem, Diagnostic.Diagnostic, ComponentKind.ComponentKind, Row.Row, Dialogue.Dialogue}
use Rattle.tcap.specs.Meaning.{structured, unstructured}
use Rattle.tcap.specs.WellFormed.{the93, left_at, id_ok, InvokeIdOk, CodeOk, ProblemOk, BothOk, ComponentOk, SourceOk, Outside, DialogueOk, EndingOk, OrigOk, DestOk}
use Rattle.tcap.specs.Record.{id_means, linked_means}
use Rattle.tcap.specs.Verdict.{every, ranges, id_ranges, name_ranges, orig_ranges, dest_ranges, code_ranges, problem_ranges, returned_ranges, row_ranges, source_ranges, dialogue_ranges, lies, option_lies, orig_lies, dest_lies, code_lies, returned_lies, row_lies, dialogue_lies, took_all, is_element, is_series, string_octets, parameter_shaped, info_shaped, name_shaped, outside_shaped, code_shaped, returned_shaped, row_shaped, dialogue_shaped}
use Rattle.layout.specs.Fits.{IdFits, LinkedFits}
use Rattle.writing.specs.Writing.{CodeTyped, ReturnedTyped, KindTyped, RowTyped}
use Rattle.writing.proofs.Parts.{option_in, code_in, both_in, id_in, row_in, rows_in, ending_in, orig_in, dest_in}

-- well-formed exactly if the types hold the numbers and both tests pass
pub record Tested (Ok Fits : Type 0) (ranged shaped : Bool) : Type 0 where
  pub fine : Fits → ranged ≡ true → shaped ≡ true → Ok
  pub told : Ok → Fits × (ranged ≡ true) × (shaped ≡ true)

pub all_true : (a b : Bool) → a ≡ true → b ≡ true → (a && b) ≡ true
all_true a b h k = (and-eq-true_iff a b).1 (h, k)

pub both_true : (a b : Bool) → (a && b) ≡ true → (a ≡ true) × (b ≡ true)
both_true a b h = (and-eq-true_iff a b).0 h

-- beside another part, and beside one that has no range
tested_both : {A B F G : Type 0} {r s t u : Bool} → Tested A F r s → Tested B G t u → Tested (A × B) (F × G) (r && t) (s && u)
tested_both a b =
    record {
      fine = λ f h k. let x = both_true _ _ h in let y = both_true _ _ k in (a.fine f.0 x.0 y.0, b.fine f.1 x.1 y.1);
      told = λ o. let p = a.told o.0 in let q = b.told o.1 in ((p.0, q.0), all_true _ _ p.1 q.1, all_true _ _ p.2 q.2);
    }

tested_shape : {A B F : Type 0} {r s u : Bool} → Tested A F r s → B ↔ (u ≡ true) → Tested (A × B) F r (s && u)
tested_shape j b =
    record {
      fine = λ f h k. let z = both_true _ _ k in (j.fine f h z.0, b.1 z.1);
      told = λ o. let t = j.told o.0 in (t.0, t.1, all_true _ _ t.2 (b.0 o.1));
    }

-- Elements, and series of 28

took_is : (w : Walk) (k : ℕ) → (took_all w k ≡ true) ↔ (w ≡ Walk.Whole k)
unfolding took_all
took_is (Walk.Whole n) k = (λ e. ap Walk.Whole (eqb-true n k e), λ e. eq-eqb n k (cc))
took_is (Walk.Fault f p) k = (λ e. absurd (false≢true e), λ e. let z : ◌≡◌ {A = ℕ} 0 1 = cc in absurd (omega arith))

pub element_is : (l : ℕ) (c : List ℕ) → Element l c ↔ (is_element l c ≡ true)
unfolding is_element
element_is l c = let e = Iff.trans (took_is _ (length c)) (element_walk_is l 0 c) in (e.1, e.0)

pub series_is : (l : ℕ) (c : List ℕ) → SeriesOf 0x28 l c ↔ (is_series l c ≡ true)
unfolding is_series
series_is l c = let e = Iff.trans (took_is _ (length c)) (series_walk_is 0x28 (λ h. omega arith) l 0 c) in (e.1, e.0)

-- Numbers that their types hold

id_is : (m : List ℕ) (i : Optional ℤ) → InvokeIdOk (id_in m i) ↔ IdFits i
unfolding holds top_of
id_is m None = (λ o. tt, λ f. refl)
id_is m (Some i) = Iff.rfl

null_is : (m : List ℕ) (i : Optional ℤ) → Maybe InvokeIdOk (id_means m i) ↔ IdFits i
null_is m None = Iff.rfl
null_is m (Some i) = Iff.rfl

linked_is : (m : List ℕ) (l : Optional ℤ) → Maybe InvokeIdOk (linked_means m l) ↔ LinkedFits l
linked_is m None = Iff.rfl
linked_is m (Some i) = Iff.rfl

problem_is : (q : Problem) → ProblemOk q ↔ (problem_ranges q ≡ true)
unfolding problem_ranges
problem_is (Problem.General n) = Iff.rfl
problem_is (Problem.OfInvoke n) = Iff.rfl
problem_is (Problem.OfResult n) = Iff.rfl
problem_is (Problem.OfError n) = Iff.rfl

source_is : (s : Diagnostic) → SourceOk s ↔ (source_ranges s ≡ true)
unfolding source_ranges
source_is (Diagnostic.ByUser n) = Iff.rfl
source_is (Diagnostic.ByProvider n) = Iff.rfl

module _ (m : List ℕ) where
  -- Strings

  pub length_in_lem : (s : Span) → lies (length m) s ≡ true → length (string_octets m s) ≡ s.len
  unfolding lies string_octets
  length_in_lem s h = let k : s.place + s.len ≤ length m = leb-true _ _ h in simp (length-take, length-drop) (omega arith)

  id_range : (s : Span) → lies (length m) s ≡ true → id_ok (string_octets m s) ≡ id_ranges s
  unfolding id_ok ranges
  id_range s h = rw (length_in_lem s h)

  name_is : (s : Span) → lies (length m) s ≡ true → Tested (identifier_ok (string_octets m s) ≡ true) (Unit {0}) (name_ranges s) (name_shaped m s)
  unfolding ranges identifier_ok
  name_is s h = record { fine = λ f r k. k; told = λ o. (tt, rw (length_in_lem s h) at (both_true (between 1 most_identifier_octets (string_octets m s)) (numbers (string_octets m s) true) o).0, o) }

  outside_is : (s : Span) → lies (length m) s ≡ true → Tested (Outside (string_octets m s)) (Unit {0}) (name_ranges s) (outside_shaped m s)
  outside_is s h =
      let a : Bool = same structured (string_octets m s) in
      let b : Bool = same unstructured (string_octets m s) in
      record {
        fine = λ f r k. let z = both_true _ _ k in let y = both_true _ _ z.1 in (z.0, not-true a y.0, not-true b y.1);
        told = λ o. (tt, ((name_is s h).told o.0).1, all_true _ _ o.0 (all_true _ _ (ap not o.1) (ap not o.2)));
      }

  -- Parts

  pub orig_is_lem : (o : Optional OrigTransactionId) → orig_lies (length m) o ≡ true → Maybe OrigOk (orig_in m o) ↔ (orig_ranges o ≡ true)
  unfolding orig_lies orig_ranges
  orig_is_lem None h = (λ x. refl, λ x. tt)
  orig_is_lem (Some o) h = rw (id_range o.0.octets h) Iff.rfl

  pub dest_is_lem : (e : Optional DestTransactionId) → dest_lies (length m) e ≡ true → Maybe DestOk (dest_in m e) ↔ (dest_ranges e ≡ true)
  unfolding dest_lies dest_ranges
  dest_is_lem None h = (λ x. refl, λ x. tt)
  dest_is_lem (Some e) h = rw (id_range e.0.octets h) Iff.rfl

  code_is : (c : Code) → code_lies (length m) c ≡ true → Tested (CodeOk (code_in m c)) (CodeTyped c) (code_ranges c) (code_shaped m c)
  unfolding code_lies code_ranges code_shaped
  code_is (Code.Local z) h = record { fine = λ f r k. f; told = λ o. (o, refl, refl) }
  code_is (Code.Global s) h = name_is s h

  parameter_is : (u : Optional Span) → Maybe (Element (left_at the93 4)) (option_in m u) ↔ (parameter_shaped m u ≡ true)
  unfolding parameter_shaped
  parameter_is None = (λ x. refl, λ x. tt)
  parameter_is (Some s) = element_is _ (string_octets m s)

  info_is : (u : Optional Span) → Maybe (SeriesOf 0x28 (left_at the93 7)) (option_in m u) ↔ (info_shaped m u ≡ true)
  unfolding info_shaped
  info_is None = (λ x. refl, λ x. tt)
  info_is (Some s) = series_is _ (string_octets m s)

  both_is : (r : Optional (Code × Span)) → returned_lies (length m) r ≡ true → Tested (Maybe (BothOk the93) (both_in m r)) (ReturnedTyped r) (returned_ranges r) (returned_shaped m r)
  unfolding returned_lies returned_ranges returned_shaped
  both_is None h = record { fine = λ f r k. tt; told = λ o. (tt, refl, refl) }
  both_is (Some (c, p)) h = tested_shape (code_is c (both_true _ _ h).0) (element_is _ (string_octets m p))

  coded_is : (c : Code) (u : Optional Span) → (code_lies (length m) c && option_lies (length m) u) ≡ true
      → Tested (CodeOk (code_in m c) × Maybe (Element (left_at the93 4)) (option_in m u)) (CodeTyped c) (code_ranges c) (code_shaped m c && parameter_shaped m u)
  coded_is c u h = tested_shape (code_is c (both_true _ _ h).0) (parameter_is u)

  result_is : (i : Optional ℤ) (r : Optional (Code × Span)) → returned_lies (length m) r ≡ true → Tested (InvokeIdOk (id_in m i) × Maybe (BothOk the93) (both_in m r)) (IdFits i × ReturnedTyped r) (returned_ranges r) (returned_shaped m r)
  result_is i r h =
      let j = both_is r h in
      record { fine = λ f g k. ((id_is m i).1 f.0, j.fine f.1 g k); told = λ o. let q = j.told o.1 in (((id_is m i).0 o.0, q.0), q.1, q.2) }

  row_is : (i : Optional ℤ) (k : ComponentKind) → row_lies (length m) k ≡ true → Tested (ComponentOk the93 (row_in m i k)) (IdFits i × KindTyped k) (row_ranges k) (row_shaped m k)
  unfolding row_lies row_ranges row_shaped ComponentOk
  row_is i (ComponentKind.Invoke l c p) h =
      let j = coded_is c p h in
      record {
        fine = λ f r s. let q = j.fine f.1.1 r s in ((id_is m i).1 f.0, (linked_is m l).1 f.1.0, q.0, q.1);
        told = λ o. let q = j.told (o.2, o.3) in (((id_is m i).0 o.0, ((linked_is m l).0 o.1, q.0)), q.1, q.2);
      }
  row_is i (ComponentKind.ReturnError c p) h =
      let j = coded_is c p h in
      record {
        fine = λ f r s. let q = j.fine f.1 r s in ((id_is m i).1 f.0, q.0, q.1);
        told = λ o. let q = j.told (o.1, o.2) in (((id_is m i).0 o.0, q.0), q.1, q.2);
      }
  row_is i (ComponentKind.ResultLast r) h = result_is i r h
  row_is i (ComponentKind.ResultNotLast r) h = result_is i r h
  row_is i (ComponentKind.Reject q) h =
      record {
        fine = λ f r s. ((null_is m i).1 f.0, (problem_is q).1 r);
        told = λ o. (((null_is m i).0 o.0, tt), (problem_is q).0 o.1, refl);
      }

  named_is : (n : Span) (u : Optional Span) → (lies (length m) n && option_lies (length m) u) ≡ true
      → Tested ((identifier_ok (string_octets m n) ≡ true) × Maybe (SeriesOf 0x28 (left_at the93 7)) (option_in m u)) (Unit {0}) (name_ranges n) (name_shaped m n && info_shaped m u)
  named_is n u h = tested_shape (name_is n (both_true _ _ h).0) (info_is u)

  pub ending_is : (d : Dialogue) → dialogue_lies (length m) d ≡ true → Tested (EndingOk the93 (ending_in m d)) (Unit {0}) (dialogue_ranges d) (dialogue_shaped m d)
  unfolding dialogue_lies dialogue_ranges dialogue_shaped DialogueOk
  ending_is Dialogue.NoDialogue h = record { fine = λ f r k. tt; told = λ o. (tt, refl, refl) }
  ending_is (Dialogue.Cause n) h = record { fine = λ f r k. r; told = λ o. (tt, o, refl) }
  ending_is (Dialogue.Request n u) h = named_is n u h
  ending_is (Dialogue.Unidialogue n u) h = named_is n u h
  ending_is (Dialogue.Response n r s u) h =
      let j = named_is n u h in
      record {
        fine = λ f g k. let z = both_true _ _ g in let y = both_true _ _ z.1 in let q = j.fine tt z.0 k in (q.0, y.0, (source_is s).1 y.1, q.1);
        told = λ o. let q = j.told (o.0, o.3) in (tt, all_true _ _ q.1 (all_true _ _ o.1 ((source_is s).0 o.2)), q.2);
      }
  ending_is (Dialogue.DialogueAbort r u) h = record { fine = λ f g k. (g, (info_is u).1 k); told = λ o. (tt, o.0, (info_is u).0 o.1) }
  ending_is (Dialogue.OutsideElement n e) h = tested_shape (outside_is n (both_true _ _ h).0) (element_is _ (string_octets m e))
  ending_is (Dialogue.OutsideOctets n c) h = outside_is n (both_true _ _ h).0

  pub rows_are_lem : (rs : List Row) → every (λ w. row_lies (length m) w.kind) rs ≡ true
      → Tested (Every (ComponentOk the93) (rows_in m rs)) (Every RowTyped rs) (every (λ w. row_ranges w.kind) rs) (every (λ w. row_shaped m w.kind) rs)
  unfolding every Every RowTyped
  rows_are_lem [] h = record { fine = λ f r k. tt; told = λ o. (tt, refl, refl) }
  rows_are_lem (w ∷ rs) h = let z = both_true _ _ h in tested_both (row_is w.id w.kind z.0) (rows_are_lem rs z.1)

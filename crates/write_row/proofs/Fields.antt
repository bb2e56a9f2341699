-- The octets of a row's fields, and what is told of each where a row lies in the material. Assumes nothing.
use Rattle.std.specs.Prelude.{ℤ}
use Rattle.std.specs.Prelude.{Option as Optional, Some}
use Prim.Native.Nat.{ℕ, ◌<◌}
use native.Mathlib.Omega.{arith}
use mathlib.Core.Path.{◌≡◌, refl, ◌∙◌}
use mathlib.Core.Bool.{Bool, true, false, and-eq-true_iff, ◌&&◌}
use mathlib.Core.List.{List, [], ◌∷◌, ◌++◌}
use lib.Dec.{leb, eqb}
use borrow.Author.Tests.{eqb-true, eqb-false, leb-true}
use Rattle.base.specs.Number.{top_of, signed_at}
use Rattle.base.specs.inner.Back.{Room}
use Rattle.base.proofs.Numbers.{signed_small, bits_signed}
use Rattle.base.proofs.Backs.{room_last}
use Rattle.element.specs.Form.{then, shortest}
use Rattle.tcap.specs.declared.{Span.Span, Code.Code, ComponentKind.ComponentKind, Row.Row}
use Rattle.tcap.specs.Meaning.{integer, problem_form}
use Rattle.tcap.specs.Verdict.{lies, option_lies, code_lies, returned_lies, string_octets}
use Rattle.write_check_row.specs.Forms.{id_form, linked_form, code_form, parameter_form, returned_form, contents_form, row_form, octets_of}
use Rattle.layout.specs.Layout.{is_problem_tag, problem_in}
use Rattle.write_head.proofs.Heads.{room_inside}
use Rattle.write_head.proofs.Lengths.{octet_octets}
use Rattle.write_head.proofs.Integers.{small_parts}
use Rattle.write_check_row.specs.Forms.{rest_form}
use Rattle.tcap.specs.Record.{row_tag}

-- an octet for a number of eight bits is the number's one octet
pub signed_parts : (tag n : ℕ) → n < 256 → octets_of (integer tag (signed_at (top_of 1) n)) ≡ tag ∷ 1 ∷ n ∷ []
unfolding top_of
signed_parts tag n h = small_parts tag (signed_at 255 n) (omega (arith, signed_small 255 n)) ∙ rw (bits_signed 255 n (omega arith))

pub problem_parts : (x n : ℕ) → is_problem_tag x ≡ true → octets_of (problem_form (problem_in x n)) ≡ x ∷ 1 ∷ n ∷ []
unfolding problem_in
problem_parts x n h = by (eqb x 0x80) (eqb x 0x81) (eqb x 0x82) refl refl refl
  where
    by : (a b d : Bool) → eqb x 0x80 ≡ a → eqb x 0x81 ≡ b → eqb x 0x82 ≡ d → octets_of (problem_form (problem_in x n)) ≡ x ∷ 1 ∷ n ∷ []
    by true b d e f g = rw (eqb-true x 0x80 e) (octet_octets 0x80 n)
    by false true d e f g = rw (eqb-true x 0x81 f) (octet_octets 0x81 n)
    by false false true e f g = rw (eqb-true x 0x82 g) (octet_octets 0x82 n)
    by false false false e f g =
        let t = (and-eq-true_iff (leb 0x80 x) (leb x 0x83)).0 h in
        let k : x ≡ 0x83 = omega (arith, leb-true 0x80 x t.0, leb-true x 0x83 t.1, eqb-false x 0x80 e, eqb-false x 0x81 f, eqb-false x 0x82 g) in
        rw k (octet_octets 0x83 n)

pub both_lie : (n : ℕ) (c : Code) (p : Span) → returned_lies n (Some (c, p)) ≡ true → (code_lies n c ≡ true) × (lies n p ≡ true)
unfolding returned_lies
both_lie n c p h = (and-eq-true_iff (code_lies n c) (lies n p)).0 h

pub coded_lie : (n : ℕ) (c : Code) (p : Optional Span) → code_lies n c && option_lies n p ≡ true → (code_lies n c ≡ true) × (option_lies n p ≡ true)
coded_lie n c p h = (and-eq-true_iff (code_lies n c) (option_lies n p)).0 h

module _ (m : List ℕ) where
  pub contents_parts : (i : Optional ℤ) (k : ComponentKind) → octets_of (contents_form m i k) ≡ octets_of (id_form i) ++ octets_of (rest_form m k)
  unfolding contents_form rest_form shortest
  contents_parts i (ComponentKind.Invoke l c p) = refl
  contents_parts i (ComponentKind.ResultLast r) = refl
  contents_parts i (ComponentKind.ResultNotLast r) = refl
  contents_parts i (ComponentKind.ReturnError c p) = refl
  contents_parts i (ComponentKind.Reject q) = refl

  -- the room of code and parameter, behind a linked ID
  pub coded_room : (l : Optional ℤ) (c : Code) (p : Optional Span) {d : List ℕ} {at : ℕ} → Room d at (octets_of (rest_form m (ComponentKind.Invoke l c p))) → Room d at (octets_of (then (code_form m c) (parameter_form m p)))
  unfolding rest_form shortest
  coded_room l c p r = room_last (octets_of (linked_form l)) r

  -- and of what is in a 30, and in a component
  pub both_inside : (c : Code) (p : Span) {d : List ℕ} {at : ℕ} → Room d at (octets_of (returned_form m (Some (c, p)))) → Room d at (octets_of (code_form m c) ++ string_octets m p)
  unfolding returned_form shortest
  both_inside c p r = room_inside 0x30 (octets_of (code_form m c) ++ string_octets m p) r

  pub row_inside : (w : Row) {d : List ℕ} {at : ℕ} → Room d at (octets_of (row_form m w)) → Room d at (octets_of (id_form w.id) ++ octets_of (rest_form m w.kind))
  unfolding row_form shortest
  row_inside w r = room_inside (row_tag w.kind) (octets_of (id_form w.id) ++ octets_of (rest_form m w.kind)) (rw contents_parts at r)

-- What the octets of a row stand for, by the tag that is their first. Assumes nothing.
use Prim.Native.Nat.{ℕ}
use mathlib.Core.Path.{◌≡◌, refl, sym}
use mathlib.Core.Logic.{◌≢◌}
use mathlib.Core.Bool.{Bool, true, false, and-eq-true_iff, false≢true}
use mathlib.Core.List.{List}
use lib.ListN.{get_or}
use lib.Dec.{eqb}
use borrow.Author.Tests.{ne_eqb, eqb-true}
use Rattle.tcap.specs.declared.ComponentKind.{ComponentKind}
use Rattle.tcap.specs.Verdict.{returned_lies, row_lies}
use Rattle.write_check_row.specs.Forms.{returned_form}
use Rattle.layout.specs.Layout.{linked_in, code_at, parameter_at, returned_in, is_problem_tag, problem_in, is_flag, is_unlinked, is_kind, kind_in, is_row, row_in}
use Rattle.write_check_row.specs.Forms.{rest_form}
use Rattle.tcap.specs.Record.{row_tag}

module _ (x : ℕ) (l : List ℕ) where
  pub kind_invoke : x ≡ 0xA1 → kind_in x l ≡ ComponentKind.Invoke (linked_in (get_or l 3 0) (get_or l 4 0)) (code_at l) (parameter_at l)
  unfolding kind_in
  kind_invoke e = rw e

  pub kind_error : x ≡ 0xA3 → kind_in x l ≡ ComponentKind.ReturnError (code_at l) (parameter_at l)
  unfolding kind_in
  kind_error e = rw e

  pub kind_reject : x ≡ 0xA4 → kind_in x l ≡ ComponentKind.Reject (problem_in (get_or l 5 0) (get_or l 7 0))
  unfolding kind_in
  kind_reject e = rw e

  -- the tag of a problem is one of four
  pub reject_problem : x ≡ 0xA4 → is_kind x l ≡ true → is_problem_tag (get_or l 5 0) ≡ true
  unfolding is_kind is_unlinked
  reject_problem e h = by (eqb (get_or l 3 0) 0) refl
    where
      by : (a : Bool) → eqb (get_or l 3 0) 0 ≡ a → is_problem_tag (get_or l 5 0) ≡ true
      by true f = ((and-eq-true_iff (eqb (get_or l 6 0) 0) (is_problem_tag (get_or l 5 0))).0 (rw (e, f) at h)).1
      by false f = absurd (false≢true (rw (e, f) at h))

  -- any other is a return result, last or not
  pub rest_returned : (m : List ℕ) (n : ℕ) → x ≢ 0xA1 → x ≢ 0xA3 → x ≢ 0xA4 → (rest_form m (kind_in x l) ≡ returned_form m (returned_in l)) × (row_lies n (kind_in x l) ≡ returned_lies n (returned_in l))
  unfolding kind_in rest_form row_lies
  rest_returned m n a b d = by (eqb x 0xA2) refl
    where
      by : (t : Bool) → eqb x 0xA2 ≡ t → (rest_form m (kind_in x l) ≡ returned_form m (returned_in l)) × (row_lies n (kind_in x l) ≡ returned_lies n (returned_in l))
      by true e = rw (ne_eqb _ _ a, e) (refl, refl)
      by false e = rw (ne_eqb _ _ a, e, ne_eqb _ _ b, ne_eqb _ _ d) (refl, refl)

  kind_tag : is_kind x l ≡ true → row_tag (kind_in x l) ≡ x
  unfolding is_kind is_unlinked kind_in
  kind_tag h = go (eqb x 0xA1) (eqb x 0xA2) (eqb x 0xA3) (eqb x 0xA4) (eqb x 0xA7) refl refl refl refl refl
    where
      none : eqb x 0xA1 ≡ false → eqb x 0xA2 ≡ false → eqb x 0xA3 ≡ false → eqb x 0xA4 ≡ false → eqb x 0xA7 ≡ false → (a : Bool) → eqb (get_or l 3 0) 0 ≡ a → row_tag (kind_in x l) ≡ x
      none p q r s t true g = absurd (false≢true (rw (p, g, q, r, s, t) at h))
      none p q r s t false g = absurd (false≢true (rw (p, g) at h))

      go : (a b d e f : Bool) → eqb x 0xA1 ≡ a → eqb x 0xA2 ≡ b → eqb x 0xA3 ≡ d → eqb x 0xA4 ≡ e → eqb x 0xA7 ≡ f → row_tag (kind_in x l) ≡ x
      go true b d e f p q r s t = rw p (sym (eqb-true x 0xA1 p))
      go false true d e f p q r s t = rw (p, q) (sym (eqb-true x 0xA2 q))
      go false false true e f p q r s t = rw (p, q, r) (sym (eqb-true x 0xA3 r))
      go false false false true f p q r s t = rw (p, q, r, s) (sym (eqb-true x 0xA4 s))
      go false false false false true p q r s t = rw (p, q, r, s) (sym (eqb-true x 0xA7 t))
      go false false false false false p q r s t = none p q r s t (eqb (get_or l 3 0) 0) refl

module _ (l : List ℕ) (h : is_row l ≡ true) where
  pub row_kind : is_kind (get_or l 0 0) l ≡ true
  unfolding is_row
  row_kind = ((and-eq-true_iff (is_flag (get_or l 1 0)) (is_kind (get_or l 0 0) l)).0 h).1

  pub row_tag_lem : row_tag (row_in l).kind ≡ get_or l 0 0
  unfolding row_in
  row_tag_lem = kind_tag (get_or l 0 0) l row_kind

-- Parts as octets say them: an octet that is not listed outranks all else. Assumes nothing.
use Rattle.std.specs.Prelude.{Option as Optional, Some, None, Ok, Err}
use Prim.Native.Nat.{ℕ, zero, suc, ◌+◌, ◌*◌, ◌≤◌, ◌<◌}
use native.Mathlib.Omega.{arith}
use native.Mathlib.Numerals.{add-one}
use mathlib.Core.Path.{◌≡◌, refl, sym, ap, ◌∙◌}
use mathlib.Core.Bool.{Bool, true, false, cond, ◌&&◌, and-true, and_assoc}
use mathlib.Core.List.{List}
use lib.ListN.{length, take, drop, get_or}
use lib.Seq.{drop-drop}
use lib.Dec.{leb, eqb}
use lib.IntN.{ℤ}
use borrow.Author.Tests.{lt-leb, ne_eqb, leb-true}
use Rattle.base.specs.Number.{top_of, signed_at}
use Rattle.base.proofs.Numbers.{signed_small}
use Rattle.element.specs.Form.{then}
use Rattle.tcap.specs.declared.{Problem.Problem, ComponentKind.ComponentKind, Row.Row}
use Rattle.tcap.specs.Meaning.{integer}
use Rattle.layout.specs.Layout.{head_size, row_size, octet, is_flag, id_in, linked_in, code_at, parameter_at, is_problem_tag, problem_in, returned_in, is_kind, kind_in, is_row, row_in, are_rows}
use Rattle.write_check_row.specs.declared.Wrong.{Wrong}
use Rattle.write_check_row.specs.declared.TheConstants.Wrong.{WRONG_PARTS}
use Rattle.tcap.specs.Verdict.{id_there, row_parts_fit, row_ranges, row_lies, row_shaped}
use Rattle.write_check_row.specs.Forms.{id_form, rest_form, contents_form, row_form}
use Rattle.write_check_row.specs.Judged.{Judged, rank_of, size_cap, judged, joined, whole_size, wrapped, size_of, listed, rest_judged, row_judged, rows_rank, rows_judged}
use Rattle.write_check_row.proofs.Joining.{join, wrap, size_short, then_size, around_size, leaf_size}
use Rattle.write_check_row.proofs.Leaves.{id_size}
use Rattle.unpack.proofs.Rows.{rows_from}
use Rattle.write_check_row.proofs.Rows.{rows_step}

-- 24 is the worst

pub over_right : (p v s h : Bool) (n : ℕ) → joined (judged (rank_of p v s h) n) (Err WRONG_PARTS) ≡ Err WRONG_PARTS
unfolding rank_of judged joined
over_right true true true true n = refl
over_right true true true false n = refl
over_right true true false h n = refl
over_right true false s h n = refl
over_right false v s h n = refl

over_left : (p v s h : Bool) (n : ℕ) → joined (Err WRONG_PARTS) (judged (rank_of p v s h) n) ≡ Err WRONG_PARTS
unfolding rank_of judged joined
over_left true true true true n = refl
over_left true true true false n = refl
over_left true true false h n = refl
over_left true false s h n = refl
over_left false v s h n = refl

listed_both : (a b : Bool) (x y : Judged) → joined x (Err WRONG_PARTS) ≡ Err WRONG_PARTS → joined (Err WRONG_PARTS) y ≡ Err WRONG_PARTS → joined (listed a x) (listed b y) ≡ listed (a && b) (joined x y)
unfolding joined
listed_both true true x y h i = refl
listed_both true false x y h i = h
listed_both false true x y h i = i
listed_both false false x y h i = refl

-- two parts, one after the other
module _ (a b p v s h p' v' s' h' : Bool) (n k : ℕ) where
  pub listed_join : joined (listed a (judged (rank_of p v s h) n)) (listed b (judged (rank_of p' v' s' h') k)) ≡ listed (a && b) (judged (rank_of (p && p') (v && v') (s && s') (h && h')) (n + k))
  listed_join = listed_both a b _ _ (over_right p v s h n) (over_left p' v' s' h' k) ∙ ap (listed (a && b)) (join p v s h p' v' s' h' n k)

-- the same if the second chooses nothing
module _ (a p v s h p' v' s' h' : Bool) (n k : ℕ) where
  pub listed_then : joined (listed a (judged (rank_of p v s h) n)) (judged (rank_of p' v' s' h') k) ≡ listed a (judged (rank_of (p && p') (v && v') (s && s') (h && h')) (n + k))
  listed_then = listed_join a true p v s h p' v' s' h' n k ∙ rw (and-true)

-- so many octets before a part
pub fine_then : (n : ℕ) → n < size_cap → (b : Bool) (k : Optional Wrong) (l : ℕ) → joined (Ok n) (listed b (judged k l)) ≡ listed b (judged k (n + l))
unfolding judged joined
fine_then n i true None l = ap Ok (omega arith)
fine_then n i true (Some k) l = refl
fine_then n i false k l = refl

pub listed_wrap : (b : Bool) (k : Optional Wrong) (n : ℕ) → wrapped (listed b (judged k n)) ≡ listed b (judged k (whole_size n))
unfolding wrapped
listed_wrap true k n = wrap k n
listed_wrap false k n = refl

-- neither 0 nor 1; none of 80 to 83
pub flag_none : (x : ℕ) → (x ≡ 0 → ⊥) → (x ≡ 1 → ⊥) → is_flag x ≡ false
flag_none x a b = lt-leb x 1 (omega arith)

pub flag_zero : (x : ℕ) → x ≤ 1 → (x ≡ 1 → ⊥) → x ≡ 0
flag_zero x h a = omega arith

past : (k x : ℕ) → k ≤ x → (x ≡ k → ⊥) → suc k ≤ x
past k x h a = omega arith

pub problem_none : (x : ℕ) → (x ≡ 0x80 → ⊥) → (x ≡ 0x81 → ⊥) → (x ≡ 0x82 → ⊥) → (x ≡ 0x83 → ⊥) → is_problem_tag x ≡ false
problem_none x a b c d = by (leb 0x80 x) refl
  where
    by : (e : Bool) → leb 0x80 x ≡ e → is_problem_tag x ≡ false
    by true e = rw (e, lt-leb x 0x83 (past 0x83 x (past 0x82 x (past 0x81 x (past 0x80 x (leb-true 0x80 x e) a) b) c) d))
    by false e = rw e

-- A component behind its ID

contents_rest : (m : List ℕ) (i : Optional ℤ) (k : ComponentKind) → contents_form m i k ≡ then (id_form i) (rest_form m k)
unfolding contents_form rest_form
contents_rest m i (ComponentKind.Invoke l c p) = refl
contents_rest m i (ComponentKind.ResultLast r) = refl
contents_rest m i (ComponentKind.ResultNotLast r) = refl
contents_rest m i (ComponentKind.ReturnError c p) = refl
contents_rest m i (ComponentKind.Reject q) = refl

-- an ID is of 8 bits
pub octet_id : (t n : ℕ) → size_of (integer t (signed_at (top_of 1) n)) ≡ 3
unfolding top_of
octet_id t n = id_size t (signed_at 255 n) (omega (arith, signed_small 255 n))

id_parts_lem : (z : ℤ) (k : ComponentKind) → row_parts_fit (Some z) k ≡ true
unfolding row_parts_fit id_there
id_parts_lem z (ComponentKind.Invoke l c p) = refl
id_parts_lem z (ComponentKind.ResultLast r) = refl
id_parts_lem z (ComponentKind.ResultNotLast r) = refl
id_parts_lem z (ComponentKind.ReturnError c p) = refl
id_parts_lem z (ComponentKind.Reject q) = refl

module _ (m : List ℕ) where
  row_rest : (i : Optional ℤ) (k : ComponentKind) → row_judged m (record { id = i; kind = k }) ≡ judged (rank_of (row_parts_fit i k) (row_ranges k) (row_lies (length m) k) (row_shaped m k)) (whole_size (size_of (id_form i) + size_of (rest_form m k)))
  unfolding row_form
  row_rest i k = rw (around_size, contents_rest m i k, then_size)

  -- the ID takes three octets, null two
  id_listed : (n : ℕ) (k : ComponentKind) (b : Bool) → wrapped (joined (Ok 3) (listed b (rest_judged m k))) ≡ listed b (row_judged m (record { id = Some (signed_at (top_of 1) n); kind = k }))
  unfolding id_form
  id_listed n k b = rw (row_rest (Some (signed_at (top_of 1) n)) k, id_parts_lem (signed_at (top_of 1) n) k, octet_id 0x02 n, fine_then 3 (omega arith)) (listed_wrap b _ _)

  reject_listed : (q : Problem) (b : Bool) → wrapped (joined (Ok 2) (listed b (rest_judged m (ComponentKind.Reject q)))) ≡ listed b (row_judged m (record { id = None; kind = ComponentKind.Reject q }))
  unfolding id_form row_parts_fit
  reject_listed q b = rw (row_rest None (ComponentKind.Reject q), leaf_size, size_short 0 (omega arith), fine_then 2 (omega arith)) (listed_wrap b _ _)

  null_parts : (x : ℕ) (l : List ℕ) → (x ≡ 0xA4 → ⊥) → row_parts_fit None (kind_in x l) ≡ false
  unfolding kind_in row_parts_fit id_there
  null_parts x l h = rw (ne_eqb x 0xA4 h) (by (eqb x 0xA1) (eqb x 0xA2) (eqb x 0xA3))
    where
      by : (a b c : Bool) → row_parts_fit None (cond a (ComponentKind.Invoke (linked_in (octet l 3) (octet l 4)) (code_at l) (parameter_at l)) (cond b (ComponentKind.ResultLast (returned_in l)) (cond c (ComponentKind.ReturnError (code_at l) (parameter_at l)) (ComponentKind.ResultNotLast (returned_in l))))) ≡ false
      by true b c = refl
      by false true c = refl
      by false false true = refl
      by false false false = refl

  -- null is for a Reject alone
  null_listed : (x : ℕ) (l : List ℕ) → (x ≡ 0xA4 → ⊥) → (b : Bool) → Err WRONG_PARTS ≡ listed b (row_judged m (record { id = None; kind = kind_in x l }))
  unfolding rank_of judged
  null_listed x l h true = rw (null_parts x l h)
  null_listed x l h false = refl

  -- the row, by its ID
  module _ (l : List ℕ) where
    pub row_id : octet l 1 ≡ 1 → wrapped (joined (Ok 3) (listed (is_kind (octet l 0) l) (rest_judged m (kind_in (octet l 0) l)))) ≡ listed (is_row l) (row_judged m (row_in l))
    unfolding is_row row_in id_in
    row_id h = rw h (id_listed (octet l 2) (kind_in (octet l 0) l) (is_kind (octet l 0) l))

    module _ (h : octet l 1 ≡ 0) where
      pub row_null : octet l 0 ≡ 0xA4 → wrapped (joined (Ok 2) (listed (is_kind (octet l 0) l) (rest_judged m (kind_in (octet l 0) l)))) ≡ listed (is_row l) (row_judged m (row_in l))
      unfolding is_row row_in id_in kind_in
      row_null e = rw (h, e) (reject_listed (problem_in (octet l 5) (octet l 7)) (is_kind 0xA4 l))

      pub row_none : (octet l 0 ≡ 0xA4 → ⊥) → Err WRONG_PARTS ≡ listed (is_row l) (row_judged m (row_in l))
      unfolding is_row row_in id_in
      row_none e = rw h (null_listed (octet l 0) l e (is_kind (octet l 0) l))

-- One row more

are_more : (i : ℕ) (l : List ℕ) → are_rows (suc i) l ≡ are_rows i l && is_row (drop (i * row_size) l)
unfolding are_rows
are_more zero l = and-true (is_row l)
are_more (suc i) l =
    let e : row_size + i * row_size ≡ suc i * row_size = omega arith in
    rw (are_more i (drop row_size l), drop-drop (i * row_size) row_size l, e) (sym (and_assoc (is_row l) _ _))

module _ (m o : List ℕ) (rows : List Row) (i : ℕ) (d : Row) (h : i < length rows) where
  -- a turn of the loop
  pub listed_step : joined (listed (are_rows i (drop head_size o)) (rows_judged m (take i rows))) (listed (is_row (rows_from o i)) (row_judged m (get_or rows i d))) ≡ listed (are_rows (i + 1) (drop head_size o)) (rows_judged m (take (i + 1) rows))
  unfolding rows_rank
  listed_step =
      rw (add-one i, are_more i (drop head_size o), drop-drop (i * row_size) head_size o)
      (listed_both (are_rows i (drop head_size o)) (is_row (rows_from o i)) (rows_judged m (take i rows)) (row_judged m (get_or rows i d)) (over_right _ _ _ _ _) (over_left _ _ _ _ _) ∙ ap (listed (are_rows i (drop head_size o) && is_row (rows_from o i))) (rows_step m rows i d h ∙ rw (add-one i)))

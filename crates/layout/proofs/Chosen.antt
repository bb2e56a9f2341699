-- Octets that are a record choose and flag just the parts that the record has: no flag is passed over, so nothing that a host flags is dropped.
-- Assumes nothing.
use Rattle.std.specs.Prelude.{ℤ, Option as Optional, None}
use Prim.Native.Nat.{ℕ, zero, suc, ◌≤◌}
use native.Mathlib.Omega.{arith}
use mathlib.Core.Path.{◌≡◌, refl, sym, ap, ◌∙◌}
use mathlib.Core.Bool.{Bool, true, false, cond, ◌&&◌, false≢true, and-eq-true_iff}
use mathlib.Core.List.{List, [], ◌∷◌, ◌++◌}
use lib.Dec.{leb, eqb}
use borrow.Author.Tests.{leb-true, eqb-true, eqb-false}
use Rattle.base.specs.Number.{octets_in}
use Rattle.tcap.specs.declared.{Span.Span}
use Rattle.tcap.specs.Record.{message_tag}
use Rattle.layout.specs.Layout.{octet, is_flag, optional_in, optional_flag, is_message_tag, message_kind_in, orig_in, orig_flag, dest_in, dest_flag, is_source_tag, is_dialogue, pdu_in, outside_in, dialogue_in, dialogue_number, portion_octets, dialogue_octets, id_in, id_flag, linked_in, linked_flag, is_code_tag, code_in, code_tag, is_problem_tag, problem_in, problem_tag, is_coded, is_returned, returned_in, is_unlinked, is_kind, kind_in, ids_octets, parts_octets, coded_octets, returned_octets, problem_octets, kind_octets, is_row, row_in, row_octets, is_head, record_in, head_octets, record_octets, span_octets}

-- One choice each

flag_of : {A : Type 0} (f : A → ℕ) (a b : A) (x : ℕ) → f a ≡ 0 → f b ≡ 1 → is_flag x ≡ true → f (cond (eqb x 0) a b) ≡ x
flag_of f a b zero p q h = p
flag_of f a b (suc zero) p q h = q
flag_of f a b (suc (suc x)) p q h = absurd (omega (arith, leb-true (suc (suc x)) 1 h))

id_of : (x n : ℕ) → is_flag x ≡ true → id_flag (id_in x n) ≡ x
unfolding id_in id_flag
id_of x n h = flag_of id_flag _ _ x refl refl h

linked_of : (x n : ℕ) → is_flag x ≡ true → linked_flag (linked_in x n) ≡ x
unfolding linked_in linked_flag
linked_of x n h = flag_of linked_flag _ _ x refl refl h

optional_of : (x : ℕ) (s : Span) → is_flag x ≡ true → optional_flag (optional_in x s) ≡ x
unfolding optional_in optional_flag
optional_of x s h = flag_of optional_flag _ _ x refl refl h

orig_of_lem : (x : ℕ) (s : Span) → is_flag x ≡ true → orig_flag (orig_in x s) ≡ x
unfolding orig_in orig_flag
orig_of_lem x s h = flag_of orig_flag _ _ x refl refl h

dest_of : (x : ℕ) (s : Span) → is_flag x ≡ true → dest_flag (dest_in x s) ≡ x
unfolding dest_in dest_flag
dest_of x s h = flag_of dest_flag _ _ x refl refl h

code_of : (x : ℕ) (s : Span) → is_code_tag x ≡ true → code_tag (code_in x s) ≡ x
unfolding code_in code_tag
code_of x s h = by (eqb x 0x02) refl
  where
    by : (b : Bool) → eqb x 0x02 ≡ b → code_tag (code_in x s) ≡ x
    by true e = rw e (sym (eqb-true x 0x02 e))
    by false e = rw e (sym (eqb-true x 0x06 (rw e at h)))

problem_of_lem : (x n : ℕ) → is_problem_tag x ≡ true → problem_tag (problem_in x n) ≡ x
unfolding problem_in problem_tag
problem_of_lem x n h = by (eqb x 0x80) (eqb x 0x81) (eqb x 0x82) refl refl refl
  where
    by : (a b c : Bool) → eqb x 0x80 ≡ a → eqb x 0x81 ≡ b → eqb x 0x82 ≡ c → problem_tag (problem_in x n) ≡ x
    by true b c d e f = rw d (sym (eqb-true x 0x80 d))
    by false true c d e f = rw (d, e) (sym (eqb-true x 0x81 e))
    by false false true d e f = rw (d, e, f) (sym (eqb-true x 0x82 f))
    by false false false d e f =
        let k = (and-eq-true_iff (leb 0x80 x) (leb x 0x83)).0 h in
        rw (d, e, f) (omega (arith, leb-true 0x80 x k.0, leb-true x 0x83 k.1, eqb-false x 0x80 d, eqb-false x 0x81 e, eqb-false x 0x82 f))

-- A row: its kind, invoke ID, linked ID, code or problem, parameter

abbrev pub row_choices : List ℕ → List ℕ
row_choices l = octet l 0 ∷ octet l 1 ∷ octet l 3 ∷ octet l 5 ∷ octet l 6 ∷ []

module _ (i : Optional ℤ) (l : List ℕ) where
  abbrev Kept : ℕ → Type 0
  Kept x = is_kind x l ≡ true → row_choices (kind_octets i (kind_in x l)) ≡ x ∷ id_flag i ∷ octet l 3 ∷ octet l 5 ∷ octet l 6 ∷ []

  unlinked : (b : Bool) → cond (eqb (octet l 3) 0) b false ≡ true → (octet l 3 ≡ 0) × (b ≡ true)
  unlinked b h = by (eqb (octet l 3) 0) refl
    where
      by : (t : Bool) → eqb (octet l 3) 0 ≡ t → (octet l 3 ≡ 0) × (b ≡ true)
      by true e = (eqb-true (octet l 3) 0 e, rw e at h)
      by false e = absurd (false≢true (rw e at h))

  invoke_kept : Kept 0xA1
  unfolding is_kind kind_in kind_octets ids_octets coded_octets parts_octets is_coded
  invoke_kept h =
      let k = (and-eq-true_iff (is_flag (octet l 3)) (is_coded l)).0 h in
      let c = (and-eq-true_iff (is_code_tag (octet l 5)) (is_flag (octet l 6))).0 k.1 in
      rw (linked_of (octet l 3) (octet l 4) k.0, code_of (octet l 5) _ c.0, optional_of (octet l 6) _ c.1)

  returned_kept : (tag : ℕ) → is_returned l ≡ true → row_choices (ids_octets tag i None ++ returned_octets (returned_in l)) ≡ tag ∷ id_flag i ∷ 0 ∷ octet l 5 ∷ octet l 6 ∷ []
  unfolding is_returned returned_in returned_octets ids_octets coded_octets parts_octets linked_flag optional_flag
  returned_kept tag h = by (eqb (octet l 5) 0) refl
    where
      by : (b : Bool) → eqb (octet l 5) 0 ≡ b → row_choices (ids_octets tag i None ++ returned_octets (returned_in l)) ≡ tag ∷ id_flag i ∷ 0 ∷ octet l 5 ∷ octet l 6 ∷ []
      by true e = rw (e, eqb-true (octet l 5) 0 e, eqb-true (octet l 6) 0 (rw e at h))
      by false e =
          let k = (and-eq-true_iff (is_code_tag (octet l 5)) (eqb (octet l 6) 1)).0 (rw e at h) in
          rw (e, code_of (octet l 5) _ k.0, eqb-true (octet l 6) 1 k.1)

  last_kept : Kept 0xA2
  unfolding is_kind is_unlinked kind_in kind_octets ids_octets
  last_kept h = let (e, k) = unlinked (is_returned l) h in rw e (returned_kept 0xA2 k)

  error_kept : Kept 0xA3
  unfolding is_kind is_unlinked kind_in kind_octets ids_octets coded_octets parts_octets is_coded linked_flag
  error_kept h =
      let (e, k) = unlinked (is_coded l) h in
      let c = (and-eq-true_iff (is_code_tag (octet l 5)) (is_flag (octet l 6))).0 k in
      rw (e, code_of (octet l 5) _ c.0, optional_of (octet l 6) _ c.1)

  reject_kept : Kept 0xA4
  unfolding is_kind is_unlinked kind_in kind_octets ids_octets problem_octets parts_octets linked_flag
  reject_kept h =
      let (e, k) = unlinked _ h in
      let c = (and-eq-true_iff (eqb (octet l 6) 0) (is_problem_tag (octet l 5))).0 k in
      rw (e, eqb-true (octet l 6) 0 c.0, problem_of_lem (octet l 5) _ c.1)

  not_last_kept : Kept 0xA7
  unfolding is_kind is_unlinked kind_in kind_octets ids_octets
  not_last_kept h = let (e, k) = unlinked (is_returned l) h in rw e (returned_kept 0xA7 k)

  kind_kept : (x : ℕ) → Kept x
  unfolding is_kind is_unlinked
  kind_kept x h = by (eqb x 0xA1) (eqb x 0xA2) (eqb x 0xA3) (eqb x 0xA4) (eqb x 0xA7) refl refl refl refl refl
    where
      at_tag_lem : (y : ℕ) → eqb x y ≡ true → Kept y → row_choices (kind_octets i (kind_in x l)) ≡ x ∷ id_flag i ∷ octet l 3 ∷ octet l 5 ∷ octet l 6 ∷ []
      at_tag_lem y e k = let z = eqb-true x y e in rw z (k (rw z at h))

      by : (a b c d e : Bool) → eqb x 0xA1 ≡ a → eqb x 0xA2 ≡ b → eqb x 0xA3 ≡ c → eqb x 0xA4 ≡ d → eqb x 0xA7 ≡ e → row_choices (kind_octets i (kind_in x l)) ≡ x ∷ id_flag i ∷ octet l 3 ∷ octet l 5 ∷ octet l 6 ∷ []
      by true b c d e p q r s t = at_tag_lem 0xA1 p invoke_kept
      by false true c d e p q r s t = at_tag_lem 0xA2 q last_kept
      by false false true d e p q r s t = at_tag_lem 0xA3 r error_kept
      by false false false true e p q r s t = at_tag_lem 0xA4 s reject_kept
      by false false false false true p q r s t = at_tag_lem 0xA7 t not_last_kept
      by false false false false false p q r s t = absurd (none_kept (eqb (octet l 3) 0) refl)
        where
          none_kept : (w : Bool) → eqb (octet l 3) 0 ≡ w → ⊥
          none_kept true z = false≢true (rw (p, z, q, r, s, t) at h)
          none_kept false z = false≢true (rw (p, z) at h)

-- every choice of octets that are a row is that of the row they stand for
pub row_chosen : (l : List ℕ) → is_row l ≡ true → row_choices (row_octets (row_in l)) ≡ row_choices l
unfolding is_row row_in row_octets
row_chosen l h =
    let k = (and-eq-true_iff (is_flag (octet l 1)) (is_kind (octet l 0) l)).0 h in
    kind_kept (id_in (octet l 1) (octet l 2)) l (octet l 0) k.1 ∙ rw (id_of (octet l 1) (octet l 2) k.0)

-- A head: its kind, IDs, dialogue, user information

abbrev pub head_choices : List ℕ → List ℕ
head_choices l = octet l 0 ∷ octet l 1 ∷ octet l 2 ∷ octet l 3 ∷ octet l 40 ∷ []

message_of_lem : (x : ℕ) → is_message_tag x ≡ true → message_tag (message_kind_in x) ≡ x
unfolding is_message_tag message_kind_in
message_of_lem x h = by (eqb x 0x61) (eqb x 0x62) (eqb x 0x64) (eqb x 0x65) refl refl refl refl
  where
    by : (a b c d : Bool) → eqb x 0x61 ≡ a → eqb x 0x62 ≡ b → eqb x 0x64 ≡ c → eqb x 0x65 ≡ d → message_tag (message_kind_in x) ≡ x
    by true b c d p q r s = rw p (sym (eqb-true x 0x61 p))
    by false true c d p q r s = rw (p, q) (sym (eqb-true x 0x62 q))
    by false false true d p q r s = rw (p, q, r) (sym (eqb-true x 0x64 r))
    by false false false true p q r s = rw (p, q, r, s) (sym (eqb-true x 0x65 s))
    by false false false false p q r s = rw (p, q, r, s) (sym (eqb-true x 0x67 (rw (p, q, r, s) at h)))

module _ (l : List ℕ) where
  listed : (x : ℕ) → is_dialogue x l ≡ true → x ≤ 7
  unfolding is_dialogue
  listed x h = by (leb x 1) (eqb x 3) (leb x 5) refl refl refl
    where
      by : (a b c : Bool) → leb x 1 ≡ a → eqb x 3 ≡ b → leb x 5 ≡ c → x ≤ 7
      by true b c p q r = omega (arith, leb-true x 1 p)
      by false true c p q r = omega (arith, eqb-true x 3 q)
      by false false true p q r = omega (arith, leb-true x 5 r)
      by false false false p q r = leb-true x 7 ((and-eq-true_iff (eqb (octet l 40) 0) (leb x 7)).0 (rw (p, q, r) at h)).1

  -- with any octets behind it
  dialogue_kept : (rest : List ℕ) (x : ℕ) → x ≤ 7 → is_dialogue x l ≡ true → (dialogue_number (dialogue_in x l) ≡ x) × (octet (dialogue_octets (dialogue_in x l) ++ rest) 16 ≡ octet l 40)
  unfolding is_dialogue dialogue_in pdu_in outside_in dialogue_number dialogue_octets portion_octets span_octets octets_in
  dialogue_kept rest zero k h = (refl, sym (eqb-true (octet l 40) 0 h))
  dialogue_kept rest (suc zero) k h = (refl, sym (eqb-true (octet l 40) 0 h))
  dialogue_kept rest (suc (suc zero)) k h = (refl, optional_of (octet l 40) _ h)
  dialogue_kept rest (suc (suc (suc zero))) k h = (refl, optional_of (octet l 40) _ ((and-eq-true_iff (is_flag (octet l 40)) (is_source_tag (octet l 42))).0 h).0)
  dialogue_kept rest (suc (suc (suc (suc zero)))) k h = (refl, optional_of (octet l 40) _ h)
  dialogue_kept rest (suc (suc (suc (suc (suc zero))))) k h = (refl, optional_of (octet l 40) _ h)
  dialogue_kept rest (suc (suc (suc (suc (suc (suc zero)))))) k h = (refl, sym (eqb-true (octet l 40) 0 ((and-eq-true_iff (eqb (octet l 40) 0) true).0 h).0))
  dialogue_kept rest (suc (suc (suc (suc (suc (suc (suc zero))))))) k h = (refl, sym (eqb-true (octet l 40) 0 ((and-eq-true_iff (eqb (octet l 40) 0) true).0 h).0))
  dialogue_kept rest (suc (suc (suc (suc (suc (suc (suc (suc x)))))))) k h = absurd (omega arith)

-- every choice of the head of octets that are a record is that of the record they stand for
pub head_chosen : (l : List ℕ) → is_head l ≡ true → head_choices (record_octets (record_in l)) ≡ head_choices l
unfolding is_head record_octets record_in head_octets span_octets octets_in
head_chosen l h =
    let c = (and-eq-true_iff (is_message_tag (octet l 0) && is_flag (octet l 1) && is_flag (octet l 2)) (is_dialogue (octet l 3) l)).0 h in
    let b = (and-eq-true_iff (is_message_tag (octet l 0) && is_flag (octet l 1)) (is_flag (octet l 2))).0 c.0 in
    let a = (and-eq-true_iff (is_message_tag (octet l 0)) (is_flag (octet l 1))).0 b.0 in
    let d = dialogue_kept l _ (octet l 3) (listed l (octet l 3) c.1) c.1 in
    rw (message_of_lem (octet l 0) a.0, orig_of_lem (octet l 1) _ a.1, dest_of (octet l 2) _ b.1, d.0) (ap (λ (x : ℕ). octet l 0 ∷ octet l 1 ∷ octet l 2 ∷ octet l 3 ∷ x ∷ []) d.1)

-- What lies of a record lies of its parts, and 6C stands around rows that are there. Assumes nothing.
use Prim.Native.Nat.{ℕ, zero, suc}
use mathlib.Core.Path.{◌≡◌, refl}
use mathlib.Core.Logic.{◌≢◌}
use mathlib.Core.Bool.{true, ◌&&◌, and-eq-true_iff}
use mathlib.Core.List.{List, []}
use lib.ListN.{length}
use Rattle.element.specs.Form.{exactly, around, series_form}
use Rattle.tcap.specs.declared.{Record.Record}
use Rattle.tcap.specs.Verdict.{counted, every, orig_lies, dest_lies, dialogue_lies, row_lies, all_lie}
use Rattle.write_check_row.specs.Forms.{row_form, rows_form}
use Rattle.layout.specs.Layout.{rows_in}

module _ (m : List ℕ) where
  module _ (r : Record) (h : all_lie (length m) r ≡ true) where
    pub orig_lies_lem : orig_lies (length m) r.orig ≡ true
    unfolding all_lie
    orig_lies_lem = ((and-eq-true_iff (orig_lies (length m) r.orig) _).0 h).0

    rest : dest_lies (length m) r.dest && (dialogue_lies (length m) r.dialogue && every (λ w. row_lies (length m) w.kind) (counted r)) ≡ true
    unfolding all_lie
    rest = ((and-eq-true_iff (orig_lies (length m) r.orig) _).0 h).1

    pub dest_lies_lem : dest_lies (length m) r.dest ≡ true
    dest_lies_lem = ((and-eq-true_iff (dest_lies (length m) r.dest) _).0 rest).0

    both : dialogue_lies (length m) r.dialogue && every (λ w. row_lies (length m) w.kind) (counted r) ≡ true
    both = ((and-eq-true_iff (dest_lies (length m) r.dest) _).0 rest).1

    pub dialogue_lies_lem : dialogue_lies (length m) r.dialogue ≡ true
    dialogue_lies_lem = ((and-eq-true_iff (dialogue_lies (length m) r.dialogue) _).0 both).0

    pub rows_lie : every (λ w. row_lies (length m) w.kind) (counted r) ≡ true
    rows_lie = ((and-eq-true_iff (dialogue_lies (length m) r.dialogue) _).0 both).1

  pub no_rows : (n : ℕ) (l : List ℕ) → n ≡ 0 → rows_form m (rows_in n l) ≡ exactly []
  unfolding rows_form rows_in
  no_rows n l e = rw e

  pub some_rows : (n : ℕ) (l : List ℕ) → n ≢ 0 → rows_form m (rows_in n l) ≡ around 0x6C (series_form (row_form m) (rows_in n l))
  unfolding rows_form rows_in
  some_rows zero l h = absurd (h refl)
  some_rows (suc n) l h = refl

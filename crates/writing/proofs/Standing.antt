-- The record that octets stand for: the rows that count are those that are looked at, and the judgment of the rows tells their size.
-- Assumes nothing.
use Rattle.std.specs.Prelude.{Result, Some, None, Err}
use Prim.Native.Nat.{ℕ, zero, suc, ◌-◌, ◌≤◌, ◌<◌, min}
use native.Mathlib.Omega.{arith}
use mathlib.Core.Path.{◌≡◌, refl, sym, ap, ◌∙◌}
use mathlib.Core.Bool.{Bool, true, false, cond, false≢true}
use mathlib.Core.List.{List, ◌++◌, append-nil}
use lib.ListN.{length, drop, replicate, length-append, length-replicate}
use lib.Seq.{take_at, take_all}
use lib.Dec.{leb, eqb}
use borrow.Author.Tests.{le-leb, lt-leb, leb-true, leb-false, ne_eqb}
use Rattle.base.specs.Number.{top_of, signed_at, holds}
use Rattle.base.specs.Value.{Every}
use Rattle.base.proofs.Numbers.{signed_small, small_holds}
use Rattle.tcap.specs.declared.{Span.Span, Code.Code, Row.Row}
use Rattle.tcap.specs.Record.{blank_row}
use Rattle.write_check_row.specs.declared.Wrong.{Wrong}
use Rattle.write_check_row.specs.declared.TheConstants.Wrong.{WRONG_PARTS}
use Rattle.tcap.specs.Verdict.{counted, all_parts, all_ranges, all_lie, all_shaped}
use Rattle.write_check_row.specs.Forms.{record_form}
use Rattle.write_check_row.specs.Judged.{Judged, rank_of, judged, listed, wrapped, size_of, rows_judged}
use Rattle.write_check.specs.Judgements.{portion_of, message_judged}
use Rattle.write_check.proofs.Messages.{portion_law, record_law, message_bad}
use Rattle.layout.specs.Layout.{head_size, row_size, most_rows, record_size, octet, number_at, span_at, id_in, linked_in, code_in, returned_in, kind_in, row_in, rows_in, rows_held, rows_looked, are_rows, is_head, is_record, record_in}
use Rattle.unpack.proofs.Rows.{rows_length}
use Rattle.writing.specs.declared.{WriteFault.WriteFault}
use Rattle.layout.specs.Fits.{IdFits, LinkedFits}
use Rattle.writing.specs.Writing.{Writes, CodeTyped, ReturnedTyped, KindTyped, RowTyped, RecordTyped}
use Rattle.writing.specs.inner.Ranks.{fault_at}
use Rattle.writing.specs.Octets.{writing_octets, leaves_octets}
use Rattle.writing.proofs.Answers.{bad_writes}
use Rattle.writing.proofs.Judgements.{bad_tells}

-- Of enough octets, a head and rows are a record
module _ (l : List ℕ) (long : record_size ≤ length l) where
  pub head_record : is_head l ≡ true → is_record l ≡ are_rows (rows_looked l) (drop head_size l)
  unfolding is_record
  head_record h = rw (le-leb record_size (length l) long, h)

  pub no_head : is_head l ≡ false → is_record l ≡ false
  unfolding is_record
  no_head h = rw (le-leb record_size (length l) long, h)

pub too_short : (l : List ℕ) → length l < record_size → is_record l ≡ false
unfolding is_record
too_short l h = rw (lt-leb record_size (length l) h)

-- What octets stand for has 16 rows, IDs of 8 bits and local codes of 32

signed_holds : (k n : ℕ) → holds k (signed_at (top_of k) n) ≡ true
signed_holds k n = small_holds k (signed_at (top_of k) n) (signed_small (top_of k) n)

id_fits : (x n : ℕ) → IdFits (id_in x n)
unfolding id_in
id_fits x n = by_flag (eqb x 0)
  where
    by_flag : (b : Bool) → IdFits (cond b None (Some (signed_at (top_of 1) n)))
    by_flag true = tt
    by_flag false = signed_holds 1 n

linked_fits : (x n : ℕ) → LinkedFits (linked_in x n)
unfolding linked_in
linked_fits x n = by_flag (eqb x 0)
  where
    by_flag : (b : Bool) → LinkedFits (cond b None (Some (signed_at (top_of 1) n)))
    by_flag true = tt
    by_flag false = signed_holds 1 n

code_fits : (x : ℕ) (s : Span) → CodeTyped (code_in x s)
unfolding code_in
code_fits x s = by_tag (eqb x 0x02)
  where
    by_tag : (b : Bool) → CodeTyped (cond b (Code.Local (signed_at (top_of 4) s.place)) (Code.Global s))
    by_tag true = signed_holds 4 s.place
    by_tag false = tt

returned_fits : (l : List ℕ) → ReturnedTyped (returned_in l)
unfolding returned_in
returned_fits l = by_tag (eqb (octet l 5) 0)
  where
    by_tag : (b : Bool) → ReturnedTyped (cond b None (Some ((code_in (octet l 5) (span_at l 8)), (span_at l 16))))
    by_tag true = tt
    by_tag false = code_fits (octet l 5) (span_at l 8)

-- one of five, by the first test that holds
chosen : {A : Type 0} (P : A → Type 0) (b c d e : Bool) (v w x y z : A) → P v → P w → P x → P y → P z → P (cond b v (cond c w (cond d x (cond e y z))))
chosen P true c d e v w x y z i j k l m = i
chosen P false true d e v w x y z i j k l m = j
chosen P false false true e v w x y z i j k l m = k
chosen P false false false true v w x y z i j k l m = l
chosen P false false false false v w x y z i j k l m = m

kind_fits : (x : ℕ) (l : List ℕ) → KindTyped (kind_in x l)
unfolding kind_in
kind_fits x l =
    let f = returned_fits l in
    let c = code_fits (octet l 5) (span_at l 8) in
    chosen KindTyped (eqb x 0xA1) (eqb x 0xA2) (eqb x 0xA3) (eqb x 0xA4) _ _ _ _ _ (linked_fits (octet l 3) (octet l 4), c) f c tt f

row_fits : (l : List ℕ) → RowTyped (row_in l)
unfolding RowTyped row_in
row_fits l = (id_fits (octet l 1) (octet l 2), kind_fits (octet l 0) l)

blank_fits : RowTyped blank_row
unfolding RowTyped holds top_of
blank_fits = (tt, (tt, refl))

rows_fit : (n k : ℕ) (l : List ℕ) → Every RowTyped (rows_in n l ++ replicate k blank_row)
unfolding rows_in Every
rows_fit zero zero l = tt
rows_fit zero (suc k) l = (blank_fits, rows_fit zero k l)
rows_fit (suc n) k l = (row_fits l, rows_fit n k (drop row_size l))

pub octets_fit : (o : List ℕ) → RecordTyped (record_in o)
unfolding record_in rows_held
octets_fit o =
    let k = rows_looked o in
    record {
      full = length-append (rows_in k (drop head_size o)) (replicate (most_rows - k) blank_row) ∙ omega (arith, rows_length k (drop head_size o), length-replicate (most_rows - k) blank_row);
      each = rows_fit k (most_rows - k) (drop head_size o);
    }

-- The rows that count

counted_by : (o : List ℕ) (b : Bool) → leb (number_at o 4) most_rows ≡ b → counted (record_in o) ≡ rows_in (rows_looked o) (drop head_size o)
unfolding record_in rows_held
counted_by o true e =
    let l = leb-true (number_at o 4) most_rows e in
    take_at (rows_in (rows_looked o) (drop head_size o)) (replicate (most_rows - rows_looked o) blank_row) (number_at o 4) (rows_length (rows_looked o) (drop head_size o) ∙ omega arith)
counted_by o false e =
    let l = leb-false (number_at o 4) most_rows e in
    let none : most_rows - rows_looked o ≡ 0 = omega arith in
    rw (none, append-nil) (take_all (number_at o 4) (rows_in (rows_looked o) (drop head_size o)) (omega (arith, rows_length (rows_looked o) (drop head_size o))))

module _ (o : List ℕ) where
  abbrev pub rows_of : List Row
  rows_of = rows_in (rows_looked o) (drop head_size o)

  pub counted_in : counted (record_in o) ≡ rows_of
  counted_in = counted_by o (leb (number_at o 4) most_rows) refl

  looked : length rows_of ≡ min (record_in o).count most_rows
  unfolding record_in
  looked = rows_length (rows_looked o) (drop head_size o)

  -- no rows are rows
  some : are_rows (rows_looked o) (drop head_size o) ≡ false → (record_in o).count ≡ 0 → ⊥
  unfolding record_in are_rows
  some h e = let z : rows_looked o ≡ 0 = omega (arith, e) in false≢true (sym h ∙ ap (λ (n : ℕ). are_rows n (drop head_size o)) z)

  module _ (m : List ℕ) where
    abbrev pub are : Bool
    are = are_rows (rows_looked o) (drop head_size o)

    abbrev pub judgment : Judged
    judgment = let r = record_in o in judged (rank_of (all_parts r) (all_ranges r) (all_lie (length m) r) (all_shaped m r)) (size_of (record_form m r))

    -- what the code judges is the record, if the rows are rows
    pub octets_judged_lem : (components : Judged) → components ≡ listed are (rows_judged m rows_of) → let r = record_in o in message_judged m r.kind r.orig r.dest r.dialogue r.count (portion_of r.count components) ≡ listed are judgment
    unfolding wrapped
    octets_judged_lem components e = by are refl
      where
        by : (b : Bool) → are ≡ b → let r = record_in o in message_judged m r.kind r.orig r.dest r.dialogue r.count (portion_of r.count components) ≡ listed are judgment
        by true h = let r = record_in o in rw (e, h, portion_law m rows_of r.count looked, ← counted_in) (record_law m r)
        by false h = let r = record_in o in rw (e, h, ne_eqb r.count 0 (some h)) (message_bad m r.kind r.orig r.dest r.dialogue r.count)

-- what the writer answers and leaves for the record is what it does for its octets
pub octets_write : (o m out : List ℕ) {w : Result ℕ WriteFault} {new : List ℕ} → is_record o ≡ true → Writes (record_in o) m out w new → (w ≡ writing_octets o m (length out)) × (new ≡ leaves_octets o m out)
unfolding writing_octets leaves_octets
octets_write o m out h x = rw h (x.answers, x.holds)

pub octets_none : (o m out : List ℕ) → is_record o ≡ false → (Err WriteFault.WrongParts ≡ writing_octets o m (length out)) × (out ≡ leaves_octets o m out)
unfolding writing_octets leaves_octets
octets_none o m out h = rw h (refl, refl)

-- what is wrong, of octets that may be no record
pub bad_octets : (o m out : List ℕ) (k : Wrong) → Err k ≡ listed (is_record o) (judgment o m) → (Err (fault_at k) ≡ writing_octets o m (length out)) × (out ≡ leaves_octets o m out)
unfolding rank_of fault_at
bad_octets o m out k e = by (is_record o) refl e
  where
    by : (b : Bool) → is_record o ≡ b → Err k ≡ listed b (judgment o m) → (Err (fault_at k) ≡ writing_octets o m (length out)) × (out ≡ leaves_octets o m out)
    by true h e = octets_write o m out h (bad_writes (record_in o) m (bad_tells _ _ k e))
    by false h e = let z : k ≡ WRONG_PARTS = cc in rw z (octets_none o m out h)

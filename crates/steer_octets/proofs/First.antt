-- The key of a message that was read stands in the octets of its record: its tag, and the code in the first row, if there is one. Assumes nothing.
use Rattle.std.specs.Prelude.{ℤ, Option as Optional, Some, None, Result, Ok, Err}
use Prim.Native.Nat.{ℕ, zero, suc}
use native.Mathlib.Omega.{arith}
use mathlib.Core.Path.{◌≡◌, refl, sym, ap, ◌∙◌}
use mathlib.Core.Bool.{Bool, true, false, cond, false≢true}
use mathlib.Core.List.{List, [], ◌∷◌, ◌++◌, append_assoc}
use lib.ListN.{length, take, drop, get_or}
use lib.Seq.{drop_at, drop-drop, get_or-drop}
use lib.Dec.{eqb}
use Rattle.base.specs.Value.{Every}
use Rattle.base.specs.Number.{octets_in}
use Rattle.primitive.specs.Primitive.{signed_of}
use Rattle.tcap.specs.declared.{Code.Code, ComponentKind.ComponentKind, Row.Row, Record.Record, Refusal.Refusal}
use Rattle.tcap.specs.Record.{blank_row, message_tag}
use Rattle.tcap.specs.Reading.{reading, outcome_of, handed_back}
use Rattle.layout.specs.Layout.{head_size, most_rows, octet, code_tag, code_span, span_octets, ids_octets, parts_octets, coded_octets, kind_octets, row_octets, rows_octets, head_octets, record_octets}
use Rattle.layout.specs.Fits.{KindFits, RowFits, RecordFits}
use Rattle.layout.proofs.RoundTrip.{head_length}
use Rattle.layout.proofs.Readings.{reading_fits}
use Rattle.read.specs.Octets.{Held}
use Rattle.read.proofs.Octets.{count_octet, held_front}
use Rattle.read.proofs.Few.{reading_few}
use Rattle.steering.specs.declared.{Key.Key}
use Rattle.steering.specs.Steering.{local_of, invoked, first_of, key_of, keyed}
use Rattle.steering.specs.inner.Looked.{first_in}
use Rattle.steering.proofs.Layouts.{signed_back}

-- the code in the octets of a row
abbrev row_code : List ℕ → Optional ℤ
row_code l = cond (eqb (octet l 0) 0xA1) (cond (eqb (octet l 5) 0x02) (Some (signed_of (take 4 (drop 8 l)))) None) None

row_code_lem : (i : Optional ℤ) (k : ComponentKind) (rest : List ℕ) → KindFits k → row_code (kind_octets i k ++ rest) ≡ invoked k
unfolding kind_octets ids_octets coded_octets parts_octets span_octets code_tag code_span octets_in invoked local_of
row_code_lem i (ComponentKind.Invoke l (Code.Local z) p) rest h = ap Some (signed_back z h.1)
row_code_lem i (ComponentKind.Invoke l (Code.Global s) p) rest h = refl
row_code_lem i (ComponentKind.ResultLast r) rest h = refl
row_code_lem i (ComponentKind.ReturnError c p) rest h = refl
row_code_lem i (ComponentKind.Reject q) rest h = refl
row_code_lem i (ComponentKind.ResultNotLast r) rest h = refl

rows_code : (n : ℕ) (rows : List Row) (rest : List ℕ) → eqb n 0 ≡ false → length rows ≡ most_rows → Every RowFits (take n rows) → row_code (rows_octets (take n rows) ++ rest) ≡ invoked (get_or rows 0 blank_row).kind
unfolding rows_octets row_octets Every
rows_code zero rows rest e s h = absurd (false≢true (sym e))
rows_code (suc n) [] rest e s h = absurd (omega (arith, s))
rows_code (suc n) (r ∷ rows) rest e s h = rw append_assoc (row_code_lem r.id r.kind (rows_octets (take n rows) ++ rest) h.0.1)

first_row : (o : List ℕ) → first_in o ≡ cond (eqb (octet o 7) 0) None (row_code (drop 44 o))
unfolding first_in
first_row o = rw (get_or-drop 44 o 0 0, get_or-drop 44 o 5 0, drop-drop 8 44 o)

module _ (r : Record) (rest : List ℕ) where
  behind_head : drop head_size (record_octets r ++ rest) ≡ rows_octets (take r.count r.rows) ++ rest
  unfolding record_octets
  behind_head = rw append_assoc (drop_at (head_octets r.kind r.orig r.dest r.dialogue r.count) (rows_octets (take r.count r.rows) ++ rest) head_size (head_length r.kind r.orig r.dest r.dialogue r.count))

  tag_octet : get_or (record_octets r ++ rest) 0 0 ≡ message_tag r.kind
  unfolding record_octets head_octets
  tag_octet = refl

  first_octets : octet (record_octets r ++ rest) 7 ≡ r.count → RecordFits r → first_in (record_octets r ++ rest) ≡ first_of r.count (get_or r.rows 0 blank_row).kind
  unfolding first_of
  first_octets k f = first_row (record_octets r ++ rest) ∙ rw (k, behind_head) (by_count (eqb r.count 0) refl)
    where
      by_count : (b : Bool) → eqb r.count 0 ≡ b → cond (eqb r.count 0) None (row_code (rows_octets (take r.count r.rows) ++ rest)) ≡ cond (eqb r.count 0) None (invoked (get_or r.rows 0 blank_row).kind)
      by_count true e = rw e
      by_count false e = rw e (rows_code r.count r.rows rest e f.sixteen f.rows)

keyed_read : (x : Result Record Refusal) → outcome_of x ≡ Ok tt → keyed x ≡ Ok (key_of (handed_back x))
unfolding keyed
keyed_read (Ok r) a = refl
keyed_read (Err f) a = let z : ◌≡◌ {A = ℕ} 0 1 = cc in absurd (omega arith)

-- what was read and what stands in the octets make the key
pub key_told : (m new : List ℕ) → Ok tt ≡ outcome_of (reading m) → Held (reading m) new → (first : Optional ℤ) → first ≡ first_in new → ◌≡◌ {A = Result Key Refusal} (Ok (record { tag = get_or new 0 0; first = first })) (keyed (reading m))
unfolding key_of
key_told m new b h first d =
    let a : outcome_of (reading m) ≡ Ok tt = sym b in
    let r = handed_back (reading m) in
    let rest = drop (length (record_octets r)) new in
    let k : octet (record_octets r ++ rest) 7 ≡ r.count = count_octet r rest (reading_few m) in
    let f : first ≡ first_of r.count (get_or r.rows 0 blank_row).kind = d ∙ ap first_in (sym (held_front m new a h)) ∙ first_octets r rest k (reading_fits m a) in
    let t : get_or new 0 0 ≡ message_tag r.kind = ap (λ (l : List ℕ). get_or l 0 0) (sym (held_front m new a h)) ∙ tag_octet r rest in
    rw (f, t) (sym (keyed_read (reading m) a))

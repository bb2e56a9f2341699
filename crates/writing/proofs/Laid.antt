-- A record that is laid out is written as itself, whatever its count and its rows from there on. Assumes nothing.
use Rattle.writing.specs.declared.WriteFault.{WriteFault}
use Rattle.std.specs.Prelude.{Result}
use Prim.Native.Nat.{ℕ, suc, ◌-◌, ◌≤◌, min}
use native.Mathlib.Omega.{arith}
use mathlib.Core.Path.{◌≡◌, refl, sym, ◌∙◌}
use mathlib.Core.Bool.{Bool, true, false}
use mathlib.Core.List.{List, ◌++◌, append-nil}
use lib.ListN.{length, take, drop, replicate, length-take}
use lib.Seq.{take_at, take_all}
use lib.Dec.{leb, eqb}
use borrow.Author.Tests.{leb-true, leb-false, le-leb, lt-leb, ne_eqb}
use Rattle.base.specs.inner.Put.{Put}
use Rattle.base.proofs.Puts.{put_front, put_length}
use Rattle.tcap.specs.declared.{MessageKind.MessageKind, Record.Record}
use Rattle.tcap.specs.Record.{blank_row, meaning_of}
use Rattle.layout.specs.Layout.{most_rows, record_size, record_octets}
use Rattle.layout.specs.Fits.{RecordFits}
use Rattle.layout.proofs.RoundTrip.{blanked, record_length, record_is, record_back}
use Rattle.pack.specs.LaidOut.{laid_out}
use Rattle.tcap.specs.Verdict.{counted, parts_fit, all_parts, all_ranges, all_lie, all_shaped}
use Rattle.writing.specs.Writing.{message_of, writing, leaves, Writes}
use Rattle.writing.specs.Octets.{writing_octets, leaves_octets}

-- 17 is asked as any count above 16
module _ (n : ℕ) where
  abbrev laid : ℕ
  laid = min n (suc most_rows)

  below : leb n most_rows ≡ true → laid ≡ n
  below e = let l = leb-true n most_rows e in omega arith

  most_same : leb laid most_rows ≡ leb n most_rows
  most_same = by (leb n most_rows) refl
    where
      by : (b : Bool) → leb n most_rows ≡ b → leb laid most_rows ≡ leb n most_rows
      by true e = rw (below e)
      by false e = let l = leb-false n most_rows e in rw (e, lt-leb laid most_rows (omega arith))

  some_same : leb 1 laid ≡ leb 1 n
  some_same = by (leb n most_rows) refl
    where
      by : (b : Bool) → leb n most_rows ≡ b → leb 1 laid ≡ leb 1 n
      by true e = rw (below e)
      by false e = let l = leb-false n most_rows e in rw (le-leb 1 laid (omega arith), le-leb 1 n (omega arith))

  none_same : eqb laid 0 ≡ eqb n 0
  none_same = by (leb n most_rows) refl
    where
      by : (b : Bool) → leb n most_rows ≡ b → eqb laid 0 ≡ eqb n 0
      by true e = rw (below e)
      by false e = let l = leb-false n most_rows e in rw (ne_eqb laid 0 (λ z. omega arith), ne_eqb n 0 (λ z. omega arith))

  parts_same : (k : MessageKind) (o e c : Bool) → parts_fit k o e c laid ≡ parts_fit k o e c n
  unfolding parts_fit
  parts_same MessageKind.Unidirectional o e c = rw some_same
  parts_same MessageKind.Begin o e c = refl
  parts_same MessageKind.End o e c = refl
  parts_same MessageKind.Continue o e c = refl
  parts_same MessageKind.Abort o e c = rw none_same

module _ (r : Record) (sixteen : length r.rows ≡ most_rows) where
  rows_same : counted (blanked (laid_out r)) ≡ counted r
  unfolding blanked laid_out
  rows_same = by (leb r.count most_rows) refl
    where
      by : (b : Bool) → leb r.count most_rows ≡ b → take (laid r.count) (take (laid r.count) r.rows ++ replicate (most_rows - laid r.count) blank_row) ≡ take r.count r.rows
      by true e =
          let l = leb-true r.count most_rows e in
          rw (below r.count e) (take_at (take r.count r.rows) (replicate (most_rows - r.count) blank_row) r.count (length-take r.count r.rows ∙ omega (arith, sixteen)))
      by false e =
          let l = leb-false r.count most_rows e in
          let none : most_rows - laid r.count ≡ 0 = omega arith in
          let all : take (laid r.count) r.rows ≡ r.rows = take_all (laid r.count) r.rows (omega (arith, sixteen)) in
          rw (none, append-nil, all, all) (sym (take_all r.count r.rows (omega (arith, sixteen))))

  message_same : (m : List ℕ) → message_of (blanked (laid_out r)) m ≡ message_of r m
  unfolding message_of meaning_of blanked laid_out
  message_same m = rw (rows_same, most_same r.count)

  writing_same : (m : List ℕ) (room : ℕ) → writing (blanked (laid_out r)) m room ≡ writing r m room
  unfolding writing all_parts all_ranges all_lie all_shaped blanked laid_out
  writing_same m room = rw (message_same m, rows_same, most_same r.count, parts_same r.count)

module _ (r : Record) (fits : RecordFits (laid_out r)) (m out : List ℕ) where
  sixteen : length r.rows ≡ most_rows
  unfolding laid_out
  sixteen = fits.sixteen

  pub laid_writes : {z : List ℕ} {next : ℕ} {o : List ℕ} {w : (Result ℕ WriteFault)} {new : List ℕ} → record_size ≤ length z → Put z 0 (record_octets (laid_out r)) next o → (w ≡ writing_octets o m (length out)) × (new ≡ leaves_octets o m out) → Writes r m out w new
  unfolding writing_octets leaves_octets leaves
  laid_writes {z} {next} {o} {w} {new} h p e =
      let s = record_octets (laid_out r) in
      let rest = drop (length s) z in
      let is : o ≡ s ++ rest = put_front p (omega (arith, record_length (laid_out r) fits.sixteen)) in
      let room : record_size ≤ length o = omega (arith, put_length p) in
      let long : record_size ≤ length (s ++ rest) = rw is at room in
      let yes = record_is (laid_out r) rest fits long in
      let back = record_back (laid_out r) rest fits in
      record { answers = e.0 ∙ rw (is, yes, back) (writing_same r sixteen m (length out)); holds = e.1 ∙ rw (is, yes, back, writing_same r sixteen m (length out), message_same r sixteen m) }

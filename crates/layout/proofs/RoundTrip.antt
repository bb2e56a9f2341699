-- What is laid out is a record, and stands for the record that was laid out, with blank rows from the count on. Assumes nothing.
use Rattle.std.specs.Prelude.{Option as Optional, Some, None}
use Prim.Native.Nat.{ℕ, ◌-◌, ◌*◌, ◌≤◌, min}
use native.Mathlib.Omega.{arith}
use mathlib.Core.Path.{◌≡◌, refl, ap, ap₂, ◌∙◌}
use mathlib.Core.Bool.{true, false}
use mathlib.Core.List.{List, [], ◌∷◌, ◌++◌, append_assoc}
use lib.ListN.{length, take, drop, replicate, length-append, length-take}
use lib.Seq.{drop_at}
use lib.Dec.{eqb}
use lib.IntN.{ℤ}
use borrow.Author.Tests.{le-leb}
use Rattle.base.specs.Number.{number_from, octets_in, top_of, signed_at, bits_at, holds}
use Rattle.base.specs.Value.{Every}
use Rattle.base.proofs.Numbers.{signed_bits, bits_within, top_odd, holds_small, number_octets}
use Rattle.tcap.specs.declared.{DestTransactionId.DestTransactionId, OrigTransactionId.OrigTransactionId, Span.Span, Code.Code, Problem.Problem, ComponentKind.ComponentKind, Row.Row, Diagnostic.Diagnostic, Dialogue.Dialogue, MessageKind.MessageKind, Record.Record}
use Rattle.tcap.specs.Record.{blank_row, message_tag}
use Rattle.layout.specs.Fits.{SpanFits, OptionalFits, IdFits, LinkedFits, CodeFits, ReturnedFits, KindFits, RowFits, OrigFits, DestFits, DialogueFits, RecordFits}
use Rattle.layout.specs.Layout.{head_size, row_size, most_rows, record_size, octet, number_at, span_at, span_octets, is_flag, optional_in, optional_flag, optional_span, is_message_tag, message_kind_in, orig_in, orig_flag, orig_span, dest_in, dest_flag, dest_span, is_source_tag, diagnostic_in, source_tag, diagnostic_number, is_dialogue, pdu_in, outside_in, dialogue_in, dialogue_number, portion_octets, dialogue_octets, id_in, id_flag, id_octet, linked_in, linked_flag, linked_octet, is_code_tag, code_in, code_tag, code_span, is_problem_tag, problem_in, problem_tag, problem_number, is_coded, is_returned, returned_in, is_unlinked, is_kind, kind_in, ids_octets, parts_octets, coded_octets, returned_octets, problem_octets, kind_octets, is_row, row_in, row_octets, are_rows, rows_in, rows_held, rows_octets, is_head, is_record, record_in, head_octets, record_octets}

-- Each field

back : Span → Span
back s = record { place = number_from 0 (octets_in 4 s.place); len = number_from 0 (octets_in 4 s.len) }

span_back : (s : Span) → SpanFits s → back s ≡ s
unfolding back
span_back s h = rw (number_octets 4 s.place h.0, number_octets 4 s.len h.1)

signed_back : (k : ℕ) (z : ℤ) → 1 ≤ k → holds k z ≡ true → signed_at (top_of k) (bits_at (top_of k) z) ≡ z
signed_back k z l h = signed_bits (top_of k) z (holds_small k z h) (top_odd k l)

optional_back : (u : Optional Span) → OptionalFits u → optional_in (optional_flag u) (back (optional_span u)) ≡ u
unfolding optional_in optional_flag optional_span
optional_back None h = refl
optional_back (Some s) h = ap Some (span_back s h)

pub id_back : (i : Optional ℤ) → IdFits i → id_in (id_flag i) (id_octet i) ≡ i
unfolding id_in id_flag id_octet
id_back None h = refl
id_back (Some z) h = ap Some (signed_back 1 z (omega arith) h)

linked_back : (l : Optional ℤ) → LinkedFits l → linked_in (linked_flag l) (linked_octet l) ≡ l
unfolding linked_in linked_flag linked_octet
linked_back None h = refl
linked_back (Some z) h = ap Some (signed_back 1 z (omega arith) h)

code_back : (c : Code) → CodeFits c → code_in (code_tag c) (back (code_span c)) ≡ c
unfolding code_in code_tag code_span back
code_back (Code.Local z) h =
    rw (number_octets 4 (bits_at (top_of 4) z) (bits_within (top_of 4) z (holds_small 4 z h))) (ap Code.Local (signed_back 4 z (omega arith) h))
code_back (Code.Global s) h = ap Code.Global (span_back s h)

problem_back : (q : Problem) → problem_in (problem_tag q) (problem_number q) ≡ q
unfolding problem_in problem_tag problem_number
problem_back (Problem.General n) = refl
problem_back (Problem.OfInvoke n) = refl
problem_back (Problem.OfResult n) = refl
problem_back (Problem.OfError n) = refl

diagnostic_back : (s : Diagnostic) → diagnostic_in (source_tag s) (diagnostic_number s) ≡ s
unfolding diagnostic_in source_tag diagnostic_number
diagnostic_back (Diagnostic.ByUser n) = refl
diagnostic_back (Diagnostic.ByProvider n) = refl

-- Each choice has a listed value

flag_optional : (u : Optional Span) → is_flag (optional_flag u) ≡ true
unfolding optional_flag
flag_optional None = refl
flag_optional (Some s) = refl

flag_id : (i : Optional ℤ) → is_flag (id_flag i) ≡ true
unfolding id_flag
flag_id None = refl
flag_id (Some z) = refl

flag_linked : (l : Optional ℤ) → is_flag (linked_flag l) ≡ true
unfolding linked_flag
flag_linked None = refl
flag_linked (Some z) = refl

tag_code : (c : Code) → (is_code_tag (code_tag c) ≡ true) × (eqb (code_tag c) 0 ≡ false)
unfolding code_tag
tag_code (Code.Local z) = (refl, refl)
tag_code (Code.Global s) = (refl, refl)

tag_problem : (q : Problem) → is_problem_tag (problem_tag q) ≡ true
unfolding problem_tag
tag_problem (Problem.General n) = refl
tag_problem (Problem.OfInvoke n) = refl
tag_problem (Problem.OfResult n) = refl
tag_problem (Problem.OfError n) = refl

-- A row, with any octets behind it

module _ (tag : ℕ) (i : Optional ℤ) (l : Optional ℤ) (rest : List ℕ) where
  returned_back : (r : Optional (Code × Span)) → ReturnedFits r → returned_in (ids_octets tag i l ++ returned_octets r ++ rest) ≡ r
  unfolding returned_in ids_octets returned_octets coded_octets parts_octets span_octets span_at number_at octets_in optional_span back
  returned_back None h = refl
  returned_back (Some (c, p)) h = rw (tag_code c).1 (ap (λ (x : Code). Some (x, back p)) (code_back c h.0) ∙ ap (λ (x : Span). Some (c, x)) (span_back p h.1))

  returned_is : (r : Optional (Code × Span)) → is_returned (ids_octets tag i l ++ returned_octets r ++ rest) ≡ true
  unfolding is_returned ids_octets returned_octets coded_octets parts_octets span_octets octets_in optional_flag
  returned_is None = refl
  returned_is (Some (c, p)) = rw ((tag_code c).1, (tag_code c).0)

  coded_is : (c : Code) (p : Optional Span) → is_coded (ids_octets tag i l ++ coded_octets c p ++ rest) ≡ true
  unfolding is_coded ids_octets coded_octets parts_octets
  coded_is c p = rw ((tag_code c).0, flag_optional p)

abbrev a_row : Optional ℤ → ComponentKind → Row
a_row i k = record { id = i; kind = k }

kind_is : (i : Optional ℤ) (k : ComponentKind) (rest : List ℕ) → is_row (kind_octets i k ++ rest) ≡ true
unfolding is_row is_kind is_unlinked kind_octets ids_octets problem_octets parts_octets linked_flag is_returned
kind_is i (ComponentKind.Invoke l c p) rest = rw (flag_id i, flag_linked l) (coded_is 0xA1 i l rest c p)
kind_is i (ComponentKind.ResultLast r) rest = rw (flag_id i) (returned_is 0xA2 i None rest r)
kind_is i (ComponentKind.ReturnError c p) rest = rw (flag_id i) (coded_is 0xA3 i None rest c p)
kind_is i (ComponentKind.Reject q) rest = rw (flag_id i, tag_problem q)
kind_is i (ComponentKind.ResultNotLast r) rest = rw (flag_id i) (returned_is 0xA7 i None rest r)

kind_back : (i : Optional ℤ) (k : ComponentKind) (rest : List ℕ) → IdFits i → KindFits k → row_in (kind_octets i k ++ rest) ≡ a_row i k
unfolding row_in kind_in kind_octets ids_octets coded_octets parts_octets problem_octets span_octets span_at number_at octets_in back
kind_back i (ComponentKind.Invoke l c p) rest h k =
    rw (id_back i h, linked_back l k.0)
    (ap (λ (x : Code). a_row i (ComponentKind.Invoke l x (optional_in (optional_flag p) (back (optional_span p))))) (code_back c k.1)
    ∙ ap (λ (x : Optional Span). a_row i (ComponentKind.Invoke l c x)) (optional_back p k.2))
kind_back i (ComponentKind.ResultLast r) rest h k = rw (id_back i h) (ap (λ (x : Optional (Code × Span)). a_row i (ComponentKind.ResultLast x)) (returned_back 0xA2 i None rest r k))
kind_back i (ComponentKind.ReturnError c p) rest h k =
    rw (id_back i h)
    (ap (λ (x : Code). a_row i (ComponentKind.ReturnError x (optional_in (optional_flag p) (back (optional_span p))))) (code_back c k.0)
    ∙ ap (λ (x : Optional Span). a_row i (ComponentKind.ReturnError c x)) (optional_back p k.1))
kind_back i (ComponentKind.Reject q) rest h k = rw (id_back i h, problem_back q)
kind_back i (ComponentKind.ResultNotLast r) rest h k = rw (id_back i h) (ap (λ (x : Optional (Code × Span)). a_row i (ComponentKind.ResultNotLast x)) (returned_back 0xA7 i None rest r k))

returned_length : (r : Optional (Code × Span)) → length (returned_octets r) ≡ 19
unfolding returned_octets coded_octets parts_octets span_octets octets_in
returned_length None = refl
returned_length (Some (c, p)) = refl

kind_length : (i : Optional ℤ) (k : ComponentKind) → length (kind_octets i k) ≡ row_size
unfolding kind_octets ids_octets coded_octets parts_octets problem_octets span_octets octets_in
kind_length i (ComponentKind.Invoke l c p) = refl
kind_length i (ComponentKind.ResultLast r) = omega (arith, returned_length r)
kind_length i (ComponentKind.ReturnError c p) = refl
kind_length i (ComponentKind.Reject q) = refl
kind_length i (ComponentKind.ResultNotLast r) = omega (arith, returned_length r)

row_length : (r : Row) → length (row_octets r) ≡ row_size
unfolding row_octets
row_length r = kind_length r.id r.kind

row_cut : (r : Row) (rest : List ℕ) → drop row_size (row_octets r ++ rest) ≡ rest
row_cut r rest = drop_at (row_octets r) rest row_size (row_length r)

pub row_is : (r : Row) (rest : List ℕ) → is_row (row_octets r ++ rest) ≡ true
unfolding row_octets
row_is r rest = kind_is r.id r.kind rest

pub row_back : (r : Row) (rest : List ℕ) → RowFits r → row_in (row_octets r ++ rest) ≡ r
unfolding row_octets
row_back r rest h = kind_back r.id r.kind rest h.0 h.1

-- The first rows, with any octets behind them

rows_are_lem : (rs : List Row) (rest : List ℕ) → are_rows (length rs) (rows_octets rs ++ rest) ≡ true
unfolding are_rows rows_octets
rows_are_lem [] rest = refl
rows_are_lem (r ∷ rs) rest = rw (append_assoc, row_is r, row_cut r) (rows_are_lem rs rest)

pub rows_back : (rs : List Row) (rest : List ℕ) → Every RowFits rs → rows_in (length rs) (rows_octets rs ++ rest) ≡ rs
unfolding rows_in rows_octets Every
rows_back [] rest h = refl
rows_back (r ∷ rs) rest h = rw (append_assoc, row_back r (rows_octets rs ++ rest) h.0, row_cut r) (ap (λ (t : List Row). r ∷ t) (rows_back rs rest h.1))

pub rows_length : (rs : List Row) → length (rows_octets rs) ≡ row_size * length rs
unfolding rows_octets
rows_length [] = refl
rows_length (r ∷ rs) = omega (arith, length-append (row_octets r) (rows_octets rs), row_length r, rows_length rs)

-- The head, with any octets behind it

flag_orig : (o : Optional OrigTransactionId) → is_flag (orig_flag o) ≡ true
unfolding orig_flag
flag_orig None = refl
flag_orig (Some o) = refl

flag_dest : (e : Optional DestTransactionId) → is_flag (dest_flag e) ≡ true
unfolding dest_flag
flag_dest None = refl
flag_dest (Some e) = refl

tag_message : (k : MessageKind) → (is_message_tag (message_tag k) ≡ true) × (message_kind_in (message_tag k) ≡ k)
unfolding is_message_tag message_kind_in
tag_message MessageKind.Unidirectional = (refl, refl)
tag_message MessageKind.Begin = (refl, refl)
tag_message MessageKind.End = (refl, refl)
tag_message MessageKind.Continue = (refl, refl)
tag_message MessageKind.Abort = (refl, refl)

tag_source : (s : Diagnostic) → is_source_tag (source_tag s) ≡ true
unfolding source_tag
tag_source (Diagnostic.ByUser n) = refl
tag_source (Diagnostic.ByProvider n) = refl

orig_back : (o : Optional OrigTransactionId) → OrigFits o → orig_in (orig_flag o) (back (orig_span o)) ≡ o
unfolding orig_in orig_flag orig_span
orig_back None h = refl
orig_back (Some o) h = ap (λ (s : Span). Some (record { 0 = record { octets = s } })) (span_back o.0.octets h)

dest_back : (e : Optional DestTransactionId) → DestFits e → dest_in (dest_flag e) (back (dest_span e)) ≡ e
unfolding dest_in dest_flag dest_span
dest_back None h = refl
dest_back (Some e) h = ap (λ (s : Span). Some (record { 0 = record { octets = s } })) (span_back e.0.octets h)

dialogue_length : (d : Dialogue) → length (dialogue_octets d) ≡ 20
unfolding dialogue_octets portion_octets span_octets octets_in
dialogue_length Dialogue.NoDialogue = refl
dialogue_length (Dialogue.Cause n) = refl
dialogue_length (Dialogue.Request n u) = refl
dialogue_length (Dialogue.Response n r s u) = refl
dialogue_length (Dialogue.DialogueAbort r u) = refl
dialogue_length (Dialogue.Unidialogue n u) = refl
dialogue_length (Dialogue.OutsideElement n e) = refl
dialogue_length (Dialogue.OutsideOctets n c) = refl

pub head_length : (k : MessageKind) (o : Optional OrigTransactionId) (e : Optional DestTransactionId) (d : Dialogue) (n : ℕ) → length (head_octets k o e d n) ≡ head_size
unfolding head_octets span_octets octets_in
head_length k o e d n = omega (arith, dialogue_length d)

module _ (a b c d : ℕ) (n : ℕ) (o e : Span) (rest : List ℕ) where
  abbrev behind : List ℕ → List ℕ
  behind l = (a ∷ b ∷ c ∷ d ∷ []) ++ octets_in 4 n ++ span_octets o ++ span_octets e ++ l ++ rest

  dialogue_is_lem : (v : Dialogue) → is_dialogue (dialogue_number v) (behind (dialogue_octets v)) ≡ true
  unfolding is_dialogue dialogue_number dialogue_octets portion_octets span_octets octets_in
  dialogue_is_lem Dialogue.NoDialogue = refl
  dialogue_is_lem (Dialogue.Cause k) = refl
  dialogue_is_lem (Dialogue.Request k u) = flag_optional u
  dialogue_is_lem (Dialogue.Response k r s u) = rw (flag_optional u, tag_source s)
  dialogue_is_lem (Dialogue.DialogueAbort r u) = flag_optional u
  dialogue_is_lem (Dialogue.Unidialogue k u) = flag_optional u
  dialogue_is_lem (Dialogue.OutsideElement k x) = refl
  dialogue_is_lem (Dialogue.OutsideOctets k x) = refl

  dialogue_back : (v : Dialogue) → DialogueFits v → dialogue_in (dialogue_number v) (behind (dialogue_octets v)) ≡ v
  unfolding dialogue_in pdu_in outside_in dialogue_number dialogue_octets portion_octets span_at number_at span_octets octets_in back
  dialogue_back Dialogue.NoDialogue h = refl
  dialogue_back (Dialogue.Cause k) h = refl
  dialogue_back (Dialogue.Request k u) h = ap₂ Dialogue.Request (span_back k h.0) (optional_back u h.1)
  dialogue_back (Dialogue.Response k r s u) h = rw (diagnostic_back s) (ap₂ (λ (x : Span) (y : Optional Span). Dialogue.Response x r s y) (span_back k h.0) (optional_back u h.1))
  dialogue_back (Dialogue.DialogueAbort r u) h = ap (Dialogue.DialogueAbort r) (optional_back u h)
  dialogue_back (Dialogue.Unidialogue k u) h = ap₂ Dialogue.Unidialogue (span_back k h.0) (optional_back u h.1)
  dialogue_back (Dialogue.OutsideElement k x) h = ap₂ Dialogue.OutsideElement (span_back k h.0) (span_back x h.1)
  dialogue_back (Dialogue.OutsideOctets k x) h = ap₂ Dialogue.OutsideOctets (span_back k h.0) (span_back x h.1)

-- The whole record

-- at most 428 octets
pub record_length : (r : Record) → length r.rows ≡ most_rows → length (record_octets r) ≤ record_size
unfolding record_octets
record_length r k =
    let l : length (take r.count r.rows) ≡ min r.count most_rows = rw (length-take, k) in
    let h = head_length r.kind r.orig r.dest r.dialogue r.count in
    omega (arith, length-append (head_octets r.kind r.orig r.dest r.dialogue r.count) (rows_octets (take r.count r.rows)), rows_length (take r.count r.rows))

-- the record with blank rows from its count on
unfoldable pub blanked : Record → Record
blanked r = record { kind = r.kind; orig = r.orig; dest = r.dest; dialogue = r.dialogue; count = r.count; rows = take r.count r.rows ++ replicate (most_rows - r.count) blank_row }

module _ (r : Record) (rest : List ℕ) where
  abbrev head : List ℕ
  head = head_octets r.kind r.orig r.dest r.dialogue r.count

  abbrev front : List ℕ
  front = rows_octets (take r.count r.rows) ++ rest

  head_cut : drop head_size (head ++ front) ≡ front
  head_cut = drop_at head front head_size (head_length r.kind r.orig r.dest r.dialogue r.count)

  head_is : is_head (head ++ front) ≡ true
  unfolding is_head head_octets
  head_is =
      rw ((tag_message r.kind).0, flag_orig r.orig, flag_dest r.dest)
      (dialogue_is_lem (message_tag r.kind) (orig_flag r.orig) (dest_flag r.dest) (dialogue_number r.dialogue) r.count (orig_span r.orig) (dest_span r.dest) front r.dialogue)

  head_count : r.count ≤ top_of 4 → number_at (head ++ front) 4 ≡ r.count
  unfolding head_octets number_at octets_in
  head_count h = number_octets 4 r.count h

  head_kind : message_kind_in (octet (head ++ front) 0) ≡ r.kind
  unfolding head_octets
  head_kind = (tag_message r.kind).1

  head_orig : OrigFits r.orig → orig_in (octet (head ++ front) 1) (span_at (head ++ front) 8) ≡ r.orig
  unfolding head_octets span_at number_at span_octets octets_in back
  head_orig h = orig_back r.orig h

  head_dest : DestFits r.dest → dest_in (octet (head ++ front) 2) (span_at (head ++ front) 16) ≡ r.dest
  unfolding head_octets span_at number_at span_octets octets_in back
  head_dest h = dest_back r.dest h

  head_dialogue : DialogueFits r.dialogue → dialogue_in (octet (head ++ front) 3) (head ++ front) ≡ r.dialogue
  unfolding head_octets
  head_dialogue h = dialogue_back (message_tag r.kind) (orig_flag r.orig) (dest_flag r.dest) (dialogue_number r.dialogue) r.count (orig_span r.orig) (dest_span r.dest) front r.dialogue h

  looked : length r.rows ≡ most_rows → length (take r.count r.rows) ≡ min r.count most_rows
  looked h = rw (length-take, h)

  pub record_is : RecordFits r → record_size ≤ length (record_octets r ++ rest) → is_record (record_octets r ++ rest) ≡ true
  unfolding is_record record_octets
  record_is f h = rw (le-leb record_size _ h, append_assoc, head_is, head_count f.count, head_cut, ← (looked f.sixteen)) (rows_are_lem (take r.count r.rows) rest)

  pub record_back : RecordFits r → record_in (record_octets r ++ rest) ≡ blanked r
  unfolding record_in rows_held record_octets blanked
  record_back f =
      let left : most_rows - min r.count most_rows ≡ most_rows - r.count = omega arith in
      rw (append_assoc, head_kind, head_orig f.orig, head_dest f.dest, head_dialogue f.dialogue, head_count f.count, head_cut, left, ← (looked f.sixteen), rows_back (take r.count r.rows) rest f.rows)

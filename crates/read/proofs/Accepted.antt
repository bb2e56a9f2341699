-- An accepted message laid out in zeros begins with the octets of its record. Assumes nothing.
use Rattle.tcap.specs.declared.DestTransactionId.{DestTransactionId}
use Rattle.tcap.specs.declared.OrigTransactionId.{OrigTransactionId}
use Rattle.std.specs.Prelude.{Option as Optional, None}
use Prim.Native.Nat.{ℕ, suc, ◌-◌, ◌/◌, ◌%◌, ◌≤◌}
use native.Mathlib.Omega.{arith}
use mathlib.Core.Path.{◌≡◌, refl, sym, ap, ◌∙◌}
use mathlib.Core.List.{List, [], ◌∷◌, ◌++◌, map, append_assoc}
use lib.ListN.{length, take, replicate, set, length-map}
use lib.Seq.{take_at}
use Rattle.base.specs.Number.{octets_in}
use Rattle.base.specs.Value.{Every}
use Rattle.element.specs.Fault.{Text}
use Rattle.element.specs.Ask.{got}
use Rattle.tcap.specs.declared.{Dialogue.Dialogue as DialogueField, MessageKind.MessageKind}
use Rattle.tcap.specs.Meaning.{Component, Message, unidirectional, begin, finish, continue, abort}
use Rattle.tcap.specs.WellFormed.{most_octets, most_components, the93, WellFormedUpTo}
use Rattle.tcap.specs.Record.{orig_field, dest_field, row_of, ending_field, portion_field, blank_row, record_from, record_of, message_tag}
use Rattle.tcap.specs.Reading.{located_up_to}
use Rattle.tcap.proofs.Strings.{octets_of, component_as, forget, Strings, option_strings, series_strings, component_strings, dialogue_strings, ending_strings, orig_strings, dest_strings, rest_strings, strings}
use Rattle.tcap.proofs.Records.{Sits, components}
use Rattle.tcap.proofs.Places.{strings_sit}
use Rattle.tcap.proofs.Promises.{located_reads}
use Rattle.layout.specs.Layout.{span_octets, no_span, orig_flag, orig_span, dest_flag, dest_span, dialogue_number, portion_octets, dialogue_octets, rows_octets, head_octets, record_octets}
use Rattle.layout.proofs.RoundTrip.{head_length}
use Rattle.read_place.specs.Laying.{lay_components, lay_message, tag_in, lay_accepted}
use Rattle.read.proofs.LaidRow.{AllSmall, both_small, blanks, rows_laid}
use Rattle.read.proofs.LaidHead.{shape, orig_laid, dest_laid, portion_laid, ending_laid}

-- every string of what is read stands in its 255 octets
small_all : (m : List ℕ) → length m ≤ most_octets → (l : Strings) → Every (Sits m) l → AllSmall l
unfolding Every Sits
small_all m short [] s = tt
small_all m short (x ∷ l) s = ((omega (arith, s.0.0), omega (arith, s.0.0)), small_all m short l s.1)

-- A head, then its rows, then their count and the tag

abbrev headed : ℕ → Optional OrigTransactionId → Optional DestTransactionId → DialogueField → ℕ → List ℕ → List ℕ
headed t o e d n r = shape t (orig_flag o) (dest_flag e) (dialogue_number d) n (orig_span o) (dest_span e) (dialogue_octets d ++ r)

count_laid : (t : ℕ) (o : Optional OrigTransactionId) (e : Optional DestTransactionId) (d : DialogueField) (n : ℕ) → n ≤ 16 → (r : List ℕ) → set (headed t o e d 0 r) 7 n ≡ headed t o e d n r
unfolding span_octets octets_in
count_laid t o e d n h r =
    let w : n / 256 / 256 / 256 % 256 ≡ 0 = omega arith in
    let x : n / 256 / 256 % 256 ≡ 0 = omega arith in
    let y : n / 256 % 256 ≡ 0 = omega arith in
    let z : n % 256 ≡ n = omega arith in
    rw (w, x, y, z)

module _ (k : MessageKind) (o : Optional OrigTransactionId) (e : Optional DestTransactionId) (d : DialogueField) where
  counted : (cs : List (Component Text)) → record_octets (record_from k o e d cs) ≡ head_octets k o e d (length cs) ++ rows_octets (map row_of cs)
  unfolding record_octets
  counted cs = rw (take_at (map row_of cs) (replicate (most_components - length cs) blank_row) (length cs) (length-map cs row_of))

  abbrev front : List ℕ
  front = shape 0 (orig_flag o) (dest_flag e) (dialogue_number d) 0 (orig_span o) (dest_span e) (dialogue_octets d)

  front_long : length front ≡ 44
  unfolding head_octets span_octets octets_in
  front_long = head_length k o e d 0

  rows_behind : (cs : List (Component Text)) → length cs ≤ most_components → AllSmall (series_strings component_strings cs) → lay_components cs (headed 0 o e d 0 (blanks 16)) ≡ headed 0 o e d (length cs) (rows_octets (map row_of cs) ++ blanks (most_components - length cs))
  unfolding lay_components rows_octets span_octets octets_in
  rows_behind [] l s = refl
  rows_behind (c ∷ cs) l s =
      let rows = rows_octets (map row_of (c ∷ cs)) in
      let left = blanks (most_components - length (c ∷ cs)) in
      ap (λ (x : List ℕ). set x 7 (suc (length cs))) (rows_laid (c ∷ cs) 0 16 front front_long l s ∙ append_assoc front rows left) ∙ count_laid 0 o e d (suc (length cs)) l (rows ++ left)

  record_laid : (cs : List (Component Text)) → length cs ≤ most_components → AllSmall (series_strings component_strings cs) → set (lay_components cs (headed 0 o e d 0 (blanks 16))) 0 (message_tag k) ≡ record_octets (record_from k o e d cs) ++ blanks (most_components - length cs)
  unfolding head_octets span_octets octets_in
  record_laid cs l s =
      let rows = rows_octets (map row_of cs) in
      let left = blanks (most_components - length cs) in
      ap (λ (x : List ℕ). set x 0 (message_tag k)) (rows_behind cs l s) ∙ sym (ap (λ (x : List ℕ). x ++ left) (counted cs) ∙ append_assoc (head_octets k o e d (length cs)) rows left)

abbrev no_orig : Optional OrigTransactionId
no_orig = None

abbrev no_dest : Optional DestTransactionId
no_dest = None

abbrev no_dialogue : DialogueField
no_dialogue = DialogueField.NoDialogue

zeros : replicate 428 0 ≡ headed 0 no_orig no_dest no_dialogue 0 (blanks 16)
unfolding blanks span_octets octets_in orig_flag dest_flag orig_span dest_span dialogue_number dialogue_octets portion_octets
zeros = refl

behind : List ℕ
behind = dialogue_octets no_dialogue ++ blanks 16

small_laid : (v : Message Text) → length (components v) ≤ most_components → AllSmall (strings v) → lay_accepted v (replicate 428 0) ≡ record_octets (record_of v) ++ blanks (most_components - length (components v))
unfolding lay_accepted lay_message tag_in record_of orig_flag dest_flag orig_span dest_span dialogue_number lay_components Every behind series_strings
small_laid (unidirectional d cs) l s =
    let (p, r) = both_small (option_strings dialogue_strings d) (series_strings component_strings cs) s in
    rw (zeros, portion_laid 0 0 no_span no_span (blanks 16) d p) (record_laid MessageKind.Unidirectional no_orig no_dest (portion_field d) cs l r)
small_laid (begin o d cs) l s =
    let (i, q) = both_small (orig_strings o) (rest_strings d cs) s in
    let (p, r) = both_small (option_strings dialogue_strings d) (series_strings component_strings cs) q in
    rw (zeros, orig_laid o i behind, portion_laid (orig_flag (orig_field o)) 0 (orig_span (orig_field o)) no_span (blanks 16) d p) (record_laid MessageKind.Begin (orig_field o) no_dest (portion_field d) cs l r)
small_laid (finish e d cs) l s =
    let (i, q) = both_small (dest_strings e) (rest_strings d cs) s in
    let (p, r) = both_small (option_strings dialogue_strings d) (series_strings component_strings cs) q in
    rw (zeros, dest_laid 0 no_span e i behind, portion_laid 0 (dest_flag (dest_field e)) no_span (dest_span (dest_field e)) (blanks 16) d p) (record_laid MessageKind.End no_orig (dest_field e) (portion_field d) cs l r)
small_laid (continue o e d cs) l s =
    let (i, f) = both_small (orig_strings o) (dest_strings e ++ rest_strings d cs) s in
    let (j, q) = both_small (dest_strings e) (rest_strings d cs) f in
    let (p, r) = both_small (option_strings dialogue_strings d) (series_strings component_strings cs) q in
    rw (zeros, orig_laid o i behind, dest_laid (orig_flag (orig_field o)) (orig_span (orig_field o)) e j behind, portion_laid (orig_flag (orig_field o)) (dest_flag (dest_field e)) (orig_span (orig_field o)) (dest_span (dest_field e)) (blanks 16) d p)
    (record_laid MessageKind.Continue (orig_field o) (dest_field e) (portion_field d) cs l r)
small_laid (abort e q) l s =
    let (i, p) = both_small (dest_strings e) (ending_strings q) s in
    rw (zeros, dest_laid 0 no_span e i behind, ending_laid 0 (dest_flag (dest_field e)) no_span (dest_span (dest_field e)) (blanks 16) q p) (record_laid MessageKind.Abort no_orig (dest_field e) (ending_field q) [] l tt)

pub few : (v : Message Text) → WellFormedUpTo the93 (forget v) → length (components v) ≤ most_components
unfolding WellFormedUpTo
few (unidirectional d cs) w = omega (arith, w.2.0, length-map cs (component_as octets_of))
few (begin o d cs) w = omega (arith, w.2.0, length-map cs (component_as octets_of))
few (finish e d cs) w = omega (arith, w.2.0, length-map cs (component_as octets_of))
few (continue o e d cs) w = omega (arith, w.3.0, length-map cs (component_as octets_of))
few (abort e s) w = omega arith

module _ (m : List ℕ) (v : Message Text) (n : ℕ) (e : located_up_to the93 m ≡ got v n) where
  pub accepted_laid : lay_accepted v (replicate 428 0) ≡ record_octets (record_of v) ++ blanks (most_components - length (components v))
  accepted_laid =
      let r = located_reads the93 (omega arith) m v n e in
      small_laid v (few v r.fine) (small_all m r.short (strings v) (strings_sit the93 m v n e))

  pub accepted_held : take (length (record_octets (record_of v))) (lay_accepted v (replicate 428 0)) ≡ record_octets (record_of v)
  accepted_held = rw accepted_laid (take_at (record_octets (record_of v)) (blanks (most_components - length (components v))) (length (record_octets (record_of v))) refl)

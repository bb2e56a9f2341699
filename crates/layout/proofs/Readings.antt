-- The layout holds every record that is read, and gives it back. Assumes nothing.
use Rattle.tcap.specs.Reading.{outcome_of, handed_back}
use Rattle.std.specs.Prelude.{Ok, Option as Optional, None}
use Prim.Native.Nat.{ℕ, ◌+◌, ◌-◌, ◌≤◌}
use native.Mathlib.Omega.{arith}
use mathlib.Core.Path.{◌≡◌, refl, ◌∙◌}
use mathlib.Core.Bool.{true}
use mathlib.Core.List.{List, [], ◌∷◌, ◌++◌, map}
use mathlib.Core.Option
use mathlib.Core.Option.{Option, none, some}
use lib.ListN.{length, replicate, length-append, length-map, length-replicate}
use lib.Seq.{take_at}
use lib.IntN.{ℤ}
use Rattle.base.specs.Number.{top_of, holds}
use Rattle.base.specs.Value.{Every, Maybe}
use Rattle.base.proofs.Values.{every_parts}
use Rattle.element.specs.Fault.{Text}
use Rattle.element.specs.Ask.{Got, got, bad}
use Rattle.tcap.specs.declared.{DestTransactionId.DestTransactionId, OrigTransactionId.OrigTransactionId, Dialogue.Dialogue as DialogueField, MessageKind.MessageKind}
use Rattle.tcap.specs.Meaning.{Originating, orig, Destination, dest, Code, local, global, Component, invoke, last, not_last, error, reject, Dialogue, request, unidialogue, response, aborted, single, octets, Ending, silent, cause, says, Message, unidirectional, begin, finish, continue, abort}
use Rattle.tcap.specs.WellFormed.{Rules, most_octets, most_components, the93, CodeOk, ComponentOk, ComponentsOk, BothOk, WellFormedUpTo}
use Rattle.tcap.specs.Record.{span_of, span_field, orig_field, dest_field, id_field, linked_field, code_field, both_field, row_of, dialogue_field, ending_field, portion_field, blank_row, record_from, record_of}
use Rattle.tcap.specs.Reading.{located_up_to, answered, reading_up_to, reading}
use Rattle.tcap.proofs.Strings.{octets_of, code_as, both_as, component_as, forget, Strings, option_strings, tagged, whole, series_strings, code_strings, both_strings, component_strings, named_strings, dialogue_strings, ending_strings, orig_strings, dest_strings, rest_strings, strings}
use Rattle.tcap.proofs.Records.{Sits}
use Rattle.tcap.proofs.Places.{strings_sit}
use Rattle.tcap.proofs.Promises.{located_reads}
use Rattle.layout.specs.Layout.{most_rows, record_in, record_octets}
use Rattle.layout.specs.Fits.{SpanFits, OptionalFits, IdFits, LinkedFits, CodeFits, ReturnedFits, RowFits, OrigFits, DestFits, DialogueFits, RecordFits}
use Rattle.layout.proofs.RoundTrip.{blanked, record_back}

module _ (m : List ℕ) (short : length m ≤ most_octets) where
  abbrev AllSit : Strings → Type 0
  AllSit l = Every (Sits m) l

  text_fits : (o : Option ℕ) (t : Text) → AllSit ((o, t) ∷ []) → SpanFits (span_of t)
  unfolding Every Sits top_of
  text_fits o t s = (omega (arith, s.0.0), omega (arith, s.0.0))

  option_fits : (o : Option ℕ) (u : Option Text) → AllSit (option_strings (λ t. (o, t) ∷ []) u) → OptionalFits (span_field u)
  option_fits o none s = tt
  option_fits o (some t) s = text_fits o t s

  code_fits : (c : Code Text) → AllSit (code_strings c) → CodeOk (code_as octets_of c) → CodeFits (code_field c)
  code_fits (local z) s k = k
  code_fits (global t) s k = text_fits (some 0x06) t s

  both_fits : (rules : Rules) (r : Option (Code Text × Text)) → AllSit (option_strings both_strings r) → Maybe (BothOk rules) (Option.map (both_as octets_of) r) → ReturnedFits (both_field r)
  both_fits rules none s k = tt
  both_fits rules (some (c, t)) s k = let (a, b) = every_parts (Sits m) (code_strings c) (whole t) s in (code_fits c a k.0, text_fits none t b)

  id_fits : (i : Option ℤ) → Maybe (λ z. holds 1 z ≡ true) i → IdFits (id_field i)
  id_fits none k = tt
  id_fits (some i) k = k

  linked_fits : (i : Option ℤ) → Maybe (λ z. holds 1 z ≡ true) i → LinkedFits (linked_field i)
  linked_fits none k = tt
  linked_fits (some i) k = k

  row_fits : (rules : Rules) (c : Component Text) → AllSit (component_strings c) → ComponentOk rules (component_as octets_of c) → RowFits (row_of c)
  unfolding ComponentOk
  row_fits rules (invoke i l c p) s k = let (a, b) = every_parts (Sits m) (code_strings c) (option_strings whole p) s in (k.0, (linked_fits l k.1, code_fits c a k.2, option_fits none p b))
  row_fits rules (last i r) s k = (k.0, both_fits rules r s k.1)
  row_fits rules (not_last i r) s k = (k.0, both_fits rules r s k.1)
  row_fits rules (error i c p) s k = let (a, b) = every_parts (Sits m) (code_strings c) (option_strings whole p) s in (k.0, (code_fits c a k.1, option_fits none p b))
  row_fits rules (reject i q) s k = (id_fits i k.0, tt)

  rows_fit : (rules : Rules) (cs : List (Component Text)) → AllSit (series_strings component_strings cs) → Every (ComponentOk rules) (map (component_as octets_of) cs) → Every RowFits (map row_of cs)
  unfolding Every series_strings
  rows_fit rules [] s k = tt
  rows_fit rules (c ∷ cs) s k = let (a, b) = every_parts (Sits m) (component_strings c) (series_strings component_strings cs) s in (row_fits rules c a k.0, rows_fit rules cs b k.1)

  named_fits : (n : Text) (u : Option Text) → AllSit (named_strings n u) → SpanFits (span_of n) × OptionalFits (span_field u)
  named_fits n u s = let (a, b) = every_parts (Sits m) (tagged 0x06 n) (option_strings (tagged 0xBE) u) s in (text_fits (some 0x06) n a, option_fits (some 0xBE) u b)

  dialogue_fits : (d : Dialogue Text) → AllSit (dialogue_strings d) → DialogueFits (dialogue_field d)
  dialogue_fits (request n u) s = named_fits n u s
  dialogue_fits (unidialogue n u) s = named_fits n u s
  dialogue_fits (response n r q u) s = named_fits n u s
  dialogue_fits (aborted r u) s = option_fits (some 0xBE) u s
  dialogue_fits (single n e) s = let (a, b) = every_parts (Sits m) (tagged 0x06 n) (whole e) s in (text_fits (some 0x06) n a, text_fits none e b)
  dialogue_fits (octets n c) s = let (a, b) = every_parts (Sits m) (tagged 0x06 n) (tagged 0x81 c) s in (text_fits (some 0x06) n a, text_fits (some 0x81) c b)

  ending_fits : (e : Ending Text) → AllSit (ending_strings e) → DialogueFits (ending_field e)
  ending_fits silent s = tt
  ending_fits (cause n) s = tt
  ending_fits (says d) s = dialogue_fits d s

  portion_fits : (d : Option (Dialogue Text)) → AllSit (option_strings dialogue_strings d) → DialogueFits (portion_field d)
  portion_fits none s = tt
  portion_fits (some d) s = dialogue_fits d s

  orig_fits : (o : Originating Text) → AllSit (orig_strings o) → OrigFits (orig_field o)
  orig_fits (orig t) s = text_fits (some 0x48) t s

  dest_fits : (e : Destination Text) → AllSit (dest_strings e) → DestFits (dest_field e)
  dest_fits (dest t) s = text_fits (some 0x49) t s

  from_fits : (rules : Rules) (k : MessageKind) (o : Optional OrigTransactionId) (e : Optional DestTransactionId) (d : DialogueField) (cs : List (Component Text)) → OrigFits o → DestFits e → DialogueFits d → AllSit (series_strings component_strings cs) → ComponentsOk rules (map (component_as octets_of) cs) → RecordFits (record_from k o e d cs)
  unfolding top_of
  from_fits rules k o e d cs a b c s w =
      let few : length cs ≤ most_components = omega (arith, w.0, length-map cs (component_as octets_of)) in
      let all : length (map row_of cs) + length (replicate (most_components - length cs) blank_row) ≡ most_rows = omega (arith, length-map cs row_of, length-replicate (most_components - length cs) blank_row) in
      record {
        orig = a;
        dest = b;
        dialogue = c;
        count = omega arith;
        sixteen = length-append (map row_of cs) (replicate (most_components - length cs) blank_row) ∙ all;
        rows = rw (take_at (map row_of cs) (replicate (most_components - length cs) blank_row) (length cs) (length-map cs row_of)) (rows_fit rules cs s w.1);
      }

  pub record_fits : (rules : Rules) (v : Message Text) → AllSit (strings v) → WellFormedUpTo rules (forget v) → RecordFits (record_of v)
  unfolding WellFormedUpTo record_of series_strings Every
  record_fits rules (unidirectional d cs) s w =
      let (a, b) = every_parts (Sits m) (option_strings dialogue_strings d) (series_strings component_strings cs) s in
      from_fits rules MessageKind.Unidirectional None None (portion_field d) cs tt tt (portion_fits d a) b w.2
  record_fits rules (begin o d cs) s w =
      let (i, r) = every_parts (Sits m) (orig_strings o) (rest_strings d cs) s in
      let (a, b) = every_parts (Sits m) (option_strings dialogue_strings d) (series_strings component_strings cs) r in
      from_fits rules MessageKind.Begin (orig_field o) None (portion_field d) cs (orig_fits o i) tt (portion_fits d a) b w.2
  record_fits rules (finish e d cs) s w =
      let (i, r) = every_parts (Sits m) (dest_strings e) (rest_strings d cs) s in
      let (a, b) = every_parts (Sits m) (option_strings dialogue_strings d) (series_strings component_strings cs) r in
      from_fits rules MessageKind.End None (dest_field e) (portion_field d) cs tt (dest_fits e i) (portion_fits d a) b w.2
  record_fits rules (continue o e d cs) s w =
      let (i, q) = every_parts (Sits m) (orig_strings o) (dest_strings e ++ rest_strings d cs) s in
      let (j, r) = every_parts (Sits m) (dest_strings e) (rest_strings d cs) q in
      let (a, b) = every_parts (Sits m) (option_strings dialogue_strings d) (series_strings component_strings cs) r in
      from_fits rules MessageKind.Continue (orig_field o) (dest_field e) (portion_field d) cs (orig_fits o i) (dest_fits e j) (portion_fits d a) b w.3
  record_fits rules (abort e q) s w =
      let (i, r) = every_parts (Sits m) (dest_strings e) (ending_strings q) s in
      from_fits rules MessageKind.Abort None (dest_field e) (ending_field q) [] tt (dest_fits e i) (ending_fits q r) tt (omega arith, tt)

-- the rows of what is read are blank from the count on already
from_blanked : (k : MessageKind) (o : Optional OrigTransactionId) (e : Optional DestTransactionId) (d : DialogueField) (cs : List (Component Text)) → blanked (record_from k o e d cs) ≡ record_from k o e d cs
unfolding blanked
from_blanked k o e d cs = rw (take_at (map row_of cs) (replicate (most_components - length cs) blank_row) (length cs) (length-map cs row_of))

record_blanked : (v : Message Text) → blanked (record_of v) ≡ record_of v
unfolding record_of
record_blanked (unidirectional d cs) = from_blanked MessageKind.Unidirectional None None (portion_field d) cs
record_blanked (begin o d cs) = from_blanked MessageKind.Begin (orig_field o) None (portion_field d) cs
record_blanked (finish e d cs) = from_blanked MessageKind.End None (dest_field e) (portion_field d) cs
record_blanked (continue o e d cs) = from_blanked MessageKind.Continue (orig_field o) (dest_field e) (portion_field d) cs
record_blanked (abort e s) = from_blanked MessageKind.Abort None (dest_field e) (ending_field s) []

by_located : (m : List ℕ) (x : Got (Message Text)) → located_up_to the93 m ≡ x → outcome_of (answered x) ≡ Ok tt → RecordFits (handed_back (answered x)) × (blanked (handed_back (answered x)) ≡ (handed_back (answered x)))
unfolding answered
by_located m (got v n) e h =
    let r = located_reads the93 (omega arith) m v n e in
    (record_fits m r.short the93 v (strings_sit the93 m v n e) r.fine, record_blanked v)
by_located m (bad f) e h = let z : ◌≡◌ {A = ℕ} 0 1 = cc in absurd (omega arith)

module _ (m : List ℕ) (h : outcome_of (reading m) ≡ Ok tt) where
  kept : RecordFits (handed_back (reading m)) × (blanked (handed_back (reading m)) ≡ (handed_back (reading m)))
  unfolding reading reading_up_to
  kept = by_located m (located_up_to the93 m) refl h

  -- what is read is laid out as a record, and given back, with any octets behind it
  pub reading_fits : RecordFits (handed_back (reading m))
  reading_fits = kept.0

  pub reading_back : (rest : List ℕ) → record_in (record_octets (handed_back (reading m)) ++ rest) ≡ handed_back (reading m)
  reading_back rest = record_back (handed_back (reading m)) rest reading_fits ∙ kept.1

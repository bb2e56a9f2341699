-- The record of a message whose strings stand in m means, over m, that message with the places forgotten. Assumes nothing.
use Prim.Native.Nat.{ℕ, ◌+◌, ◌-◌, ◌≤◌, ◌<◌}
use mathlib.Core.Path.{◌≡◌, refl}
use mathlib.Core.List.{List, [], ◌∷◌, ◌++◌, map}
use mathlib.Core.Option
use mathlib.Core.Option.{Option, none, some, bind}
use lib.ListN.{length, take, drop, replicate, length-map}
use lib.Seq.{take_at}
use borrow.Author.Tests.{le-leb, lt-leb}
use Rattle.base.specs.Value.{Every}
use Rattle.base.proofs.Values.{every_parts}
use Rattle.element.specs.Fault.{Text}
use Rattle.tcap.specs.declared.{Span.Span, Record.Record}
use Rattle.tcap.specs.Meaning.{Originating, orig, Destination, dest, Code, local, global, Component, invoke, last, not_last, error, reject, Dialogue, request, unidialogue, response, aborted, single, octets, Ending, silent, cause, says, Message, unidirectional, begin, finish, continue, abort}
use Rattle.tcap.specs.WellFormed.{most_components}
use Rattle.tcap.specs.Record.{span_of, span_field, code_field, both_field, row_of, dialogue_field, ending_field, portion_field, orig_field, dest_field, blank_row, record_of, octets_at, span_means, code_means, both_means, id_field, id_means, linked_field, linked_means, row_means, rows_mean, ending_means, portion_of, orig_means, dest_means, meaning_of}
use Rattle.tcap.proofs.Strings.{octets_of, code_as, both_as, component_as, dialogue_as, ending_as, orig_as, dest_as, forget, Strings, option_strings, tagged, whole, series_strings, code_strings, both_strings, component_strings, named_strings, dialogue_strings, ending_strings, orig_strings, dest_strings, rest_strings, strings}

-- the string's octets are those of m at its place
unfoldable pub Sits : List ℕ → Option ℕ × Text → Type 0
Sits m s = (s.1.0 + length s.1.1 ≤ length m) × (take (length s.1.1) (drop s.1.0 m) ≡ s.1.1)

-- how many components a message has
abbrev pub components : {S : Type 0} → Message S → List (Component S)
components (unidirectional d cs) = cs
components (begin o d cs) = cs
components (finish e d cs) = cs
components (continue o e d cs) = cs
components (abort e s) = []

module _ (m : List ℕ) where
  abbrev AllSit : Strings → Type 0
  AllSit l = Every (Sits m) l

  sits_means : (o : Option ℕ) (t : Text) → Sits m (o, t) → octets_at m (span_of t) ≡ some (octets_of t)
  unfolding Sits
  sits_means o t (h, e) = rw (le-leb (t.0 + length t.1) (length m) h, e)

  one_means : (o : Option ℕ) (t : Text) → AllSit ((o, t) ∷ []) → octets_at m (span_of t) ≡ some (octets_of t)
  unfolding Every
  one_means o t s = sits_means o t s.0

  option_means : (o : Option ℕ) (u : Option Text) → AllSit (option_strings (λ t. (o, t) ∷ []) u) → span_means m (span_field u) ≡ some (Option.map octets_of u)
  unfolding bind
  option_means o none s = refl
  option_means o (some t) s = rw (one_means o t s)

  code_means_lem : (c : Code Text) → AllSit (code_strings c) → code_means m (code_field c) ≡ some (code_as octets_of c)
  unfolding bind
  code_means_lem (local z) s = refl
  code_means_lem (global t) s = rw (one_means (some 0x06) t s)

  both_means_lem : (r : Option (Code Text × Text)) → AllSit (option_strings both_strings r) → both_means m (both_field r) ≡ some (Option.map (both_as octets_of) r)
  unfolding bind
  both_means_lem none s = refl
  both_means_lem (some (c, t)) s = let (a, b) = every_parts (Sits m) (code_strings c) (whole t) s in rw (code_means_lem c a, one_means none t b)

  linked_means_lem : (l : Option lib.IntN.ℤ) → linked_means m (linked_field l) ≡ l
  linked_means_lem none = refl
  linked_means_lem (some i) = refl

  id_means_lem : (l : Option lib.IntN.ℤ) → id_means m (id_field l) ≡ l
  id_means_lem none = refl
  id_means_lem (some i) = refl

  row_means_lem : (c : Component Text) → AllSit (component_strings c) → row_means m (row_of c).id (row_of c).kind ≡ some (component_as octets_of c)
  unfolding bind
  row_means_lem (invoke i l c p) s = let (a, b) = every_parts (Sits m) (code_strings c) (option_strings whole p) s in rw (code_means_lem c a, option_means none p b, linked_means_lem l)
  row_means_lem (last i r) s = rw (both_means_lem r s)
  row_means_lem (not_last i r) s = rw (both_means_lem r s)
  row_means_lem (error i c p) s = let (a, b) = every_parts (Sits m) (code_strings c) (option_strings whole p) s in rw (code_means_lem c a, option_means none p b)
  row_means_lem (reject i q) s = rw (id_means_lem i)

  rows_mean_lem : (cs : List (Component Text)) → AllSit (series_strings component_strings cs) → rows_mean m (map row_of cs) ≡ some (map (component_as octets_of) cs)
  unfolding rows_mean bind series_strings
  rows_mean_lem [] s = refl
  rows_mean_lem (c ∷ cs) s = let (a, b) = every_parts (Sits m) (component_strings c) (series_strings component_strings cs) s in rw (row_means_lem c a, rows_mean_lem cs b)

  counted_mean : (cs : List (Component Text)) → AllSit (series_strings component_strings cs)
      → rows_mean m (take (length cs) (map row_of cs ++ replicate (most_components - length cs) blank_row)) ≡ some (map (component_as octets_of) cs)
  counted_mean cs s = rw (take_at (map row_of cs) (replicate (most_components - length cs) blank_row) (length cs) (length-map cs row_of)) (rows_mean_lem cs s)

  named_means : (n : Text) (u : Option Text) → AllSit (named_strings n u) → (octets_at m (span_of n) ≡ some (octets_of n)) × (span_means m (span_field u) ≡ some (Option.map octets_of u))
  named_means n u s = let (a, b) = every_parts (Sits m) (tagged 0x06 n) (option_strings (tagged 0xBE) u) s in (one_means (some 0x06) n a, option_means (some 0xBE) u b)

  dialogue_means : (d : Dialogue Text) → AllSit (dialogue_strings d) → ending_means m (dialogue_field d) ≡ some (says (dialogue_as octets_of d))
  unfolding bind
  dialogue_means (request n u) s = let (a, b) = named_means n u s in rw (a, b)
  dialogue_means (unidialogue n u) s = let (a, b) = named_means n u s in rw (a, b)
  dialogue_means (response n r q u) s = let (a, b) = named_means n u s in rw (a, b)
  dialogue_means (aborted r u) s = rw (option_means (some 0xBE) u s)
  dialogue_means (single n e) s = let (a, b) = every_parts (Sits m) (tagged 0x06 n) (whole e) s in rw (one_means (some 0x06) n a, one_means none e b)
  dialogue_means (octets n c) s = let (a, b) = every_parts (Sits m) (tagged 0x06 n) (tagged 0x81 c) s in rw (one_means (some 0x06) n a, one_means (some 0x81) c b)

  ending_means_lem : (e : Ending Text) → AllSit (ending_strings e) → ending_means m (ending_field e) ≡ some (ending_as octets_of e)
  ending_means_lem silent s = refl
  ending_means_lem (cause n) s = refl
  ending_means_lem (says d) s = dialogue_means d s

  -- [6B] before the components
  abbrev portion_ending : Option (Dialogue (List ℕ)) → Ending (List ℕ)
  portion_ending none = silent
  portion_ending (some d) = says d

  portion_means : (d : Option (Dialogue Text)) → AllSit (option_strings dialogue_strings d) → ending_means m (portion_field d) ≡ some (portion_ending (Option.map (dialogue_as octets_of) d))
  portion_means none s = refl
  portion_means (some d) s = dialogue_means d s

  portion_of_lem : (d : Option (Dialogue (List ℕ))) → portion_of m (portion_ending d) ≡ some d
  portion_of_lem none = refl
  portion_of_lem (some d) = refl

  orig_means_lem : (o : Originating Text) → AllSit (orig_strings o) → orig_means m (orig_field o) ≡ some (some (orig_as octets_of o))
  unfolding bind
  orig_means_lem (orig t) s = rw (one_means (some 0x48) t s)

  dest_means_lem : (e : Destination Text) → AllSit (dest_strings e) → dest_means m (dest_field e) ≡ some (some (dest_as octets_of e))
  unfolding bind
  dest_means_lem (dest t) s = rw (one_means (some 0x49) t s)

  pub record_means : (v : Message Text) → length (components v) ≤ most_components → AllSit (strings v) → meaning_of (record_of v) m ≡ some (forget v)
  unfolding meaning_of record_of bind rows_mean
  record_means (unidirectional d cs) k s =
      let (a, b) = every_parts (Sits m) (option_strings dialogue_strings d) (series_strings component_strings cs) s in
      rw (le-leb (length cs) most_components k, portion_means d a, counted_mean cs b, portion_of_lem (Option.map (dialogue_as octets_of) d))
  record_means (begin o d cs) k s =
      let (i, r) = every_parts (Sits m) (orig_strings o) (rest_strings d cs) s in
      let (a, b) = every_parts (Sits m) (option_strings dialogue_strings d) (series_strings component_strings cs) r in
      rw (le-leb (length cs) most_components k, orig_means_lem o i, portion_means d a, counted_mean cs b, portion_of_lem (Option.map (dialogue_as octets_of) d))
  record_means (finish e d cs) k s =
      let (i, r) = every_parts (Sits m) (dest_strings e) (rest_strings d cs) s in
      let (a, b) = every_parts (Sits m) (option_strings dialogue_strings d) (series_strings component_strings cs) r in
      rw (le-leb (length cs) most_components k, dest_means_lem e i, portion_means d a, counted_mean cs b, portion_of_lem (Option.map (dialogue_as octets_of) d))
  record_means (continue o e d cs) k s =
      let (i, q) = every_parts (Sits m) (orig_strings o) (dest_strings e ++ rest_strings d cs) s in
      let (j, r) = every_parts (Sits m) (dest_strings e) (rest_strings d cs) q in
      let (a, b) = every_parts (Sits m) (option_strings dialogue_strings d) (series_strings component_strings cs) r in
      rw (le-leb (length cs) most_components k, orig_means_lem o i, dest_means_lem e j, portion_means d a, counted_mean cs b, portion_of_lem (Option.map (dialogue_as octets_of) d))
  record_means (abort e q) k s =
      let (i, r) = every_parts (Sits m) (dest_strings e) (ending_strings q) s in
      rw (dest_means_lem e i, ending_means_lem q r)

-- a count above 16 means nothing, and neither does a string past the end: it is not cut
pub above_most : (r : Record) (m : List ℕ) → most_components < r.count → meaning_of r m ≡ none
unfolding meaning_of
above_most r m h = rw (lt-leb r.count most_components h)

pub past_end : (m : List ℕ) (s : Span) → length m < s.place + s.len → octets_at m s ≡ none
past_end m s h = rw (lt-leb (s.place + s.len) (length m) h)

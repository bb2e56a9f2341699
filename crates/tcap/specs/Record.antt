-- The record of a message, and what a record means over the octets beside it, if anything: document 01, "Record and refusal of a reading".
-- Assumes nothing: these are definitions.
use Rattle.tcap.specs.declared.DestTransactionId.{DestTransactionId}
use Rattle.tcap.specs.declared.OrigTransactionId.{OrigTransactionId}
use Rattle.std.specs.Prelude.{Option as Optional, Some, None}
use Rattle.std.specs.Prelude.{ℕ, ◌+◌, ◌-◌}
use Rattle.std.proofs.Math.Option
use mathlib.Core.{Path.◌≡◌, Bool.cond, List.List, List.[], List.◌∷◌, List.◌++◌, List.map, Option.Option, Option.get_or, Option.none, Option.some, Option.bind}
use lib.{ListN.length, ListN.take, ListN.drop, ListN.replicate, Dec.leb, IntN.ℤ, IntN.pos}
use Rattle.element.specs.{Fault.Text}
use Rattle.tcap.specs.{declared.Span.Span, declared.Code.Code as CodeField, declared.ComponentKind.ComponentKind, declared.Row.Row, declared.Dialogue.Dialogue as DialogueField, declared.MessageKind.MessageKind, declared.Record.Record, Meaning.Originating, Meaning.orig, Meaning.Destination, Meaning.dest, Meaning.Code, Meaning.local, Meaning.global, Meaning.Component, Meaning.invoke, Meaning.last, Meaning.not_last, Meaning.error, Meaning.reject, Meaning.Dialogue, Meaning.request, Meaning.unidialogue, Meaning.response, Meaning.aborted, Meaning.single, Meaning.octets, Meaning.Ending, Meaning.silent, Meaning.cause, Meaning.says, Meaning.Message, Meaning.unidirectional, Meaning.begin, Meaning.finish, Meaning.continue, Meaning.abort, Meaning.Meaning, WellFormed.most_components}

-- The record of a message: each string by its place and length

abbrev pub span_of : Text → Span
span_of t = record { place = t.0; len = length t.1 }

abbrev pub span_field : Option Text → Optional Span
span_field none = None
span_field (some t) = Some (span_of t)

abbrev pub orig_field : Originating Text → Optional OrigTransactionId
orig_field (orig t) = Some (record { 0 = record { octets = span_of t } })

abbrev pub dest_field : Destination Text → Optional DestTransactionId
dest_field (dest t) = Some (record { 0 = record { octets = span_of t } })

abbrev pub id_field : Option ℤ → Optional ℤ
id_field none = None
id_field (some i) = Some i

abbrev pub linked_field : Option ℤ → Optional ℤ
linked_field none = None
linked_field (some i) = Some i

abbrev pub code_field : Code Text → CodeField
code_field (local z) = CodeField.Local z
code_field (global t) = CodeField.Global (span_of t)

abbrev pub both_field : Option (Code Text × Text) → Optional (CodeField × Span)
both_field none = None
both_field (some (c, t)) = Some ((code_field c), (span_of t))

abbrev pub row_of : Component Text → Row
row_of (invoke i l c p) = record { id = Some i; kind = ComponentKind.Invoke (linked_field l) (code_field c) (span_field p) }
row_of (last i r) = record { id = Some i; kind = ComponentKind.ResultLast (both_field r) }
row_of (not_last i r) = record { id = Some i; kind = ComponentKind.ResultNotLast (both_field r) }
row_of (error i c p) = record { id = Some i; kind = ComponentKind.ReturnError (code_field c) (span_field p) }
row_of (reject i q) = record { id = id_field i; kind = ComponentKind.Reject q }

abbrev pub dialogue_field : Dialogue Text → DialogueField
dialogue_field (request n u) = DialogueField.Request (span_of n) (span_field u)
dialogue_field (unidialogue n u) = DialogueField.Unidialogue (span_of n) (span_field u)
dialogue_field (response n r s u) = DialogueField.Response (span_of n) r s (span_field u)
dialogue_field (aborted r u) = DialogueField.DialogueAbort r (span_field u)
dialogue_field (single n e) = DialogueField.OutsideElement (span_of n) (span_of e)
dialogue_field (octets n c) = DialogueField.OutsideOctets (span_of n) (span_of c)

abbrev pub ending_field : Ending Text → DialogueField
ending_field silent = DialogueField.NoDialogue
ending_field (cause n) = DialogueField.Cause n
ending_field (says d) = dialogue_field d

abbrev pub portion_field : Option (Dialogue Text) → DialogueField
portion_field d = get_or (Option.map dialogue_field d) DialogueField.NoDialogue

-- the row where there is no component
abbrev pub blank_row : Row
blank_row = record { id = None; kind = ComponentKind.Invoke None (CodeField.Local (pos 0)) None }

abbrev pub record_from : MessageKind → Optional OrigTransactionId → Optional DestTransactionId → DialogueField → List (Component Text) → Record
record_from k o e d cs = record { kind = k; orig = o; dest = e; dialogue = d; count = length cs; rows = map row_of cs ++ replicate (most_components - length cs) blank_row }

unfoldable pub record_of : Message Text → Record
record_of (unidirectional d cs) = record_from MessageKind.Unidirectional None None (portion_field d) cs
record_of (begin o d cs) = record_from MessageKind.Begin (orig_field o) None (portion_field d) cs
record_of (finish e d cs) = record_from MessageKind.End None (dest_field e) (portion_field d) cs
record_of (continue o e d cs) = record_from MessageKind.Continue (orig_field o) (dest_field e) (portion_field d) cs
record_of (abort e s) = record_from MessageKind.Abort None (dest_field e) (ending_field s) []

abbrev pub blank_record : Record
blank_record = record_from MessageKind.Unidirectional None None DialogueField.NoDialogue []

-- What a record means over the octets m: nothing, where a string passes their end, the count is above 16, or an ID, a cause or a component is missing or too many

module _ (m : List ℕ) where
  abbrev pub octets_at : Span → Option (List ℕ)
  octets_at s = cond (leb (s.place + s.len) (length m)) (some (take s.len (drop s.place m))) none

  abbrev pub span_means : Optional Span → Option (Option (List ℕ))
  span_means None = some none
  span_means (Some s) = bind (octets_at s) (λ c. some (some c))

  abbrev pub code_means : CodeField → Option (Code (List ℕ))
  code_means (CodeField.Local z) = some (local z)
  code_means (CodeField.Global s) = bind (octets_at s) (λ c. some (global c))

  abbrev pub both_means : Optional (CodeField × Span) → Option (Option (Code (List ℕ) × List ℕ))
  both_means None = some none
  both_means (Some (c, p)) = bind (code_means c) (λ c. bind (octets_at p) (λ p. some (some (c, p))))

  abbrev pub id_means : Optional ℤ → Option ℤ
  id_means None = none
  id_means (Some i) = some i

  abbrev pub linked_means : Optional ℤ → Option ℤ
  linked_means None = none
  linked_means (Some i) = some i

  -- null is for a Reject alone
  abbrev pub row_means : Optional ℤ → ComponentKind → Option (Component (List ℕ))
  row_means i (ComponentKind.Invoke l c p) = bind (id_means i) (λ i. bind (code_means c) (λ c. bind (span_means p) (λ p. some (invoke i (linked_means l) c p))))
  row_means i (ComponentKind.ResultLast r) = bind (id_means i) (λ i. bind (both_means r) (λ r. some (last i r)))
  row_means i (ComponentKind.ResultNotLast r) = bind (id_means i) (λ i. bind (both_means r) (λ r. some (not_last i r)))
  row_means i (ComponentKind.ReturnError c p) = bind (id_means i) (λ i. bind (code_means c) (λ c. bind (span_means p) (λ p. some (error i c p))))
  row_means i (ComponentKind.Reject q) = some (reject (id_means i) q)

  unfoldable pub rows_mean : List Row → Option (List (Component (List ℕ)))
  rows_mean [] = some []
  rows_mean (r ∷ rs) = bind (row_means r.id r.kind) (λ c. bind (rows_mean rs) (λ cs. some (c ∷ cs)))

  abbrev pub named : Span → Optional Span → (List ℕ → Option (List ℕ) → Dialogue (List ℕ)) → Option (Ending (List ℕ))
  named n u f = bind (octets_at n) (λ n. bind (span_means u) (λ u. some (says (f n u))))

  abbrev pub ending_means : DialogueField → Option (Ending (List ℕ))
  ending_means DialogueField.NoDialogue = some silent
  ending_means (DialogueField.Cause n) = some (cause n)
  ending_means (DialogueField.Request n u) = named n u request
  ending_means (DialogueField.Response n r s u) = named n u (λ n u. response n r s u)
  ending_means (DialogueField.DialogueAbort r u) = bind (span_means u) (λ u. some (says (aborted r u)))
  ending_means (DialogueField.Unidialogue n u) = named n u unidialogue
  ending_means (DialogueField.OutsideElement n e) = bind (octets_at n) (λ n. bind (octets_at e) (λ e. some (says (single n e))))
  ending_means (DialogueField.OutsideOctets n c) = bind (octets_at n) (λ n. bind (octets_at c) (λ c. some (says (octets n c))))

  -- a cause is for an Abort alone
  abbrev pub portion_of : Ending (List ℕ) → Option (Option (Dialogue (List ℕ)))
  portion_of silent = some none
  portion_of (cause n) = none
  portion_of (says d) = some (some d)

  abbrev pub orig_means : Optional OrigTransactionId → Option (Option (Originating (List ℕ)))
  orig_means None = some none
  orig_means (Some o) = bind (octets_at o.0.octets) (λ c. some (some (orig c)))

  abbrev pub dest_means : Optional DestTransactionId → Option (Option (Destination (List ℕ)))
  dest_means None = some none
  dest_means (Some e) = bind (octets_at e.0.octets) (λ c. some (some (dest c)))

  -- none of a part that the kind may not have
  abbrev pub lacks : {A : Type 0} → Option A → Option (Unit {0})
  lacks none = some tt
  lacks (some a) = none

  abbrev pub lacks_all : {A : Type 0} → List A → Option (Unit {0})
  lacks_all [] = some tt
  lacks_all (a ∷ ws) = none

  abbrev pub parts_mean : MessageKind → Option (Originating (List ℕ)) → Option (Destination (List ℕ)) → Ending (List ℕ) → List (Component (List ℕ)) → Option Meaning
  parts_mean MessageKind.Unidirectional o e s cs = bind (lacks o) (λ x. bind (lacks e) (λ y. bind (portion_of s) (λ d. some (unidirectional d cs))))
  parts_mean MessageKind.Begin o e s cs = bind o (λ o. bind (lacks e) (λ y. bind (portion_of s) (λ d. some (begin o d cs))))
  parts_mean MessageKind.End o e s cs = bind (lacks o) (λ x. bind e (λ e. bind (portion_of s) (λ d. some (finish e d cs))))
  parts_mean MessageKind.Continue o e s cs = bind o (λ o. bind e (λ e. bind (portion_of s) (λ d. some (continue o e d cs))))
  parts_mean MessageKind.Abort o e s cs = bind (lacks o) (λ x. bind e (λ e. bind (lacks_all cs) (λ y. some (abort e s))))

unfoldable pub meaning_of : Record → List ℕ → Option Meaning
meaning_of r m =
    cond (leb r.count most_components)
    (bind (orig_means m r.orig) (λ o. bind (dest_means m r.dest) (λ e. bind (ending_means m r.dialogue) (λ s. bind (rows_mean m (take r.count r.rows)) (parts_mean m r.kind o e s)))))
    none

-- two records are the same if both have a meaning, and it is one; a record without a meaning is the same as none
unfoldable pub Same : Record → List ℕ → Record → List ℕ → Type 0
Same r m s n = (μ : Meaning) × (meaning_of r m ≡ some μ) × (meaning_of s n ≡ some μ)

-- the kind of a message as its tag; rules ask for it, and a record's octets begin with it
abbrev pub message_tag : MessageKind → ℕ
message_tag MessageKind.Unidirectional = 0x61
message_tag MessageKind.Begin = 0x62
message_tag MessageKind.End = 0x64
message_tag MessageKind.Continue = 0x65
message_tag MessageKind.Abort = 0x67

-- the tag of a component
abbrev pub row_tag : ComponentKind → ℕ
row_tag (ComponentKind.Invoke l c p) = 0xA1
row_tag (ComponentKind.ResultLast r) = 0xA2
row_tag (ComponentKind.ResultNotLast r) = 0xA7
row_tag (ComponentKind.ReturnError c p) = 0xA3
row_tag (ComponentKind.Reject q) = 0xA4

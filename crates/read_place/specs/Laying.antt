-- What a reader lays out in a record's octets, where docs/LAYOUT.md has it: each value changes the octets that it stands in. Octets that are 0 in every
-- record are not written, so that what is laid out in zeros is the record. Assumes nothing: these are definitions.
use Rattle.std.specs.Prelude.{ℕ, suc, ◌+◌, ◌*◌, List, [], ◌∷◌, ◌++◌, length, take, drop, set, ℤ}
use Rattle.std.proofs.Math.Option.{Option, none, some}
use Rattle.std.proofs.lemmas.List.Edits.{sets}
use Rattle.base.specs.Number.{octets_in, top_of, bits_at}
use Rattle.element.specs.Fault.{Text}
use Rattle.tcap.specs.{declared.Problem.Problem, declared.Diagnostic.Diagnostic, Meaning.Originating, Meaning.orig, Meaning.Destination, Meaning.dest, Meaning.Code, Meaning.local, Meaning.global, Meaning.Component, Meaning.invoke, Meaning.last, Meaning.not_last, Meaning.error, Meaning.reject, Meaning.Dialogue, Meaning.request, Meaning.unidialogue, Meaning.response, Meaning.aborted, Meaning.single, Meaning.octets, Meaning.Ending, Meaning.silent, Meaning.cause, Meaning.says, Meaning.Message, Meaning.unidirectional, Meaning.begin, Meaning.finish, Meaning.continue, Meaning.abort}

-- a place and a length at o, where the upper two octets of each number stay as they are
unfoldable pub lay_text : ℕ → ℕ → ℕ → List ℕ → List ℕ
lay_text o place len l = sets (sets l (o + 2) (octets_in 2 place)) (o + 6) (octets_in 2 len)

-- octets that were read, by their place and length
abbrev pub lay_span : ℕ → Text → List ℕ → List ℕ
lay_span o t l = lay_text o t.0 (length t.1) l

-- A row, of 24 octets

unfoldable pub lay_id : ℤ → List ℕ → List ℕ
lay_id i l = set (set l 1 1) 2 (bits_at (top_of 1) i)

unfoldable pub lay_reject_id : Option ℤ → List ℕ → List ℕ
lay_reject_id none l = l
lay_reject_id (some i) l = lay_id i l

unfoldable pub lay_linked : Option ℤ → List ℕ → List ℕ
lay_linked none l = l
lay_linked (some i) l = set (set l 3 1) 4 (bits_at (top_of 1) i)

unfoldable pub lay_code : Code Text → List ℕ → List ℕ
lay_code (local z) l = sets (set l 5 0x02) 8 (octets_in 4 (bits_at (top_of 4) z))
lay_code (global t) l = lay_span 8 t (set l 5 0x06)

unfoldable pub lay_element : Text → List ℕ → List ℕ
lay_element t l = lay_span 16 t (set l 6 1)

unfoldable pub lay_parameter : Option Text → List ℕ → List ℕ
lay_parameter none l = l
lay_parameter (some t) l = lay_element t l

unfoldable pub lay_returned : Option (Code Text × Text) → List ℕ → List ℕ
lay_returned none l = l
lay_returned (some (c, t)) l = lay_element t (lay_code c l)

unfoldable pub lay_problem : Problem → List ℕ → List ℕ
lay_problem (Problem.General n) l = set (set l 5 0x80) 7 n
lay_problem (Problem.OfInvoke n) l = set (set l 5 0x81) 7 n
lay_problem (Problem.OfResult n) l = set (set l 5 0x82) 7 n
lay_problem (Problem.OfError n) l = set (set l 5 0x83) 7 n

unfoldable pub lay_component : Component Text → List ℕ → List ℕ
lay_component (invoke i k c p) l = lay_parameter p (lay_code c (lay_linked k (lay_id i (set l 0 0xA1))))
lay_component (last i r) l = lay_returned r (lay_id i (set l 0 0xA2))
lay_component (not_last i r) l = lay_returned r (lay_id i (set l 0 0xA7))
lay_component (error i c p) l = lay_parameter p (lay_code c (lay_id i (set l 0 0xA3)))
lay_component (reject i q) l = lay_problem q (lay_reject_id i (set l 0 0xA4))

-- Rows from number k on, behind a head of 44 octets, and how many there are

unfoldable pub lay_row : ℕ → Component Text → List ℕ → List ℕ
lay_row k c l = take (44 + 24 * k) l ++ lay_component c (take 24 (drop (44 + 24 * k) l)) ++ drop (68 + 24 * k) l

unfoldable pub lay_rows : ℕ → List (Component Text) → List ℕ → List ℕ
lay_rows k [] l = l
lay_rows k (c ∷ cs) l = lay_rows (suc k) cs (lay_row k c l)

unfoldable pub lay_components : List (Component Text) → List ℕ → List ℕ
lay_components [] l = l
lay_components (c ∷ cs) l = set (lay_rows 0 (c ∷ cs) l) 7 (suc (length cs))

-- The head

abbrev pub lay_name : Text → List ℕ → List ℕ
lay_name n l = lay_span 24 n l

unfoldable pub lay_info : Option Text → List ℕ → List ℕ
lay_info none l = l
lay_info (some t) l = lay_span 32 t (set l 40 1)

unfoldable pub lay_diagnostic : Diagnostic → List ℕ → List ℕ
lay_diagnostic (Diagnostic.ByUser n) l = set (set l 42 0xA1) 43 n
lay_diagnostic (Diagnostic.ByProvider n) l = set (set l 42 0xA2) 43 n

unfoldable pub lay_dialogue : Dialogue Text → List ℕ → List ℕ
lay_dialogue (request n u) l = lay_info u (lay_name n (set l 3 2))
lay_dialogue (unidialogue n u) l = lay_info u (lay_name n (set l 3 5))
lay_dialogue (response n r s u) l = lay_info u (lay_diagnostic s (set (lay_name n (set l 3 3)) 41 r))
lay_dialogue (aborted r u) l = lay_info u (set (set l 3 4) 41 r)
lay_dialogue (single n e) l = lay_span 32 e (set (lay_name n l) 3 6)
lay_dialogue (octets n c) l = lay_span 32 c (set (lay_name n l) 3 7)

unfoldable pub lay_portion : Option (Dialogue Text) → List ℕ → List ℕ
lay_portion none l = l
lay_portion (some d) l = lay_dialogue d l

unfoldable pub lay_ending : Ending Text → List ℕ → List ℕ
lay_ending silent l = l
lay_ending (cause n) l = set (set l 3 1) 41 n
lay_ending (says d) l = lay_dialogue d l

unfoldable pub lay_orig : Originating Text → List ℕ → List ℕ
lay_orig (orig t) l = lay_span 8 t (set l 1 1)

unfoldable pub lay_dest : Destination Text → List ℕ → List ℕ
lay_dest (dest t) l = lay_span 16 t (set l 2 1)

-- A message: its tag is laid out last

unfoldable pub lay_message : Message Text → List ℕ → List ℕ
lay_message (unidirectional d cs) l = lay_components cs (lay_portion d l)
lay_message (begin o d cs) l = lay_components cs (lay_portion d (lay_orig o l))
lay_message (finish e d cs) l = lay_components cs (lay_portion d (lay_dest e l))
lay_message (continue o e d cs) l = lay_components cs (lay_portion d (lay_dest e (lay_orig o l)))
lay_message (abort e s) l = lay_ending s (lay_dest e l)

unfoldable pub tag_in : Message Text → ℕ
tag_in (unidirectional d cs) = 0x61
tag_in (begin o d cs) = 0x62
tag_in (finish e d cs) = 0x64
tag_in (continue o e d cs) = 0x65
tag_in (abort e s) = 0x67

unfoldable pub lay_accepted : Message Text → List ℕ → List ℕ
lay_accepted v l = set (lay_message v l) 0 (tag_in v)

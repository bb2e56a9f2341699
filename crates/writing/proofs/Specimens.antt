-- The writing specimens of document 01 as one table under one statement: the record of each message, written into room, is answered so and leaves just
-- those octets; and records with two faults each, as another. Answers are the page's numbers. Assumes nothing.
use Rattle.tcap.specs.Reading.{handed_back}
use Rattle.std.specs.Prelude.{ℤ}
use Rattle.tcap.specs.declared.DestTransactionId.{DestTransactionId}
use Rattle.tcap.specs.declared.OrigTransactionId.{OrigTransactionId}
use Rattle.writing.specs.declared.WriteFault.{WriteFault}
use Rattle.std.specs.Prelude.{Option as Optional, Result, Some, None, Ok, Err}
use Prim.Native.Nat.{ℕ, ◌-◌}
use mathlib.Core.Path.{◌≡◌, refl}
use mathlib.Core.List.{List, [], ◌∷◌, ◌++◌, map}
use mathlib.Core.Option.{bind}
use lib.ListN.{length, take, replicate}
use lib.IntN.{pos}
use Rattle.base.specs.Number.{number_from, octets_in as octets_of, top_of, signed_at, bits_at, holds}
use Rattle.base.specs.Value.{same}
use Rattle.element.specs.Form.{series_form, shortest, fewest_of, digits, length_octets}
use Rattle.element.specs.Element.{constructor_of, extended_of, code_zero}
use Rattle.primitive.specs.Primitive.{width_from, integer_octets, numbers, identifier_ok}
use Rattle.element.specs.Head.{end_of, third, second, first, tag_of, within, long_of, length_of}
use Rattle.element.specs.Ask.{next, check, blamed, ask_length, ask_tag, at_end, ask_end, ask}
use Rattle.element.specs.Parts.{leaf_contents, inside, onward, series_body}
use Rattle.element.specs.Walk.{walk_pick, walk_contents}
use Rattle.element.specs.Answers.{wanted_item, walk_of, element_walk, series_walk}
use Rattle.tcap.specs.declared.{Span.Span, Code.Code, ComponentKind.ComponentKind, Row.Row, Dialogue.Dialogue, MessageKind.MessageKind, Record.Record}
use Rattle.tcap.specs.Meaning.{component_form, components_form, dialogue_form, ending_form, message_form, written}
use Rattle.tcap.specs.Record.{rows_mean, meaning_of}
use Rattle.tcap.proofs.Computing.{reading_of}
use Rattle.tcap.proofs.Specimens.{span_at, orig_at, dest_at, accepts}
use Rattle.tcap.specs.Verdict.{every, orig_there, dest_there, cause_there, parts_fit, id_there, row_parts_fit, all_parts, ranges, orig_ranges, dest_ranges, code_ranges, problem_ranges, returned_ranges, row_ranges, source_ranges, dialogue_ranges, all_ranges, lies, option_lies, orig_lies, dest_lies, code_lies, returned_lies, row_lies, dialogue_lies, all_lie, took_all, is_element, is_series, string_octets, parameter_shaped, info_shaped, code_shaped, returned_shaped, row_shaped, dialogue_shaped, all_shaped}
use Rattle.writing.specs.Writing.{write_number, message_of, writing, behind, leaves}
use Rattle.writing.proofs.Order.{number_in}

-- with every definition open
unfoldable pub called : Record → List ℕ → List ℕ → (Result ℕ WriteFault) × List ℕ
unfolding number_from octets_of top_of signed_at bits_at holds same series_form shortest fewest_of digits length_octets constructor_of extended_of code_zero width_from integer_octets numbers identifier_ok end_of third second first tag_of within long_of length_of next check blamed ask_length ask_tag at_end ask_end ask leaf_contents inside onward series_body walk_pick walk_contents wanted_item walk_of element_walk series_walk component_form components_form dialogue_form ending_form message_form written rows_mean meaning_of bind every orig_there dest_there cause_there parts_fit id_there row_parts_fit all_parts ranges orig_ranges dest_ranges code_ranges problem_ranges returned_ranges row_ranges source_ranges dialogue_ranges all_ranges lies option_lies orig_lies dest_lies code_lies returned_lies row_lies dialogue_lies all_lie took_all is_element is_series string_octets parameter_shaped info_shaped code_shaped returned_shaped row_shaped dialogue_shaped all_shaped message_of writing behind leaves
called r m out = (writing r m (length out), leaves r m out)

-- the record and the octets beside it, the buffer before; the number (0: written), the length, the buffer after
pub record Specimen : Type 0 where
  pub kept : Record
  pub lent : List ℕ
  pub out : List ℕ
  pub number : ℕ
  pub size : ℕ
  pub new : List ℕ

abbrev pub fresh : ℕ → List ℕ
fresh n = replicate n 0xFF

-- written: the record of a message over that message
abbrev pub rewrites : List ℕ → ℕ → List ℕ → Specimen
rewrites m room s = record { kept = (handed_back (reading_of m)); lent = m; out = fresh room; number = 0; size = length s; new = s ++ fresh (room - length s) }

abbrev pub refuses : Record → List ℕ → ℕ → ℕ → Specimen
refuses r m room n = record { kept = r; lent = m; out = fresh room; number = n; size = 0; new = fresh room }

abbrev pub b : List ℕ
b = 0x64 ∷ 0x0A ∷ 0x49 ∷ 0x01 ∷ 0x05 ∷ 0x6C ∷ 0x05 ∷ 0xA2 ∷ 0x03 ∷ 0x02 ∷ 0x01 ∷ 0x01 ∷ []

abbrev pub c : List ℕ
c = 0x64 ∷ 0x80 ∷ 0x49 ∷ 0x01 ∷ 0x05 ∷ 0x6C ∷ 0x80 ∷ 0xA2 ∷ 0x80 ∷ 0x02 ∷ 0x01 ∷ 0x01 ∷ 0x00 ∷ 0x00 ∷ 0x00 ∷ 0x00 ∷ 0x00 ∷ 0x00 ∷ []

-- with the length of its parameter
abbrev pub d : ℕ → List ℕ
d n = 0x62 ∷ 0x10 ∷ 0x48 ∷ 0x01 ∷ 0x05 ∷ 0x6C ∷ 0x0B ∷ 0xA1 ∷ 0x09 ∷ 0x02 ∷ 0x01 ∷ 0x01 ∷ 0x02 ∷ 0x01 ∷ 0x2D ∷ 0x04 ∷ n ∷ 0x07 ∷ []

abbrev pub p : List ℕ
p = 0x62 ∷ 0x23 ∷ 0x48 ∷ 0x01 ∷ 0x05 ∷ 0x6B ∷ 0x1E ∷ 0x28 ∷ 0x1C ∷ 0x06 ∷ 0x07 ∷ 0x00 ∷ 0x11 ∷ 0x86 ∷ 0x05 ∷ 0x01 ∷ 0x01 ∷ 0x01 ∷ 0xA0 ∷ 0x11 ∷ 0x60 ∷ 0x0F ∷ 0x80 ∷ 0x02 ∷ 0x07 ∷ 0x80 ∷ 0xA1 ∷ 0x09 ∷ 0x06 ∷ 0x07 ∷ 0x04 ∷ 0x00 ∷ 0x00 ∷ 0x01 ∷ 0x00 ∷ 0x01 ∷ 0x03 ∷ []

abbrev pub p33 : List ℕ
p33 = 0x62 ∷ 0x1F ∷ 0x48 ∷ 0x01 ∷ 0x05 ∷ 0x6B ∷ 0x1A ∷ 0x28 ∷ 0x18 ∷ 0x06 ∷ 0x07 ∷ 0x00 ∷ 0x11 ∷ 0x86 ∷ 0x05 ∷ 0x01 ∷ 0x01 ∷ 0x01 ∷ 0xA0 ∷ 0x0D ∷ 0x60 ∷ 0x0B ∷ 0xA1 ∷ 0x09 ∷ 0x06 ∷ 0x07 ∷ 0x04 ∷ 0x00 ∷ 0x00 ∷ 0x01 ∷ 0x00 ∷ 0x01 ∷ 0x03 ∷ []

abbrev pub specimens : List Specimen
specimens =
    -- B into 12 octets fits, into 11 is 25
    rewrites b 12 b
    ∷ refuses (handed_back (reading_of b)) b 11 25
    -- C: written as B; octets past it stay
    ∷ rewrites c 14 b
    -- P: in 33 octets, version left out
    ∷ rewrites p 33 p33
    ∷ refuses (handed_back (reading_of p)) p 32 25
    -- 24: a Unidirectional with no component, which a refused reading hands back
    ∷ refuses (handed_back (reading_of [])) [] 12 24
    -- 23: an ID of 5 octets
    ∷ refuses (handed_back (accepts MessageKind.End None (dest_at 4 5) Dialogue.NoDialogue [])) b 12 23
    -- 21: an ID past the end of 4 octets
    ∷ refuses (handed_back (reading_of b)) (take 4 b) 12 21
    -- 22: a parameter that is not one element
    ∷ refuses (handed_back (reading_of (d 1))) (d 2) 18 22
    ∷ []

abbrev pub size_in : Result ℕ WriteFault → ℕ
size_in (Ok n) = n
size_in (Err f) = 0

-- the last three columns from the others
abbrev pub found : Specimen → Specimen
found s = let (w, new) = called s.kept s.lent s.out in record { kept = s.kept; lent = s.lent; out = s.out; number = number_in w; size = size_in w; new = new }

pub table : map found specimens ≡ specimens
unfolding reading_of called write_number number_in
table = refl

-- Two faults: one in the head of a record, one in its row, and too little room besides

-- over these octets: an ID (05) at 0, a name (2A) at 1, one that is none (AA) at 2, a parameter (04 01 07) at 3
abbrev pub lent : List ℕ
lent = 0x05 ∷ 0x2A ∷ 0xAA ∷ 0x04 ∷ 0x01 ∷ 0x07 ∷ []

-- a Begin with a request and an Invoke
abbrev pub begins : Optional OrigTransactionId → Optional DestTransactionId → Dialogue → Row → Record
begins o e d w = handed_back (accepts MessageKind.Begin o e d (w ∷ []))

abbrev pub asks : Span → Dialogue
asks n = Dialogue.Request n None

abbrev pub calls : Optional ℤ → Code → Span → Row
calls i c p = record { id = i; kind = ComponentKind.Invoke None c (Some p) }

-- fine; 24: a destination ID; 23: an ID of 5 octets; 21: an ID past the end; 22: a name that is none
abbrev pub heads : List (Row → Record)
heads =
    begins (orig_at 0 1) None (asks (span_at 1 1))
    ∷ begins (orig_at 0 1) (dest_at 0 1) (asks (span_at 1 1))
    ∷ begins (orig_at 0 5) None (asks (span_at 1 1))
    ∷ begins (orig_at 6 1) None (asks (span_at 1 1))
    ∷ begins (orig_at 0 1) None (asks (span_at 2 1))
    ∷ []

-- fine; 24: a null invoke ID; 23: a name of 17 octets, past the end too; 21: a parameter past the end; 22: a parameter cut off
abbrev pub tails : List Row
tails =
    calls (Some (pos 1)) (Code.Local (pos 45)) (span_at 3 3)
    ∷ calls None (Code.Local (pos 45)) (span_at 3 3)
    ∷ calls (Some (pos 1)) (Code.Global (span_at 0 17)) (span_at 3 3)
    ∷ calls (Some (pos 1)) (Code.Local (pos 45)) (span_at 3 4)
    ∷ calls (Some (pos 1)) (Code.Local (pos 45)) (span_at 3 2)
    ∷ []

-- a line for each head, a column for each row
abbrev pub answers : ℕ → List (List ℕ)
answers room = map (λ h. map (λ w. number_in (called (h w) lent (fresh room)).0) tails) heads

abbrev pub ordered : ℕ → List (List ℕ)
ordered n =
    (n ∷ 24 ∷ 23 ∷ 21 ∷ 22 ∷ [])
    ∷ (24 ∷ 24 ∷ 24 ∷ 24 ∷ 24 ∷ [])
    ∷ (23 ∷ 24 ∷ 23 ∷ 23 ∷ 23 ∷ [])
    ∷ (21 ∷ 24 ∷ 23 ∷ 21 ∷ 21 ∷ [])
    ∷ (22 ∷ 24 ∷ 23 ∷ 21 ∷ 22 ∷ [])
    ∷ []

-- into room enough, and into one octet less
pub two_faults : (answers 40 ≡ ordered 0) × (answers 39 ≡ ordered 25)
unfolding called write_number number_in
two_faults = (refl, refl)

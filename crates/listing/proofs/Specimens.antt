-- Listings by computation, as one table under one statement: specimen E of document 01, two refusals, and messages with a cause, a reject and numbers below 0.
-- Assumes nothing.
use Prim.Native.Nat.{ℕ}
use Prim.Native.String.{String}
use mathlib.Core.Path.{◌≡◌, refl}
use mathlib.Core.List.{List, [], ◌∷◌, map}
use Rattle.base.specs.Text.{text}
use Rattle.element.specs.Fault.{number_of}
use Rattle.tcap.specs.Reading.{reading}
use Rattle.tcap.proofs.Computing.{reading_of}
use Rattle.digits.specs.Digits.{last_digits, decimal, signed, hex_digit, hex, number, value}
use Rattle.listing_fields.specs.Fields.{kind_text, dialogue_text, word_text, id_or, place_text, parameter_text, problem_of, problem_text, answer_text, string_text, transaction_text, orig_text, dest_text, ids_text, code_text}
use Rattle.listing_lines.specs.Lines.{refusal_text, reject_text, coded_text, returned_text, parts_text, row_text, rows_text, head_text}
use Rattle.listing.specs.Listing.{record_text, listing_of}

pub record Listed : Type 0 where
  pub octets : List ℕ
  pub lines : String

abbrev pub specimens : List Listed
specimens =
    -- E
    record { octets = 0x62 ∷ 0x13 ∷ 0x48 ∷ 0x01 ∷ 0x05 ∷ 0x6C ∷ 0x0E ∷ 0xA1 ∷ 0x0C ∷ 0x02 ∷ 0x01 ∷ 0x01 ∷ 0x80 ∷ 0x01 ∷ 0x02 ∷ 0x02 ∷ 0x01 ∷ 0x2D ∷ 0x04 ∷ 0x01 ∷ 0x07 ∷ []; lines = "begin 21 05 - none 1\n0 invoke 1 2 local:45 18+3\n" }
    -- F and M, H (14), then 15 and 16
    ∷ record { octets = []; lines = "refused 1 0 cause 2\n" }
    ∷ record { octets = 0x62 ∷ 0x07 ∷ 0x48 ∷ 0x01 ∷ 0x05 ∷ 0x6C ∷ 0x02 ∷ 0xA5 ∷ 0x00 ∷ []; lines = "refused 13 7 problem 0 component 0\n" }
    ∷ record { octets = 0x62 ∷ 0x00 ∷ []; lines = "refused 14 2 cause 3\n" }
    ∷ record { octets = 0x62 ∷ 0x06 ∷ 0x48 ∷ 0x01 ∷ 0x05 ∷ 0x4A ∷ 0x01 ∷ 0x04 ∷ []; lines = "refused 15 5 cause 3\n" }
    ∷ record { octets = 0x67 ∷ 0x08 ∷ 0x49 ∷ 0x01 ∷ 0x05 ∷ 0x4A ∷ 0x01 ∷ 0x04 ∷ 0x6B ∷ 0x00 ∷ []; lines = "refused 16 8 cause 3\n" }
    ∷ record { octets = 0x67 ∷ 0x06 ∷ 0x49 ∷ 0x01 ∷ 0x05 ∷ 0x4A ∷ 0x01 ∷ 0x04 ∷ []; lines = "abort 8 - 05 cause:4 0\n" }
    ∷ record { octets = 0x62 ∷ 0x0F ∷ 0x48 ∷ 0x03 ∷ 0xB5 ∷ 0x9F ∷ 0xCF ∷ 0x6C ∷ 0x08 ∷ 0xA4 ∷ 0x06 ∷ 0x02 ∷ 0x01 ∷ 0x1A ∷ 0x81 ∷ 0x01 ∷ 0x06 ∷ []; lines = "begin 17 B59FCF - none 1\n0 reject 26 - problem:1:6 -\n" }
    ∷ record { octets = 0x61 ∷ 0x80 ∷ 0x6C ∷ 0x17 ∷ 0xA2 ∷ 0x10 ∷ 0x02 ∷ 0x01 ∷ 0xFF ∷ 0x30 ∷ 0x0B ∷ 0x02 ∷ 0x01 ∷ 0x2D ∷ 0x28 ∷ 0x80 ∷ 0xE1 ∷ 0x00 ∷ 0x04 ∷ 0x00 ∷ 0x00 ∷ 0x00 ∷ 0xA7 ∷ 0x03 ∷ 0x02 ∷ 0x01 ∷ 0x80 ∷ 0x00 ∷ 0x00 ∷ []; lines = "unidirectional 29 - - none 2\n0 last -1 - local:45 14+8\n1 notlast -128 - - -\n" }
    ∷ []

computed : map (λ s. listing_of s.octets (reading_of s.octets)) specimens ≡ map (λ s. text s.lines) specimens
unfolding reading_of number_of last_digits decimal signed hex_digit hex number value kind_text dialogue_text word_text id_or place_text parameter_text problem_of problem_text answer_text string_text transaction_text orig_text dest_text ids_text code_text refusal_text reject_text coded_text returned_text parts_text row_text rows_text head_text record_text listing_of
computed = refl

open_reading : (m : List ℕ) → reading_of m ≡ reading m
unfolding reading_of
open_reading m = refl

pub listed : map (λ s. listing_of s.octets (reading s.octets)) specimens ≡ map (λ s. text s.lines) specimens
listed = simp open_reading at computed

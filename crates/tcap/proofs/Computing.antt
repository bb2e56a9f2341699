-- Reading and writing back with every definition open, so that a table of examples is one computation; and the words of such tables.
-- Assumes nothing.
use Rattle.tcap.specs.declared.OrigTransactionId.{OrigTransactionId}
use Rattle.tcap.specs.declared.Refusal.{Refusal}
use Rattle.tcap.specs.Reading.{outcome_of, handed_back}
use Rattle.std.specs.Prelude.{Result, Ok, Err, ⊤}
use Rattle.std.specs.Prelude.{Option as Optional}
use Prim.Native.Nat.{ℕ, zero, suc, ◌+◌, ◌-◌, ◌*◌}
use Prim.Native.String.{String}
use mathlib.Core.Path.{◌≡◌}
use mathlib.Core.Bool.{cond}
use mathlib.Core.List.{List, [], ◌∷◌, ◌++◌, map}
use mathlib.Core.Option
use mathlib.Core.Option.{Option, none, bind}
use lib.Dec.{ltb}
use Rattle.base.specs.Text.{text}
use Rattle.base.specs.Number.{number_from, octets_in, top_of, signed_at, bits_at, holds}
use Rattle.base.specs.Value.{same}
use Rattle.element.specs.Form.{series_form, shortest, fewest_of, digits, length_octets}
use Rattle.element.specs.Element.{constructor_of, extended_of, code_zero}
use Rattle.primitive.specs.Primitive.{width_from, integer_octets, signed_of, integer_ok, numbers, identifier_ok}
use Rattle.element.specs.Fault.{number_of, in_dialogue, in_component, with_invoke_id, with_orig_id}
use Rattle.element.specs.Head.{end_of, third, second, first, tag_of, within, long_of, length_of}
use Rattle.element.specs.Ask.{next, check, blamed, ask_length, ask_tag, at_end, ask_end, ask}
use Rattle.element.specs.Parts.{leaf_contents, inside, onward, opt_pick, series_body}
use Rattle.element.specs.Walk.{walk_pick, walk_contents}
use Rattle.tcap.specs.declared.{Record.Record, Answer.Answer}
use Rattle.tcap.specs.Meaning.{component_form, components_form, dialogue_form, ending_form, message_form, written}
use Rattle.tcap.specs.WellFormed.{Rules, id_ok, the93}
use Rattle.tcap.specs.Productions.{single?}
use Rattle.tcap.specs.Record.{record_of, rows_mean, meaning_of}
use Rattle.tcap.specs.Reading.{foremost, text_of, unknown_orig, read_first, located_up_to, ground_of, by_owner, answer_for, refusal_of, answered, reading_up_to, reading}

unfoldable pub outcome_up_to : Rules → List ℕ → Result Record Refusal
unfolding number_from octets_in top_of signed_at bits_at holds same fewest_of constructor_of extended_of code_zero width_from integer_octets signed_of integer_ok numbers identifier_ok number_of in_dialogue in_component with_invoke_id with_orig_id end_of third second first tag_of within long_of length_of next check blamed ask_length ask_tag at_end ask_end ask leaf_contents inside onward opt_pick series_body walk_pick walk_contents id_ok single? record_of foremost text_of unknown_orig read_first located_up_to ground_of by_owner answer_for refusal_of answered reading_up_to
outcome_up_to rules m = reading_up_to rules m

unfoldable pub reading_of : List ℕ → Result Record Refusal
unfolding outcome_up_to reading
reading_of m = reading m

-- what the record that was read is written as
unfoldable pub rewritten : Result ⊤ Refusal → Record → List ℕ → Option (List ℕ)
unfolding series_form shortest digits length_octets component_form components_form dialogue_form ending_form message_form written rows_mean meaning_of bind
rewritten (Ok tt) r m = Option.map written (meaning_of r m)
rewritten (Err f) r m = none

unfoldable pub written_back : List ℕ → Option (List ℕ)
unfolding reading_of rewritten
written_back m = let r = reading_of m in rewritten (outcome_of r) (handed_back r) m

-- What reading tells of a message, in the page's terms: its record, or a refusal by its number, place, originating ID and standard answer, with the record handed back
pub data Told : Type 0 where
  reads : Record → Told
  refused : ℕ → ℕ → Optional OrigTransactionId → Answer → Record → Told

unfoldable pub told_of : Result ⊤ Refusal → Record → Told
unfolding number_of
told_of (Ok tt) r = reads r
told_of (Err f) r = refused (number_of f.kind) f.place f.orig f.answer r

unfoldable pub told_up_to : Rules → List ℕ → Told
unfolding outcome_up_to told_of
told_up_to rules m = let r = outcome_up_to rules m in told_of (outcome_of r) (handed_back r)

unfoldable pub told : List ℕ → Told
unfolding told_up_to
told m = told_up_to the93 m

-- a table of messages and of what is told of each
abbrev pub AsTold : List (List ℕ × Told) → Type 0
AsTold rows = map (λ (r : List ℕ × Told). told r.0) rows ≡ map (λ (r : List ℕ × Told). r.1) rows

-- octets as the page prints them: two digits each, a space between
abbrev pub digit : ℕ → ℕ
digit c = cond (ltb c 58) (c - 48) (c - 55)

abbrev pub printed : List ℕ → List ℕ
printed [] = []
printed (a ∷ []) = []
printed (a ∷ b ∷ []) = (16 * digit a + digit b) ∷ []
printed (a ∷ b ∷ c ∷ r) = (16 * digit a + digit b) ∷ printed r

abbrev pub hex : String → List ℕ
hex s = printed (text s)

-- the same octets so many times
abbrev pub times : ℕ → List ℕ → List ℕ
times zero s = []
times (suc n) s = s ++ times n s

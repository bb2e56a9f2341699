-- A head laid out in zeros is the head's octets. Assumes nothing.
use Prim.Native.Nat.{ℕ}
use mathlib.Core.Path.{◌≡◌, refl, ap, ◌∙◌}
use mathlib.Core.List.{List, [], ◌∷◌, ◌++◌}
use mathlib.Core.Option.{Option, none, some}
use lib.ListN.{set}
use Rattle.base.specs.Number.{octets_in}
use Rattle.base.specs.Value.{Every}
use Rattle.element.specs.Fault.{Text}
use Rattle.tcap.specs.declared.{Span.Span, Diagnostic.Diagnostic, Dialogue.Dialogue as DialogueField}
use Rattle.tcap.specs.Meaning.{Originating, orig, Destination, dest, Dialogue, request, unidialogue, response, aborted, single, octets, Ending, silent, cause, says}
use Rattle.tcap.specs.Record.{span_of, span_field, orig_field, dest_field, dialogue_field, ending_field, portion_field}
use Rattle.tcap.proofs.Strings.{option_strings, tagged, dialogue_strings, ending_strings, orig_strings, dest_strings}
use Rattle.layout.specs.Layout.{span_octets, no_span, optional_flag, optional_span, orig_flag, orig_span, dest_flag, dest_span, source_tag, diagnostic_number, dialogue_number, portion_octets, dialogue_octets}
use Rattle.read_place.specs.Laying.{lay_text, lay_span, lay_name, lay_info, lay_diagnostic, lay_dialogue, lay_portion, lay_ending, lay_orig, lay_dest}
use Rattle.read.proofs.LaidRow.{Small, AllSmall, text_uppers}

-- a head, by its octets, and what stands behind it
abbrev pub shape : ℕ → ℕ → ℕ → ℕ → ℕ → Span → Span → List ℕ → List ℕ
shape t a b d n o e rest = (t ∷ a ∷ b ∷ d ∷ []) ++ octets_in 4 n ++ span_octets o ++ span_octets e ++ rest

pub orig_laid : (o : Originating Text) → AllSmall (orig_strings o) → (r : List ℕ) → lay_orig o (shape 0 0 0 0 0 no_span no_span r) ≡ shape 0 (orig_flag (orig_field o)) 0 0 0 (orig_span (orig_field o)) no_span r
unfolding lay_orig lay_text span_octets octets_in orig_flag orig_span Every
orig_laid (orig t) s r = let ((w, x), (y, z)) = text_uppers t s.0 in rw (w, x, y, z)

pub dest_laid : (a : ℕ) (o : Span) (e : Destination Text) → AllSmall (dest_strings e) → (r : List ℕ) → lay_dest e (shape 0 a 0 0 0 o no_span r) ≡ shape 0 a (dest_flag (dest_field e)) 0 0 o (dest_span (dest_field e)) r
unfolding lay_dest lay_text span_octets octets_in dest_flag dest_span Every
dest_laid a o (dest t) s r = let ((w, x), (y, z)) = text_uppers t s.0 in rw (w, x, y, z)

module _ (a b : ℕ) (o e : Span) (r : List ℕ) where
  abbrev whole : ℕ → Span → Span → ℕ → ℕ → ℕ → ℕ → List ℕ
  whole d name info flag number source diagnostic = shape 0 a b d 0 o e (portion_octets name info flag number source diagnostic ++ r)

  name_laid : (n : Text) → Small n → (d number : ℕ) → lay_name n (whole d no_span no_span 0 number 0 0) ≡ whole d (span_of n) no_span 0 number 0 0
  unfolding lay_text span_octets octets_in portion_octets
  name_laid n s d number = let ((w, x), (y, z)) = text_uppers n s in rw (w, x, y, z)

  held_laid : (t : Text) → Small t → (d : ℕ) (name : Span) (flag number source diagnostic : ℕ) → lay_span 32 t (whole d name no_span flag number source diagnostic) ≡ whole d name (span_of t) flag number source diagnostic
  unfolding lay_text span_octets octets_in portion_octets
  held_laid t s d name flag number source diagnostic = let ((w, x), (y, z)) = text_uppers t s in rw (w, x, y, z)

  info_laid : (u : Option Text) → AllSmall (option_strings (tagged 0xBE) u) → (d : ℕ) (name : Span) (number source diagnostic : ℕ)
      → lay_info u (whole d name no_span 0 number source diagnostic) ≡ whole d name (optional_span (span_field u)) (optional_flag (span_field u)) number source diagnostic
  unfolding lay_info optional_span optional_flag span_octets octets_in portion_octets Every
  info_laid none s d name number source diagnostic = refl
  info_laid (some t) s d name number source diagnostic = held_laid t s.0 d name 1 number source diagnostic

  diagnostic_laid : (s : Diagnostic) (d : ℕ) (name : Span) (number : ℕ) → lay_diagnostic s (set (whole d name no_span 0 0 0 0) 41 number) ≡ whole d name no_span 0 number (source_tag s) (diagnostic_number s)
  unfolding lay_diagnostic source_tag diagnostic_number span_octets octets_in portion_octets
  diagnostic_laid (Diagnostic.ByUser n) d name number = refl
  diagnostic_laid (Diagnostic.ByProvider n) d name number = refl

  abbrev held : DialogueField → List ℕ
  held v = shape 0 a b (dialogue_number v) 0 o e (dialogue_octets v ++ r)

  pub dialogue_laid : (d : Dialogue Text) → AllSmall (dialogue_strings d) → lay_dialogue d (held DialogueField.NoDialogue) ≡ held (dialogue_field d)
  unfolding lay_dialogue dialogue_number dialogue_octets span_octets octets_in portion_octets Every
  dialogue_laid (request n u) s = ap (lay_info u) (name_laid n s.0 2 0) ∙ info_laid u s.1 2 (span_of n) 0 0 0
  dialogue_laid (unidialogue n u) s = ap (lay_info u) (name_laid n s.0 5 0) ∙ info_laid u s.1 5 (span_of n) 0 0 0
  dialogue_laid (response n q d u) s =
      ap (λ (l : List ℕ). lay_info u (lay_diagnostic d (set l 41 q))) (name_laid n s.0 3 0)
      ∙ ap (lay_info u) (diagnostic_laid d 3 (span_of n) q)
      ∙ info_laid u s.1 3 (span_of n) q (source_tag d) (diagnostic_number d)
  dialogue_laid (aborted q u) s = info_laid u s 4 no_span q 0 0
  dialogue_laid (single n t) s = ap (λ (l : List ℕ). lay_span 32 t (set l 3 6)) (name_laid n s.0 0 0) ∙ held_laid t s.1.0 6 (span_of n) 0 0 0 0
  dialogue_laid (octets n t) s = ap (λ (l : List ℕ). lay_span 32 t (set l 3 7)) (name_laid n s.0 0 0) ∙ held_laid t s.1.0 7 (span_of n) 0 0 0 0

  pub portion_laid : (d : Option (Dialogue Text)) → AllSmall (option_strings dialogue_strings d) → lay_portion d (held DialogueField.NoDialogue) ≡ held (portion_field d)
  unfolding lay_portion
  portion_laid none s = refl
  portion_laid (some d) s = dialogue_laid d s

  pub ending_laid : (q : Ending Text) → AllSmall (ending_strings q) → lay_ending q (held DialogueField.NoDialogue) ≡ held (ending_field q)
  unfolding lay_ending dialogue_number dialogue_octets span_octets octets_in portion_octets
  ending_laid silent s = refl
  ending_laid (cause n) s = refl
  ending_laid (says d) s = dialogue_laid d s

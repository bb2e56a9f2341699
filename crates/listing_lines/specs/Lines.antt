-- The lines of a listing over the octets m of its message, as octets of text, every line with a newline: document 01, "Specimens".
-- Assumes nothing: these are definitions.
use Rattle.std.specs.Prelude.{ℕ, ℤ, suc, Option as Optional, Some, None}
use mathlib.Core.{List.List, List.[], List.◌∷◌, List.◌++◌}
use lib.{ListN.length}
use Rattle.base.specs.{Text.text}
use Rattle.element.specs.{Fault.number_of}
use Rattle.tcap.specs.declared.{Span.Span, Code.Code, Problem.Problem, ComponentKind.ComponentKind, Row.Row, Record.Record, Refusal.Refusal}
use Rattle.digits.specs.{Digits.decimal, Digits.number}
use Rattle.listing_fields.specs.Fields.{kind_text, dialogue_text, word_text, id_text, linked_text, parameter_text, problem_text, answer_text, ids_text, code_text}

unfoldable pub refusal_text : Refusal → List ℕ
refusal_text f = text "refused" ++ number (number_of f.kind) ++ number f.place ++ answer_text f.answer ++ text "\n"

-- after the invoke ID of a Reject: no linked ID, the problem, no parameter
unfoldable pub reject_text : Problem → List ℕ
reject_text q = text " -" ++ problem_text q ++ text " -"

module _ (m : List ℕ) where
  unfoldable pub coded_text : Optional ℤ → Code → Optional Span → List ℕ
  coded_text l c p = linked_text l ++ code_text m c ++ parameter_text p

  unfoldable pub returned_text : Optional (Code × Span) → List ℕ
  returned_text None = text " - - -"
  returned_text (Some (c, p)) = coded_text None c (Some p)

  -- after the invoke ID: linked ID, code, parameter
  unfoldable pub parts_text : ComponentKind → List ℕ
  parts_text (ComponentKind.Invoke l c p) = coded_text l c p
  parts_text (ComponentKind.ResultLast r) = returned_text r
  parts_text (ComponentKind.ReturnError c p) = coded_text None c p
  parts_text (ComponentKind.Reject q) = reject_text q
  parts_text (ComponentKind.ResultNotLast r) = returned_text r

  unfoldable pub row_text : ℕ → Row → List ℕ
  row_text i r = decimal i ++ word_text r.kind ++ id_text r.id ++ parts_text r.kind ++ text "\n"

  unfoldable pub rows_text : ℕ → List Row → List ℕ
  rows_text i [] = []
  rows_text i (r ∷ rs) = row_text i r ++ rows_text (suc i) rs

  unfoldable pub head_text : Record → List ℕ
  head_text r = kind_text r.kind ++ number (length m) ++ ids_text m r.orig r.dest ++ dialogue_text r.dialogue ++ number r.count ++ text "\n"

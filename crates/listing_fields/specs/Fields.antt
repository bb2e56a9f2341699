-- The fields of a listing's lines, as octets of text: document 01, "Specimens". Each but the first of a line has a space before it; "-" is absent.
-- Assumes nothing: these are definitions.
use Rattle.std.specs.Prelude.{ℕ, ℤ, Option as Optional, Some, None}
use mathlib.Core.{List.List, List.◌++◌}
use lib.{ListN.take, ListN.drop}
use Rattle.base.specs.{Text.text}
use Rattle.tcap.specs.declared.{Span.Span, TransactionId.TransactionId, OrigTransactionId.OrigTransactionId, DestTransactionId.DestTransactionId, Code.Code, Problem.Problem, ComponentKind.ComponentKind, Dialogue.Dialogue, MessageKind.MessageKind, Answer.Answer}
use Rattle.digits.specs.{Digits.decimal, Digits.signed, Digits.hex, Digits.number, Digits.value}

unfoldable pub kind_text : MessageKind → List ℕ
kind_text MessageKind.Unidirectional = text "unidirectional"
kind_text MessageKind.Begin = text "begin"
kind_text MessageKind.End = text "end"
kind_text MessageKind.Continue = text "continue"
kind_text MessageKind.Abort = text "abort"

unfoldable pub dialogue_text : Dialogue → List ℕ
dialogue_text Dialogue.NoDialogue = text " none"
dialogue_text (Dialogue.Cause n) = text " cause:" ++ decimal n
dialogue_text (Dialogue.Request n u) = text " request"
dialogue_text (Dialogue.Response n r d u) = text " response"
dialogue_text (Dialogue.DialogueAbort s u) = text " abort"
dialogue_text (Dialogue.Unidialogue n u) = text " uni"
dialogue_text (Dialogue.OutsideElement n e) = text " other"
dialogue_text (Dialogue.OutsideOctets n o) = text " other"

unfoldable pub word_text : ComponentKind → List ℕ
word_text (ComponentKind.Invoke l c p) = text " invoke"
word_text (ComponentKind.ResultLast r) = text " last"
word_text (ComponentKind.ReturnError c p) = text " error"
word_text (ComponentKind.Reject q) = text " reject"
word_text (ComponentKind.ResultNotLast r) = text " notlast"

-- an ID, or the text w where there is none
unfoldable pub id_or : List ℕ → Optional ℤ → List ℕ
id_or w None = w
id_or w (Some i) = value i

abbrev pub id_text : Optional ℤ → List ℕ
id_text i = id_or (text " null") i

abbrev pub linked_text : Optional ℤ → List ℕ
linked_text i = id_or (text " -") i

unfoldable pub place_text : Span → List ℕ
place_text s = number s.place ++ text "+" ++ decimal s.len

unfoldable pub parameter_text : Optional Span → List ℕ
parameter_text None = text " -"
parameter_text (Some s) = place_text s

unfoldable pub problem_of : ℕ → ℕ → List ℕ
problem_of t n = text " problem:" ++ decimal t ++ text ":" ++ decimal n

unfoldable pub problem_text : Problem → List ℕ
problem_text (Problem.General n) = problem_of 0 n
problem_text (Problem.OfInvoke n) = problem_of 1 n
problem_text (Problem.OfResult n) = problem_of 2 n
problem_text (Problem.OfError n) = problem_of 3 n

unfoldable pub answer_text : Answer → List ℕ
answer_text (Answer.AbortCause n) = text " cause" ++ number n
answer_text (Answer.RejectProblem n k i) = text " problem" ++ number n ++ text " component" ++ number k

-- What stands in the message's octets m: of a string that passes their end, what lies within
module _ (m : List ℕ) where
  unfoldable pub string_text : Span → List ℕ
  string_text s = hex (take s.len (drop s.place m))

  unfoldable pub transaction_text : TransactionId → List ℕ
  transaction_text t = text " " ++ string_text t.octets

  unfoldable pub orig_text : Optional OrigTransactionId → List ℕ
  orig_text None = text " -"
  orig_text (Some o) = transaction_text o.0

  unfoldable pub dest_text : Optional DestTransactionId → List ℕ
  dest_text None = text " -"
  dest_text (Some e) = transaction_text e.0

  unfoldable pub ids_text : Optional OrigTransactionId → Optional DestTransactionId → List ℕ
  ids_text o e = orig_text o ++ dest_text e

  unfoldable pub code_text : Code → List ℕ
  code_text (Code.Local z) = text " local:" ++ signed z
  code_text (Code.Global s) = text " global:" ++ string_text s

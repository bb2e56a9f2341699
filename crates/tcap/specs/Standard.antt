-- The one standard answer to a message that is refused: document 01's sentence, clause by clause, by the kind of the fault and whom it belongs to.
-- Assumes nothing: these are definitions.
use Rattle.std.specs.Prelude.{ℕ, ◌<◌}
use mathlib.Core.{Logic.◌⊎◌, Option.Option}
use lib.{IntN.ℤ}
use Rattle.element.specs.{Fault.Owner, Fault.portion, Fault.dialogue, Fault.component, declared.FaultKind.FaultKind}
use Rattle.tcap.specs.{declared.Answer.Answer, Record.id_field}

-- 1 to 6
pub data Structure : FaultKind → Type 0 where
  cut_off : Structure FaultKind.CutOff
  bad_tag : Structure FaultKind.BadTag
  bad_length : Structure FaultKind.BadLength
  passes_end : Structure FaultKind.PassesEnd
  too_deep : Structure FaultKind.TooDeep
  code_zero : Structure FaultKind.CodeZero

-- 11 and 14 to 16
pub data Mistyped : FaultKind → Type 0 where
  missing : Mistyped FaultKind.Missing
  another : Mistyped FaultKind.Another
  too_many : Mistyped FaultKind.TooMany
  bad_contents : Mistyped FaultKind.BadContents

-- i: the invoke ID, if read
pub data Standard : FaultKind → Owner → Option ℤ → Answer → Type 0 where
  -- 8 cause 0; 12 cause 4
  no_message : {o : Owner} {i : Option ℤ} → Standard FaultKind.NoMessage o i (Answer.AbortCause 0)
  seventeenth : {o : Owner} {i : Option ℤ} → Standard FaultKind.Seventeenth o i (Answer.AbortCause 4)
  -- a fault inside 6B's contents cause 3
  inside6_b : {k : FaultKind} {i : Option ℤ} → Structure k ⊎ Mistyped k → Standard k dialogue i (Answer.AbortCause 3)
  -- a fault in a component, with its index and its invoke ID if read: general problem 0 for 13, 1 for 11 and 14 to 16, 2 for 1 to 6
  unknown_component : {n : ℕ} {i : Option ℤ} → n < 16 → Standard FaultKind.UnknownComponent (component n) i (Answer.RejectProblem 0 n (id_field i))
  mistyped_component : {k : FaultKind} {n : ℕ} {i : Option ℤ} → Mistyped k → n < 16 → Standard k (component n) i (Answer.RejectProblem 1 n (id_field i))
  bad_component : {k : FaultKind} {n : ℕ} {i : Option ℤ} → Structure k → n < 16 → Standard k (component n) i (Answer.RejectProblem 2 n (id_field i))
  -- everywhere else cause 3 for 11 and 14 to 16, otherwise cause 2
  mistyped_elsewhere : {k : FaultKind} {i : Option ℤ} → Mistyped k → Standard k portion i (Answer.AbortCause 3)
  bad_elsewhere : {k : FaultKind} {i : Option ℤ} → Structure k → Standard k portion i (Answer.AbortCause 2)
  overlong : {i : Option ℤ} → Standard FaultKind.Overlong portion i (Answer.AbortCause 2)
  octets_after : {i : Option ℤ} → Standard FaultKind.OctetsAfter portion i (Answer.AbortCause 2)

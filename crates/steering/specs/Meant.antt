-- What the rules look at, by what a message means: the tag of its kind, and the local code of its first component, if that is an Invoke with one.
-- S is how a string is kept. Assumes nothing: these are definitions.
use Rattle.std.specs.Prelude.{ℕ, ℤ, Option as Optional, Some, None}
use mathlib.Core.{List.List, List.[], List.◌∷◌}
use Rattle.tcap.specs.Meaning.{local, global, Component, invoke, last, not_last, error, reject, Message, unidirectional, begin, finish, continue, abort}
use Rattle.tcap.specs.declared.{MessageKind.MessageKind}
use Rattle.tcap.specs.Record.{message_tag}

module _ {S : Type 0} where
  abbrev pub tag_meant : Message S → ℕ
  tag_meant (unidirectional d cs) = message_tag MessageKind.Unidirectional
  tag_meant (begin o d cs) = message_tag MessageKind.Begin
  tag_meant (finish e d cs) = message_tag MessageKind.End
  tag_meant (continue o e d cs) = message_tag MessageKind.Continue
  tag_meant (abort e s) = message_tag MessageKind.Abort

  abbrev pub invoke_meant : Component S → Optional ℤ
  invoke_meant (invoke i l (local z) p) = Some z
  invoke_meant (invoke i l (global s) p) = None
  invoke_meant (last i r) = None
  invoke_meant (not_last i r) = None
  invoke_meant (error i c p) = None
  invoke_meant (reject i q) = None

  abbrev pub code_meant : List (Component S) → Optional ℤ
  code_meant [] = None
  code_meant (c ∷ cs) = invoke_meant c

  abbrev pub first_meant : Message S → Optional ℤ
  first_meant (unidirectional d cs) = code_meant cs
  first_meant (begin o d cs) = code_meant cs
  first_meant (finish e d cs) = code_meant cs
  first_meant (continue o e d cs) = code_meant cs
  first_meant (abort e s) = None

-- What a message that was read is written as, and the line that says so. Assumes nothing: these are definitions.
use Rattle.std.specs.Prelude.{ℕ, List, [], ◌++◌, Result, Ok, Err}
use Rattle.base.specs.Text.{text}
use Rattle.digits.specs.Digits.{hex}
use Rattle.tcap.specs.declared.{Record.Record, Refusal.Refusal}
use Rattle.writing.specs.Writing.{message_of}

-- the shortest message of the record, over the octets that were read; nothing of a message that was refused
unfoldable pub rewritten : Result Record Refusal → List ℕ → List ℕ
rewritten (Ok r) m = message_of r m
rewritten (Err f) m = []

unfoldable pub line_of : List ℕ → List ℕ
line_of s = text "written " ++ hex s ++ text "\n"

-- The number, which is read back from its bits, or the string, after the word. Assumes nothing.
use mir.Syntax.{w32}
use mir.Val.{SFits}
use mir.Facts.{to_z-of_z}
use borrow.Author.Rules.{rules}
use Rattle.base.proofs.Puts.{put_then}
use Rattle.listing_fields.specs.Fields.{code_text}
use Rattle.listing_fields.proofs.put_code.Goals as goal

pub returns-in-Local : goal.returns-in-Local
unfolding code_text
returns-in-Local c =
    let s : SFits w32 c.in-Local.value = search rules in
    rw c.in-Local.is (put_then c.put_part-next.ensures (rw (to_z-of_z s) at c.put_signed.ensures))

pub returns-in-Global : goal.returns-in-Global
unfolding code_text
returns-in-Global c = rw c.in-Global.is (put_then c.put_part-next-in-Global.ensures c.put_string.ensures)

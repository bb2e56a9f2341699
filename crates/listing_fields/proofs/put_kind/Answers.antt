-- The word of each kind of message. Assumes nothing.
use Rattle.listing_fields.specs.Fields.{kind_text}
use Rattle.listing_fields.proofs.put_kind.Goals.{in-Unidirectional, in-Begin, in-End, in-Continue, in-Abort}
use Rattle.listing_fields.proofs.put_kind.Goals as goal

pub returns : goal.returns
unfolding kind_text
returns c =
    elim c.match-kind.branch [
      | in-Unidirectional w ↦ rw w.in-Unidirectional.is (rw w.word-is at c.put_part.ensures)
      | in-Begin w ↦ rw w.in-Begin.is (rw w.word-is at c.put_part.ensures)
      | in-End w ↦ rw w.in-End.is (rw w.word-is at c.put_part.ensures)
      | in-Continue w ↦ rw w.in-Continue.is (rw w.word-is at c.put_part.ensures)
      | in-Abort w ↦ rw w.in-Abort.is (rw w.word-is at c.put_part.ensures)
    ]

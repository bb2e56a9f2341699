-- `owner_at` meets its contract. Assumes nothing.
use Rattle.read_dialogue.proofs.Owners.{mark_ended, mark_unfinished, mark_more}
use Rattle.read_dialogue.proofs.owner_at.Goals.{then-ended-via-then-ended, then-ended-via-else-ended+then-unfinished}
use Rattle.read_dialogue.proofs.owner_at.Goals as goal

pub returns-then-ended : goal.returns-then-ended
returns-then-ended c = elim c.then-ended.branch [ then-ended-via-then-ended w ↦ search mark_ended | then-ended-via-else-ended+then-unfinished w ↦ search mark_unfinished ]

pub returns : goal.returns
returns c = search mark_more

-- A cause, or a problem and its component. Assumes nothing.
use Rattle.base.proofs.Puts.{put_then}
use Rattle.listing_fields.specs.Fields.{answer_text}
use Rattle.listing_lines.proofs.put_answer.Goals as goal

pub returns-in-AbortCause : goal.returns-in-AbortCause
unfolding answer_text
returns-in-AbortCause c = rw (c.in-AbortCause.is, ← c.from.ensures) (put_then c.put_part-a.ensures c.put_number.ensures)

pub returns-in-RejectProblem : goal.returns-in-RejectProblem
unfolding answer_text
returns-in-RejectProblem c = rw (c.in-RejectProblem.is, ← c.from-in-RejectProblem.ensures) (put_then (put_then (put_then c.put_part-a-in-RejectProblem.ensures c.put_number-b.ensures) c.put_part-c.ensures) c.put_number-in-RejectProblem.ensures)

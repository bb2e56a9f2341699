-- Word, tag, colon, number. Assumes nothing.
use Rattle.base.proofs.Puts.{put_then}
use Rattle.listing_fields.specs.Fields.{problem_text, problem_of}
use Rattle.listing_fields.proofs.put_problem.Goals.{in-General, in-OfInvoke, in-OfResult, in-OfError}
use Rattle.listing_fields.proofs.put_problem.Goals as goal

pub returns : goal.returns
unfolding problem_text problem_of
returns c =
    let p = rw c.from.ensures at (put_then (put_then (put_then c.put_part-a.ensures c.put_decimal-b.ensures) c.put_octet-c.ensures) c.put_decimal.ensures) in
    elim c.match-problem.branch [
      | in-General w ↦ rw w.in-General.is (rw w.tag-is at p)
      | in-OfInvoke w ↦ rw w.in-OfInvoke.is (rw w.tag-is at p)
      | in-OfResult w ↦ rw w.in-OfResult.is (rw w.tag-is at p)
      | in-OfError w ↦ rw w.in-OfError.is (rw w.tag-is at p)
    ]

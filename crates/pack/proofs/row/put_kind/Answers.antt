-- What follows the IDs, by the kind. Assumes nothing.
use Rattle.base.proofs.Puts.{put_then}
use Rattle.layout.specs.Layout.{kind_octets}
use Rattle.pack.proofs.row.put_kind.Goals as goal

pub returns-in-Invoke : goal.returns-in-Invoke
unfolding kind_octets
returns-in-Invoke c = rw c.in-Invoke.is (put_then c.put_ids-next.ensures c.put_coded.ensures)

pub returns-in-ResultLast : goal.returns-in-ResultLast
unfolding kind_octets
returns-in-ResultLast c = rw c.in-ResultLast.is (put_then c.put_ids-next-in-ResultLast.ensures c.put_returned.ensures)

pub returns-in-ReturnError : goal.returns-in-ReturnError
unfolding kind_octets
returns-in-ReturnError c = rw c.in-ReturnError.is (put_then c.put_ids-next-in-ReturnError.ensures c.put_coded-in-ReturnError.ensures)

pub returns-in-Reject : goal.returns-in-Reject
unfolding kind_octets
returns-in-Reject c = rw c.in-Reject.is (put_then c.put_ids-next-in-Reject.ensures c.put_problem.ensures)

pub returns-in-ResultNotLast : goal.returns-in-ResultNotLast
unfolding kind_octets
returns-in-ResultNotLast c = rw c.in-ResultNotLast.is (put_then c.put_ids-next-in-ResultNotLast.ensures c.put_returned-in-ResultNotLast.ensures)

-- `transaction_id_at` meets its contract. Assumes nothing.
use native.Mathlib.Omega.{arith}
use Rattle.read_field.proofs.Fields.{count_room}
use Rattle.read_field.proofs.Choices.{transaction_none, transaction_good}
use Rattle.read_field.proofs.transaction_id_at.Goals as goal

pub returns-in_default : goal.returns-in_default
returns-in_default c = let i = c.in_default.ensures in (search (transaction_none, c.bad_field.ensures.0), c.bad_field.ensures.1)

pub overflow_add-result-2 : goal.overflow_add-result-2
overflow_add-result-2 c = let h = count_room c.args.m.now _ _ _ 4 _ c.in-Some.ensures.0 c.in-Some.ensures.1 in omega (arith, h)

pub returns : goal.returns
returns c = let (i, t) = c.in-Some.ensures in (search transaction_good, let h = count_room c.args.m.now _ _ _ 4 _ c.in-Some.ensures.0 c.in-Some.ensures.1 in omega (arith, h))

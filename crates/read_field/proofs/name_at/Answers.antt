-- `name_at` meets its contract. Assumes nothing.
use native.Mathlib.Omega.{arith}
use Rattle.read_field.proofs.Fields.{name_none, name_good, name_bad, count_room, count_more}
use Rattle.read_field.proofs.name_at.Goals as goal

pub overflow_add-result-then-identifier_ok : goal.overflow_add-result-then-identifier_ok
overflow_add-result-then-identifier_ok c = let h = count_room c.args.m.now _ _ 6 _ _ c.in-Some.ensures.0 c.in-Some.ensures.1 in omega (arith, h)

pub returns-in_default : goal.returns-in_default
returns-in_default c = let i = c.in_default.ensures in (search (name_none, c.bad_field.ensures.0), c.bad_field.ensures.1)

pub piece-requires : goal.piece-requires
piece-requires c = let (i, t) = c.in-Some.ensures in search count_more

pub returns-then-identifier_ok : goal.returns-then-identifier_ok
returns-then-identifier_ok c = let (i, t) = c.in-Some.ensures in (search name_good, let h = count_room c.args.m.now _ _ 6 _ _ c.in-Some.ensures.0 c.in-Some.ensures.1 in omega (arith, h))

pub returns : goal.returns
returns c = let (i, t) = c.in-Some.ensures in (search name_bad, omega arith)

-- `known_id` meets its contract. Assumes nothing.
use Prim.Native.Nat.{◌+◌, ◌<◌}
use lib.ListN.{get_or}
use native.Mathlib.Omega.{arith}
use borrow.Author.Rules.{rules}
use Rattle.read_place.proofs.Optional.{entry_inside, entry_from, entry_to}
use Rattle.read_component.proofs.Ids.{octet_inside, told_wrong, told_entry, told_none, told_id}
use Rattle.read_component.proofs.known_id.Goals as goal

pub overflow_add-result : goal.overflow_add-result
overflow_add-result c =
    let inside = octet_inside c.args.m.now c.args.at c.args.stop c.requires.0.0.1 c.requires.1 _ c.is_component.ensures c.if-is_component.true _ c.in-Ok.ensures.0 c.requires.0.0.2 c.in-Ok.ensures.1 _ c.start_of-first.ensures _ c.in-Ok-one_octet_at.ensures.0 c.in-Ok-one_octet_at.ensures.1 in
    omega (arith, inside, c.requires.0.0.2)

pub bounds-m-first : goal.bounds-m-first
bounds-m-first c =
    octet_inside c.args.m.now c.args.at c.args.stop c.requires.0.0.1 c.requires.1 _ c.is_component.ensures c.if-is_component.true _ c.in-Ok.ensures.0 c.requires.0.0.2 c.in-Ok.ensures.1 _ c.start_of-first.ensures _ c.in-Ok-one_octet_at.ensures.0 c.in-Ok-one_octet_at.ensures.1

pub returns-then-is_component : goal.returns-then-is_component
returns-then-is_component c = search (told_id, c.in-Ok.ensures.0, c.in-Ok.ensures.1, c.in-Ok-one_octet_at.ensures.0, c.in-Ok-one_octet_at.ensures.1)

pub returns-in_default : goal.returns-in_default
returns-in_default c = let (i, t) = c.in_default.ensures in search (rules, told_entry)

pub start_of-first-requires : goal.start_of-first-requires
start_of-first-requires c = search (rules, entry_inside, c.in-Ok.ensures.0, c.in-Ok.ensures.1)

pub one_octet_at-requires : goal.one_octet_at-requires
one_octet_at-requires c = search (rules, entry_from, entry_to, c.in-Ok.ensures.0, c.in-Ok.ensures.1)

pub returns-in_default-one_octet_at : goal.returns-in_default-one_octet_at
returns-in_default-one_octet_at c = let (i, t) = c.in_default-one_octet_at.ensures in search (rules, told_none, c.in-Ok.ensures.0, c.in-Ok.ensures.1, i, t)

pub returns : goal.returns
returns c = search (rules, told_wrong)

-- `code_at` meets its contract. Assumes nothing.
use Rattle.std.proofs.lemmas.Result.{err_from_is_err_and}
use borrow.Author.Rules.{rules}
use native.Mathlib.Omega.{arith}
use mathlib.Core.Path.{◌∙◌}
use mir.Syntax.{w32}
use mir.Val.{SFits}
use mir.Facts.{to_z-of_z}
use lib.ListN.{length-set}
use Rattle.read_field.proofs.Fields.{local_none, local_good, local_bad, count_room, count_more}
use Rattle.read_part.proofs.FieldsLeft.{name_sizes, global_far, global_near, local_far, local_near, local_left, bad_far, stored}
use Rattle.read_part.proofs.code_at.Goals as goal

pub returns-in-Some-integer_at : goal.returns-in-Some-integer_at
returns-in-Some-integer_at c =
    let fits : SFits w32 c.in-Some-integer_at.value = search rules in
    let value = rw (to_z-of_z {w = w32} {z = c.in-Some-integer_at.value} fits) at c.bits.ensures in
    let (i, t) = c.in-Some.ensures in
    let both = local_near _ _ _ (search rules) _ c.stands.ensures _ _ _ c.if-stands.false (search local_good)
    (local_left _ _ _ _ (search rules) (search rules) c.in-Some.ensures.0 c.in-Some.ensures.1 _ _ c.piece.ensures
    c.integer_at.ensures _ c.in-Some-integer_at.is _ _ _ value c.lay_number.ensures) in record { reads = (both.0, let h = count_room c.args.m.now _ _ 2 4 _ c.in-Some.ensures.0 c.in-Some.ensures.1 in omega (arith, h)); leaves = both.1 }

pub returns-in_err-r : goal.returns-in_err-r
returns-in_err-r c = let p = err_from_is_err_and c.from_residual.result c.from_residual.ensures.1 in rw (p.1, p.2) (let both = global_far _ _ _ (search rules) _ c.stands.ensures _ _ _ c.if-stands.true c.in_err-r.ensures.0 c.in_err-r.ensures.1 in record { reads = (both.0, c.in_err-r.ensures.1); leaves = both.1 })

pub overflow_sub-r : goal.overflow_sub-r
overflow_sub-r c = let s = name_sizes _ _ _ _ (search rules) c.in_ok-r.ensures.0 c.in_ok-r.ensures.1 in omega (arith, s)

pub overflow_sub-r-then-stands : goal.overflow_sub-r-then-stands
overflow_sub-r-then-stands c = let s = name_sizes _ _ _ _ (search rules) c.in_ok-r.ensures.0 c.in_ok-r.ensures.1 in omega (arith, s)

pub put_text-requires : goal.put_text-requires
put_text-requires c = simp length-set (omega arith)

pub returns-then-stands : goal.returns-then-stands
returns-then-stands c = let both = global_near _ _ _ (search rules) _ c.stands.ensures _ _ _ c.if-stands.true c.in_ok-r.ensures.0 c.in_ok-r.ensures.1 c.put_text.ensures in record { reads = (both.0, omega (arith, c.in_ok-r.ensures.1)); leaves = both.1 }

pub returns-in_default : goal.returns-in_default
returns-in_default c = let i = c.in_default.ensures in let both = local_far _ _ _ (search rules) _ c.stands.ensures _ _ _ c.if-stands.false (search local_none) (bad_far _ _ _ _ _ c.bad_field.ensures.0) in record { reads = (both.0, c.bad_field.ensures.1); leaves = both.1 }

pub piece-requires : goal.piece-requires
piece-requires c = let (i, t) = c.in-Some.ensures in search count_more

pub lay_number-requires : goal.lay_number-requires
lay_number-requires c = simp length-set (omega arith)

pub overflow_add-result-in-Some-integer_at-2 : goal.overflow_add-result-in-Some-integer_at-2
overflow_add-result-in-Some-integer_at-2 c = let h = count_room c.args.m.now _ _ 2 4 _ c.in-Some.ensures.0 c.in-Some.ensures.1 in omega (arith, h)

pub returns-in-None : goal.returns-in-None
returns-in-None c = let (i, t) = c.in-Some.ensures in let both = local_far _ _ _ (search rules) _ c.stands.ensures _ _ _ c.if-stands.false (search local_bad) (omega arith) in record { reads = (both.0, omega arith); leaves = both.1 }

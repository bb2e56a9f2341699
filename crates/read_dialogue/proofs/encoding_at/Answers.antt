-- `encoding_at` meets its contract. Assumes nothing.
use Rattle.std.proofs.lemmas.Result.{err_from_is_err_and}
use borrow.Author.Rules.{rules}
use native.Mathlib.Omega.{arith}
use mathlib.Core.Path.{◌∙◌}
use lib.ListN.{length-set}
use Rattle.read_dialogue.proofs.Names.{outside_single, outside_far, outside_octets, octets_inside, octets_from_lem}
use Rattle.read_dialogue.proofs.encoding_at.Goals as goal

pub returns-then-stands : goal.returns-then-stands
returns-then-stands c = (search (outside_single, c.single_at.ensures.0), c.single_at.ensures.1)

pub returns-in_err-r : goal.returns-in_err-r
returns-in_err-r c = let p = err_from_is_err_and c.from_residual.result c.from_residual.ensures.1 in rw (p.1, p.2) ((search (outside_far, c.in_err-r.ensures.0, c.in_err-r.ensures.1), c.in_err-r.ensures.1))

pub start_of-from-requires : goal.start_of-from-requires
start_of-from-requires c = search (rules, octets_inside, c.in_ok-r.ensures.0, c.in_ok-r.ensures.1)

pub overflow_sub-r : goal.overflow_sub-r
overflow_sub-r c = search (octets_from_lem, c.in_ok-r.ensures.0, c.in_ok-r.ensures.1)

pub put_text-requires : goal.put_text-requires
put_text-requires c = simp length-set (omega arith)

pub returns : goal.returns
returns c = (search (outside_octets, c.in_ok-r.ensures.0, c.in_ok-r.ensures.1), omega arith)

-- `linked_at` meets its contract. Assumes nothing.
use Rattle.std.proofs.lemmas.Result.{err_from_is_err_and}
use borrow.Author.Rules.{rules}
use native.Mathlib.Omega.{arith}
use Prim.Native.Nat.{ℕ, ◌+◌, ◌<◌}
use mathlib.Core.Path.{◌∙◌}
use lib.ListN.{get_or, set, length-set}
use Rattle.read_place.proofs.Optional.{reads_within}
use Rattle.read_part.proofs.FieldsLeft.{octet_inside, stored}
use Rattle.read_row.proofs.Contents.{linked_none, linked_fault, linked_rest}
use Rattle.read_row.proofs.linked_at.Goals as goal

pub returns-then-stands : goal.returns-then-stands
returns-then-stands c =
    let low : (i : ℕ) → get_or c.args.m.now i 0 < 256 = λ i. omega (arith, c.shared_slice_known-1.given i) in
    let both = linked_rest _ _ _ (search rules) (search rules) _ c.stands.ensures _ _ c.if-stands.true _ c.in_ok-r.ensures.0 c.in_ok-r.ensures.1 low _ (c.coded_at.ensures.finishes.0, c.coded_at.ensures.leaves_all) in record { finishes = (both.0, c.coded_at.ensures.finishes.1); leaves_all = both.1 }

pub returns-in_err-r : goal.returns-in_err-r
returns-in_err-r c = let p = err_from_is_err_and c.from_residual.result c.from_residual.ensures.1 in rw (p.1, p.2) (let both = linked_fault _ _ _ (omega arith) (omega arith) _ c.stands.ensures _ _ c.if-stands.true _ c.in_err-r.ensures.0 c.in_err-r.ensures.1 in record { finishes = (both.0, c.in_err-r.ensures.1); leaves_all = both.1 })

pub bounds-m-at : goal.bounds-m-at
bounds-m-at c = octet_inside _ _ _ _ (search rules) 128 (omega arith, omega arith, omega arith) c.in_ok-r.ensures.0 c.in_ok-r.ensures.1

pub coded_at-requires : goal.coded_at-requires
coded_at-requires c = (search (rules, reads_within, c.in_ok-r.ensures.0, c.in_ok-r.ensures.1), omega arith)

pub returns : goal.returns
returns c = let both = linked_none _ _ _ (omega arith) (omega arith) _ c.stands.ensures _ _ c.if-stands.false _ (c.coded_at-2.ensures.finishes.0, c.coded_at-2.ensures.leaves_all) in record { finishes = (both.0, c.coded_at-2.ensures.finishes.1); leaves_all = both.1 }

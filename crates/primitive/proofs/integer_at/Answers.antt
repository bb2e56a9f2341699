-- By how many octets the number takes. Assumes nothing.
use Rattle.std.proofs.Common.{rules}
use mir.Syntax.{w32}
use mir.Val.{SFits}
use mir.Facts.{to_z-of_z}
use mathlib.Core.Path.{sym, ◌∙◌}
use Rattle.base.proofs.Numbers.{octets_known}
use Rattle.primitive.proofs.Integers.{integer_more, integer_fewest}
use Rattle.primitive.proofs.integer_at.Goals as goal

pub returns-then-integer_size-contents : goal.returns-then-integer_size-contents
returns-then-integer_size-contents c =
    let held : SFits w32 c.in_ok-value.value = search rules in
    let size = rw (to_z-of_z {w = w32} held) at c.integer_size.ensures in
    sym (integer_more c.args.most c.args.contents.now c.in_ok-value.value (octets_known _ c.type_inv.contents) c.in_ok-value.ensures (λ e. c.if-integer_size-contents.true (size ∙ e)))

pub returns : goal.returns
returns c =
    let held : SFits w32 c.in_ok-value.value = search rules in
    let size = rw (to_z-of_z {w = w32} held) at c.integer_size.ensures in
    rw (to_z-of_z {w = w32} held) (sym (integer_fewest c.args.most c.args.contents.now c.in_ok-value.value (octets_known _ c.type_inv.contents) c.in_ok-value.ensures c.if-contents-most.false (sym size ∙ c.if-integer_size-contents.false)))

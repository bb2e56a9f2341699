-- Beyond the range of three octets. Assumes nothing.
use mir.Syntax.{w32}
use mir.Facts.{to_z-of_z}
use mathlib.Core.Path.{sym}
use Rattle.primitive.proofs.Integers.{size_four}
use Rattle.primitive.proofs.integer_size.Goals as goal

pub returns : goal.returns
returns c = sym (size_four c.args.value (rw (c.new-3.ensures.start, c.new-3.ensures.end, c.new-3.ensures.exhausted, to_z-of_z {w = w32} c.ranges.value) at c.if-contains-3.ensures.value))

-- From its four octets. Assumes nothing.
use native.Mathlib.Omega.{arith}
use mir.Facts.{to_z-of_z}
use mir.Syntax.{w32}
use mathlib.Core.Path.{◌∙◌}
use Rattle.base.specs.Number.{top_of}
use Rattle.primitive.specs.Primitive.{signed_of}
use Rattle.steering.proofs.Codes.{bits_read}
use Rattle.steering.proofs.Rules.{number_all}
use Rattle.steering.proofs.octets.signed_in.Goals as goal

pub returns : goal.returns
unfolding signed_of top_of
returns c =
    let o = c.args.four.now in
    rw (to_z-of_z {w = w32} (record { sfits = c.from_be_bytes.type_inv }), c.requires, ← number_all o c.requires)
    (c.from_be_bytes.ensures ∙ bits_read _ (omega (arith, (c.type_inv.four 0).fits, (c.type_inv.four 1).fits, (c.type_inv.four 2).fits, (c.type_inv.four 3).fits)))

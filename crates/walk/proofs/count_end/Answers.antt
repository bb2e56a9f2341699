-- One octet more. Assumes nothing.
use Prim.Native.Nat.{◌+◌, ◌-◌}
use mathlib.Core.Path.{◌≡◌}
use native.Mathlib.Omega.{arith}
use Rattle.element.proofs.Reading.{number_next}
use Rattle.element.proofs.Views.{length_octets}
use Rattle.walk.proofs.count_end.Goals as goal

pub loop-octet-preserved : goal.loop-octet-preserved
loop-octet-preserved c =
    let all : c.args.from + 1 + c.args.k - (c.args.from + 1) ≡ c.args.k = omega arith in
    number_next (length_octets c.args.m.now c.args.from c.args.k) c.loop-octet.value c.loop-octet.octet-index c.from.result (rw all at c.loop-octet-test.true) (rw all at c.from.ensures) c.loop-octet.invariant

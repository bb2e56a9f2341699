-- The size is that of the octets, which are the last of the 32 bits. Assumes nothing.
use native.Mathlib.Omega.{arith}
use mathlib.Core.Path.{◌≡◌}
use mir.Syntax.{w32}
use mir.Val.{to_z, of_z}
use mir.Facts.{to_z-of_z}
use Rattle.write_head.proofs.Integers.{size_some, all_octets, one_octet}
use Rattle.write_head.proofs.integer.back_integer.Goals as goal

pub returns : goal.returns
returns c =
    let back : to_z w32 (of_z w32 c.args.value) ≡ c.args.value = to_z-of_z c.ranges.value in
    rw (all_octets c.args.value _ (rw back at c.integer_size-size.ensures) c.ranges.value.sfits _ (rw back at c.to_be_bytes-octets.ensures) c.args.tag) c.back_leaf.ensures

pub returns-then-size-eq1 : goal.returns-then-size-eq1
returns-then-size-eq1 c =
    let back : to_z w32 (of_z w32 c.args.value) ≡ c.args.value = to_z-of_z c.ranges.value in
    rw (one_octet c.args.value _ (rw back at c.integer_size-size.ensures) c.ranges.value.sfits _ (rw back at c.to_be_bytes-octets.ensures) c.args.tag c.if-size-eq1.true) c.back_octets.ensures

pub back_octets-requires : goal.back_octets-requires
back_octets-requires c =
    let back : to_z w32 (of_z w32 c.args.value) ≡ c.args.value = to_z-of_z c.ranges.value in
    (omega arith, rw (one_octet c.args.value _ (rw back at c.integer_size-size.ensures) c.ranges.value.sfits _ (rw back at c.to_be_bytes-octets.ensures) c.args.tag c.if-size-eq1.true) at c.requires)

pub back_leaf-requires : goal.back_leaf-requires
back_leaf-requires c =
    let back : to_z w32 (of_z w32 c.args.value) ≡ c.args.value = to_z-of_z c.ranges.value in
    rw (all_octets c.args.value _ (rw back at c.integer_size-size.ensures) c.ranges.value.sfits _ (rw back at c.to_be_bytes-octets.ensures) c.args.tag) at c.requires

pub overflow_sub-size : goal.overflow_sub-size
overflow_sub-size c =
    let back : to_z w32 (of_z w32 c.args.value) ≡ c.args.value = to_z-of_z c.ranges.value in
    omega (arith, size_some c.args.value _ (rw back at c.integer_size-size.ensures) c.ranges.value.sfits)

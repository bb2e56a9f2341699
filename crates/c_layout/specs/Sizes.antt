-- What C is told of the layout: docs/LAYOUT.md. Assumes nothing: these are definitions.
use Rattle.std.specs.Prelude.{ℕ, ◌+◌, ◌*◌, ◌^◌}
use Rattle.layout.specs.Layout.{record_size}
use Rattle.steering.specs.Layout.{rule_size}

-- version 2, and the sizes of a rule and a record
abbrev pub layout_bits : ℕ
layout_bits = 2 * 2 ^ 24 + rule_size * 2 ^ 16 + record_size

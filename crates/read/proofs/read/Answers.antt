-- `read` meets its contract. Assumes nothing.
use mathlib.Core.Path.{ap, ◌∙◌}
use lib.ListN.{length, length-drop}
use native.Mathlib.Omega.{arith}
use Rattle.layout.specs.Layout.{rows_held}
use Rattle.read.proofs.Records.{looked_few, read_accepted}
use Rattle.read.proofs.read.Goals as goal

pub rows_in-rows-requires : goal.rows_in-rows-requires
rows_in-rows-requires c =
    let done = c.in_default.ensures in
    let few = looked_few _ _ done.value done.held in
    (omega (arith, simp length-drop at (ap length c.after.ensures)), omega (arith, few, c.rows_looked-count.ensures))

pub returns : goal.returns
returns c =
    let done = c.in_default.ensures in
    let rows = c.rows_in-rows.ensures ∙ ap (rows_held _) c.after.ensures in
    read_accepted _ _ done.value done.held _ c.message_kind_in-kind.ensures _ c.orig_in-orig.ensures _ c.dest_in-dest.ensures _ c.dialogue_in-dialogue.ensures _ c.rows_looked-count.ensures _ rows

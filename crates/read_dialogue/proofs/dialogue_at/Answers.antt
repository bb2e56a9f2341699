-- `dialogue_at` meets its contract. Assumes nothing.
use borrow.Author.Rules.{rules}
use native.Mathlib.Omega.{arith}
use Rattle.read_place.proofs.Optional.{reads_within}
use Rattle.read_dialogue.proofs.Owners.{stood_room, stood_inside, stood_from, stood_to, entry_reads, entry_told_lem, inside_reads, inside_told, behind_reads, behind_told, dialogue_told}
use Rattle.read_dialogue.proofs.dialogue_at.Goals as goal

pub length_at-requires : goal.length_at-requires
length_at-requires c = search (rules, stood_room)

pub returns-in-Err : goal.returns-in-Err
returns-in-Err c = record { reads = (search (entry_reads, c.in-Err.ensures.0, c.in-Err.ensures.1), c.in-Err.ensures.1); leaves = search (entry_told_lem, c.in-Err.ensures.0, c.in-Err.ensures.1) }

pub start_of-from-requires : goal.start_of-from-requires
start_of-from-requires c = search (rules, stood_inside, c.in-Ok.ensures.0, c.in-Ok.ensures.1)

pub external_at-requires : goal.external_at-requires
external_at-requires c = search (rules, stood_from, stood_to, c.in-Ok.ensures.0, c.in-Ok.ensures.1)

pub owner_at-requires : goal.owner_at-requires
owner_at-requires c = search (rules, stood_from, stood_to, c.in-Ok.ensures.0, c.in-Ok.ensures.1)

pub returns-in-Err-external_at : goal.returns-in-Err-external_at
returns-in-Err-external_at c =
    let pre = c.requires in
    let told = inside_told _ _ _ pre.0 pre.1 _ c.in-Ok.ensures.0 c.in-Ok.ensures.1 _ c.start_of-from.ensures _ _ _ c.in-Err-external_at.ensures.0 in
    record { reads = (search (inside_reads, c.in-Ok.ensures.0, c.in-Ok.ensures.1, c.in-Err-external_at.ensures.0, c.in-Err-external_at.ensures.1), c.in-Err-external_at.ensures.1); leaves = told c.in-Err-external_at.ensures.1 _ c.owner_at.ensures (omega arith) }

pub leave-requires : goal.leave-requires
leave-requires c = search (rules, reads_within, stood_to, c.in-Ok.ensures.0, c.in-Ok.ensures.1, c.in-Ok-external_at.ensures.0, c.in-Ok-external_at.ensures.1)

pub owner_at-requires-in-Err-leave : goal.owner_at-requires-in-Err-leave
owner_at-requires-in-Err-leave c = search (rules, reads_within, stood_to, c.in-Ok.ensures.0, c.in-Ok.ensures.1, c.in-Ok-external_at.ensures.0, c.in-Ok-external_at.ensures.1)

pub returns-in-Err-leave : goal.returns-in-Err-leave
returns-in-Err-leave c =
    let pre = c.requires in
    let told = behind_told _ _ _ pre.0 pre.1 _ c.in-Ok.ensures.0 c.in-Ok.ensures.1 _ c.start_of-from.ensures _ _ _ c.in-Ok-external_at.ensures.0 in
    record { reads = (search (behind_reads, c.in-Ok.ensures.0, c.in-Ok.ensures.1, c.in-Ok-external_at.ensures.0, c.in-Ok-external_at.ensures.1, c.in-Err-leave.ensures.0), c.in-Err-leave.ensures.1); leaves = told c.in-Ok-external_at.ensures.1 _ c.in-Err-leave.ensures.0 c.in-Err-leave.ensures.1 _ c.owner_at-in-Err-leave.ensures (omega arith) }

pub returns-in-Ok-leave : goal.returns-in-Ok-leave
returns-in-Ok-leave c = record { reads = (search (behind_reads, c.in-Ok.ensures.0, c.in-Ok.ensures.1, c.in-Ok-external_at.ensures.0, c.in-Ok-external_at.ensures.1, c.in-Ok-leave.ensures.0), c.in-Ok-leave.ensures.1); leaves = search (dialogue_told, c.in-Ok.ensures.0, c.in-Ok.ensures.1, c.in-Ok-external_at.ensures.0, c.in-Ok-external_at.ensures.1, c.in-Ok-leave.ensures.0, c.in-Ok-leave.ensures.1) }

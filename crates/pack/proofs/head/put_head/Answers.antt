-- Field after field; the count's lower 32 bits are its four octets. Assumes nothing.
use Rattle.base.proofs.Puts.{put_then}
use Rattle.std.proofs.Common.{rules, ◌≡◌}
use Rattle.layout.specs.Layout.{orig_flag, orig_span, dest_flag, dest_span, head_octets}
use Rattle.pack.proofs.Rooms.{octets_cut}
use Rattle.pack.proofs.head.put_head.Goals as goal

pub returns : goal.returns
unfolding head_octets orig_flag orig_span dest_flag dest_span
returns c =
    let a : c.flag.result ≡ orig_flag c.args.held.now.orig = search rules in
    let b : c.flag-2.result ≡ dest_flag c.args.held.now.dest = search rules in
    let o : c.map_or.result ≡ orig_span c.args.held.now.orig = search rules in
    let e : c.map_or-2.result ≡ dest_span c.args.held.now.dest = search rules in
    rw (← c.message_tag.ensures, ← a, ← b, ← c.dialogue_number.ensures, ← o, ← e)
    (put_then (put_then (put_then (put_then c.put_octets-a.ensures (rw octets_cut at c.put_number-b.ensures)) c.put_span-c.ensures) c.put_span-d.ensures) c.put_dialogue.ensures)

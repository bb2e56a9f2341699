-- Three octets, and a string behind a string. Assumes nothing.
use Rattle.std.proofs.Common.{rules, ◌≡◌}
use Rattle.base.proofs.Puts.{put_then}
use Rattle.layout.specs.Layout.{optional_flag, optional_span, parts_octets}
use Rattle.pack.proofs.row.put_parts.Goals as goal

pub returns : goal.returns
unfolding parts_octets optional_flag optional_span
returns c =
    let f : c.flag.result ≡ optional_flag c.args.parameter = search rules in
    let s : c.unwrap_or.result ≡ optional_span c.args.parameter = search rules in
    rw (← f, ← s) (put_then (put_then c.put_octets-a.ensures c.put_span-b.ensures) c.put_span.ensures)

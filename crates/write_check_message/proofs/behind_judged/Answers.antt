-- `behind_judged` meets its contract. Assumes nothing.
use Rattle.std.proofs.Common.{rules}
use Rattle.std.specs.Prelude.{option_map}
use mathlib.Core.Path.{◌≡◌}
use Rattle.write_check.proofs.Messages.{id_orig, id_dest}
use Rattle.write_check_message.proofs.behind_judged.Goals as goal

pub returns : goal.returns
returns c =
    let own : c.map.result ≡ option_map (λ i. i.0) c.args.orig = search rules in
    let theirs : c.map-2.result ≡ option_map (λ i. i.0) c.args.dest = search rules in
    rw (c.both-2.ensures, c.both.ensures, c.id_judged-own.ensures, c.id_judged-theirs.ensures, own, theirs, id_orig, id_dest)

-- Octets that were read full are those that came. Assumes nothing.
use Rattle.std.proofs.Common.{rules, ◌≡◌, length, drop, take_at, ◌∙◌, sym}
use Rattle.program_parts.proofs.Coming.{whole}
use Rattle.program_parts.proofs.cases.next_octets.Goals as goal

pub returns-clause-octets : goal.returns-clause-octets
returns-clause-octets g c = λ s e f t q.
    let room : length c.read_full.new.buffer ≡ c.args.count = search rules in
    let (n, same, rest) = whole _ _ c.in_ok-got.got c.read_full.new.buffer s c.in_ok-got.ensures.ok.0 (room ∙ sym e) c.in_ok-got.ensures.taken c.in_ok-got.ensures.end t q in
    (take_at c.read_full.new.buffer (drop c.args.count c.args.buffer.now) c.args.count room ∙ same, rest)

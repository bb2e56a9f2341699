-- `octets_judged` meets its contract. Assumes nothing.
use Rattle.std.proofs.lemmas.Result.{err_from_is_err_and}
use Rattle.write_check_row.specs.Judged.{rank_of, judged}
use Rattle.write_check_row.proofs.octets_judged.Goals as goal

pub returns-in_err-octets : goal.returns-in_err-octets
unfolding rank_of judged
returns-in_err-octets c = let p = err_from_is_err_and c.from_residual.result c.from_residual.ensures.1 in rw (p.1, p.2, c.in_err-octets.ensures.err.0, c.in_err-octets.ensures.err.1)

pub returns : goal.returns
unfolding rank_of judged
returns c = rw (c.in_ok-octets.ensures.ok.0, ← c.in_ok-octets.ensures.ok.1, c.capped.ensures)

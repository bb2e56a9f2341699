-- `refusal_of` meets its contract. Assumes nothing.
use Rattle.read_refusal.proofs.Refusals.{refused_as}
use Rattle.read_refusal.proofs.refusal_of.Goals as goal

pub returns : goal.returns
returns c = search refused_as

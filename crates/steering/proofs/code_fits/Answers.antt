-- Codes are compared by their bits. Assumes nothing.
use borrow.Author.Rules.{rules}
use Rattle.steering.specs.Steering.{code_fits}
use Rattle.steering.proofs.Codes.{bits_tell}
use Rattle.steering.proofs.code_fits.Goals as goal

pub returns-in-Some-Some : goal.returns-in-Some-Some
unfolding code_fits
returns-in-Some-Some c = rw (c.in-Some-Some.is-0, c.in-Some-Some.is-1) (bits_tell _ _ (search rules) (search rules))

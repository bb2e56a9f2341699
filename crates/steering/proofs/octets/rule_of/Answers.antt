-- Field by field. Assumes nothing.
use native.Mathlib.Omega.{arith}
use Rattle.steering.specs.Layout.{rule_of}
use Rattle.steering.proofs.Rules.{number_four}
use Rattle.steering.proofs.octets.rule_of.Goals as goal

pub returns : goal.returns
unfolding rule_of
returns c = rw (c.kind_in.ensures, c.code_in.ensures, c.from_be_bytes.ensures, number_four c.args.octets.now 8 (omega (arith, c.requires)))

-- Octet by octet. Assumes nothing.
use native.Mathlib.Omega.{arith}
use Rattle.write_portion.proofs.Around.{source_parts}
use Rattle.write_portion.proofs.back_diagnostic.Goals as goal

pub back_octets-requires : goal.back_octets-requires
back_octets-requires c = (omega arith, rw source_parts at (rw c.in-ByUser.is at c.requires))

pub back_octets-requires-in-ByProvider : goal.back_octets-requires-in-ByProvider
back_octets-requires-in-ByProvider c = (omega arith, rw source_parts at (rw c.in-ByProvider.is at c.requires))

pub returns-in-ByUser : goal.returns-in-ByUser
returns-in-ByUser c = rw (c.in-ByUser.is, source_parts) c.back_octets.ensures

pub returns-in-ByProvider : goal.returns-in-ByProvider
returns-in-ByProvider c = rw (c.in-ByProvider.is, source_parts) c.back_octets-in-ByProvider.ensures

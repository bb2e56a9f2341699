-- The fault by the worst that is wrong, as the writer's parts answer it. Assumes nothing: these are definitions.
use mathlib.Core.{Bool.cond}
use lib.{Dec.eqb}
use Rattle.write_check_row.specs.declared.Wrong.{Wrong}
use Rattle.writing.specs.declared.WriteFault.{WriteFault}

-- the fault by the rank of the worst that is wrong: 4 for 24, 3 for 23, 2 for 21, and 22 for any other; cited by inner contracts
unfoldable pub fault_at : Wrong → WriteFault
fault_at k = cond (eqb k.0 4) WriteFault.WrongParts (cond (eqb k.0 3) WriteFault.OutOfRange (cond (eqb k.0 2) WriteFault.OutOfMaterial WriteFault.Unshaped))

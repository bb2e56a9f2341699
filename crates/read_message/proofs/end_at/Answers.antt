-- `end_at` meets its contract. Assumes nothing.
use native.Mathlib.Omega.{arith}
use Rattle.read_place.specs.declared.FaultAt.{FaultAt}
use Rattle.read_place.specs.Places.{Finishes, nothing}
use Rattle.read_place.proofs.Fronts.{leave_here}
use mathlib.Core.Path.{ap}
use Rattle.read_message.proofs.PortionFaults.{end_there, end_fault}
use Rattle.read_message.proofs.end_at.Goals as goal

pub returns-then-at-stop : goal.returns-then-at-stop
returns-then-at-stop c =
    let a = c.args in
    let here : Finishes nothing a.m.now a.at a.stop a.at = search leave_here in
    let both = end_there a.m.now a.at a.stop _ here a.out.now (omega arith) in record { finishes = (both.0, omega arith); leaves_all = both.1 }

pub returns-in-Err : goal.returns-in-Err
returns-in-Err c =
    let a = c.args in
    let told = c.portion_fault.ensures in
    let both = end_fault a.m.now a.at a.stop _ c.in-Err.ensures.0 a.out.now c.in-Err.ensures.1 c.told-out _ (ap (λ (f : FaultAt). f.0) told.value) _ told.out_after in record { finishes = (both.0, omega (arith, (ap (λ (f : FaultAt). f.0) told.value), c.in-Err.ensures.1)); leaves_all = both.1 }

pub returns-in-Ok : goal.returns-in-Ok
returns-in-Ok c =
    let a = c.args in
    let both = end_there a.m.now a.at a.stop _ c.in-Ok.ensures.0 a.out.now c.in-Ok.ensures.1 in record { finishes = (both.0, c.in-Ok.ensures.1); leaves_all = both.1 }

-- An unknown entry keeps its word; a known one takes its implementation, or row 16 refuses. Assumes nothing.
use Rattle.ask.proofs.DispatchLaws.{slot_kept, slot-takes, slot-missing}
use Rattle.ask.proofs.dispatch_slot.Goals as goal

pub returns-in_default : goal.returns-in_default
returns-in_default c = search slot_kept

pub returns-in_err-d : goal.returns-in_err-d
returns-in_err-d c =
    rw c.from_residual.ensures (slot-missing _ _ _ _ c.in-Some.j c.method.ensures c.in-Some.is c.implementation.ensures c.in_err-d.was)

pub returns : goal.returns
returns c =
    slot-takes _ _ _ _ c.in-Some.j c.method.ensures c.in-Some.is c.implementation.ensures
    c.in_ok-d.d.class c.in_ok-d.d.method c.in_ok-d.was c.of_method.ensures.is

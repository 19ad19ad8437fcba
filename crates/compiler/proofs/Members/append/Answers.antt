-- No method, or one that takes no slot, leaves the table; any other one goes behind its last slot. Assumes nothing.
use native.Mathlib.Omega.{arith}
use Rattle.compiler.proofs.AppendLaws.{append_none, append_left, append_new}
use Rattle.compiler.proofs.Members.append.Goals as goal

-- no method
pub returns-in_default : goal.returns-in_default
returns-in_default c = record { is = search append_none; count = omega arith }

-- behind the last slot
pub returns-then-takes_slot : goal.returns-then-takes_slot
returns-then-takes_slot c = record {
  is = append_new _ _ _ _ _ _ c.method.ensures c.in-Some.is c.takes_slot.ensures c.if-takes_slot.true c.target_of.ensures (c.push.ensures.is (omega arith));
  count = c.push.ensures.count;
}

-- no slot for it
pub returns-else-takes_slot : goal.returns-else-takes_slot
returns-else-takes_slot c = record { is = search append_left; count = omega arith }

-- A slot's turn is a step of the relaying. Assumes nothing.
use Rattle.std.proofs.Common.{arith}
use Rattle.reading.proofs.ArrayLaws.{length-entries}
use Rattle.vtable.proofs.RelayLaws.{fixed_small, relay_turn, relay_end}
use Rattle.vtable.proofs.relay.Goals as goal

pub loop-i-preserved : goal.loop-i-preserved
loop-i-preserved c = record {
  slots = omega arith;
  rest = relay_turn _ _ _ (fixed_small _ _ _) _ _ _ c.fixed_marks.ensures c.hold_entries.ensures _ _ _ (rw (length-entries _ _ _) c.loop-i-test.true)
      c.place_of-place.ensures c.slot.ensures c.relay_entry.ensures.is c.loop-i.invariant.rest;
}

pub returns-clause-is : goal.returns-clause-is
returns-clause-is c = relay_end _ _ _ _ _ _ _ (rw (length-entries _ _ _) c.loop-i-test.false) c.loop-i.invariant.rest

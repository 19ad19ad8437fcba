-- A slot's turn adds its index. Assumes nothing.
use Rattle.std.proofs.Common.{arith}
use Rattle.vtable.proofs.AddLaws.{left_turn, left_end}
use Rattle.vtable.proofs.FixedLaws.{still_start, slots_left, still_turn, still_end}
use Rattle.vtable.proofs.fixed.add_class.Goals as goal

pub loop-s-init : goal.loop-s-init
loop-s-init c = still_start _ _ _ (slots_left _ _ c.class_first_slot-first.ensures c.slot_count-count.ensures)

pub loop-s-preserved : goal.loop-s-preserved
loop-s-preserved c = still_turn _ _ _ (left_turn _ _ c.loop-s.s (omega arith) (omega arith)) c.add_slot.ensures c.loop-s.invariant

pub returns : goal.returns
returns c = still_end _ _ _ (left_end _ _ c.loop-s.s (omega arith)) c.loop-s.invariant

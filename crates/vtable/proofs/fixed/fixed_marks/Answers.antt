-- An entry's turn stores its index. Assumes nothing.
use Rattle.std.proofs.Common.{arith}
use Rattle.reading.proofs.ArrayLaws.{length-entries}
use Rattle.vtable.proofs.RelayLaws.{indexed_start, indexed_turn, indexed_end}
use Rattle.vtable.proofs.fixed.fixed_marks.Goals as goal

pub loop-i-init : goal.loop-i-init
loop-i-init c = indexed_start _ _ _ _ _

pub loop-i-preserved : goal.loop-i-preserved
loop-i-preserved c = indexed_turn _ _ _ _ _ _ _ (omega arith) c.slot.ensures c.slot_mark.ensures c.loop-i.invariant

pub returns : goal.returns
returns c = indexed_end _ _ _ _ _ _ (rw (length-entries _ _ _) c.loop-i-test.false) c.loop-i.invariant

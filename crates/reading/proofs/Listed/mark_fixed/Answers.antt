-- A record's turn marks the slot of its index, where the table has one; for an index that no record has the entry finds nothing, so those
-- slots stay. Assumes nothing.
use Rattle.std.proofs.Common.{arith}
use Rattle.reading.proofs.FixedLaws.{fixed-start, fixed-turn, fixed-past, fixed-end, fixed-unmet}
use Rattle.reading.proofs.Listed.mark_fixed.Goals as goal
use Rattle.reading.proofs.Listed.mark_fixed.Goals.{then-i-marks, else-i-marks}

pub loop-s-init : goal.loop-s-init
loop-s-init c = fixed-start _ _ _ _ _

pub loop-s-preserved : goal.loop-s-preserved
loop-s-preserved c =
    elim c.if-i-marks.branch [
      | then-i-marks w ↦ fixed-turn _ _ _ _ _ (omega arith) c.loop-s.invariant c.slot_index-i.ensures w.mark.ensures w.marks-is
      | else-i-marks w ↦ rw w.marks-is (fixed-past _ _ _ _ _ (omega arith) c.loop-s.invariant c.slot_index-i.ensures w.if-i-marks.false)
    ]

pub returns : goal.returns
returns c =
    fixed-end _ _ _ _ _ (omega arith) c.loop-s.invariant
    (λ i. fixed-unmet _ _ _ _ _ _ i c.args.self.has c.class_first_slot-first.ensures c.slot_count.ensures)

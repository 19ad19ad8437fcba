-- The slots whose index a record before s has are marked by the class's own entry, and the others as they were. Assumes nothing.
use Rattle.std.proofs.Common.{◌≡◌, ◌-◌, length}
use Rattle.linking.specs.Sheets.{of_numbers}
use Rattle.linking.specs.Abi.{slot_index}
use Rattle.linking.specs.Vtable.{own_fixed}
use Rattle.reading.specs.Arrays.{marks_with}
use Rattle.reading.proofs.FixedLaws.{fixed_by}
use Rattle.reading.proofs.Listed.mark_fixed.Given as goal

abbrev pub invariant-loop-s : goal.invariant-loop-s
invariant-loop-s l =
    l.marks
    ≡ marks_with (fixed_by (slot_index l.abi) l.first (λ i. of_numbers own_fixed l.self.sheets i l.self.class) (l.s - l.first)) (length l.initial.marks)
    l.initial.marks

-- The slots before i are copies of themselves, and the others as they were. Assumes nothing.
use Rattle.std.proofs.Common.{◌≡◌}
use Rattle.reading.specs.Arrays.{copy_marks}
use Rattle.reading.proofs.give_sources.Given as goal

abbrev pub invariant-loop-i : goal.invariant-loop-i
invariant-loop-i l = l.marks ≡ copy_marks l.i l.initial.marks

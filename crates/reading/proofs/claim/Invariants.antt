-- The slots before i are claimed where they have a mark and no class, and the others as they were. Assumes nothing.
use Rattle.std.proofs.Common.{◌≡◌}
use Rattle.reading.specs.Classes.{claims}
use Rattle.reading.proofs.claim.Given as goal

abbrev pub invariant-loop-i : goal.invariant-loop-i
invariant-loop-i l = l.classes ≡ claims l.c l.i l.marks l.initial.classes

-- The slots before i are marked where they hold the target, and the others as they were. Assumes nothing.
use Rattle.std.proofs.Common.{◌≡◌, get_or, cond, eqb, ℕ, Option, Some, None}
use Rattle.reading.specs.Arrays.{marks_with}
use Rattle.reading.proofs.mark_target.Given as goal

abbrev pub invariant-loop-i : goal.invariant-loop-i
invariant-loop-i l = l.marks ≡ marks_with (λ j. cond {A = Option ℕ} (eqb l.w (get_or l.words j 0)) (Some l.m) None) l.i l.initial.marks

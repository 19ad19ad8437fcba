-- The slots are marked by the methods before number m. Assumes nothing.
use Rattle.std.proofs.Common.{◌≡◌, ◌-◌, length}
use Rattle.reading.specs.Arrays.{marks_with}
use Rattle.reading.proofs.MarkLaws.{first_of}
use Rattle.reading.proofs.mark_targets.Given as goal

abbrev pub invariant-loop-m : goal.invariant-loop-m
invariant-loop-m l = l.marks ≡ marks_with (first_of l.records l.words l.first (l.m - l.first)) (length l.initial.marks) l.initial.marks

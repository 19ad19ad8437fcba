-- What is left of the bytes gets shorter by a case's words at least. Assumes nothing.
use Rattle.std.proofs.Common.{length}
use Rattle.file_judge.proofs.print_cases.Given as goal

abbrev pub decreases-loop-rest : goal.decreases-loop-rest
decreases-loop-rest g l = length l.rest

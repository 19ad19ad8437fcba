-- A segment of no words ends the list, and each other leaves fewer words to fill.
use Rattle.std.proofs.Common.{◌-◌}
use Rattle.corpus.proofs.Reader.list.Given as goal

abbrev pub decreases-loop-filled : goal.decreases-loop-filled
decreases-loop-filled l = l.n - l.filled

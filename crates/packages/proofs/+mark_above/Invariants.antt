-- The class's own methods, and then those of its parent's chain, for which the class may be reached too: the class's number falls. Assumes nothing.
use Rattle.packages.proofs.+mark_above.Given as goal

abbrev pub decreases-mark_above : goal.decreases-mark_above
decreases-mark_above l = l.a

-- The class itself, or one of its parent's chain: the class's number falls. Assumes nothing.
use Rattle.packages.proofs.+some_above.Given as goal

abbrev pub decreases-some_above : goal.decreases-some_above
decreases-some_above g l = l.c

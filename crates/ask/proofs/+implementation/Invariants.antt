-- The class's own method, or the parent's implementation: the class's number falls. Assumes nothing.
use Rattle.ask.proofs.+implementation.Given as goal

abbrev pub decreases-implementation : goal.decreases-implementation
decreases-implementation l = l.c

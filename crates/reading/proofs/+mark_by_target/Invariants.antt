-- The class's own methods mark first, the class claims what they marked, and then its parent's chain goes on with the slots that are left;
-- the class's number falls. Assumes nothing.
use Rattle.reading.proofs.+mark_by_target.Given as goal

abbrev pub decreases-mark_by_target : goal.decreases-mark_by_target
decreases-mark_by_target l = l.c

-- The class's own entry marks first, the class claims what it marked, and then its parent's chain goes on with the slots that are left; the
-- class's number falls. Assumes nothing.
use Rattle.reading.proofs.+mark_by_index.Given as goal

abbrev pub decreases-mark_by_index : goal.decreases-mark_by_index
decreases-mark_by_index l = l.c

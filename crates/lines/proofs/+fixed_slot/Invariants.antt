-- The class's own slot record, or the parent's: the class's number falls. Assumes nothing.
use Rattle.lines.proofs.+fixed_slot.Given as goal

abbrev pub decreases-fixed_slot : goal.decreases-fixed_slot
decreases-fixed_slot l = l.c

-- The class's own table, and over it those of its parent's chain: the class's number falls. Assumes nothing.
use Rattle.packages.proofs.+lay_chain.Given as goal

abbrev pub decreases-lay_chain : goal.decreases-lay_chain
decreases-lay_chain l = l.d

-- The class's number falls. Assumes nothing.
use Rattle.abi.proofs.+push_chain.Given as goal

abbrev pub decreases-push_chain : goal.decreases-push_chain
decreases-push_chain l = l.c

-- The tables of the parent's chain, laid over nothing, give the introducing methods. Assumes nothing.
use Rattle.packages.proofs.TopLaws.{laid_tops}
use Rattle.packages.proofs.introducing_marks.Goals as goal

pub returns : goal.returns
returns c = laid_tops _ _ _ _ _ _ _ _ _ c.requires c.lay_chain.ensures

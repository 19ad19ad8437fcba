-- The definition's two tests. Assumes nothing.
use Rattle.ask.proofs.implements.Goals as goal

pub returns : goal.returns
returns c = cc

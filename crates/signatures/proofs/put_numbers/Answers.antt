-- A turn stores one number more. Assumes nothing.
use Rattle.words.proofs.FoldLaws.{stores-none, stores-turn}
use Rattle.signatures.proofs.put_numbers.Goals as goal

pub loop-p-init : goal.loop-p-init
loop-p-init c = stores-none _ _

pub loop-p-preserved : goal.loop-p-preserved
loop-p-preserved c = stores-turn c.loop-p.p _ _ c.put.ensures c.loop-p.invariant c.number_at.ensures

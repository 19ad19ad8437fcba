-- A turn stores one key more. Assumes nothing.
use Rattle.std.proofs.Common.{refl, arith}
use Rattle.words.proofs.FoldLaws.{stores-none, stores-turn}
use Rattle.signatures.proofs.KeyLaws.{keys-stored}
use Rattle.signatures.proofs.put_keys.Goals as goal

pub loop-p-init : goal.loop-p-init
loop-p-init c = stores-none _ _

pub loop-p-preserved : goal.loop-p-preserved
loop-p-preserved c = stores-turn c.loop-p.p _ _ refl c.loop-p.invariant c.key_at.ensures

pub returns : goal.returns
returns c = keys-stored _ _ c.loop-p.invariant (omega arith) (omega arith) (omega arith)

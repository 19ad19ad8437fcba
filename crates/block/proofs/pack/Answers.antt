-- Each turn puts the bytes of one block behind those of the blocks before it; after n turns all are there. Assumes nothing.
use Rattle.std.proofs.Common.{arith}
use Rattle.block.proofs.PackLaws.{packed_all}
use Rattle.block.proofs.pack.Goals as goal

pub returns : goal.returns
returns c = packed_all _ _ _ _ c.loop-k.invariant (omega arith) (omega arith) (omega arith)

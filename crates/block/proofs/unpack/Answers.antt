-- Each turn puts the words of one block behind those of the blocks before it; after n turns all are there. Assumes nothing.
use Rattle.std.proofs.Common.{arith}
use Rattle.block.proofs.Laws.{unpacked_all}
use Rattle.block.proofs.unpack.Goals as goal

pub returns : goal.returns
returns c = unpacked_all _ _ _ _ c.loop-k.invariant (omega arith) (omega arith) (omega arith)

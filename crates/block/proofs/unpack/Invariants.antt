-- The words of the first k blocks stand in front of the words as they were. Assumes nothing.
use Rattle.std.proofs.Common.{◌≡◌, ◌*◌, ◌++◌, drop}
use Rattle.block.specs.Block.{content}
use Rattle.block.proofs.unpack.Given as goal

abbrev pub invariant-loop-k : goal.invariant-loop-k
invariant-loop-k l = l.out ≡ content l.bytes l.k ++ drop (127 * l.k) l.initial.out

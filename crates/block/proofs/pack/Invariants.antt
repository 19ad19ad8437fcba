-- The first k blocks stand in front of the bytes as they were. Assumes nothing.
use Rattle.std.proofs.Common.{◌≡◌, ◌*◌, ◌++◌, drop}
use Rattle.block.specs.Block.{sheet_bytes}
use Rattle.block.proofs.pack.Given as goal

abbrev pub invariant-loop-k : goal.invariant-loop-k
invariant-loop-k l = l.out ≡ sheet_bytes l.ws l.k ++ drop (512 * l.k) l.initial.out

-- At most 92 blocks, so that their number is told whole: refused by 18, or packed. Assumes nothing.
use Rattle.std.proofs.Common.{arith}
use Rattle.convert.proofs.Judging.{room}
use Rattle.convert.proofs.put_blocks.Goals as goal

pub returns : goal.returns
returns c = search (room, arith)

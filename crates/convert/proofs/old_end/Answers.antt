-- The classes are fewer than the words of the content, and each has a word less. Assumes nothing.
use Rattle.std.proofs.Common.{arith}
use Rattle.convert.proofs.Judging.{old-end}
use Rattle.convert.proofs.old_end.Goals as goal

pub overflow_sub-result : goal.overflow_sub-result
overflow_sub-result c = omega (arith, old-end c.args.ws.now)

pub returns : goal.returns
returns c = record { is = omega (arith, old-end c.args.ws.now); small = omega arith }

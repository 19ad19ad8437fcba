-- The classes are fewer than the words before the text, and each has a word less. Assumes nothing.
use Rattle.std.proofs.Common.{arith}
use Rattle.convert.proofs.Judging.{old-text}
use Rattle.convert.proofs.old_text_end.Goals as goal

pub overflow_sub-result : goal.overflow_sub-result
overflow_sub-result c = omega (arith, old-text c.args.ws.now)

pub returns-clause-is : goal.returns-clause-is
returns-clause-is c = omega (arith, old-text c.args.ws.now)

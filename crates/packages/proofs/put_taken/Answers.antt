-- No slot is taken: the method's entry is added behind the last. Assumes nothing.
use Rattle.std.proofs.Common.{arith}
use Rattle.packages.proofs.TakeLaws.{take_new}
use Rattle.packages.proofs.put_taken.Goals as goal

pub returns-clause-is : goal.returns-clause-is
returns-clause-is c =
    let few = c.store_taken.ensures.len in
    take_new _ _ _ (c.of_method-slot.ensures.is (omega arith)) c.store_taken.ensures.slots c.store_taken.ensures.is
    c.if-store_taken.false (c.push.ensures.is (omega arith))

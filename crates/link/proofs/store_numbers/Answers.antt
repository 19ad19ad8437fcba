-- The list of a class that is not built grows by its new members, if there are any. Assumes nothing.
use Rattle.link.proofs.NumberLaws.{numbers-put, numbers-left}
use Rattle.link.proofs.store_numbers.Goals as goal

pub returns-then-is_built-len : goal.returns-then-is_built-len
returns-then-is_built-len c =
    numbers-put _ _ _ _ c.is_built.ensures c.len.ensures.is c.if-is_built-len.true c.growing.ensures c.requires c.grow_numbers.ensures

pub returns-else-is_built-len : goal.returns-else-is_built-len
returns-else-is_built-len c = numbers-left _ _ _ _ c.is_built.ensures c.len.ensures.is c.if-is_built-len.false

-- The classes are searched in order, and each name that is compared is the class's. Assumes nothing.
use Rattle.std.proofs.Common.{rules, arith}
use Rattle.linking.specs.Abi.{abi_named}
use Rattle.abi.proofs.abi_named.Goals as goal

pub returns : goal.returns
unfolding abi_named
returns c = rw (← c.class_count.ensures) (c.find_in.ensures _ _ (omega arith) (λ i r l post. search rules))

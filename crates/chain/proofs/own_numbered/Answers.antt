-- The numbers that are searched are those of the class's methods. Assumes nothing.
use Rattle.std.proofs.Common.{rules, arith}
use Rattle.linking.specs.Chain.{own_methods}
use Rattle.chain.proofs.own_numbered.Goals as goal

pub returns : goal.returns
unfolding own_methods
returns c =
    rw (← c.method_count.ensures, ← c.class_first_method-first.ensures)
    (c.find_in.ensures _ _ (omega arith) (λ i r l post. search rules))

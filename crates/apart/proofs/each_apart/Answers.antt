-- The test of each class number is the definition's. Assumes nothing.
use Rattle.std.proofs.Common.{rules}
use Rattle.apart.specs.Apart.{apart_before}
use Rattle.apart.proofs.each_apart.Goals as goal

pub returns : goal.returns
returns c =
    rw (← c.class_count.ensures) (c.all_up_to.ensures (apart_before c.args.ws.now c.args.text.now) (λ i r l post. search rules))

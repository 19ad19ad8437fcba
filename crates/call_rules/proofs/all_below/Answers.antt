-- The test of each class number is the definition's. Assumes nothing.
use Rattle.std.proofs.Common.{rules}
use Rattle.linking.specs.Link.{ends_below}
use Rattle.call_rules.proofs.all_below.Goals as goal

pub returns : goal.returns
returns c =
    rw (← c.class_count.ensures) (c.all_up_to.ensures (ends_below c.args.ws.now c.args.area.now) (λ i r l post. search rules))

-- The test of each class number is the definition's. Assumes nothing.
use Rattle.std.proofs.Common.{rules}
use Rattle.class_rules.specs.ClassRules.{fresh}
use Rattle.class_rules.proofs.all_fresh.Goals as goal

pub returns : goal.returns
returns c = rw (← c.class_count.ensures) (c.all_up_to.ensures (fresh c.args.ws.now) (λ i r l post. search rules))

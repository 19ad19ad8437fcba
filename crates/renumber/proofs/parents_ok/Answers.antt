-- The test of each class number is the definition's. Assumes nothing.
use Rattle.std.proofs.Common.{rules, not}
use Rattle.renumber.specs.Renumber.{stray_parent}
use Rattle.renumber.proofs.parents_ok.Goals as goal

pub returns : goal.returns
returns c =
    rw (← c.class_count.ensures) (c.all_up_to.ensures (λ i. not (stray_parent c.args.ws.now i)) (λ i r l post. search rules))

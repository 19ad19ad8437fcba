-- Row 4 first, then row 5, as the definition goes down the table. Assumes nothing.
use Rattle.std.proofs.Common.{rules}
use Rattle.set_rules.specs.SetRules.{judged, class_descriptors, class_refusal}
use Rattle.set_rules.proofs.class_refusal.Goals as goal

pub returns : goal.returns
unfolding judged class_refusal
returns c = rw (← c.records_ok.ensures) (c.judged.ensures (class_descriptors c.args.ws.now c.args.text.now) (λ r post. search rules))

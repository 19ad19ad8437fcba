-- The test of each class number is the definition's. Assumes nothing.
use Rattle.std.proofs.Common.{rules}
use Rattle.class_rules.specs.ClassRules.{class_record}
use Rattle.class_rules.proofs.classes_ok.Goals as goal

pub returns : goal.returns
returns c = rw (← c.class_count.ensures) (c.all_up_to.ensures (class_record c.args.ws.now c.args.text.bytes.now) (λ i r l post. search rules))

-- Row 4 first, then row 5, as the definition goes down the table. Assumes nothing.
use Rattle.std.proofs.Common.{rules}
use Rattle.set_rules.specs.SetRules.{judged, abi_descriptors, abi_refusal}
use Rattle.set_rules.proofs.abi_refusal.Goals as goal

pub returns : goal.returns
unfolding judged abi_refusal
returns c = rw (← c.records_ok.ensures) (c.judged.ensures (abi_descriptors c.args.abi.now c.args.text.now) (λ r post. search rules))

-- Row 4 of both sheets first, then row 5 of both, as the definition goes down the table. Assumes nothing.
use Rattle.std.proofs.Common.{rules, ◌&&◌}
use Rattle.set_rules.specs.SetRules.{judged, class_descriptors, abi_descriptors, records_refusal}
use Rattle.set_rules.proofs.records_refusal.Goals as goal

pub returns : goal.returns
unfolding judged records_refusal
returns c =
    let a = c.args in
    rw (← c.records_ok.ensures, ← c.records_ok-2.ensures)
    (c.judged.ensures (class_descriptors a.ws.now a.text.now && abi_descriptors a.abi.now a.labels.now) (λ r post. search rules))

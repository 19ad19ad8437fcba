-- The text fits its buffer, and each class is asked. Assumes nothing.
use Rattle.std.proofs.Common.{rules}
use Rattle.convert.specs.Convert.{keeps_statics, drops_statics}
use Rattle.convert.proofs.drops_statics.Goals as goal

pub returns : goal.returns
unfolding drops_statics
returns c = λ h.
    let a = c.all_up_to.ensures (keeps_statics c.args.ws.now c.text_bytes-text.result.now) (λ i r l post. search rules) in
    rw (a, c.text_bytes-text.ensures h, c.class_count.ensures)

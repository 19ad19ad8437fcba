-- Row 3 refuses first; where it does not, both texts fit their buffers, so rows 4 and 5 see the whole texts. Assumes nothing.
use mathlib.Core.Path.{ap}
use mathlib.Core.Bool.{not}
use Rattle.set_rules.proofs.Laws.{set_3, set-text, set-abi-text, set_rest}
use Rattle.set_rules.proofs.set_refusal.Goals as goal

pub returns-then-not-set_fits : goal.returns-then-not-set_fits
returns-then-not-set_fits c = search set_3

pub returns : goal.returns
returns c =
    let f = c.set_fits.ensures in
    let h = (ap not c.if-not-set_fits.false) in
    set_rest _ _ f h (c.text_bytes-text.ensures (set-text _ _ f h)) (c.text_bytes-labels.ensures (set-abi-text _ _ f h)) c.records_refusal.ensures

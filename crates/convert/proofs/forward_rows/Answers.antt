-- The text fits its buffer, so that rows and sums are of the whole text: row 3 refuses, or rows 4 and 5 follow. Assumes nothing.
use Rattle.std.proofs.Common.{sym, ◌∙◌}
use Rattle.convert.specs.Steps.{fresh_rows}
use Rattle.convert.proofs.Calls.{sums_handed}
use Rattle.convert.proofs.forward_rows.Goals as goal

pub returns-then-not-all_fresh-clause-sums : goal.returns-then-not-all_fresh-clause-sums
returns-then-not-all_fresh-clause-sums c = λ h.
    sums_handed _ _ (c.text_bytes-text.ensures h) c.put_statics.ensures

pub returns-clause-value : goal.returns-clause-value
unfolding fresh_rows
returns-clause-value c = λ h.
    let f = sym c.all_fresh.ensures ∙ c.if-not-all_fresh.false in
    c.class_refusal.ensures ∙ rw (f, c.text_bytes-text.ensures h)

pub returns-clause-sums : goal.returns-clause-sums
returns-clause-sums c = λ h.
    sums_handed _ _ (c.text_bytes-text.ensures h) c.put_statics.ensures

-- Row 3 refuses first; where it does not, the text fits its buffer, so rows 4 and 5 see the whole text. Assumes nothing.
use Rattle.std.proofs.Common.{sym, ◌∙◌}
use Rattle.class_rules.proofs.Laws.{formed}
use Rattle.sheet.specs.Sheet.{class_rows}
use Rattle.sheet.proofs.class_rows.Goals as goal

pub returns : goal.returns
unfolding class_rows
returns c =
    let f = sym c.form_ok.ensures ∙ c.if-not-form_ok.false in
    c.unpacked_refusal.ensures (formed _ f).text ∙ rw f

-- Row 3 refuses first; where it does not, the text fits its buffer, so rows 4 and 5 see the whole text. Assumes nothing.
use Rattle.std.proofs.Common.{sym, ◌∙◌}
use Rattle.abi_rules.proofs.Laws.{formed}
use Rattle.sheet.specs.Sheet.{abi_rows}
use Rattle.sheet.proofs.abi_rows.Goals as goal

pub returns : goal.returns
unfolding abi_rows
returns c =
    let f = sym c.form_ok.ensures ∙ c.if-not-form_ok.false in
    c.abi_refusal.ensures ∙ rw (f, c.text_bytes.ensures (formed _ f).text)

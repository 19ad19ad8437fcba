-- Row 3 refuses first; where it does not, the text fits its buffer, so rows 4 and 5 see the whole text. Assumes nothing.
use Rattle.std.proofs.Common.{sym, ◌∙◌}
use Rattle.class_rules.proofs.Laws.{fits}
use Rattle.writer.specs.Writer.{link_rows}
use Rattle.writer.proofs.link_rows.Goals as goal

pub returns : goal.returns
unfolding link_rows
returns c =
    let f = sym c.fits_ok.ensures ∙ c.if-not-fits_ok.false in
    c.unpacked_refusal.ensures (fits _ f).0.text ∙ rw f

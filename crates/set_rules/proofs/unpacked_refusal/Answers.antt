-- The text that is unpacked is the whole text, where there is room for it. Assumes nothing.
use Rattle.std.proofs.Common.{◌∙◌}
use Rattle.set_rules.proofs.unpacked_refusal.Goals as goal

pub returns : goal.returns
returns c = λ h. c.class_refusal.ensures ∙ rw (c.text_bytes.ensures h)

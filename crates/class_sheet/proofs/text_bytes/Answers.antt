-- A room for any text holds this one, and its first bytes are handed on. Assumes nothing.
use Rattle.std.proofs.Common.{◌∙◌, arith}
use Rattle.text.proofs.Laws.{text-part}
use Rattle.class_sheet.proofs.text_bytes.Goals as goal

pub returns : goal.returns
returns c h = c.name_at.ensures ∙ rw c.text_length.ensures (text-part _ _ _ (omega (arith, h, c.fits-room)) c.unpack_text.ensures)

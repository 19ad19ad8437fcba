-- The text is unpacked from the part that begins at the text section. Assumes nothing.
use Rattle.abi_sheet.proofs.Laws.{text_is}
use Rattle.abi_sheet.proofs.unpack_text.Goals as goal

pub returns : goal.returns
returns c = search text_is

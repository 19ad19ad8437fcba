-- Whole words are stored first and then the bytes that are left: together the first n bytes, where there is room for them. Assumes
-- nothing.
use native.Mathlib.Omega.{arith}
use Rattle.text.proofs.Laws.{text_is, text-front, text-none}
use Rattle.text.proofs.unpack_text.Goals as goal

pub returns-then-text-count : goal.returns-then-text-count
returns-then-text-count c = search text-none

pub returns : goal.returns
returns c =
    text_is _ _ _ (text-front _ _ _ (omega arith) c.unpack_words.ensures) c.unpack_bytes.ensures (omega arith) (omega arith)
    (omega arith)

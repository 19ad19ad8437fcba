-- A word is four stores one behind the other. Assumes nothing.
use Rattle.std.proofs.Common.{◌≡◌, ◌*◌, ◌+◌, ◌-◌, ◌∙◌, arith}
use Rattle.words.proofs.FoldLaws.{stores-none}
use Rattle.text.proofs.Laws.{word-turn, words-done}
use Rattle.text.proofs.unpack_words.Goals as goal

pub loop-w-init : goal.loop-w-init
loop-w-init c = stores-none _ _

pub loop-w-preserved : goal.loop-w-preserved
loop-w-preserved c =
    let four : 4 * c.loop-w.w + 4 - 4 * c.loop-w.w ≡ 4 = omega arith in
    word-turn _ _ _ c.loop-w.invariant (omega arith) four (c.copy_from_slice.ensures.after ∙ c.to_le_bytes.ensures)

pub returns : goal.returns
returns c = words-done _ _ _ c.loop-w.w c.loop-w.invariant (omega arith)

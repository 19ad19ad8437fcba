-- The invariant: the first 4 * w bytes are stored. Assumes nothing.
use Rattle.std.proofs.Common.{◌≡◌, ◌*◌}
use Rattle.text.specs.Text.{text_byte}
use Rattle.words.specs.Folds.{stores}
use Rattle.text.proofs.unpack_words.Given as goal

abbrev pub invariant-loop-w : goal.invariant-loop-w
invariant-loop-w l = l.text ≡ stores (4 * l.w) (text_byte l.ws) l.initial.text

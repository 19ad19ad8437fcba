-- The invariant: the words of the first i classes are stored. Assumes nothing.
use Rattle.std.proofs.Common.{◌≡◌, ◌+◌}
use Rattle.words.specs.Folds.{stores}
use Rattle.convert.specs.Convert.{forward_statics}
use Rattle.convert.proofs.put_statics.Given as goal

abbrev pub invariant-loop-i : goal.invariant-loop-i
invariant-loop-i l = l.statics ≡ stores l.i (λ k. forward_statics l.ws l.text (k + 1)) l.initial.statics

-- The first elements of the list are marked and were free. Assumes nothing.
use Rattle.std.proofs.Common.{◌≡◌, true}
use Rattle.words.specs.Folds.{all_of}
use Rattle.apart.specs.Seen.{free_at, marked}
use Rattle.apart.proofs.mark_list.Given as goal

abbrev pub invariant-loop-mark : goal.invariant-loop-mark
invariant-loop-mark l = record {
  marks : l.mark-items ≡ marked l.initial.mark-items 0 l.mark-index;
  free : all_of l.mark-index (free_at l.initial.mark-items 0) ≡ true;
}

-- The invariant: the sum is the length of the text of the members before. Assumes nothing.
use Rattle.growth.proofs.NewsLaws.{text_to}
use lib.ListN.{length}
use mathlib.Core.Path.{◌≡◌}
use Prim.Native.Nat.{◌*◌, ◌≤◌}
use Rattle.growth.proofs.new_text_length.Given as goal

abbrev pub invariant-loop-new : goal.invariant-loop-new
invariant-loop-new l = record {
  small : l.sum ≤ 8589934592 * l.new-index;
  sum : l.sum ≡ length (text_to l.sheets.set.now l.sheets.text.now l.sheets.abi.now l.sheets.labels.now l.news l.new-index);
}

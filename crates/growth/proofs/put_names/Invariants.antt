-- The invariant: the text of the members before is written, and `next` is where it ends. Assumes nothing.
use Rattle.linking.specs.Set.{write_at}
use Rattle.growth.proofs.NewsLaws.{text_to}
use lib.ListN.{length}
use mathlib.Core.Path.{◌≡◌}
use Prim.Native.Nat.{◌+◌}
use Rattle.growth.proofs.put_names.Given as goal

abbrev pub invariant-loop-new : goal.invariant-loop-new
invariant-loop-new l = record {
  next : l.next ≡ l.at + length (text_to l.sheets.set.now l.sheets.text.now l.sheets.abi.now l.sheets.labels.now l.news l.new-index);
  bytes : l.bytes ≡ write_at l.initial.bytes l.at (text_to l.sheets.set.now l.sheets.text.now l.sheets.abi.now l.sheets.labels.now l.news l.new-index);
}

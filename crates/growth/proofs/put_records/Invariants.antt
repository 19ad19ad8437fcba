-- The invariant: the records of the members before are written up to `place`, and `next` is where the next one's name begins. Assumes nothing.
use Rattle.class_sheet.specs.ClassSheet.{member_width}
use Rattle.linking.specs.Set.{write_at}
use Rattle.growth.proofs.NewsLaws.{text_to, records_to}
use lib.ListN.{length}
use mathlib.Core.Path.{◌≡◌}
use Prim.Native.Nat.{◌+◌, ◌*◌}
use Rattle.growth.proofs.put_records.Given as goal

abbrev pub invariant-loop-new : goal.invariant-loop-new
invariant-loop-new l = record {
  next : l.next ≡ l.start + length (text_to l.sheets.set.now l.sheets.text.now l.sheets.abi.now l.sheets.labels.now l.news l.new-index);
  place : l.place ≡ l.at + member_width * l.new-index;
  out : l.out ≡ write_at l.initial.out l.at (records_to l.start l.sheets.set.now l.sheets.text.now l.sheets.abi.now l.sheets.labels.now l.news l.new-index);
}

-- The first records of the array are those of the first i classes of the list. Assumes nothing.
use Rattle.std.proofs.Common.{◌≡◌, ◌*◌, map, take}
use Rattle.words.specs.Rows.{joined}
use Rattle.class_sheet.specs.ClassSheet.{class_width}
use Rattle.renumber.specs.Renumber.{moved_record}
use Rattle.renumber.proofs.Ordered.put_records.Given as goal

abbrev pub invariant-loop-i : goal.invariant-loop-i
invariant-loop-i l = take (class_width * l.i) l.records ≡ joined (map (moved_record l.self.set.now l.self.order.list.now) (take l.i l.self.order.list.now))

-- The slots that are read are the front of the two arrays. Assumes nothing.
use Rattle.std.proofs.Common.{arith, ◌∙◌}
use Rattle.std.proofs.lemmas.List.{length-take-le}
use Rattle.reading.proofs.MarkLaws.{front-entries}
use Rattle.reading.proofs.table_entries.Goals as goal

pub returns-clause-is : goal.returns-clause-is
returns-clause-is g c =
    let n = length-take-le c.slot_count-table.result c.args.table.now.words (omega arith) in
    let m = length-take-le c.slot_count-table.result c.args.table.now.marks (omega arith) in
    front-entries _ _ _ _ _ (omega arith) (omega arith) ∙ rw n at c.read_slots.ensures.is

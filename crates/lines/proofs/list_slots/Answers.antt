-- Each line goes before those that are left, and after the last none are.
use Rattle.std.proofs.Common.{arith}
use Rattle.reading.specs.Tables.{entries}
use Rattle.reading.proofs.ArrayLaws.{length-entries}
use Rattle.lines.proofs.OutLaws.{then, puts-none}
use Rattle.lines.proofs.SlotLaws.{slots-start, slots-turn, slots-end}
use Rattle.lines.proofs.list_slots.Goals as goal

pub loop-i-init : goal.loop-i-init
loop-i-init c = λ q e.
    let t = c.table_entries.ensures in rw (slots-start _ _ _ _ _ _ _ _ _ _ (length-entries _ _ _) t.is t.classes) e

pub loop-i-preserved : goal.loop-i-preserved
loop-i-preserved c = λ q e.
    let t = c.table_entries.ensures in
    c.loop-i.invariant q
    (rw (slots-turn _ _ _ _ _ _ _ _ _ _ (length-entries _ _ _) t.is t.classes c.loop-i.i c.loop-i-test.true, ← c.slot.ensures, ← c.get_or.ensures)
    (then c.list_slot.ensures e))

pub returns : goal.returns
returns c =
    let t = c.table_entries.new.table in
    let n = length-entries t.words t.marks t.len in
    c.loop-i.invariant _ (rw (slots-end _ _ _ _ _ _ (entries t) c.loop-i.i (omega arith)) (puts-none _))

-- What puts the lines that are left, puts all of them from where it began.
use Rattle.linking.specs.Sheets.{of_numbers}
use Rattle.linking.specs.Vtable.{table_entries}
use Rattle.reading.specs.Tables.{entries}
use Rattle.lines.specs.Out.{Puts}
use Rattle.lines.specs.Lines.{slot_texts}
use Rattle.lines.specs.declared.Out.{Out}
use Rattle.lines.proofs.SlotLaws.{slots_from}
use Rattle.lines.proofs.list_slots.Given as goal

abbrev pub invariant-loop-i : goal.invariant-loop-i
invariant-loop-i l =
    (q : Out) → Puts l.out q (of_numbers slots_from l.sheets l.c (entries l.table) l.i)
    → Puts l.initial.out q (of_numbers slot_texts l.sheets l.c 0 (of_numbers table_entries l.sheets l.area l.c))

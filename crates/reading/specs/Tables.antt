-- The entries that the code's table stands for. Assumes nothing.
use Rattle.std.specs.Prelude.{ℕ, List, length}
use Rattle.linking.specs.Vtable.{Entry}
use Rattle.reading.specs.declared.table.Slot.{Slot}
use Rattle.reading.specs.declared.table.Slots.{Slots}
use Rattle.reading.specs.declared.table.Table.{Table}
use Rattle.reading.specs.Arrays.{method_of, source_of, entries_of}

-- the entry of a slot
abbrev pub entry : Slot → Entry
entry s = record { word = s.word; method = method_of s.mark; source = source_of s.mark }

-- the entries of a table
abbrev pub entries : {N : ℕ} → Table N → List Entry
entries t = entries_of t.words t.marks t.len

-- the entries of the slots that are left
abbrev pub entries_left : Slots → List Entry
entries_left s = entries_of s.words.now s.marks.now (length s.words.now)

-- The table's slots are the first i that the closure gives. Assumes nothing.
use Rattle.std.proofs.Common.{◌≡◌, ℕ}
use Rattle.words.specs.Lists.{list_from}
use Rattle.linking.specs.Vtable.{Entry}
use Rattle.reading.specs.declared.table.Slot.{Slot}
use Rattle.reading.specs.Tables.{entry, entries}
use Rattle.reading.proofs.table.Table.fill.Given as goal

abbrev pub invariant-loop-i : goal.invariant-loop-i
invariant-loop-i g l = record {
  len : l.self.len ≡ l.i;
  is : (f : ℕ → Entry) → ((i : ℕ) (r : Slot) → g.F.Fn.post l.slot (i, tt) r → entry r ≡ f i) → entries l.self ≡ list_from f 0 l.i;
}

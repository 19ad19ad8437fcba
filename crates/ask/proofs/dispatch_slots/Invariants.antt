-- The slots so far and what comes of those that are left are the definition's: the invariant. Assumes nothing.
use Rattle.std.proofs.Common.{◌≡◌, ◌+◌, ◌≤◌, length}
use Rattle.reading.specs.Tables.{entries, entries_left}
use Rattle.linking.specs.Signature.{by_numbers}
use Rattle.linking.specs.Ask.{dispatch_entries}
use Rattle.ask.proofs.DispatchLaws.{so_far}
use Rattle.ask.proofs.dispatch_slots.Given as goal

abbrev pub invariant-loop-slot : goal.invariant-loop-slot
invariant-loop-slot l = record {
  count : l.to.len + length (entries_left l.slot-iterator) ≤ l.from.len;
  slots : so_far (by_numbers l.sheets.numbers.now) l.sheets.set.now l.c (entries l.to) (entries_left l.slot-iterator)
      ≡ dispatch_entries (by_numbers l.sheets.numbers.now) l.sheets.set.now l.c (entries l.from);
}

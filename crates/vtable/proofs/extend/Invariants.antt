-- The table so far is the first one with empty slots behind it. Assumes nothing.
use Rattle.std.proofs.Common.{◌≡◌, ◌-◌, ◌≤◌, ◌++◌, max}
use lib.ListN.{replicate}
use Rattle.linking.specs.Vtable.{empty}
use Rattle.reading.specs.Tables.{entries}
use Rattle.vtable.proofs.extend.Given as goal

abbrev pub invariant-loop : goal.invariant-loop
invariant-loop l = record {
  within : l.counter ≤ max l.initial.table.len l.size;
  len : l.table.len ≡ l.counter;
  so_far : entries l.table ≡ entries l.initial.table ++ replicate (l.counter - l.initial.table.len) empty;
}

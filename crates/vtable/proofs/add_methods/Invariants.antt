-- The methods left, added to the table so far, make what all of them make of the first table. Assumes nothing.
use Rattle.std.proofs.Common.{◌≡◌, ◌+◌, ◌-◌, ◌≤◌}
use Rattle.linking.specs.Signature.{by_numbers}
use Rattle.linking.specs.Chain.{own_methods}
use Rattle.linking.specs.Vtable.{add_methods}
use Rattle.reading.specs.Tables.{entries}
use Rattle.vtable.proofs.AddLaws.{left}
use Rattle.vtable.proofs.add_methods.Given as goal

abbrev pub invariant-loop-m : goal.invariant-loop-m
invariant-loop-m l = record {
  slots : l.table.len ≤ l.initial.table.len + (l.m - l.first);
  rest : add_methods (by_numbers l.sheets.numbers.now) l.sheets.set.now l.sheets.text.now l.sheets.abi.now l.abis (left l.first l.count l.m) (entries l.table)
      ≡ add_methods (by_numbers l.sheets.numbers.now) l.sheets.set.now l.sheets.text.now l.sheets.abi.now l.abis
      (own_methods l.sheets.set.now l.c) (entries l.initial.table);
}

-- The table so far, followed by the entries of the methods left, is that of all. Assumes nothing.
use Rattle.std.proofs.Common.{◌≡◌, ◌-◌, ◌≤◌, ◌++◌}
use Rattle.words.specs.Lists.{keep}
use Rattle.linking.specs.Chain.{eligible}
use Rattle.linking.specs.Vtable.{method_entries, build_interface_methods}
use Rattle.reading.specs.Tables.{entries}
use Rattle.vtable.proofs.AddLaws.{left}
use Rattle.vtable.proofs.build_interface_methods.Given as goal

abbrev pub invariant-loop-m : goal.invariant-loop-m
invariant-loop-m l = record {
  slots : l.table.len ≤ l.m - l.first;
  rest : entries l.table ++ method_entries l.ws (keep (eligible l.ws l.text) (left l.first l.count l.m))
      ≡ build_interface_methods l.ws l.text l.c;
}

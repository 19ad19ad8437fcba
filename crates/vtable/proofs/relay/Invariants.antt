-- Relaying the parent's entries from i on, onto the table so far, makes what relaying all of them onto the first table makes. Assumes nothing.
use Rattle.std.proofs.Common.{◌≡◌, ◌+◌, ◌≤◌, drop}
use Rattle.linking.specs.Signature.{methods_same, by_numbers}
use Rattle.linking.specs.Relays.{relays}
use Rattle.reading.specs.Tables.{entries}
use Rattle.vtable.specs.Relay.{fixed_in, distance_in, relays_of}
use Rattle.vtable.proofs.relay.Given as goal

abbrev pub invariant-loop-i : goal.invariant-loop-i
invariant-loop-i l = record {
  slots : l.table.len ≤ l.initial.table.len + l.i;
  rest : relays (methods_same (by_numbers l.sheets.numbers.now)) (fixed_in l.sheets l.abis) (distance_in l.sheets l.abis) (entries l.parent)
      (entries l.table) (drop l.i (entries l.parent))
      ≡ relays_of (by_numbers l.sheets.numbers.now) l.sheets.abi.now l.abis (entries l.parent) (entries l.initial.table);
}

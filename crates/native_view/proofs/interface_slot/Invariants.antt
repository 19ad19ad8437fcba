-- A search: no interface before word j has a slot there, and what is found from there on is what is found at all. Assumes nothing.
use mathlib.Core.Path.{◌≡◌}
use Prim.Native.Nat.{◌-◌}
use Rattle.words.proofs.ListLaws.{found_from}
use Rattle.words.specs.Lists.{first_found}
use Rattle.class_sheet.specs.ClassSheet.{class_first_interface, class_interface_count, interface_limit}
use Rattle.linking.specs.Chain.{list_count, own_interfaces}
use Rattle.native_view.specs.Native.{interface_slot}
use Rattle.native_view.proofs.interface_slot.Given as goal

abbrev pub invariant-loop-j : goal.invariant-loop-j
invariant-loop-j l = record {
  count : l.n ≡ list_count (class_first_interface l.sheets.set.now l.c) (class_interface_count l.sheets.set.now l.c) interface_limit;
  first : l.first ≡ class_first_interface l.sheets.set.now l.c;
  rest : found_from (interface_slot l.sheets.set.now l.sheets.text.now l.sheets.abi.now l.sheets.labels.now l.i) (own_interfaces l.sheets.set.now l.c)
      (l.j - l.first)
      ≡ first_found (interface_slot l.sheets.set.now l.sheets.text.now l.sheets.abi.now l.sheets.labels.now l.i) (own_interfaces l.sheets.set.now l.c);
}
